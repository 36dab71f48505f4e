use Rattle.paths.proofs.MatrixRows.{matrix_short, matrix_done}
use Rattle.paths.proofs.queries.matrix_answer.Goals as goal

pub returns-then-destination-board-clause-fills : goal.returns-then-destination-board-clause-fills
returns-then-destination-board-clause-fills c = matrix_short _ _ _ _ _ c.if-destination-board.true

pub returns-clause-fills : goal.returns-clause-fills
returns-clause-fills c =
    matrix_done _ _ _ _ _ c.if-destination-board.false _ c.fill_matrix.ensures.destination_after
