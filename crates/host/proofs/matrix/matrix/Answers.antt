use Rattle.std.proofs.Common.{ap, ◌∙◌, ℕ, ℤ, List, pos, w64, arith}
use Rattle.std.proofs.lemmas.List.{length-replicate}
use Rattle.laws.proofs.Signed.{back}
use Rattle.timing.specs.Refusal.{Verdict}
use Rattle.timing.specs.Queries.{matrix_call}
use Rattle.host.specs.Runs.{whole_cells, cells_of}
use Rattle.host.specs.Answers.{matrix_answer, matrix_bytes}
use Rattle.host.proofs.Shown.{part_shown}
use Rattle.host.proofs.Matrices.{matrix-room}
use Rattle.host.proofs.matrix.matrix.Goals as goal

pub matrix_in-requires-clause-cells_len : goal.matrix_in-requires-clause-cells_len
matrix_in-requires-clause-cells_len c = part_shown _ _ (length-replicate 8100 (pos 0)) _ c.shown-count.ensures

pub matrix_in-requires-clause-delays_len : goal.matrix_in-requires-clause-delays_len
matrix_in-requires-clause-delays_len c = part_shown _ _ (length-replicate 2025 (pos 0)) _ c.pairs_shown-pairs.ensures

pub returns-clause-value : goal.returns-clause-value
returns-clause-value c =
    let a = c.args in
    let verdict : ℕ → Verdict (List ℤ) = λ k. matrix_call a.inputs a.outputs a.vertices k (cells_of 4 a.table.now) (cells_of 8 a.matrix.now) in
    let same = ap verdict (part_shown _ _ (length-replicate 360 (pos 0)) _ (c.min-room.ensures, omega (arith, c.min-room.ensures))) ∙ matrix-room a.inputs a.outputs a.vertices (whole_cells 8 a.scratch.now) (cells_of 4 a.table.now) (cells_of 8 a.matrix.now) in
    back w64 _ c.matrix_in.type_inv ∙ c.matrix_in.ensures.value ∙ ap matrix_answer same

pub returns-clause-matrix_after : goal.returns-clause-matrix_after
returns-clause-matrix_after c =
    let a = c.args in
    let verdict : ℕ → Verdict (List ℤ) = λ k. matrix_call a.inputs a.outputs a.vertices k (cells_of 4 a.table.now) (cells_of 8 a.matrix.now) in
    let same = ap verdict (part_shown _ _ (length-replicate 360 (pos 0)) _ (c.min-room.ensures, omega (arith, c.min-room.ensures))) ∙ matrix-room a.inputs a.outputs a.vertices (whole_cells 8 a.scratch.now) (cells_of 4 a.table.now) (cells_of 8 a.matrix.now) in
    c.matrix_in.ensures.matrix_after ∙ ap (λ (v : Verdict (List ℤ)). matrix_bytes v a.matrix.now) same
