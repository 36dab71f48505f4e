use Rattle.format.specs.Text.{words}
use Rattle.records.proofs.Appending.{puts_more}
use Rattle.records.proofs.lines.triple_line.Goals as goal

pub returns : goal.returns
unfolding words
returns g c = puts_more c.text.ensures (puts_more c.number.ensures (puts_more c.number-2.ensures (puts_more c.number-3.ensures c.byte.ensures)))
