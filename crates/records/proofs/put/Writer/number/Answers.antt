use Rattle.std.proofs.Common.{◌≡◌, ap, ◌∷◌, ℕ, List, rules}
use Rattle.records.proofs.Appending.{puts_same, puts_more}
use Rattle.records.proofs.put.Writer.number.Goals as goal

pub returns : goal.returns
returns g c =
    let e : c.as_bytes.result.now ≡ g.I.Integer.text c.args.x = search rules in
    puts_same (ap (λ (t : List ℕ). 32 ∷ t) e) (puts_more c.byte.ensures c.text.ensures)
