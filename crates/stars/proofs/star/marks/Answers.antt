use Rattle.std.proofs.Common.{◌≡◌, refl, true, ℕ, zero, suc, replicate, sym, ap, ◌∙◌, Bool, ◌||◌, get_or, false, length-set, rules, arith}
use Rattle.laws.specs.Bounded.{member}
use Rattle.stars.proofs.Members.{member_end, below_at}
use Rattle.stars.proofs.Marking.{mark_turn}
use Rattle.stars.proofs.star.marks.Goals as goal

or_none : (b : Bool) → (b || false) ≡ b
or_none true = refl
or_none false = refl

first_none : (n v : ℕ) (b : Bool) → (get_or (replicate n false) v false || b) ≡ b
first_none n v b = ap (λ (a : Bool). a || b) (none n v)
  where
    none : (n v : ℕ) → get_or (replicate n false) v false ≡ false
    none zero v = refl
    none (suc n) zero = refl
    none (suc n) (suc v) = none n v

pub loop-x-init : goal.loop-x-init
loop-x-init c = record { long = search rules; marked = λ v. first_none 90 v (member v c.args.xs.now) }

pub loop-x-preserved : goal.loop-x-preserved
loop-x-preserved c =
    let l = c.loop-x in
    let xs = c.args.xs.now in
    record {
      long = length-set l.marked _ _ ∙ l.invariant.long;
      marked = λ v. mark_turn xs l.marked l.x-index v c.loop-x-test.true (omega (arith, l.invariant.long, below_at _ xs c.requires l.x-index c.loop-x-test.true)) (l.invariant.marked v);
    }

pub returns : goal.returns
returns c v _ =
    let l = c.loop-x in
    let xs = c.args.xs.now in
    sym (or_none _) ∙ ap (λ (b : Bool). get_or l.marked v false || b) (sym (member_end xs l.x-index (omega arith) v)) ∙ l.invariant.marked v
