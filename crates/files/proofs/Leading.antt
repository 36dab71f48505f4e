-- A pass over a file's records: those that are left lead from what it has to what all of them make.
use mathlib.Core.Path.{◌≡◌, refl, sym, ◌∙◌}
use Prim.Native.Nat.{ℕ, zero, suc, ◌+◌, ◌≤◌, ◌<◌}
use native.Mathlib.Omega.{arith}
use Rattle.timing.specs.Refusal.{Verdict}
use Rattle.format.specs.Reading.{Shape, worked_of, worked_from}

-- in a file of so many bytes
module _ {R A : Type 0} (shape : R → Shape) (f : R → A → A) (bytes : ℕ) (found : ℕ → Verdict R) where
  pub record Leading (whole : A) (p : ℕ) (x : A) : Type 0 where
    pub turns : ℕ
    -- a record has a byte or more
    pub enough : bytes ≤ turns + p
    pub leads : worked_from shape f turns found p x ≡ whole

  pub leading_start : (p : ℕ) (x : A) → Leading (worked_from shape f bytes found p x) p x
  leading_start p x = record { turns = bytes; enough = omega arith; leads = refl }

  module _ (whole : A) (p : ℕ) (x : A) (w : Leading whole p x) where
    -- the record at p makes y of x, and the next one stands at q
    pub leading_turn : (q : ℕ) (y : A) → p < q → q ≤ bytes → ((onward : ℕ → A → A) → worked_of shape f p x onward (found p) ≡ onward q y) → Leading whole q y
    unfolding worked_from
    leading_turn q y l k h = go w.turns w.enough w.leads
      where
        go : (n : ℕ) → bytes ≤ n + p → worked_from shape f n found p x ≡ whole → Leading whole q y
        go zero e m = absurd (omega (arith, e, l, k))
        go (suc n) e m = record { turns = n; enough = omega (arith, e, l); leads = sym (h (worked_from shape f n found)) ∙ m }

    -- no entry stands at p
    pub leading_end : ((onward : ℕ → A → A) → worked_of shape f p x onward (found p) ≡ x) → x ≡ whole
    unfolding worked_from
    leading_end h = go w.turns w.leads
      where
        go : (n : ℕ) → worked_from shape f n found p x ≡ whole → x ≡ whole
        go zero m = m
        go (suc n) m = sym (h (worked_from shape f n found)) ∙ m
