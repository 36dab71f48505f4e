-- A function changed at one place.
use mathlib.Core.Path.{◌≡◌, ap}
use mathlib.Core.Logic.{◌≢◌}
use mathlib.Core.Bool.{Bool, cond}
use Prim.Native.Nat.{ℕ}
use native.Mathlib.Decide.{ℕ_discrete}
use lib.Dec.{eqb}
use Rattle.laws.proofs.Booleans.{eqb_same, eqb_other}

unfoldable pub update {ℓ} : {A : Type ℓ} → (ℕ → A) → ℕ → A → ℕ → A
update f k d v = cond (eqb v k) d (f v)

module _ {ℓ} {A : Type ℓ} (f : ℕ → A) (k : ℕ) (d : A) where
  pub update_same : update f k d k ≡ d
  unfolding update
  update_same = ap (λ (b : Bool). cond b d (f k)) (eqb_same k)

  pub update_other : (v : ℕ) → v ≢ k → update f k d v ≡ f v
  unfolding update
  update_other v h = ap (λ (b : Bool). cond b d (f v)) (eqb_other v k h)

  -- a property of the changed function, by the two cases
  pub update_elim {κ} : (P : ℕ → A → Type κ) → P k d → (v : ℕ) → (v ≢ k → P v (f v)) → P v (update f k d v)
  update_elim P p v q = go (ℕ_discrete v k)
    where
      go : Dec (v ≡ k) → P v (update f k d v)
      go (yes e) = rw (e, update_same) p
      go (no n) = rw (update_other v n) (q n)
