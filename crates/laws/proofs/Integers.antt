-- Laws of the tests and choices on ℤ.
use mathlib.Core.Path.{◌≡◌, refl}
use mathlib.Core.Logic.{◌⊎◌, inl, inr}
use mathlib.Core.Bool.{Bool, true, false, not, cond}
use Prim.Native.Nat.{◌+◌, ◌≤◌, ◌<◌}
use lib.Dec.{T, not_T}
use lib.IntN.{ℤ}
use lib.Signed.{lt_z, ◌≤ℤ◌, ◌<ℤ◌, lt_z_no}
use Rattle.laws.specs.Integers.{eq_z, max_z, min_z}
use Rattle.laws.proofs.Linear.{up, dn, zarith, lt_z→, nlt_z→}
use Rattle.laws.proofs.Booleans.{and_i, and_e}

pub eq_z→eq : (a b : ℤ) → T (eq_z a b) → a ≡ b
eq_z→eq a b t =
    let p = and_e (not (lt_z a b)) (not (lt_z b a)) t in
    omega (zarith, nlt_z→ a b p.0, nlt_z→ b a p.1)

pub eq_z_refl : (a : ℤ) → T (eq_z a a)
eq_z_refl a = and_i (not (lt_z a a)) (not (lt_z a a)) not_less not_less
  where
    not_less : T (not (lt_z a a))
    not_less = not_T (lt_z a a) (λ t. omega (zarith, lt_z→ a a t))

pub max_sel : (a b : ℤ) → ((a <ℤ b) × (max_z a b ≡ b)) ⊎ ((b ≤ℤ a) × (max_z a b ≡ a))
unfolding max_z
max_sel a b = go (lt_z a b) (λ t. record { lt = t }) (λ t. lt_z_no t)
  where
    go : (c : Bool) → (T c → a <ℤ b) → (T (not c) → b ≤ℤ a) → ((a <ℤ b) × (cond c b a ≡ b)) ⊎ ((b ≤ℤ a) × (cond c b a ≡ a))
    go true f g = inl (f tt, refl)
    go false f g = inr (g tt, refl)

pub max_lt : (a b : ℤ) → a <ℤ b → max_z a b ≡ b
max_lt a b h = go (max_sel a b)
  where
    go : ((a <ℤ b) × (max_z a b ≡ b)) ⊎ ((b ≤ℤ a) × (max_z a b ≡ a)) → max_z a b ≡ b
    go (inl k) = k.1
    go (inr k) = let q = k.0 in absurd (omega zarith)

pub max_ge : (a b : ℤ) → b ≤ℤ a → max_z a b ≡ a
max_ge a b h = go (max_sel a b)
  where
    go : ((a <ℤ b) × (max_z a b ≡ b)) ⊎ ((b ≤ℤ a) × (max_z a b ≡ a)) → max_z a b ≡ a
    go (inl k) = let q = k.0 in absurd (omega zarith)
    go (inr k) = k.1

pub min_le : (a b : ℤ) → (min_z a b ≤ℤ a) × (min_z a b ≤ℤ b)
unfolding min_z
min_le a b = go (lt_z b a) (lt_z→ b a) (nlt_z→ b a)
  where
    go : (c : Bool) → (T c → up b + dn a < up a + dn b) → (T (not c) → up a + dn b ≤ up b + dn a) → (cond c b a ≤ℤ a) × (cond c b a ≤ℤ b)
    go true f h = let k = f tt in (omega zarith, omega zarith)
    go false f h = let k = h tt in (omega zarith, omega zarith)
