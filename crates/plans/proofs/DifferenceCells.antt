-- The difference of two delays in 64-bit cells of the code.
use Rattle.std.specs.Prelude.{Ok, Option, None, Some}
use mathlib.Core.Path.{◌≡◌, refl, subst}
use mathlib.Core.Logic.{◌≢◌}
use mathlib.Core.Bool.{true, false}
use lib.Dec.{T}
use lib.IntN.{ℤ, pos, neg_ℤ, ◌-ℤ◌}
use lib.Signed.{◌≤ℤ◌}
use mir.Syntax.{w64}
use mir.Val.{SFits}
use Rattle.laws.specs.Integers.{eq_z}
use Rattle.laws.proofs.Booleans.{is_true, is_false}
use Rattle.laws.proofs.Integers.{eq_z→eq, eq_z_refl}
use Rattle.laws.proofs.Linear.{zneeds, dif}
use Rattle.graph.specs.Delay.{Delay, absent}
use Rattle.timing.specs.Limits.{arrival_limit, absent_wide, fits}
use Rattle.timing.specs.Table.{read_cell}
use Rattle.timing.proofs.Limits.{fits_bounds}
use Rattle.timing.proofs.Table.{read_at}
use Rattle.plans.specs.Comparing.{compared}

pub eq_z_same : {a b : ℤ} → a ≡ b → eq_z a b ≡ true
eq_z_same {a} {b} e = is_true (eq_z a b) (subst (λ (z : ℤ). T (eq_z a z)) e (eq_z_refl a))

pub eq_z_other : {a b : ℤ} → a ≢ b → eq_z a b ≡ false
eq_z_other {a} {b} h = is_false (eq_z a b) (λ t. h (eq_z→eq a b t))

pub neither : (s : Option ℤ) → Ok s ≡ compared s absent absent
neither None = refl
neither (Some e) = refl

-- a cell with a number in it
pub number_bounds : {z : ℤ} → T (fits arrival_limit (read_cell absent_wide z)) → z ≢ absent_wide → (neg_ℤ (pos arrival_limit) ≤ℤ z) × (z ≤ℤ pos arrival_limit)
number_bounds {z} t h = fits_bounds arrival_limit z (subst (λ (d : Delay). T (fits arrival_limit d)) (read_at absent_wide z h) t)

pub difference_fits : {x y : ℤ} → (neg_ℤ (pos arrival_limit) ≤ℤ x) × (x ≤ℤ pos arrival_limit) → (neg_ℤ (pos arrival_limit) ≤ℤ y) × (y ≤ℤ pos arrival_limit) → SFits w64 (y -ℤ x)
difference_fits {x} {y} p q = let lx = p.0 in let ux = p.1 in let ly = q.0 in let uy = q.1 in omega (zneeds, dif y x)
