-- Ticks under load: within the limit, and so never the absent mark. And no loads.
use mathlib.Core.Path.{◌≡◌, refl, sym, ap, ◌∙◌, fun_ext}
use mathlib.Core.Logic.{◌≢◌}
use mathlib.Core.List.{List}
use Prim.Native.Nat.{ℕ, zero, suc, ◌+◌, ◌*◌, ◌/◌, ◌≤◌, ◌<◌}
use native.Mathlib.Nat.{mul-le-mul_left}
use native.Mathlib.Omega.{arith}
use lib.Dec.{T}
use lib.IntN.{ℤ, pos, negsuc}
use lib.ListN.{get_or, replicate}
use lib.Signed.{le_z, ◌≤ℤ◌}
use Rattle.laws.proofs.Booleans.{and_e}
use Rattle.laws.proofs.Linear.{zarith}
use Rattle.timing.specs.Limits.{delay_limit, absent_cell}
use Rattle.timing.specs.Refusal.{Verdict, refused, accepted, ◌then◌}
use Rattle.timing.specs.Table.{read_cell, write_cell}
use Rattle.timing.proofs.Table.{read_absent, read_at}
use Rattle.format.specs.Library.{ticks_limit, ticks_fit, InForce, ticks_in, value_of}
use Rattle.format.specs.Records.{under_load, cell_delay}
use Rattle.format.specs.Reading.{no_loads}
use Rattle.format.proofs.InRange.{ticks_fit_lem}
use Rattle.files.specs.Loads.{loads_of, Loadable}

-- a library's ticks are at most 1,000,000
fits_loadable : (z : ℤ) → T (ticks_fit z) → Loadable z
fits_loadable (pos n) h =
    let high : pos n ≤ℤ pos ticks_limit = record { le = (and_e (le_z (pos 0) (pos n)) (le_z (pos n) (pos ticks_limit)) h).1 } in
    record { ticks = n; same = refl; few = omega (zarith, high) }
fits_loadable (negsuc n) h = absurd h

pub ticks_loadable : (l : List ℤ) → InForce l → (c : ℕ) (z : ℤ) → ticks_in l c ≡ accepted z → Loadable z
ticks_loadable l ok c z e = fits_loadable z (ticks_fit_lem l ok c z e)

-- the verdict, once the ticks are known
pub delay_from : (l : List ℤ) (c f : ℕ) {v : Verdict ℤ} → ticks_in l c ≡ v → cell_delay l c f ≡ (v then λ d. accepted (under_load d f))
unfolding cell_delay
delay_from l c f e = ap (λ (v : Verdict ℤ). v then λ d. accepted (under_load d f)) e

no_mark : (d : ℤ) (f : ℕ) → Loadable d → under_load d f ≢ absent_cell
no_mark d f l e = clash ((l.ticks * (5 + f) + 4) / 5) (ap (λ (z : ℤ). under_load z f) (sym l.same) ∙ e)
  where
    clash : (k : ℕ) → pos k ≡ absent_cell → ⊥
    clash k h = omega zarith

-- the code's cell reads as the cell's delay
pub delay_held : (l : List ℤ) → InForce l → (c f : ℕ) (z : ℤ) → z ≡ write_cell absent_cell (value_of (cell_delay l c f)) → read_cell absent_cell z ≡ value_of (cell_delay l c f)
delay_held l ok c f z q = go (ticks_in l c) refl
  where
    go : (v : Verdict ℤ) → ticks_in l c ≡ v → read_cell absent_cell z ≡ value_of (cell_delay l c f)
    go (refused r) h =
        let e : cell_delay l c f ≡ refused r = delay_from l c f h in
        read_absent absent_cell z (q ∙ ap (λ (x : Verdict ℤ). write_cell absent_cell (value_of x)) e) ∙ sym (ap value_of e)
    go (accepted d) h =
        let e : cell_delay l c f ≡ accepted (under_load d f) = delay_from l c f h in
        ap (read_cell absent_cell) (q ∙ ap (λ (x : Verdict ℤ). write_cell absent_cell (value_of x)) e)
        ∙ read_at absent_cell (under_load d f) (no_mark d f (ticks_loadable l ok c d h))
        ∙ sym (ap value_of e)

-- what a byte's load can make of ticks
pub fifths_few : (k f : ℕ) → 52 * k ≤ delay_limit → f < 256 → k * (5 + f) ≤ 5 * delay_limit
fifths_few k f few small = omega (arith, few, mul-le-mul_left k (let l : 5 + f ≤ 260 = omega arith in l))

none_anywhere : (n w : ℕ) → ◌≡◌ {A = ℕ} (get_or (replicate n 0) w 0) 0
none_anywhere zero w = refl
none_anywhere (suc n) zero = refl
none_anywhere (suc n) (suc w) = none_anywhere n w

pub no_loads_lem : (n : ℕ) → loads_of (replicate n 0) ≡ no_loads
no_loads_lem n = fun_ext (none_anywhere n)
