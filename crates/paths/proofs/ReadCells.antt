-- A cell from what `is_arc` says of it.
use mathlib.Core.Path.{◌≡◌, refl, sym, ap, ◌∙◌}
use mathlib.Core.Bool.{Bool, true, false, cond, not, ◌&&◌}
use Rattle.paths.specs.Cells.{between}
use lib.Signed.{le_z}
use Rattle.std.proofs.Common.{FitsSigned, w32, of_z}
use lib.Dec.{eqb, eqb→eq}
use mir.Val.{bool_byte}
use mir.Facts.{sfits_lit}
use Rattle.laws.proofs.Booleans.{T_true, cases, true_is, eq→eqb}
use Rattle.laws.proofs.Signed.{same_bits, other_bits}
use Rattle.timing.proofs.Table.{read_absent, read_at, graph_of_at}
use mathlib.Core.List.{List}
use Prim.Native.Nat.{ℕ, ◌+◌, ◌*◌, ◌<◌}
use lib.ListN.{get_or}
use lib.IntN.{pos}
use native.Mathlib.Omega.{arith}
use lib.IntN.{ℤ}
use Rattle.laws.specs.Integers.{eq_z}
use Rattle.graph.specs.Delay.{Delay, absent, at, present}
use Rattle.graph.specs.Count.{bit}
use Rattle.timing.specs.Limits.{absent_cell}
use Rattle.timing.specs.Table.{read_cell, graph_of}

none : (d : Delay) → present d ≡ false → d ≡ absent
none absent e = refl
none (at z) e = absurd (let q : ◌≡◌ {A = ℕ} 0 1 = cc in omega arith)

pub absent_cell_lem : (z : ℤ) → present (read_cell absent_cell z) ≡ false → read_cell absent_cell z ≡ absent
absent_cell_lem z e = none (read_cell absent_cell z) e

pub arc_cell : (z : ℤ) → present (read_cell absent_cell z) ≡ true → read_cell absent_cell z ≡ at z
unfolding read_cell
arc_cell z e = go (eq_z z absent_cell) e
  where
    go : (b : Bool) → present (cond b absent (at z)) ≡ true → cond b absent (at z) ≡ at z
    go true q = absurd (let y : ◌≡◌ {A = ℕ} 0 1 = cc in omega arith)
    go false q = refl

pub bit_of : (d : Delay) (b : Bool) → present d ≡ b → bit d ≡ cond b 1 0
unfolding bit
bit_of absent b e = go b e
  where
    go : (b : Bool) → false ≡ b → ◌≡◌ {A = ℕ} 0 (cond b 1 0)
    go true q = absurd (let y : ◌≡◌ {A = ℕ} 0 1 = cc in omega arith)
    go false q = refl
bit_of (at z) b e = go b e
  where
    go : (b : Bool) → true ≡ b → ◌≡◌ {A = ℕ} 1 (cond b 1 0)
    go true q = refl
    go false q = absurd (let y : ◌≡◌ {A = ℕ} 0 1 = cc in omega arith)

-- what the test for the mark says of a cell
pub cell_present : (x : ℤ) → FitsSigned w32 x → not (eqb (of_z w32 x) 2147483648) ≡ present (read_cell absent_cell x)
cell_present x h =
    cases (eqb (of_z w32 x) 2147483648)
    (λ e. ap not e ∙ sym (ap present (read_absent absent_cell x (same_bits {w = w32} {b = absent_cell} h (sfits_lit tt) (eqb→eq (of_z w32 x) 2147483648 (true_is e))))))
    (λ e. ap not e ∙ sym (ap present (read_at absent_cell x (other_bits w32 (λ q. ne (of_z w32 x) q e)))))
  where
    ne : (k : ℕ) → k ≡ 2147483648 → eqb k 2147483648 ≡ false → ⊥
    ne k q e = absurd (let y : ◌≡◌ {A = Bool} true false = sym (T_true (eq→eqb k 2147483648 q)) ∙ e in cc)

-- what the comparisons say of a cell that has an arc
pub between_arc : (x low high : ℤ) → present (read_cell absent_cell x) ≡ true → between low high (read_cell absent_cell x) ≡ (le_z low x && le_z x high)
between_arc x low high e = ap (between low high) (arc_cell x e)

-- and of a cell of a table
pub arc_bit : (n : ℕ) (t : List ℤ) (u v : ℕ) (b : Bool) → u < n → v < n → b ≡ present (read_cell absent_cell (get_or t (n * u + v) (pos 0))) → bit (graph_of n t u v) ≡ cond b 1 0
arc_bit n t u v b k l e = bit_of (graph_of n t u v) b (ap present (graph_of_at n t u v k l) ∙ sym e)

pub read_bit : (z : ℤ) (b : Bool) → b ≡ present (read_cell absent_cell z) → bit (read_cell absent_cell z) ≡ cond b 1 0
read_bit z b e = bit_of (read_cell absent_cell z) b (sym e)

-- and as a byte
pub byte_of_cell : (z : ℤ) (b : Bool) → b ≡ present (read_cell absent_cell z) → bool_byte b ≡ bit (read_cell absent_cell z)
byte_of_cell z b e = go b (read_bit z b e)
  where
    go : (b : Bool) → bit (read_cell absent_cell z) ≡ cond b 1 0 → bool_byte b ≡ bit (read_cell absent_cell z)
    go true q = sym q
    go false q = sym q
