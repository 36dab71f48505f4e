-- A grid in one list: row u of n cells stands from n * u on.
use mathlib.Core.Path.{◌≡◌, ◌∙◌, subst}
use mathlib.Core.List.{List}
use Prim.Native.Nat.{ℕ, ◌+◌, ◌*◌, ◌≤◌, ◌<◌}
use native.Mathlib.Nat.{mul-suc, mul-le-mul_left, mul-le-mul}
use lib.ListN.{get_or, take, drop}
use lib.Seq.{get_or-take, get_or-drop}

-- a row ends within m rows
pub row_of : (n u m : ℕ) → u < m → n * u + n ≤ n * m
row_of n u m h = subst (λ (k : ℕ). k ≤ n * m) (mul-suc n u) (mul-le-mul_left n h)

pub row_in : (n u : ℕ) → u < n → n * u + n ≤ n * n
row_in n u h = row_of n u n h

pub area : (n b : ℕ) → n ≤ b → n * n ≤ b * b
area n b h = mul-le-mul h h

-- a cell of a row that was lent as a part
pub row_cell {ℓ} : {A : Type ℓ} (t : List A) (at k v : ℕ) (d : A) → v < k → get_or (take k (drop at t)) v d ≡ get_or t (at + v) d
row_cell t at k v d h = get_or-take k (drop at t) v d h ∙ get_or-drop at t v d
