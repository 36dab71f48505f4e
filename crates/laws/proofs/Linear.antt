-- Linear arithmetic on ℤ by `omega`, which knows ℕ alone. An integer z is the difference `up z - dn z` of two naturals, so each linear
-- fact on integers is a linear fact on those. `zarith` holds `arith` and the rules that carry ≤ℤ, <ℤ and ≡ over, as facts and as goals;
-- a sum, a difference or a negation that the statement names goes into the list: `omega (zarith, sum a c, dif b a)`.
use mathlib.Core.Path.{◌≡◌, refl, ap, subst}
use mathlib.Core.Bool.{Bool, true, false, not, cond}
use Prim.Native.Nat.{ℕ, zero, suc, ◌+◌, ◌-◌, ◌≤◌, ◌<◌, ◌^◌, max}
use mir.Syntax.{Width}
use mir.Val.{SFits, hbits}
use native.Mathlib.Omega.{arith}
use lib.Dec.{T, ltb, ltb→lt, nltb→le, leb→le, le→leb, lt→ltb}
use lib.IntN.{ℤ, pos, negsuc, sub_ℕ, ◌+ℤ◌, ◌-ℤ◌, neg_ℤ}
use lib.Signed.{le_z, lt_z, ◌≤ℤ◌, ◌<ℤ◌, lt_z_no, mag}

abbrev pub up : ℤ → ℕ
up (pos n) = n
up (negsuc n) = zero

abbrev pub dn : ℤ → ℕ
dn (pos n) = zero
dn (negsuc n) = suc n

-- ---- the operations

subℕ_fact : (a b : ℕ) → up (sub_ℕ a b) + b ≡ dn (sub_ℕ a b) + a
subℕ_fact a b = go (ltb a b) (ltb→lt a b) (nltb→le a b)
  where
    go : (c : Bool) → (T c → a < b) → (T (not c) → b ≤ a)
        → up (cond c (negsuc (b - suc a)) (pos (a - b))) + b ≡ dn (cond c (negsuc (b - suc a)) (pos (a - b))) + a
    go true f g = let h = f tt in omega arith
    go false f g = let h = g tt in omega arith

pub sum : (a b : ℤ) → up (a +ℤ b) + (dn a + dn b) ≡ dn (a +ℤ b) + (up a + up b)
sum (pos a) (pos b) = omega arith
sum (pos a) (negsuc b) = omega (arith, subℕ_fact a (suc b))
sum (negsuc a) (pos b) = omega (arith, subℕ_fact b (suc a))
sum (negsuc a) (negsuc b) = omega arith

pub neg : (a : ℤ) → up (neg_ℤ a) + up a ≡ dn (neg_ℤ a) + dn a
neg (pos zero) = refl
neg (pos (suc n)) = omega arith
neg (negsuc n) = omega arith

pub dif : (a b : ℤ) → up (a -ℤ b) + (dn a + up b) ≡ dn (a -ℤ b) + (up a + dn b)
dif a b = omega (arith, sum a (neg_ℤ b), neg b)

-- ---- the orders and equality, as facts and as goals

le→' : (a b : ℤ) → T (le_z a b) → up a + dn b ≤ up b + dn a
le→' (pos a) (pos b) t = omega (arith, leb→le a b t)
le→' (pos a) (negsuc b) t = absurd t
le→' (negsuc a) (pos b) t = omega arith
le→' (negsuc a) (negsuc b) t = omega (arith, leb→le b a t)

→le' : (a b : ℤ) → up a + dn b ≤ up b + dn a → T (le_z a b)
→le' (pos a) (pos b) h = le→leb a b (omega arith)
→le' (pos a) (negsuc b) h = omega arith
→le' (negsuc a) (pos b) h = tt
→le' (negsuc a) (negsuc b) h = le→leb b a (omega arith)

lt→' : (a b : ℤ) → T (lt_z a b) → up a + dn b < up b + dn a
lt→' (pos a) (pos b) t = omega (arith, ltb→lt a b t)
lt→' (pos a) (negsuc b) t = absurd t
lt→' (negsuc a) (pos b) t = omega arith
lt→' (negsuc a) (negsuc b) t = omega (arith, ltb→lt b a t)

→lt' : (a b : ℤ) → up a + dn b < up b + dn a → T (lt_z a b)
→lt' (pos a) (pos b) h = lt→ltb a b (omega arith)
→lt' (pos a) (negsuc b) h = omega arith
→lt' (negsuc a) (pos b) h = tt
→lt' (negsuc a) (negsuc b) h = lt→ltb b a (omega arith)

pub le→ : {a b : ℤ} → a ≤ℤ b → up a + dn b ≤ up b + dn a
le→ {a} {b} h = le→' a b h.le

pub →le : {a b : ℤ} → up a + dn b ≤ up b + dn a → a ≤ℤ b
→le {a} {b} h = record { le = →le' a b h }

pub lt→ : {a b : ℤ} → a <ℤ b → up a + dn b < up b + dn a
lt→ {a} {b} h = lt→' a b h.lt

pub →lt : {a b : ℤ} → up a + dn b < up b + dn a → a <ℤ b
→lt {a} {b} h = record { lt = →lt' a b h }

pub eq→ : {a b : ℤ} → a ≡ b → up a + dn b ≡ up b + dn a
eq→ {a} {b} e = subst (λ (x : ℤ). up a + dn x ≡ up x + dn a) e refl

pub →eq : {a b : ℤ} → up a + dn b ≡ up b + dn a → a ≡ b
→eq {a = pos a} {b = pos b} h = ap pos (omega arith)
→eq {a = pos a} {b = negsuc b} h = absurd (omega arith)
→eq {a = negsuc a} {b = pos b} h = absurd (omega arith)
→eq {a = negsuc a} {b = negsuc b} h = ap negsuc (omega arith)

-- a test of the code, passed or failed
pub lt_z→ : (a b : ℤ) → T (lt_z a b) → up a + dn b < up b + dn a
lt_z→ = lt→'

pub nlt_z→ : (a b : ℤ) → T (not (lt_z a b)) → up b + dn a ≤ up a + dn b
nlt_z→ a b t = le→ (lt_z_no {a = a} {b = b} t)

pub ruleset zarith = (arith, le→, →le, lt→, →lt, eq→, →eq, lt_z→, nlt_z→)

-- ---- a range of a signed width, which Rattle states by `mag`

pub mag_lt : (z : ℤ) {H : ℕ} → up z < H + dn z → dn z ≤ H + up z → mag z < H
mag_lt (pos n) h k = omega arith
mag_lt (negsuc n) h k = omega arith

pub mag_hi : (z : ℤ) {H : ℕ} → mag z < H → up z < H + dn z
mag_hi (pos n) h = omega arith
mag_hi (negsuc n) h = omega arith

-- A signed width, as rules: exact as a goal (one case split), and as a fact |z| ≤ 2 ^ (w - 1), which has no split and loses only that z is not 2 ^ (w - 1) itself:
-- list `sfits-hi h` where that matters. `omega` applies ONE rule to a hypothesis, and no rule may end in a pair.
pub →sfits : {w : Width} {z : ℤ} → max (suc (up z + up z)) (dn z + dn z) ≤ 2 ^ hbits w + (up z + dn z) → SFits w z
→sfits {w} {z} h = record { sfits = mag_lt z (omega arith) (omega arith) }

pub sfits→ : {w : Width} {z : ℤ} → SFits w z → up z + dn z ≤ 2 ^ hbits w
sfits→ {w} {z} h = go z h.sfits
  where
    go : (z : ℤ) → mag z < 2 ^ hbits w → up z + dn z ≤ 2 ^ hbits w
    go (pos n) k = omega arith
    go (negsuc n) k = omega arith

pub sfits_hi : {w : Width} {z : ℤ} → SFits w z → up z < 2 ^ hbits w + dn z
sfits_hi {w} {z} h = mag_hi z h.sfits

pub ruleset zneeds = (zarith, →sfits, sfits→)
