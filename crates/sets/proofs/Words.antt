-- Words, digit by digit: what each operation does to digit i.
use Rattle.std.proofs.Common.{◌≡◌, refl, sym, ap, ◌∙◌, true, false, not, ◌&&◌, ◌||◌, ℕ, zero, suc, ◌-◌, ◌*◌, ◌/◌, ◌%◌, ◌^◌, ◌<◌, min, max, eqb, arith, lit<, bit_and, bit_or}
use Rattle.std.specs.Int.{bit_at, bit_not, trailing_zeros, w64}
use Rattle.std.proofs.lemmas.Nat.Bits.{bit_at-lt, bit_at-zero, bit_at_or, bit_at_and, bit_at_not, bit_at-pow_same, bit_at-pow_other, bit_at-trailing_zeros, shr_and_one}
use native.Mathlib.Decide.{ℕ_discrete}
use lib.Pow.{shl_exact}
use Rattle.laws.proofs.Booleans.{eqb_same, eqb_other}
use Rattle.sets.specs.Words.{odd}

pub odd_none : (i : ℕ) → odd 0 i ≡ false
unfolding odd
odd_none i = ap (λ (d : ℕ). eqb d 1) (bit_at-zero i)

pub odd_shifted : (x i : ℕ) → eqb (bit_and (x / 2 ^ i) 1) 1 ≡ odd x i
unfolding odd
odd_shifted x i = ap (λ (d : ℕ). eqb d 1) (shr_and_one x i)

-- two digits
or_digits : (x y : ℕ) → x < 2 → y < 2 → eqb (max x y) 1 ≡ (eqb x 1 || eqb y 1)
or_digits zero zero h k = refl
or_digits zero (suc zero) h k = refl
or_digits (suc zero) zero h k = refl
or_digits (suc zero) (suc zero) h k = refl
or_digits (suc (suc x)) y h k = absurd (omega arith)
or_digits x (suc (suc y)) h k = absurd (omega arith)

and_digits : (x y : ℕ) → x < 2 → y < 2 → eqb (min x y) 1 ≡ (eqb x 1 && eqb y 1)
and_digits zero zero h k = refl
and_digits zero (suc zero) h k = refl
and_digits (suc zero) zero h k = refl
and_digits (suc zero) (suc zero) h k = refl
and_digits (suc (suc x)) y h k = absurd (omega arith)
and_digits x (suc (suc y)) h k = absurd (omega arith)

but_digits : (x y : ℕ) → x < 2 → y < 2 → eqb (min x (1 - y)) 1 ≡ (eqb x 1 && not (eqb y 1))
but_digits zero zero h k = refl
but_digits zero (suc zero) h k = refl
but_digits (suc zero) zero h k = refl
but_digits (suc zero) (suc zero) h k = refl
but_digits (suc (suc x)) y h k = absurd (omega arith)
but_digits x (suc (suc y)) h k = absurd (omega arith)

pub or_digit : (a b i : ℕ) → odd (bit_or a b) i ≡ (odd a i || odd b i)
unfolding odd
or_digit a b i = ap (λ (d : ℕ). eqb d 1) (bit_at_or a b i) ∙ or_digits _ _ (bit_at-lt a i) (bit_at-lt b i)

pub and_digit : (a b i : ℕ) → odd (bit_and a b) i ≡ (odd a i && odd b i)
unfolding odd
and_digit a b i = ap (λ (d : ℕ). eqb d 1) (bit_at_and a b i) ∙ and_digits _ _ (bit_at-lt a i) (bit_at-lt b i)

pub but_digit : (a b : ℕ) → b < 2 ^ 64 → (i : ℕ) → i < 64 → odd (bit_and a (bit_not w64 b)) i ≡ (odd a i && not (odd b i))
unfolding odd
but_digit a b h i l =
    ap (λ (d : ℕ). eqb d 1) (bit_at_and a (bit_not w64 b) i ∙ ap (min (bit_at a i)) (bit_at_not w64 b i h l)) ∙ but_digits _ _ (bit_at-lt a i) (bit_at-lt b i)

pub one_digit : (v : ℕ) → v < 64 → (i : ℕ) → odd (1 * 2 ^ v % 2 ^ 64) i ≡ eqb i v
unfolding odd
one_digit v h i = ap (λ (x : ℕ). eqb (bit_at x i) 1) (shl_exact {a = 1} 1 v 64 (lit< tt) (omega arith) ∙ omega arith) ∙ go (ℕ_discrete i v)
  where
    go : Dec (i ≡ v) → eqb (bit_at (2 ^ v) i) 1 ≡ eqb i v
    go (yes e) = ap (λ (w : ℕ). eqb (bit_at (2 ^ v) w) 1) e ∙ ap (λ (d : ℕ). eqb d 1) (bit_at-pow_same v) ∙ sym (eqb_same v) ∙ ap (λ (w : ℕ). eqb w v) (sym e)
    go (no n) = ap (λ (d : ℕ). eqb d 1) (bit_at-pow_other v i n) ∙ sym (eqb_other i v n)

-- the least digit that is set
pub least_digit : (x : ℕ) → 0 < x → x < 2 ^ 64 → (trailing_zeros w64 x < 64) × (odd x (trailing_zeros w64 x) ≡ true) × ((i : ℕ) → i < trailing_zeros w64 x → odd x i ≡ false)
unfolding odd
least_digit x p h = let t = bit_at-trailing_zeros w64 x p h in (t.0, ap (λ (d : ℕ). eqb d 1) t.1, λ i l. ap (λ (d : ℕ). eqb d 1) (t.2 i l))
