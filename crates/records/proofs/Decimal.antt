-- How many decimal digits a number has; they are those that std prints.
use mathlib.Core.Path.{◌≡◌, refl, sym, ap, ◌∙◌}
use mathlib.Core.List.{List, [], ◌∷◌, ◌++◌}
use Prim.Native.Nat.{ℕ, zero, suc, ◌+◌, ◌/◌, ◌%◌, ◌^◌, ◌≤◌, ◌<◌}
use native.Mathlib.Nat.{pow-suc, eq-or-lt_of_le, lt_of_not-le, not-le_of_lt}
use native.Mathlib.Omega.{arith}
use borrow.Author.Tests.{lt-ltb, le-ltb}
use lib.Dec.{ltb}
use lib.IntN.{ℤ, pos, negsuc}
use mir.Syntax.{w32}
use mir.Val.{SFits, to_z, of_z}
use mir.Facts.{to_z-of_z}
use Rattle.laws.proofs.Booleans.{split}
use Rattle.laws.proofs.Bounded.{first_none, first_found}
use Rattle.std.specs.Fmt.{decimal as printed, signed_decimal as signed_printed}
use Rattle.std.proofs.lemmas.Fmt.{decimal_by_steps}
use Rattle.std.proofs.Math.Nat.{div-div-eq-div-mul}
use Rattle.laws.proofs.Linear.{zarith}
use Rattle.timing.specs.Limits.{delay_limit}
use Rattle.timing.proofs.Limits.{fits_bounds}
use Rattle.format.specs.Text.{digits, digits_of, decimal, signed_decimal}
use Rattle.records.specs.Lines.{DelayInRange}

-- x has more than k digits
abbrev pub Longer : ℕ → ℕ → Type 0
Longer x k = (j : ℕ) → j < k → 10 ^ suc j ≤ x

pub digits_are : (x k p : ℕ) → p ≡ 10 ^ k → x / 10 < p → k ≤ 9 → Longer x k → digits_of x ≡ suc k
unfolding digits_of
digits_are x k p e l few h = ap suc (split (eq-or-lt_of_le few)
    (λ q. first_none 9 (λ j. ltb x (10 ^ suc j)) (λ j b. le-ltb x (10 ^ suc j) (h j (omega (arith, q)))) ∙ sym q)
    (λ b. first_found 9 (λ j. ltb x (10 ^ suc j)) k b (λ j c. le-ltb x (10 ^ suc j) (h j c)) (lt-ltb x (10 ^ suc k) (omega (arith, pow-suc 10 k, e, l)))))

-- ---- std's digits

digits_step : (k n : ℕ) → digits (suc k) n ≡ digits k (n / 10) ++ ((48 + n % 10) ∷ [])
unfolding digits
digits_step zero n = let e : n / 1 ≡ n = omega arith in ap (λ (m : ℕ). (48 + m % 10) ∷ []) e
digits_step (suc k) n =
    let e : n / 10 ^ suc k ≡ n / 10 / 10 ^ k = ap (λ (p : ℕ). n / p) (omega (arith, pow-suc 10 k)) ∙ sym (div-div-eq-div-mul n 10 (10 ^ k)) in
    ap (λ (m : ℕ). (48 + m % 10) ∷ digits (suc k) n) e ∙ ap (λ (l : List ℕ). (48 + n / 10 / 10 ^ k % 10) ∷ l) (digits_step k n)

-- ds are the digits of n, of which there are k more than one
record Numeral (n : ℕ) (ds : List ℕ) : Type 0 where
  k : ℕ
  longer : Longer n k
  top : n / 10 < 10 ^ k
  same : digits (suc k) n ≡ ds

one_digit : (n : ℕ) → n < 10 → Numeral n ((48 + n) ∷ [])
unfolding digits
one_digit n h = record {
  k = 0;
  longer = λ j b. absurd (omega (arith, b));
  top = omega (arith, h);
  same = let e : n / 1 % 10 ≡ n = omega (arith, h) in ap (λ (m : ℕ). (48 + m) ∷ []) e;
}

more_digits : (n : ℕ) (ds : List ℕ) → 10 ≤ n → Numeral (n / 10) ds → Numeral n (ds ++ ((48 + n % 10) ∷ []))
more_digits n ds h m = record {
  k = suc m.k;
  longer = longer;
  top = omega (arith, m.top, pow-suc 10 m.k);
  same = digits_step (suc m.k) n ∙ ap (λ (l : List ℕ). l ++ ((48 + n % 10) ∷ [])) m.same;
}
  where
    longer : (j : ℕ) → j < suc m.k → 10 ^ suc j ≤ n
    longer zero b = h
    longer (suc j) b = omega (arith, m.longer j (omega (arith, b)), pow-suc 10 (suc j))

pub decimal_is : (n : ℕ) → n < 10 ^ 10 → decimal n ≡ printed n
decimal_is n h =
    let m : Numeral n (printed n) = decimal_by_steps Numeral one_digit more_digits n (omega (arith, h)) in
    let few : m.k < 10 = lt_of_not-le (λ l. not-le_of_lt h (m.longer 9 l)) in
    ap (λ (k : ℕ). digits k n) (digits_are n m.k (10 ^ m.k) refl m.top (omega (arith, few)) m.longer) ∙ m.same

signed_is : (z : ℤ) → DelayInRange z → signed_decimal z ≡ signed_printed z
signed_is (pos n) t = let hi = (fits_bounds delay_limit (pos n) t).1 in decimal_is n (omega zarith)
signed_is (negsuc n) t = let lo = (fits_bounds delay_limit (negsuc n) t).0 in ap (λ (l : List ℕ). 45 ∷ l) (decimal_is (suc n) (omega zarith))

-- a delay, as the code holds it
pub delay_is : (d : ℤ) → SFits w32 d → DelayInRange d → signed_decimal d ≡ signed_printed (to_z w32 (of_z w32 d))
delay_is d f t = signed_is d t ∙ ap signed_printed (sym (to_z-of_z {w = w32} f))
