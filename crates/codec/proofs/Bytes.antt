-- Numbers and their bytes: each is made of the other.
use mathlib.Core.Path.{◌≡◌, refl, sym, ap, ◌∙◌}
use Prim.Native.Nat.{ℕ, zero, suc, ◌+◌, ◌*◌, ◌/◌, ◌%◌, ◌^◌, ◌≤◌, ◌<◌}
use native.Mathlib.Nat.{mul_assoc, mul-add, mul_left_comm, not-suc-le-zero, div-one, div-div-eq-div-mul, pow-succ', pow-le-pow_right}
use native.Mathlib.Omega.{arith}
use Rattle.codec.specs.Bytes.{number_of, byte_of}

-- a number of eight bytes at the most is one of 64 bits
pub power_fits : (w : ℕ) → w ≤ 8 → 256 ^ w ≤ 2 ^ 64
power_fits w h = pow-le-pow_right {n = 256} (omega arith) h

pub number_same : (w : ℕ) (f g : ℕ → ℕ) → ((i : ℕ) → i < w → f i ≡ g i) → number_of w f ≡ number_of w g
unfolding number_of
number_same zero f g h = refl
number_same (suc w) f g h = simp (h 0 (omega arith), number_same w (λ i. f (suc i)) (λ i. g (suc i)) (λ i l. h (suc i) (omega arith)))

pub number-below : (w : ℕ) (f : ℕ → ℕ) → ((i : ℕ) → i < w → f i < 256) → number_of w f < 256 ^ w
unfolding number_of
number-below zero f h = omega arith
number-below (suc w) f h = omega (arith, h 0 (omega arith), number-below w (λ i. f (suc i)) (λ i l. h (suc i) (omega arith)))

-- ---- the bytes of a number

pub byte_first : (x : ℕ) → byte_of x 0 ≡ x % 256
byte_first x = ap (λ (y : ℕ). y % 256) (div-one x)

pub byte_next : (x i : ℕ) → byte_of x (suc i) ≡ byte_of (x / 256) i
byte_next x i = ap (λ (y : ℕ). y % 256) (ap (λ (p : ℕ). x / p) (pow-succ' 256 i) ∙ sym (div-div-eq-div-mul x 256 (256 ^ i)))

-- a number is that of its bytes
pub number_of_bytes : (w x : ℕ) → x < 256 ^ w → number_of w (byte_of x) ≡ x
unfolding number_of
number_of_bytes zero x h = omega arith
number_of_bytes (suc w) x h =
    let rest : number_of w (λ i. byte_of x (suc i)) ≡ x / 256 = number_same w _ (byte_of (x / 256)) (λ i l. byte_next x i) ∙ number_of_bytes w (x / 256) (omega arith) in
    omega (arith, byte_first x, rest)

-- the bytes of a number are those that it was made of
pub bytes_of_number : (w : ℕ) (f : ℕ → ℕ) → ((i : ℕ) → i < w → f i < 256) → (i : ℕ) → i < w → byte_of (number_of w f) i ≡ f i
unfolding number_of
bytes_of_number zero f h i l = absurd (not-suc-le-zero l)
bytes_of_number (suc w) f h zero l = omega (arith, byte_first (f 0 + 256 * number_of w (λ i. f (suc i))), h 0 (omega arith))
bytes_of_number (suc w) f h (suc i) l =
    let g : ℕ → ℕ = λ j. f (suc j) in
    let rest : (f 0 + 256 * number_of w g) / 256 ≡ number_of w g = omega (arith, h 0 (omega arith)) in
    byte_next (f 0 + 256 * number_of w g) i ∙ ap (λ (y : ℕ). byte_of y i) rest ∙ bytes_of_number w g (λ j k. h (suc j) (omega arith)) i (omega arith)

-- ---- bytes above a number

number_none : (w : ℕ) (f : ℕ → ℕ) → ((i : ℕ) → f i ≡ 0) → number_of w f ≡ 0
unfolding number_of
number_none zero f h = refl
number_none (suc w) f h = omega (arith, h 0, number_none w (λ i. f (suc i)) (λ i. h (suc i)))

pub number_longer : (w k n : ℕ) (f : ℕ → ℕ) → w + k ≡ n → ((i : ℕ) → w ≤ i → f i ≡ 0) → number_of n f ≡ number_of w f
unfolding number_of
number_longer zero k n f e h = number_none n f (λ i. h i (omega arith))
number_longer (suc w) k zero f e h = absurd (omega arith)
number_longer (suc w) k (suc n) f e h = ap (λ (r : ℕ). f 0 + 256 * r) (number_longer w k n (λ i. f (suc i)) (omega arith) (λ i l. h (suc i) (omega arith)))

number_ones : (w : ℕ) (f : ℕ → ℕ) → ((i : ℕ) → i < w → f i ≡ 255) → number_of w f + 1 ≡ 256 ^ w
unfolding number_of
number_ones zero f h = omega arith
number_ones (suc w) f h = omega (arith, h 0 (omega arith), number_ones w (λ i. f (suc i)) (λ i l. h (suc i) (omega arith)))

pub number_filled : (w k n : ℕ) (f : ℕ → ℕ) → w + k ≡ n → ((i : ℕ) → w ≤ i → i < n → f i ≡ 255) → number_of n f + 256 ^ w ≡ number_of w f + 256 ^ n
unfolding number_of
number_filled zero k n f e h = omega (arith, number_ones n f (λ i l. h i (omega arith) l))
number_filled (suc w) k zero f e h = absurd (omega arith)
number_filled (suc w) k (suc n) f e h = omega (arith, number_filled w k n (λ i. f (suc i)) (omega arith) (λ i l m. h (suc i) (omega arith) (omega arith)))

power_times : (w k : ℕ) → 256 ^ suc w * k ≡ 256 * (256 ^ w * k)
power_times w k = ap (λ (p : ℕ). p * k) (pow-succ' 256 w) ∙ mul_assoc 256 (256 ^ w) k

-- a number and its highest byte
pub number_top : (w : ℕ) (f : ℕ → ℕ) → number_of (suc w) f ≡ number_of w f + 256 ^ w * f w
unfolding number_of
number_top zero f = omega arith
number_top (suc w) f = omega (arith, number_top w (λ i. f (suc i)), power_times w (f (suc w)))

-- what is a multiple of 256 ^ w more has the same first bytes
pub byte_more : (i w x k : ℕ) → i < w → byte_of (x + 256 ^ w * k) i ≡ byte_of x i
byte_more i zero x k h = absurd (omega arith)
byte_more zero (suc w) x k h =
    let e : (x + 256 ^ suc w * k) % 256 ≡ x % 256 = omega (arith, power_times w k) in
    byte_first (x + 256 ^ suc w * k) ∙ e ∙ sym (byte_first x)
byte_more (suc i) (suc w) x k h =
    let e : (x + 256 ^ suc w * k) / 256 ≡ x / 256 + 256 ^ w * k = omega (arith, power_times w k) in
    byte_next (x + 256 ^ suc w * k) i ∙ ap (λ (y : ℕ). byte_of y i) e ∙ byte_more i w (x / 256) k (omega arith) ∙ sym (byte_next x i)

pub power_above : (w k : ℕ) → (m : ℕ) × (256 ^ (w + k) ≡ 256 ^ w + 256 ^ w * m)
power_above w zero = let e : w + 0 ≡ w = omega arith in (0, ap (λ (j : ℕ). 256 ^ j) e ∙ omega arith)
power_above w (suc k) =
    let p = power_above w k in
    let e : w + suc k ≡ suc (w + k) = omega arith in
    (255 + 256 * p.0, ap (λ (j : ℕ). 256 ^ j) e ∙ omega (arith, p.1, pow-succ' 256 (w + k), mul-add (256 ^ w) 255 (256 * p.0), mul_left_comm (256 ^ w) 256 p.0))
