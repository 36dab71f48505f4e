-- `some`, for loops that count up.
use mathlib.Core.Path.{◌≡◌, refl, sym, ap, ap₂, ◌∙◌}
use mathlib.Core.Bool.{Bool, true, false, ◌&&◌, ◌||◌}
use Prim.Native.Nat.{ℕ, zero, suc, ◌+◌, ◌≤◌, ◌<◌}
use native.Mathlib.Omega.{arith}
use native.Mathlib.Decide.{dec_lt}
use native.Mathlib.Numerals.{add-one}
use Rattle.laws.specs.Bounded.{some}
use Rattle.laws.proofs.Booleans.{is_true, true_is}
use Rattle.laws.proofs.Bounded.{some_of}

pub some_zero : (f : ℕ → Bool) → some 0 f ≡ false
unfolding some
some_zero f = refl

pub some_more : (f : ℕ → Bool) (i : ℕ) → some (i + 1) f ≡ (some i f || f i)
unfolding some
some_more f i = rw (add-one i)

pub some_next : (f : ℕ → Bool) (i : ℕ) → some i f ≡ false → f i ≡ false → some (i + 1) f ≡ false
some_next f i none this = some_more f i ∙ ap₂ ◌||◌ none this

pub some_same : (n : ℕ) (f g : ℕ → Bool) → ((v : ℕ) → v < n → f v ≡ g v) → some n f ≡ some n g
unfolding some
some_same zero f g h = refl
some_same (suc n) f g h = ap₂ ◌||◌ (some_same n f g (λ v l. h v (omega arith))) (h n (omega arith))

pub some_none : (n : ℕ) (f : ℕ → Bool) → ((v : ℕ) → v < n → f v ≡ false) → some n f ≡ false
unfolding some
some_none zero f h = refl
some_none (suc n) f h = ap₂ ◌||◌ (some_none n f (λ v l. h v (omega arith))) (h n (omega arith))

pub some_here : (n : ℕ) (f : ℕ → Bool) (i : ℕ) → i < n → f i ≡ true → some n f ≡ true
some_here n f i l e = is_true (some n f) (some_of n f i l (true_is e))

pub or_true : (b : Bool) → true ≡ (b || true)
or_true true = refl
or_true false = refl

pub and_true : (b c : Bool) → c ≡ true → b ≡ (b && c)
and_true true c e = sym e
and_true false c e = refl

pub or_none : (b : Bool) → (b || false) ≡ b
or_none true = refl
or_none false = refl

-- a jump over numbers at which f does not hold
pub some_skip : (f : ℕ → Bool) (v w : ℕ) → v ≤ w → ((j : ℕ) → v ≤ j → j < w → f j ≡ false) → some w f ≡ some v f
some_skip f v zero h q = ap (λ (z : ℕ). some z f) (let e : 0 ≡ v = omega arith in e)
some_skip f v (suc w) h q = pick (λ l. some_skip f v w l (λ j k m. q j k (omega arith))) (dec_lt w v)
  where
    pick : (v ≤ w → some w f ≡ some v f) → Dec (w < v) → some (suc w) f ≡ some v f
    pick ih (yes l) = ap (λ (z : ℕ). some z f) (let e : suc w ≡ v = omega arith in e)
    pick ih (no l) =
        ap (λ (z : ℕ). some z f) (sym (add-one w)) ∙ some_more f w ∙ ap (λ (b : Bool). some w f || b) (q w (omega arith) (omega arith)) ∙ or_none (some w f) ∙ ih (omega arith)
