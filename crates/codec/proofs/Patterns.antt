-- Signed numbers and their patterns: each is that of the other.
use mathlib.Core.Path.{◌≡◌, refl, ap, ◌∙◌}
use mathlib.Core.Bool.{Bool, cond}
use Prim.Native.Nat.{ℕ, suc, ◌-◌, ◌*◌, ◌^◌, ◌≤◌, ◌<◌}
use native.Mathlib.Omega.{arith}
use lib.Dec.{T, ltb, ltb→lt, lt→ltb, leb→le, le→leb, nltb→le}
use lib.IntN.{ℤ, pos, negsuc}
use borrow.Author.Tests.{lt-ltb, le-ltb}
use mir.Syntax.{Width}
use mir.Val.{SFits, hbits}
use Rattle.laws.proofs.Booleans.{cond_elim}
use Rattle.codec.specs.Bytes.{twos, pattern, in_width}

pub twos_low : (w x : ℕ) → 2 * x < 256 ^ w → twos w x ≡ pos x
unfolding twos
twos_low w x h = ap (λ (b : Bool). cond b (pos x) (negsuc (256 ^ w - suc x))) (lt-ltb _ _ h)

pub twos_high : (w x : ℕ) → 256 ^ w ≤ 2 * x → twos w x ≡ negsuc (256 ^ w - suc x)
unfolding twos
twos_high w x h = ap (λ (b : Bool). cond b (pos x) (negsuc (256 ^ w - suc x))) (le-ltb _ _ h)

pub pattern-below : (w : ℕ) (z : ℤ) → T (in_width w z) → pattern w z < 256 ^ w
unfolding pattern in_width
pattern-below w (pos n) t = omega (arith, ltb→lt)
pattern-below w (negsuc n) t = omega (arith, leb→le)

pub twos-pattern : (w : ℕ) (z : ℤ) → T (in_width w z) → twos w (pattern w z) ≡ z
unfolding pattern in_width
twos-pattern w (pos n) t = twos_low w n (ltb→lt _ _ t)
twos-pattern w (negsuc n) t = let h = leb→le (2 * suc n) (256 ^ w) t in twos_high w (256 ^ w - suc n) (omega arith) ∙ ap negsuc (omega arith)

pub pattern-twos : (w x : ℕ) → x < 256 ^ w → pattern w (twos w x) ≡ x
unfolding pattern twos
pattern-twos w x h = cond_elim (λ z. pattern w z ≡ x) (ltb (2 * x) (256 ^ w)) _ _ (λ t. refl) (λ t. omega arith)

pub twos_in_width : (w x : ℕ) → x < 256 ^ w → T (in_width w (twos w x))
unfolding in_width twos
twos_in_width w x h = cond_elim (λ z. T (in_width w z)) (ltb (2 * x) (256 ^ w)) _ _ (λ t. t) (λ t. omega (arith, nltb→le, le→leb))

-- ---- the machine's signed numbers, whose patterns are below 2 * 2 ^ hbits m

pub in_width_fits : (m : Width) (w : ℕ) {z : ℤ} → 256 ^ w ≤ 2 * 2 ^ hbits m → T (in_width w z) → SFits m z
unfolding in_width
in_width_fits m w {z = pos n} h t = record { sfits = omega (arith, ltb→lt) }
in_width_fits m w {z = negsuc n} h t = record { sfits = omega (arith, leb→le) }

pub fits_in_width : (m : Width) (w : ℕ) {z : ℤ} → 2 * 2 ^ hbits m ≤ 256 ^ w → SFits m z → T (in_width w z)
unfolding in_width
fits_in_width m w {z = pos n} h f = omega (arith, lt→ltb, f.sfits)
fits_in_width m w {z = negsuc n} h f = omega (arith, le→leb, f.sfits)
