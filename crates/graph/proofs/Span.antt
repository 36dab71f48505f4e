-- How large a delay is: absent, or from -c to c.
use Prim.Native.Nat.{ℕ, ◌+◌, ◌≤◌}
use native.Mathlib.Omega.{arith}
use Rattle.laws.proofs.Linear.{up, dn, sum}
use Rattle.graph.specs.Delay.{Delay, absent, at, ◌⊕◌}

abbrev pub InSpan : ℕ → Delay → Type 0
InSpan c absent = Unit {0}
InSpan c (at d) = (up d ≤ dn d + c) × (dn d ≤ up d + c)

pub span_⊕ : (b c : ℕ) (x y : Delay) → InSpan b x → InSpan c y → InSpan (b + c) (x ⊕ y)
span_⊕ b c absent y p q = tt
span_⊕ b c (at x) absent p q = tt
span_⊕ b c (at x) (at y) p q = omega (arith, sum x y)

pub span_le : (b c : ℕ) (x : Delay) → b ≤ c → InSpan b x → InSpan c x
span_le b c absent h p = tt
span_le b c (at x) h p = omega arith
