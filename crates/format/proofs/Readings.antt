-- What a reading that got a value, or was stopped, says of its parts.
use mathlib.Core.Path.{◌≡◌, refl}
use mathlib.Core.Bool.{Bool, true, false}
use Prim.Native.Nat.{ℕ}
use native.Mathlib.Omega.{arith}
use lib.Dec.{T}
use Rattle.timing.specs.declared.Refusal.{Refusal}
use Rattle.timing.specs.Refusal.{Verdict, refused, accepted}
use Rattle.format.specs.Reading.{Reading, stopped, got, ask, ◌next◌, placed}

pub ask_got : {A : Type 0} (b : Bool) (r : Refusal) (p : ℕ) (x : Reading A) (a : A) → ask b r p x ≡ got a → T b × (x ≡ got a)
ask_got true r p x a e = (tt, e)
ask_got false r p x a e = absurd (let z : ◌≡◌ {A = ℕ} 0 1 = cc in omega arith)

pub next_got : {A B : Type 0} (x : Reading A) (f : A → Reading B) (b : B) → (x next f) ≡ got b → (a : A) × (x ≡ got a) × (f a ≡ got b)
next_got (stopped r p) f b e = absurd (let z : ◌≡◌ {A = ℕ} 0 1 = cc in omega arith)
next_got (got a) f b e = (a, refl, e)

-- whatever it goes on with
pub next_on : {A B C : Type 0} (x : Reading A) (b : B) (c : C) → (x next λ _. got b) ≡ got b → (x next λ _. got c) ≡ got c
next_on (stopped r p) b c e = absurd (let z : ◌≡◌ {A = ℕ} 0 1 = cc in omega arith)
next_on (got a) b c e = refl

pub next_off : {A B C : Type 0} (x : Reading A) (b : B) (f : A → Reading C) (r p : ℕ) → (x next λ _. got b) ≡ stopped r p → (x next f) ≡ stopped r p
next_off (stopped r p) b f k q e = cc
next_off (got a) b f k q e = absurd (let z : ◌≡◌ {A = ℕ} 0 1 = cc in omega arith)

pub same_got : {A : Type 0} {x y : A} → got x ≡ got y → x ≡ y
same_got e = cc

pub placed_got : {A : Type 0} (p : ℕ) (v : Verdict A) (a : A) → placed p v ≡ got a → v ≡ accepted a
placed_got p (refused r) a e = absurd (let z : ◌≡◌ {A = ℕ} 0 1 = cc in omega arith)
placed_got p (accepted x) a e = cc
