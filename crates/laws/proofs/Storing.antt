-- A loop that stores at 0, 1, …: what holds of the elements passed, and that the others are as they were.
use mathlib.Core.Path.{◌≡◌, refl, ◌∙◌}
use mathlib.Core.List.{List}
use Prim.Native.Nat.{ℕ, ◌+◌, ◌≤◌, ◌<◌}
use native.Mathlib.Decide.{ℕ_discrete, dec_lt}
use native.Mathlib.Omega.{arith}
use lib.ListN.{length, get_or, set, length-set}
use lib.Seq.{get_or-set_same, get_or-set_other}

pub record Stored {A : Type 0} (Q : ℕ → A → Type 0) (d : A) (l₀ l : List A) (v : ℕ) : Type 0 where
  pub size : length l ≡ length l₀
  pub done : (j : ℕ) → j < v → Q j (get_or l j d)
  pub left : (j : ℕ) → v ≤ j → get_or l j d ≡ get_or l₀ j d

pub stored-start : {A : Type 0} (Q : ℕ → A → Type 0) (d : A) (l : List A) → Stored Q d l l 0
stored-start Q d l = record { size = refl; done = λ j h. absurd (omega arith); left = λ j h. refl }

pub stored_turn : {A : Type 0} {Q : ℕ → A → Type 0} {d : A} {l₀ l : List A} {v : ℕ} → Stored Q d l₀ l v → v < length l₀ → (x : A) → Q v x → Stored Q d l₀ (set l v x) (v + 1)
stored_turn {Q = Q} {d} {l₀} {l} {v} s h x q = record {
  size = length-set l v x ∙ s.size;
  done = λ j k. go j k (ℕ_discrete j v);
  left = λ j k. get_or-set_other l v j x d (λ e. omega arith) ∙ s.left j (omega arith);
}
  where
    go : (j : ℕ) → j < v + 1 → Dec (j ≡ v) → Q j (get_or (set l v x) j d)
    go j k (yes e) = rw (e, get_or-set_same l v x d (omega (arith, s.size))) q
    go j k (no ne) = rw (get_or-set_other l v j x d ne) (s.done j (omega arith))

-- a turn that stores nothing, where what stands there will do
pub stored_keep : {A : Type 0} {Q : ℕ → A → Type 0} {d : A} {l₀ l : List A} {v : ℕ} → Stored Q d l₀ l v → Q v (get_or l₀ v d) → Stored Q d l₀ l (v + 1)
stored_keep {Q = Q} {d} {l₀} {l} {v} s q = record { size = s.size; done = λ j k. go j k (ℕ_discrete j v); left = λ j k. s.left j (omega arith) }
  where
    go : (j : ℕ) → j < v + 1 → Dec (j ≡ v) → Q j (get_or l j d)
    go j k (yes e) = rw (e, s.left v (omega arith)) q
    go j k (no ne) = s.done j (omega arith)

-- a jump over elements where what stands there will do
pub stored_skip : {A : Type 0} {Q : ℕ → A → Type 0} {d : A} {l₀ l : List A} {v : ℕ} → Stored Q d l₀ l v → (w : ℕ) → v ≤ w → ((j : ℕ) → v ≤ j → j < w → Q j (get_or l₀ j d)) → Stored Q d l₀ l w
stored_skip {Q = Q} {d} {l₀} {l} {v} s w h q = record { size = s.size; done = λ j k. go j k (dec_lt j v); left = λ j k. s.left j (omega arith) }
  where
    go : (j : ℕ) → j < w → Dec (j < v) → Q j (get_or l j d)
    go j k (yes e) = s.done j e
    go j k (no ne) = rw (s.left j (omega arith)) (q j (omega arith) k)
