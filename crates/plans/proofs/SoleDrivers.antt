-- The search for inner vertices with arcs out that one vertex alone drives, or none.
use Rattle.std.specs.Prelude.{Option, None, Some, is_some}
use mathlib.Core.Path.{◌≡◌, refl, sym, ap, ◌∙◌, subst}
use mathlib.Core.Logic.{◌≢◌}
use mathlib.Core.Bool.{Bool, true, false, ◌||◌}
use Prim.Native.Nat.{ℕ, ◌+◌, ◌≤◌, ◌<◌}
use native.Mathlib.Decide.{ℕ_discrete, dec_lt}
use native.Mathlib.Omega.{arith}
use lib.Dec.{T, eqb, eqb→eq}
use Rattle.laws.specs.Bounded.{some}
use Rattle.laws.proofs.Booleans.{is_true, is_false, eq→eqb}
use Rattle.laws.proofs.Bounded.{some_at, some_of}
use Rattle.laws.proofs.Somewhere.{some_more}
use Rattle.laws.proofs.Truth.{same_truth}
use Rattle.graph.specs.Graph.{Graph}
use Rattle.graph.specs.Count.{bit, fan_out}
use Rattle.graph.proofs.Presence.{absent_bit, bit_absent}
use Rattle.reduction.specs.DeletionMeaning.{hangs_on, leaves_undriven}
use Rattle.reduction.proofs.ShareDeletion.{hangs_by, hangs_parts}
use Rattle.paths.specs.Cells.{NextInto, FirstInto}
use Rattle.sets.specs.declared.Set.{Set}
use Rattle.sets.specs.Sets.{holds}

module _ {N u from : ℕ} {g : Graph} where
  none_after : (r : Option ℕ) → FirstInto N g u from r → is_some r ≡ false → NextInto N g u from N
  none_after None f e = f
  none_after (Some w) f e = absurd (subst T e tt)

  some_after : (r : Option ℕ) → FirstInto N g u from r → is_some r ≡ true → (w : ℕ) × (w < N) × NextInto N g u from w
  some_after None f e = absurd (subst T (sym e) tt)
  some_after (Some w) f e = (w, f.0, f.1)

module _ (m n N : ℕ) (g : Graph) where
  abbrev hangs : ℕ → ℕ → Bool
  hangs b u = hangs_on m n N g b u

  -- the vertices below u have been looked at
  abbrev pub Sought : ℕ → Set → Type 0
  Sought u drivers = (b : ℕ) → b < N → holds drivers b ≡ some u (hangs_on m n N g b)

  pub sought_none : (none : Set) → ((u : ℕ) → holds none u ≡ false) → Sought (m + n) none
  sought_none none empty b l = empty b ∙ sym (is_false (some (m + n) (hangs b)) (λ t.
      let u = some_at (m + n) (hangs b) t in
      omega (arith, (hangs_parts m n N g b u.0 u.2).0.0)))

  pub sought_all : (drivers : Set) → Sought N drivers → (b : ℕ) → b < N → holds drivers b ≡ leaves_undriven m n N g b
  unfolding leaves_undriven
  sought_all drivers h b l = h b l

  -- b drives u
  by_b : (b u : ℕ) → T (hangs_on m n N g b u) → (x : ℕ) → x < N → bit (g x u) ≡ 1 → x ≡ b
  by_b b u t x l there = go (ℕ_discrete x b)
    where
      go : Dec (x ≡ b) → x ≡ b
      go (yes e) = e
      go (no z) = absurd (omega (arith, there, bit_absent ((hangs_parts m n N g b u t).2 x l z)))

  module _ (u : ℕ) (drivers : Set) (h : Sought u drivers) where
    -- u is not one
    sought_past : ((b : ℕ) → b < N → hangs_on m n N g b u ≡ false) → Sought (u + 1) drivers
    sought_past other b l = h b l ∙ sym (some_more (hangs b) u ∙ ap (λ (x : Bool). some u (hangs b) || x) (other b l) ∙ or_false (some u (hangs b)))
      where
        or_false : (x : Bool) → (x || false) ≡ x
        or_false true = refl
        or_false false = refl

    pub sought_quiet : fan_out N g u ≡ 0 → Sought (u + 1) drivers
    sought_quiet e = sought_past (λ b _. is_false (hangs b u) (λ t. omega (arith, e, (hangs_parts m n N g b u t).1)))

    pub sought_two : (v : ℕ) → v < N → NextInto N g u 0 v → (r : Option ℕ) → FirstInto N g u (v + 1) r → is_some r ≡ true → Sought (u + 1) drivers
    sought_two v vN one r two e =
        let w = some_after r two e in
        sought_past (λ b _. is_false (hangs b u) (λ t. omega (arith, w.2.past, by_b b u t v vN (one.arc vN), by_b b u t w.0 w.1 (w.2.arc w.1))))

    module _ (low : m + n ≤ u) (top : u < N) (out : 0 < fan_out N g u) where
      only : (b : ℕ) → ((x : ℕ) → x < N → x ≢ b → bit (g x u) ≡ 0) → T (hangs_on m n N g b u)
      only b none = hangs_by m n N g b u (low, top) out (λ x l z. absent_bit (g x u) (none x l z))

      pub sought_undriven : NextInto N g u 0 N → (b : ℕ) → b < N → leaves_undriven m n N g b ≡ true
      unfolding leaves_undriven
      sought_undriven none b _ = is_true (some N (hangs b)) (some_of N (hangs b) u top (only b (λ x k _. none.none x (omega arith) k)))

      pub sought_one : (v : ℕ) → v < N → NextInto N g u 0 v → (r : Option ℕ) → FirstInto N g u (v + 1) r → is_some r ≡ false → (more : Set) → ((x : ℕ) → holds more x ≡ (eqb x v || holds drivers x))
          → Sought (u + 1) more
      sought_one v vN one r rest e more plus b l = plus b ∙ ap (λ (x : Bool). eqb b v || x) (h b l) ∙ or_comm (eqb b v) (some u (hangs b))
          ∙ ap (λ (x : Bool). some u (hangs b) || x) (same_truth (eqb b v) (hangs b u) (λ t. there (eqb→eq b v t)) (λ t. eq→eqb b v (sym (by_b b u t v vN (one.arc vN))))) ∙ sym (some_more (hangs b) u)
        where
          or_comm : (x y : Bool) → (x || y) ≡ (y || x)
          or_comm true true = refl
          or_comm true false = refl
          or_comm false true = refl
          or_comm false false = refl

          there : b ≡ v → T (hangs b u)
          there q = only b (λ x k z. pick x k z (dec_lt x v))
            where
              pick : (x : ℕ) → x < N → x ≢ b → Dec (x < v) → bit (g x u) ≡ 0
              pick x k z (yes p) = one.none x (omega arith) p
              pick x k z (no p) = (none_after r rest e).none x (further x z p) k
                where
                  further : (x : ℕ) → x ≢ b → (x < v → ⊥) → v + 1 ≤ x
                  further x z p = go (ℕ_discrete x v)
                    where
                      go : Dec (x ≡ v) → v + 1 ≤ x
                      go (yes y) = absurd (z (y ∙ sym q))
                      go (no y) = omega arith
