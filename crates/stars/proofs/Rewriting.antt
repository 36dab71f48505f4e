-- A row whose cells at the members of a set are rewritten, one after the other: before turn i those from place i on are as they were.
use mathlib.Core.Path.{◌≡◌, refl, sym, ap, ◌∙◌, subst}
use mathlib.Core.Logic.{◌≢◌}
use mathlib.Core.Bool.{Bool, true, false, not, cond}
use mathlib.Core.List.{List, [], ◌∷◌}
use Prim.Native.Nat.{ℕ, zero, suc, ◌+◌, ◌≤◌, ◌<◌}
use native.Mathlib.Decide.{ℕ_discrete}
use lib.Dec.{T}
use lib.IntN.{ℤ, pos}
use lib.ListN.{length, get_or, set, drop}
use lib.Seq.{get_or-set_same, get_or-set_other}
use Rattle.laws.specs.Bounded.{member}
use Rattle.laws.specs.Lists.{tabulate}
use Rattle.laws.proofs.Booleans.{T-not-false, and_e, cases, eqb_same, eqb_other}
use Rattle.laws.proofs.Lists.{is_tabulate}
use Rattle.reduction.specs.Star.{distinct}
use Rattle.stars.proofs.Members.{rest, member_pass, member_stop, member_end}

distinct-drop : (xs : List ℕ) (i : ℕ) → T (distinct xs) → T (distinct (drop i xs))
distinct-drop xs zero t = t
distinct-drop [] (suc i) t = tt
distinct-drop (x ∷ xs) (suc i) t = distinct-drop xs i (and_e (not (member x xs)) (distinct xs) t).1

pub distinct_at : (xs : List ℕ) (i : ℕ) → i < length xs → T (distinct xs) → member (get_or xs i 0) (drop (i + 1) xs) ≡ false
distinct_at xs i l t = T-not-false (and_e (not (member (get_or xs i 0) (drop (i + 1) xs))) (distinct (drop (i + 1) xs)) (subst (λ (ys : List ℕ). T (distinct ys)) (rest xs i l) (distinct-drop xs i t))).0

module _ (xs : List ℕ) (old new : ℕ → ℤ) where
  abbrev Cell : List ℤ → ℕ → ℕ → Type 0
  Cell row i v = get_or row v (pos 0) ≡ cond (member v (drop i xs)) (old v) (new v)

  abbrev pub Rewriting : List ℤ → ℕ → Type 0
  Rewriting row i = (v : ℕ) → Cell row i v

  pick : (v : ℕ) (b c : Bool) → b ≡ c → cond c (old v) (new v) ≡ cond b (old v) (new v)
  pick v b c e = ap (λ (x : Bool). cond x (old v) (new v)) (sym e)

  pub rewriting_start : (row : List ℤ) → ((v : ℕ) → get_or row v (pos 0) ≡ old v) → ((v : ℕ) → member v xs ≡ false → new v ≡ old v) → Rewriting row 0
  rewriting_start row e h v = cases (member v xs) (λ b. e v ∙ pick v (member v xs) true b) (λ b. e v ∙ sym (h v b) ∙ pick v (member v xs) false b)

  module _ (i : ℕ) (l : i < length xs) (row : List ℤ) (w : Rewriting row i) where
    -- the cell that is read next is as it was
    pub rewriting_here : get_or row (get_or xs i 0) (pos 0) ≡ old (get_or xs i 0)
    rewriting_here = w (get_or xs i 0) ∙ sym (pick (get_or xs i 0) (member (get_or xs i 0) (drop i xs)) true (member_stop xs i l (get_or xs i 0) (eqb_same (get_or xs i 0))))

    module _ (t : T (distinct xs)) where
      turn : (row' : List ℤ) → get_or row' (get_or xs i 0) (pos 0) ≡ new (get_or xs i 0) → ((v : ℕ) → v ≢ get_or xs i 0 → get_or row' v (pos 0) ≡ get_or row v (pos 0)) → Rewriting row' (i + 1)
      turn row' e other v = go (ℕ_discrete v (get_or xs i 0))
        where
          go : Dec (v ≡ get_or xs i 0) → Cell row' (i + 1) v
          go (yes q) = subst (λ (y : ℕ). Cell row' (i + 1) y) (sym q) (e ∙ pick (get_or xs i 0) (member (get_or xs i 0) (drop (i + 1) xs)) false (distinct_at xs i l t))
          go (no n) = other v n ∙ w v ∙ pick v (member v (drop (i + 1) xs)) (member v (drop i xs)) (sym (member_pass xs i l v (eqb_other v (get_or xs i 0) n)))

      pub rewriting_set : get_or xs i 0 < length row → (z : ℤ) → z ≡ new (get_or xs i 0) → Rewriting (set row (get_or xs i 0) z) (i + 1)
      rewriting_set h z e = turn (set row (get_or xs i 0) z) (get_or-set_same row (get_or xs i 0) z (pos 0) h ∙ e) (λ v n. get_or-set_other row (get_or xs i 0) v z (pos 0) n)

      pub rewriting_keep : new (get_or xs i 0) ≡ old (get_or xs i 0) → Rewriting row (i + 1)
      rewriting_keep e = turn row (rewriting_here ∙ sym e) (λ v n. refl)

  pub rewriting_end : (i : ℕ) → length xs ≤ i → (row : List ℤ) (n : ℕ) → length row ≡ n → Rewriting row i → row ≡ tabulate n new
  rewriting_end i l row n e w = is_tabulate (pos 0) row n new e (λ v _. w v ∙ sym (pick v (member v (drop i xs)) false (member_end xs i l v)))
