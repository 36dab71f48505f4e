-- The least difference over the targets passed, and how many have it.
use mathlib.Core.Path.{◌≡◌, refl, sym, ap, ap₂, ◌∙◌, subst}
use mathlib.Core.Bool.{Bool, true, false, cond}
use mathlib.Core.List.{List, [], ◌∷◌}
use Prim.Native.Nat.{ℕ, zero, suc, ◌+◌, ◌-◌, ◌≤◌, ◌<◌}
use native.Mathlib.Numerals.{add-one}
use native.Mathlib.Omega.{arith}
use lib.Dec.{T}
use Rattle.std.proofs.lemmas.Int.{ints, clamps}
use Rattle.std.proofs.lemmas.List.{places, take_all}
use lib.IntN.{ℤ, pos, ◌-ℤ◌, ◌+ℤ◌}
use lib.Signed.{◌<ℤ◌}
use lib.ListN.{length, get_or, take, drop}
use Rattle.laws.specs.Integers.{eq_z, min_z}
use Rattle.laws.specs.Bounded.{member}
use Rattle.laws.proofs.Booleans.{is_true, is_false}
use Rattle.laws.proofs.Integers.{eq_z→eq, eq_z_refl}
use Rattle.laws.proofs.Linear.{zarith, dif, sum}
use Rattle.graph.specs.Delay.{Delay, at, ticks, ◌⊑◌, least}
use Rattle.graph.proofs.Delay.{least-⊑}
use Rattle.stars.specs.Members.{sum_over}
use Rattle.stars.specs.StarCells.{least_gap, gap, meets, meeting}
use Rattle.stars.proofs.Sets.{member_head, member_tail}
use Rattle.stars.proofs.LeastOf.{others_long, least_one, least_turn_front, least_whole}

sum_over_none : (xs : List ℕ) {h : ℕ → ℕ} → ((x : ℕ) → T (member x xs) → h x ≡ 0) → sum_over xs h ≡ 0
unfolding sum_over
sum_over_none [] z = refl
sum_over_none (x ∷ xs) z = omega (arith, z x (member_head x xs), sum_over_none xs (λ y m. z y (member_tail x xs y m)))

min_first : (a b : ℤ) → (b <ℤ a → ⊥) → min_z a b ≡ a
unfolding min_z
min_first a b h = grind (arith, ints, clamps)

min_second : (a b : ℤ) → b <ℤ a → min_z a b ≡ b
unfolding min_z
min_second a b h = grind (arith, ints, clamps)

module _ (row first : List ℤ) where
  abbrev pub over : ℕ → ℤ
  over t = get_or row t (pos 0) -ℤ get_or first t (pos 0)

  -- an arc that is over the first source's by e, or by another difference
  meets_at : (e : ℤ) (t : ℕ) → over t ≡ e → meets row first e t ≡ true
  unfolding meets
  meets_at e t h =
      let x = get_or row t (pos 0) in
      let y = get_or first t (pos 0) in
      let q : x ≡ e +ℤ y = omega (zarith, dif x y, sum e y, h) in
      is_true (eq_z x (e +ℤ y)) (subst (λ (z : ℤ). T (eq_z x z)) q (eq_z_refl x))

  meets_other : (e : ℤ) (t : ℕ) → (over t ≡ e → ⊥) → meets row first e t ≡ false
  unfolding meets
  meets_other e t h =
      let x = get_or row t (pos 0) in
      let y = get_or first t (pos 0) in
      is_false (eq_z x (e +ℤ y)) (λ k. h (let q = eq_z→eq x (e +ℤ y) k in omega (zarith, dif x y, sum e y, q)))

  module _ (xs : List ℕ) where
    abbrev f : ℕ → Delay
    f t = at (over t)

    abbrev met : ℤ → ℕ → ℕ
    met e t = cond (meets row first e t) 1 0

    sum_push : (h : ℕ → ℕ) (ys : List ℕ) (i : ℕ) → i + 1 < length ys → sum_over (take (suc (suc i)) ys) h ≡ sum_over (take (suc i) ys) h + h (get_or ys (suc i) 0)
    unfolding sum_over
    sum_push h [] i l = absurd (omega arith)
    sum_push h (y ∷ []) i l = absurd (omega arith)
    sum_push h (y ∷ z ∷ zs) zero l = omega arith
    sum_push h (y ∷ z ∷ zs) (suc i) l = omega (arith, sum_push h (z ∷ zs) i (omega arith))

    sum_one : (h : ℕ → ℕ) (ys : List ℕ) → 0 < length ys → sum_over (take 1 ys) h ≡ h (get_or ys 0 0)
    unfolding sum_over
    sum_one h [] l = absurd (omega arith)
    sum_one h (y ∷ ys) l = omega arith

    -- where e is less than the least, none is over by e
    none_met : (e d : ℤ) (ys : List ℕ) → at d ≡ least ys f → e <ℤ d → sum_over ys (met e) ≡ 0
    none_met e d ys h l = sum_over_none ys (λ t m. ap (λ (b : Bool). cond b 1 0) (meets_other e t (λ q. apart (over t) q (subst (λ (x : Delay). x ⊑ f t) (sym h) (least-⊑ ys f t m)))))
      where
        apart : (x : ℤ) → x ≡ e → at d ⊑ at x → ⊥
        apart x q k = let z = k.le in omega zarith

    -- after i targets more than one
    pub record Tallied (i : ℕ) (e : ℤ) (n : ℕ) : Type 0 where
      pub lowest : at e ≡ least (take (suc i) xs) (λ t. at (over t))
      pub count : n ≡ sum_over (take (suc i) xs) (λ t. cond (meets row first e t) 1 0)

    pub tallied_one : 0 < length xs → (e : ℤ) → e ≡ over (get_or xs 0 0) → Tallied 0 e 1
    tallied_one l e h = record {
      lowest = ap at h ∙ sym (least_one xs f l);
      count = sym (sum_one (met e) xs l ∙ ap (λ (b : Bool). cond b 1 0) (meets_at e (get_or xs 0 0) (sym h)));
    }

    module _ (i : ℕ) (l : i < length (take (length xs - 1) (drop 1 xs))) (e : ℤ) (n : ℕ) (h : Tallied i e n) (d : ℤ) (is : d ≡ over (get_or xs (i + 1) 0)) where
      one_more : (k : ℤ) → sum_over (take (suc (i + 1)) xs) (met k) ≡ sum_over (take (suc i) xs) (met k) + met k (get_or xs (i + 1) 0)
      one_more k = ap (λ (j : ℕ). sum_over (take (suc j) xs) (met k)) (add-one i) ∙ sum_push (met k) xs i (others_long xs i l) ∙ ap (λ (j : ℕ). sum_over (take (suc i) xs) (met k) + met k (get_or xs j 0)) (sym (add-one i))

      lowest_next : at (min_z e d) ≡ least (take (suc (i + 1)) xs) f
      lowest_next = least_turn_front xs i l f e d h.lowest (ap at is)

      pub tallied_less : d <ℤ e → Tallied (i + 1) d 1
      tallied_less k = record {
        lowest = ap at (sym (min_second e d k)) ∙ lowest_next;
        count = sym (one_more d ∙ ap₂ ◌+◌ (none_met d e (take (suc i) xs) h.lowest k) (ap (λ (b : Bool). cond b 1 0) (meets_at d (get_or xs (i + 1) 0) (sym is))));
      }

      pub tallied_same : d ≡ e → Tallied (i + 1) e (n + 1)
      tallied_same k = record {
        lowest = ap at (sym (min_first e d (λ z. omega (zarith, z, k)))) ∙ lowest_next;
        count = sym (one_more e ∙ ap₂ ◌+◌ (sym h.count) (ap (λ (b : Bool). cond b 1 0) (meets_at e (get_or xs (i + 1) 0) (sym is ∙ k))));
      }

      pub tallied_more : e <ℤ d → Tallied (i + 1) e n
      tallied_more k = record {
        lowest = ap at (sym (min_first e d (λ z. omega (zarith, z, k)))) ∙ lowest_next;
        count = omega (arith, one_more e, h.count, ap (λ (b : Bool). cond {A = ℕ} b 1 0) (meets_other e (get_or xs (i + 1) 0) (λ q. omega (zarith, is, q, k))));
      }

    pub tallied_least : (i : ℕ) → 0 < length xs → length (take (length xs - 1) (drop 1 xs)) ≤ i → (e : ℤ) (n : ℕ) → Tallied i e n → at e ≡ least_gap row first xs
    unfolding least_gap
    tallied_least i p l e n h = h.lowest ∙ least_whole xs i f p l

    pub tallied_all : (i : ℕ) → 0 < length xs → length (take (length xs - 1) (drop 1 xs)) ≤ i → (e : ℤ) (n : ℕ) → Tallied i e n → n ≡ meeting row first xs (gap row first xs)
    unfolding meeting least_gap
    tallied_all i p l e n h =
        h.count ∙ ap (λ (ys : List ℕ). sum_over ys (met e)) (take_all (suc i) xs (let q : length (take (length xs - 1) (drop 1 xs)) ≡ length xs - 1 = grind (arith, places) in omega arith))
        ∙ ap (λ (k : ℤ). sum_over xs (met k)) (ap ticks (tallied_least i p l e n h))
