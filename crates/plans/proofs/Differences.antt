-- The common difference, found place by place: what the places seen so far say, and that it is `common_difference` in the end.
use Rattle.std.specs.Prelude.{Err, Ok, Result, Option, None, Some}
use Rattle.std.specs.Option.{ok_or}
use mathlib.Core.Path.{◌≡◌, refl, sym, ap, ◌∙◌, subst}
use mathlib.Core.Bool.{Bool, ◌&&◌}
use Prim.Native.Nat.{ℕ, zero, suc, ◌+◌, ◌≤◌, ◌<◌}
use native.Mathlib.Nat.{not-suc-le-zero, eq-or-lt_of_le, le_of_suc-le-suc}
use native.Mathlib.Numerals.{add-one}
use native.Mathlib.Omega.{arith}
use lib.Dec.{T, T_not, ltb, ltb→lt, lt→ltb}
use lib.IntN.{ℤ, ◌+ℤ◌, ◌-ℤ◌}
use Rattle.laws.specs.Bounded.{every, first}
use Rattle.laws.specs.Integers.{eq_z}
use Rattle.laws.proofs.Booleans.{and_i, and_e, is_true, is_false, cond_elim, split}
use Rattle.laws.proofs.Bounded.{below_suc, every_at, every_all, first_holds, first_below}
use Rattle.laws.proofs.Integers.{eq_z→eq, eq_z_refl}
use Rattle.laws.proofs.Linear.{zarith, sum, dif}
use Rattle.graph.specs.Delay.{Delay, absent, at, present, ticks, ◌⊕◌, eq_d}
use Rattle.graph.proofs.Delay.{eq_d→eq, eq→eq_d}
use Rattle.graph.proofs.Presence.{not-present, at_present, ticks_is}
use Rattle.timing.specs.declared.Refusal.{Refusal}
use Rattle.timing.specs.declared.Refusal.TheVariants.{NoCommonDifference}
use Rattle.timing.specs.Refusal.{number, refused, accepted, require, verdict}
use Rattle.reduction.specs.Common.{first_difference, common_difference}
use Rattle.plans.specs.Comparing.{compared, compared_on, seen, settled}

pub seen_none : (a b : ℕ → Delay) → Ok None ≡ seen 0 a b
unfolding seen
seen_none a b = refl

pub seen_more : (a b : ℕ → Delay) (j : ℕ) (s : Option ℤ) → Ok s ≡ seen j a b → compared s (a j) (b j) ≡ seen (j + 1) a b
unfolding seen
seen_more a b j s e = ap (λ (r : Result (Option ℤ) Refusal). compared_on r (a j) (b j)) e ∙ ap (λ (k : ℕ). seen k a b) (sym (add-one j))

-- a refusal settles it
seen_refused : (a b : ℕ → Delay) (j n : ℕ) (x : Refusal) → j ≤ n → seen j a b ≡ Err x → seen n a b ≡ Err x
unfolding seen
seen_refused a b j zero x h e = let q : 0 ≡ j = omega arith in ap (λ (k : ℕ). seen k a b) q ∙ e
seen_refused a b j (suc n) x h e =
    split (eq-or-lt_of_le h) (λ q. sym (ap (λ (k : ℕ). seen k a b) q) ∙ e)
    (λ l. ap (λ (r : Result (Option ℤ) Refusal). compared_on r (a n) (b n)) (seen_refused a b j n x (le_of_suc-le-suc l) e))

seen_same : (n : ℕ) (a b a' b' : ℕ → Delay) → ((j : ℕ) → j < n → (a j ≡ a' j) × (b j ≡ b' j)) → seen n a b ≡ seen n a' b'
unfolding seen
seen_same zero a b a' b' h = refl
seen_same (suc n) a b a' b' h = let e = h n (omega arith) in λ i. compared_on (seen_same n a b a' b' (λ j l. h j (omega arith)) i) (e.0 i) (e.1 i)

-- ---- what the first n places say

-- delays that differ by e
shift : (x y e : ℤ) → y -ℤ x ≡ e → at y ≡ at x ⊕ at e
shift x y e q = ap at (omega (zarith, dif y x, sum x e))

unshift : (x y e : ℤ) → at y ≡ at x ⊕ at e → y -ℤ x ≡ e
unshift x y e q = let z : y ≡ x +ℤ e = ap ticks q in omega (zarith, dif y x, sum x e)

module _ (a b : ℕ → Delay) where
  -- b is a plus e
  abbrev Shifted : ℕ → ℤ → Type 0
  Shifted n e = (j : ℕ) → j < n → b j ≡ a j ⊕ at e

  abbrev Says : Result (Option ℤ) Refusal → ℕ → Type 0
  Says (Ok None) n = (j : ℕ) → j < n → (a j ≡ absent) × (b j ≡ absent)
  Says (Ok (Some e)) n = ((k : ℕ) × (k < n) × T (present (a k))) × Shifted n e
  Says (Err r) n = (r ≡ NoCommonDifference) × ((e : ℤ) → Shifted n e → ⊥)

  -- b at a joined place
  joined_at : {k : ℕ} {e : ℤ} → T (present (a k)) → b k ≡ a k ⊕ at e → ticks (b k) -ℤ ticks (a k) ≡ e
  joined_at {k} {e} t h =
      let x : a k ≡ at (ticks (a k)) = ticks_is (a k) t in
      let y : b k ≡ at (ticks (a k) +ℤ e) = h ∙ ap (λ (d : Delay). d ⊕ at e) x in
      let z : ticks (b k) ≡ ticks (a k) +ℤ e = ap ticks y in
      omega (zarith, dif (ticks (b k)) (ticks (a k)), sum (ticks (a k)) e)

  says_step : (n : ℕ) (s : Option ℤ) (x y : Delay) → a n ≡ x → b n ≡ y → Says (Ok s) n → Says (compared s x y) (suc n)
  says_step n None absent absent p q h = below_suc (λ j. (a j ≡ absent) × (b j ≡ absent)) n h (p, q)
  says_step n (Some e) absent absent p q h = ((h.0.0, omega (arith, h.0.1), h.0.2), below_suc (λ j. b j ≡ a j ⊕ at e) n h.1 (q ∙ sym (ap (λ (d : Delay). d ⊕ at e) p)))
  says_step n s absent (at y) p q h = (refl, λ e sh. not-present (at y) (sym q ∙ sh n (omega arith) ∙ ap (λ (d : Delay). d ⊕ at e) p) tt)
  says_step n s (at x) absent p q h = (refl, λ e sh. not-present (at (x +ℤ e)) (sym (ap (λ (d : Delay). d ⊕ at e) p) ∙ sym (sh n (omega arith)) ∙ q) tt)
  says_step n None (at x) (at y) p q h =
      ((n, omega arith, at_present p), below_suc (λ j. b j ≡ a j ⊕ at (y -ℤ x)) n (λ j l. (h j l).1 ∙ sym (ap (λ (d : Delay). d ⊕ at (y -ℤ x)) (h j l).0)) (q ∙ shift x y (y -ℤ x) refl ∙ sym (ap (λ (d : Delay). d ⊕ at (y -ℤ x)) p)))
  says_step n (Some e) (at x) (at y) p q h = cond_elim (λ (r : Result (Option ℤ) Refusal). Says r (suc n)) (eq_z (y -ℤ x) e) (Ok (Some e)) (Err NoCommonDifference)
      (λ t. ((h.0.0, omega (arith, h.0.1), h.0.2), below_suc (λ j. b j ≡ a j ⊕ at e) n h.1 (q ∙ shift x y e (eq_z→eq (y -ℤ x) e t) ∙ sym (ap (λ (d : Delay). d ⊕ at e) p))))
      (λ t. (refl, λ f sh. T_not (eq_z (y -ℤ x) e) t (subst (λ (z : ℤ). T (eq_z (y -ℤ x) z)) (other f sh) (eq_z_refl (y -ℤ x)))))
    where
      other : (f : ℤ) → Shifted (suc n) f → y -ℤ x ≡ e
      other f sh =
          unshift x y f (sym q ∙ sh n (omega arith) ∙ ap (λ (d : Delay). d ⊕ at f) p)
          ∙ sym (joined_at {k = h.0.0} {e = f} h.0.2 (sh h.0.0 (omega (arith, h.0.1)))) ∙ joined_at {k = h.0.0} {e = e} h.0.2 (h.1 h.0.0 h.0.1)

  says_on : (n : ℕ) (r : Result (Option ℤ) Refusal) → Says r n → Says (compared_on r (a n) (b n)) (suc n)
  says_on n (Ok s) h = says_step n s (a n) (b n) refl refl h
  says_on n (Err x) h = (h.0, λ e sh. h.1 e (λ j l. sh j (omega arith)))

  says : (n : ℕ) → Says (seen n a b) n
  unfolding seen
  says zero = λ j l. absurd (not-suc-le-zero l)
  says (suc n) = says_on n (seen n a b) (says n)

  module _ (n : ℕ) where
    abbrev f : ℕ
    f = first n (λ j. present (a j))

    abbrev fd : ℤ
    fd = first_difference n a b

    abbrev same : ℕ → Bool
    same j = eq_d (b j) (a j ⊕ at fd)

    not_common : (f < n → Shifted n fd → ⊥) → refused 11 ≡ common_difference n a b
    unfolding common_difference
    not_common h = sym (ap (λ (c : Bool). require c NoCommonDifference (accepted fd)) (is_false (ltb f n && every n same) (λ t.
        let p = and_e (ltb f n) (every n same) t in
        h (ltb→lt f n p.0) (λ j l. eq_d→eq (b j) (a j ⊕ at fd) (every_at n same p.1 j l)))))

    is_common : (e : ℤ) → f < n → Shifted n e → accepted e ≡ common_difference n a b
    unfolding common_difference
    is_common e l sh =
        let q : fd ≡ e = joined_at {k = f} {e = e} (first_holds n (λ j. present (a j)) l) (sh f l) in
        sym (ap (λ (c : Bool). require c NoCommonDifference (accepted fd)) (is_true (ltb f n && every n same)
        (and_i (ltb f n) (every n same) (lt→ltb f n l) (every_all n same (λ j k. eq→eq_d (b j) (a j ⊕ at fd) (sh j k ∙ ap (λ (z : ℤ). a j ⊕ at z) (sym q)))))) ∙ ap accepted q)

    settles : (r : Result (Option ℤ) Refusal) → Says r n → verdict (settled r) ≡ common_difference n a b
    settles (Ok None) h = not_common (λ l _. not-present (a f) (h f l).0 (first_holds n (λ j. present (a j)) l))
    settles (Ok (Some e)) h = is_common e (first_below n (λ j. present (a j)) h.0.0 h.0.1 h.0.2) h.1
    settles (Err x) h = ap (λ (y : Refusal). refused (number y)) h.0 ∙ not_common (λ _ sh. h.1 fd sh)

  pub seen_common : (n : ℕ) → verdict (settled (seen n a b)) ≡ common_difference n a b
  seen_common n = settles n (seen n a b) (says n)

  -- where all n places are seen
  pub seen_ends : (j n : ℕ) (s : Option ℤ) → Ok s ≡ seen j a b → j ≡ n → verdict (ok_or s NoCommonDifference) ≡ common_difference n a b
  seen_ends j n s e q = ap (λ (r : Result (Option ℤ) Refusal). verdict (settled r)) (e ∙ ap (λ (k : ℕ). seen k a b) q) ∙ seen_common n

  -- where place j refuses
  pub seen_refuses : (j n : ℕ) (s : Option ℤ) (x : Refusal) → Ok s ≡ seen j a b → j < n → Err x ≡ compared s (a j) (b j) → refused (number x) ≡ common_difference n a b
  seen_refuses j n s x e l q =
      sym (ap (λ (r : Result (Option ℤ) Refusal). verdict (settled r)) (seen_refused a b (j + 1) n x (omega arith) (sym (seen_more a b j s e) ∙ sym q))) ∙ seen_common n

-- it depends on the first n places alone
pub common_same : (n : ℕ) (a b a' b' : ℕ → Delay) → ((j : ℕ) → j < n → (a j ≡ a' j) × (b j ≡ b' j)) → common_difference n a b ≡ common_difference n a' b'
common_same n a b a' b' h = sym (seen_common a b n) ∙ ap (λ (r : Result (Option ℤ) Refusal). verdict (settled r)) (seen_same n a b a' b' h) ∙ seen_common a' b' n
