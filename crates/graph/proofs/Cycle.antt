-- The test for a cycle: `longest` has a delay from u to v exactly when some path leads there, in any graph on vertices below N. Presence does not
-- depend on the numbers, so the proof puts every delay to 0, where no path from a vertex to itself is above 0.
use mathlib.Core.Path.{◌≡◌, refl, sym, ap, ap₂, ◌∙◌, subst}
use mathlib.Core.Logic.{◌⊎◌, inl, inr}
use mathlib.Core.List.{List, [], ◌∷◌}
use Prim.Native.Nat.{ℕ, zero, suc, ◌<◌}
use lib.Dec.{T}
use Rattle.graph.specs.Delay.{Delay, absent, at, present, immediate, ◌⋓◌, ◌⊕◌, ◌⊑◌}
use Rattle.graph.specs.Graph.{Graph, path_delay, Acyclic, longest}
use Rattle.graph.proofs.Delay.{absent_⊑, ⊑_refl, ⊑_trans, ⊑-eq, ⋓-idem}
use Rattle.graph.proofs.Presence.{present_l, present-⊑, absent_or, not-present}
use Rattle.graph.proofs.Longest.{Within, Flat, longest-reached, longest-greatest}

-- 0 in place of every number
abbrev zeroed : Delay → Delay
zeroed absent = absent
zeroed (at d) = immediate

abbrev zeroed_graph : Graph → Graph
zeroed_graph g u v = zeroed (g u v)

zeroed_⊕ : (x y : Delay) → zeroed (x ⊕ y) ≡ zeroed x ⊕ zeroed y
zeroed_⊕ absent y = refl
zeroed_⊕ (at a) absent = refl
zeroed_⊕ (at a) (at b) = refl

zeroed_⋓ : (x y : Delay) → zeroed (x ⋓ y) ≡ zeroed x ⋓ zeroed y
zeroed_⋓ absent y = refl
zeroed_⋓ (at a) absent = refl
zeroed_⋓ (at a) (at b) = sym (⋓-idem immediate)

zeroed_low : (x : Delay) → zeroed x ⊑ immediate
zeroed_low absent = absent_⊑ immediate
zeroed_low (at a) = ⊑_refl immediate

zeroed_present : (x : Delay) → T (present x) → T (present (zeroed x))
zeroed_present absent t = t
zeroed_present (at a) t = tt

present_zeroed : (x : Delay) → T (present (zeroed x)) → T (present x)
present_zeroed absent t = t
present_zeroed (at a) t = tt

zeroed_path : (g : Graph) (u : ℕ) (xs : List ℕ) (v : ℕ) → path_delay (zeroed_graph g) u xs v ≡ zeroed (path_delay g u xs v)
zeroed_path g u [] v = refl
zeroed_path g u (x ∷ xs) v = ap (λ (d : Delay). zeroed (g u x) ⊕ d) (zeroed_path g x xs v) ∙ sym (zeroed_⊕ (g u x) (path_delay g x xs v))

zeroed_longest : (g : Graph) (k u v : ℕ) → longest (zeroed_graph g) k u v ≡ zeroed (longest g k u v)
unfolding longest
zeroed_longest g zero u v = refl
zeroed_longest g (suc k) u v =
    ap₂ ◌⋓◌ (zeroed_longest g k u v) (ap₂ ◌⊕◌ (zeroed_longest g k u k) (zeroed_longest g k k v) ∙ sym (zeroed_⊕ (longest g k u k) (longest g k k v)))
    ∙ sym (zeroed_⋓ (longest g k u v) (longest g k u k ⊕ longest g k k v))

-- a path leads from u to v
pub path_found : {N : ℕ} {g : Graph} → Within N g → (u : ℕ) (xs : List ℕ) (v : ℕ) → T (present (path_delay g u xs v)) → T (present (longest g N u v))
path_found {N} {g} w u xs v t =
    present_zeroed (longest g N u v) (subst (λ (d : Delay). T (present d)) (zeroed_longest g N u v)
    (present-⊑ ((longest-greatest N (zeroed_graph g) within flat).bound u xs v)
    (subst (λ (d : Delay). T (present d)) (sym (zeroed_path g u xs v)) (zeroed_present (path_delay g u xs v) t))))
  where
    within : Within N (zeroed_graph g)
    within = record { in_range = λ x y s. w.in_range x y (present_zeroed (g x y) s) }

    flat : Flat (zeroed_graph g)
    flat = record { low = λ y ys. ⊑_trans (⊑-eq (zeroed_path g y ys y)) (zeroed_low (path_delay g y ys y)) }

-- the test passes: no vertex below N has a path to itself
pub test_acyclic : {N : ℕ} {g : Graph} → Within N g → ((v : ℕ) → v < N → longest g N v v ≡ absent) → Acyclic g
test_acyclic {N} {g} w h = record { no_loop = λ v xs. go v xs (absent_or (path_delay g v xs v)) }
  where
    start : (v : ℕ) (xs : List ℕ) → T (present (path_delay g v xs v)) → v < N
    start v [] t = (w.in_range v v t).0
    start v (x ∷ xs) t = (w.in_range v x (present_l (g v x) (path_delay g x xs v) t)).0

    go : (v : ℕ) (xs : List ℕ) → (path_delay g v xs v ≡ absent) ⊎ T (present (path_delay g v xs v)) → path_delay g v xs v ≡ absent
    go v xs (inl e) = e
    go v xs (inr t) = absurd (not-present (longest g N v v) (h v (start v xs t)) (path_found w v xs v t))

pub acyclic_test : (N : ℕ) {g : Graph} → Acyclic g → (v : ℕ) → longest g N v v ≡ absent
acyclic_test N {g} a v = let p = longest-reached g N v v in sym p.1 ∙ a.no_loop v p.0
