-- `longest` finds the greatest delay of all paths, in a graph on vertices below N without a cycle.
use mathlib.Core.Path.{◌≡◌, refl, sym, ap, ◌∙◌, subst}
use mathlib.Core.Logic.{◌⊎◌, inl, inr}
use mathlib.Core.List.{List, [], ◌∷◌, ◌++◌}
use Prim.Native.Nat.{ℕ, zero, suc, ◌<◌}
use native.Mathlib.Nat.{eq-or-lt_of_le, le_of_suc-le-suc, not-suc-le-zero}
use lib.Dec.{T}
use Rattle.graph.specs.Delay.{Delay, absent, at, present, immediate, ◌⋓◌, ◌⊕◌, ◌⊑◌}
use Rattle.graph.specs.Graph.{Graph, path_delay, Acyclic, Longest, longest}
use Rattle.graph.proofs.Delay.{absent_⊑, ⊑_refl, ⊑_trans, ⊑-antisym, ⊑-eq, ⊕-immediate, immediate-⊕, ⊕-assoc, ⊕-mono, ⊕-left, ⊕-right, ⋓-sel, ⋓-elim, ⋓-l, ⋓-r, ⋓-lub}

-- each arc joins vertices below N
pub record Within (N : ℕ) (g : Graph) : Type 0 where
  pub in_range : (u v : ℕ) → T (present (g u v)) → (u < N) × (v < N)

-- no path from a vertex to itself has a delay above 0: of a graph without a cycle, and of any graph whose delays are all 0
pub record Flat (g : Graph) : Type 0 where
  pub low : (v : ℕ) (xs : List ℕ) → path_delay g v xs v ⊑ immediate

acyclic_flat : {g : Graph} → Acyclic g → Flat g
acyclic_flat a = record { low = λ v xs. ⊑_trans (⊑-eq (a.no_loop v xs)) (absent_⊑ immediate) }

pub path_append : (g : Graph) (u : ℕ) (xs : List ℕ) (x : ℕ) (ys : List ℕ) (v : ℕ)
    → path_delay g u (xs ++ x ∷ ys) v ≡ path_delay g u xs x ⊕ path_delay g x ys v
path_append g u [] x ys v = refl
path_append g u (z ∷ xs) x ys v = ap (λ (t : Delay). g u z ⊕ t) (path_append g z xs x ys v) ∙ sym (⊕-assoc (g u z) (path_delay g z xs x) (path_delay g x ys v))

-- one vertex more that paths may lead through
abbrev round : Graph → ℕ → Graph
round D k u v = D u v ⋓ (D u k ⊕ D k v)

pub longest-reached : (g : Graph) (k u v : ℕ) → (xs : List ℕ) × (path_delay g u xs v ≡ longest g k u v)
unfolding longest
longest-reached g zero u v = ([], refl)
longest-reached g (suc k) u v = go (longest-reached g k u v) (longest-reached g k u k) (longest-reached g k k v) (⋓-sel (longest g k u v) (longest g k u k ⊕ longest g k k v))
  where
    go : ((xs : List ℕ) × (path_delay g u xs v ≡ longest g k u v)) → ((xs : List ℕ) × (path_delay g u xs k ≡ longest g k u k)) → ((xs : List ℕ) × (path_delay g k xs v ≡ longest g k k v))
        → ((longest g k u v ⊑ longest g k u k ⊕ longest g k k v) × (round (longest g k) k u v ≡ longest g k u k ⊕ longest g k k v))
        ⊎ ((longest g k u k ⊕ longest g k k v ⊑ longest g k u v) × (round (longest g k) k u v ≡ longest g k u v))
        → (xs : List ℕ) × (path_delay g u xs v ≡ round (longest g k) k u v)
    go a b c (inl h) = (b.0 ++ k ∷ c.0, path_append g u b.0 k c.0 v ∙ cc)
    go a b c (inr h) = (a.0, cc)

longest_ge : (g : Graph) (k u v : ℕ) → g u v ⊑ longest g k u v
unfolding longest
longest_ge g zero u v = ⊑_refl (g u v)
longest_ge g (suc k) u v = ⊑_trans (longest_ge g k u v) (⋓-l (longest g k u v) (longest g k u k ⊕ longest g k k v))

-- a round keeps what is closed under the vertices below k, and closes it under k, where no path from k to k has a delay above 0
module _ (D : Graph) (k : ℕ) (loop : D k k ⊑ immediate) where
  -- the round leaves column k and row k as they were: it may be done in place
  round_col : (u : ℕ) → round D k u k ≡ D u k
  round_col u = ⊑-antisym (⋓-lub (⊑_refl (D u k)) (⊑_trans (⊕-left (D u k) loop) (⊑-eq (⊕-immediate (D u k))))) (⋓-l (D u k) (D u k ⊕ D k k))

  round_row : (v : ℕ) → round D k k v ≡ D k v
  round_row v = ⊑-antisym (⋓-lub (⊑_refl (D k v)) (⊑_trans (⊕-right (D k v) loop) (⊑-eq (immediate-⊕ (D k v))))) (⋓-l (D k v) (D k k ⊕ D k v))

  round_old : (x : ℕ) → ((u v : ℕ) → D u x ⊕ D x v ⊑ D u v) → (u v : ℕ) → round D k u x ⊕ round D k x v ⊑ round D k u v
  round_old x c u v =
      ⋓-elim (λ (t : Delay). t ⊕ round D k x v ⊑ round D k u v) (D u x) (D u k ⊕ D k x)
      (⋓-elim (λ (t : Delay). D u x ⊕ t ⊑ round D k u v) (D x v) (D x k ⊕ D k v)
      (⊑_trans (c u v) (⋓-l (D u v) (D u k ⊕ D k v)))
      (rw (← (⊕-assoc (D u x) (D x k) (D k v))) (⊑_trans (⊕-right (D k v) (c u k)) via)))
      (⋓-elim (λ (t : Delay). (D u k ⊕ D k x) ⊕ t ⊑ round D k u v) (D x v) (D x k ⊕ D k v)
      (rw (⊕-assoc (D u k) (D k x) (D x v)) (⊑_trans (⊕-left (D u k) (c k v)) via))
      (rw (⊕-assoc (D u k) (D k x) (D x k ⊕ D k v), ← (⊕-assoc (D k x) (D x k) (D k v)))
      (⊑_trans (⊕-left (D u k) (⊑_trans (⊕-right (D k v) (⊑_trans (c k k) loop)) (⊑-eq (immediate-⊕ (D k v))))) via)))
    where
      via : D u k ⊕ D k v ⊑ round D k u v
      via = ⋓-r (D u v) (D u k ⊕ D k v)

  round_new : (u v : ℕ) → round D k u k ⊕ round D k k v ⊑ round D k u v
  round_new u v = rw (round_col u, round_row v) (⋓-r (D u v) (D u k ⊕ D k v))

longest_low : (g : Graph) → Flat g → (k v : ℕ) → longest g k v v ⊑ immediate
longest_low g a k v = ⊑_trans (⊑-eq (sym (longest-reached g k v v).1)) (a.low v (longest-reached g k v v).0)

longest_closed : (g : Graph) → Flat g → (k x : ℕ) → x < k → (u v : ℕ) → longest g k u x ⊕ longest g k x v ⊑ longest g k u v
unfolding longest
longest_closed g a zero x h = absurd (not-suc-le-zero h)
longest_closed g a (suc k) x h = go (longest_closed g a k) (eq-or-lt_of_le (le_of_suc-le-suc h))
  where
    none : longest g k k k ⊑ immediate
    none = longest_low g a k k

    go : ((x : ℕ) → x < k → (u v : ℕ) → longest g k u x ⊕ longest g k x v ⊑ longest g k u v) → (x ≡ k) ⊎ (x < k)
        → (u v : ℕ) → round (longest g k) k u x ⊕ round (longest g k) k x v ⊑ round (longest g k) k u v
    go ih (inl e) = rw e (round_new (longest g k) k none)
    go ih (inr l) = round_old (longest g k) k none x (ih x l)

-- on vertices below N, the algorithm finds the greatest delay of all paths
pub longest-greatest : (N : ℕ) (g : Graph) → Within N g → Flat g → Longest g (longest g N)
longest-greatest N g w a = record { bound = above; reached = λ u v. ((longest-reached g N u v).0, sym (longest-reached g N u v).1) }
  where
    step : (u x v : ℕ) (d : Delay) → d ≡ g u x → (y : Delay) → y ⊑ longest g N x v → d ⊕ y ⊑ longest g N u v
    step u x v absent e y h = absent_⊑ _
    step u x v (at d) e y h =
        ⊑_trans (⊕-mono (⊑_trans (⊑-eq e) (longest_ge g N u x)) h) (longest_closed g a N x (w.in_range u x (subst (λ (t : Delay). T (present t)) e tt)).1 u v)

    above : (u : ℕ) (xs : List ℕ) (v : ℕ) → path_delay g u xs v ⊑ longest g N u v
    above u [] v = longest_ge g N u v
    above u (x ∷ xs) v = step u x v (g u x) refl (path_delay g x xs v) (above x xs v)

pub longest_is : (N : ℕ) (g : Graph) → Within N g → Acyclic g → Longest g (longest g N)
longest_is N g w a = longest-greatest N g w (acyclic_flat a)
