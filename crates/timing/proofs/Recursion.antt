-- The arrivals and the required times are signals that settle, from the inputs and, mirrored, back from the outputs: so each meets 003's recursion, and
-- nothing else does. The statements of specs/Recursion.antt.
use mathlib.Core.Path.{◌≡◌, refl, sym, ap, ap₂, ◌∙◌}
use mathlib.Core.Bool.{Bool, cond, ◌&&◌}
use Prim.Native.Nat.{ℕ, ◌+◌, ◌-◌, ◌≤◌, ◌<◌}
use native.Mathlib.Decide.{dec_lt}
use native.Mathlib.Omega.{arith}
use borrow.Author.Tests.{lt-ltb, le-ltb}
use lib.Dec.{leb, ltb, leb→le, le→leb, ltb→lt, lt→ltb}
use Rattle.laws.proofs.Booleans.{and_i, and_e, T_true, is_false}
use Rattle.graph.specs.Delay.{Delay, absent, ◌⋓◌, ◌⋏◌, ◌⊕◌, ◌⊖◌, mirror, greatest, smallest}
use Rattle.graph.specs.Graph.{Graph, Longest, longest, reversed, propagated}
use Rattle.graph.proofs.Delay.{⊑-absent, ⋓-absent, none_r}
use Rattle.graph.proofs.Greatest.{greatest_ext, greatest_lub, greatest_pad, greatest_window}
use Rattle.graph.proofs.Longest.{Within, longest_is}
use Rattle.graph.proofs.Closure.{undriven}
use Rattle.graph.proofs.Rank.{Ranked, acyclic_ranked}
use Rattle.graph.proofs.Propagation.{propagated_equation, equation_is}
use Rattle.graph.proofs.Mirror.{same_mirror, mirror-⋏, mirror-⊖, mirror-smallest}
use Rattle.graph.proofs.Reversed.{longest-reversed, within_reversed, ranked_reversed}
use Rattle.timing.specs.Sound.{Sound}
use Rattle.timing.specs.Delays.{arrival_at}
use Rattle.timing.specs.Margins.{own_time, required_at}
use Rattle.timing.specs.Recursion.{ArrivalTimes, RequiredTimes, Only}
use Rattle.timing.proofs.Checks.{sound_within, sound_inputs}

-- ---- an output's own time

module _ (m n : ℕ) (r : ℕ → Delay) where
  pub own_output : (j : ℕ) → j < n → own_time m n r (m + j) ≡ r j
  own_output j h =
      let e : m + j - m ≡ j = omega arith in
      ap (λ (b : Bool). cond b (r (m + j - m)) absent) (T_true {b = leb m (m + j) && ltb (m + j) (m + n)} (and_i (leb m (m + j)) (ltb (m + j) (m + n)) (le→leb m (m + j) (omega arith)) (lt→ltb (m + j) (m + n) (omega arith))))
      ∙ ap r e

  own_none : (v : ℕ) → (m ≤ v → v < m + n → ⊥) → own_time m n r v ≡ absent
  own_none v h = ap (λ (b : Bool). cond b (r (v - m)) absent) (is_false (leb m v && ltb v (m + n)) (λ t. let p = and_e (leb m v) (ltb v (m + n)) t in h (leb→le m v p.0) (ltb→lt v (m + n) p.1)))

  pub own_low : (v : ℕ) → v < m → own_time m n r v ≡ absent
  own_low v l = own_none v (λ h _. omega arith)

  pub own_high : (v : ℕ) → m + n ≤ v → own_time m n r v ≡ absent
  own_high v l = own_none v (λ _ h. omega arith)

-- the smaller of x and of differences, mirrored: the greater of sums
mirror-least : (x : Delay) (n : ℕ) (f d : ℕ → Delay) → mirror (x ⋏ smallest n (λ i. f i ⊖ d i)) ≡ mirror x ⋓ greatest n (λ i. mirror (f i) ⊕ d i)
mirror-least x n f d =
    mirror-⋏ x (smallest n (λ i. f i ⊖ d i))
    ∙ ap (λ (y : Delay). mirror x ⋓ y) (mirror-smallest n (λ i. f i ⊖ d i) ∙ greatest_ext n (λ i. mirror (f i ⊖ d i)) (λ i. mirror (f i) ⊕ d i) (λ i _. mirror-⊖ (f i) (d i)))

module _ {m n N : ℕ} {g : Graph} (s : Sound m n N g) where
  w : Within N g
  w = sound_within s

  l : Longest g (longest g N)
  l = longest_is N g w s.acyclic

  ranked : Ranked g
  ranked = (acyclic_ranked N w s.acyclic).0

  back : Ranked (reversed g)
  unfolding ranked
  back = ranked_reversed ranked N (λ u v _. (acyclic_ranked N w s.acyclic).1 v)

  none_in : (F : ℕ → Delay) (v : ℕ) → v < m → greatest N (λ u. F u ⊕ g u v) ≡ absent
  none_in F v h = ⊑-absent (greatest_lub N (λ u. F u ⊕ g u v) absent (λ u _. none_r (F u) (sound_inputs s u v h)))

  -- ---- arrivals: signals that start at the inputs

  module _ (a F : ℕ → Delay) (inputs : (v : ℕ) → v < m → F v ≡ a v) (others : (v : ℕ) → m ≤ v → v < N → F v ≡ absent) where
    pub arrival_propagated : (v : ℕ) → v < N → propagated N g F v ≡ arrival_at m N g a v
    unfolding propagated arrival_at
    arrival_propagated v hv = go (dec_lt v m)
      where
        go : Dec (v < m) → F v ⋓ greatest N (λ u. F u ⊕ longest g N u v) ≡ cond (ltb v m) (a v) (greatest m (λ i. a i ⊕ longest g N i v))
        go (yes q) =
            ap₂ ◌⋓◌ (inputs v q) none ∙ ⋓-absent (a v) ∙ sym (ap (λ (c : Bool). cond c (a v) (greatest m (λ i. a i ⊕ longest g N i v))) (lt-ltb v m q))
          where
            none : greatest N (λ u. F u ⊕ longest g N u v) ≡ absent
            none = ⊑-absent (greatest_lub N (λ u. F u ⊕ longest g N u v) absent (λ u _. none_r (F u) (undriven l v (λ u. sound_inputs s u v q) u)))
        go (no q) =
            ap (λ (d : Delay). d ⋓ greatest N (λ u. F u ⊕ longest g N u v)) (others v (omega arith) hv)
            ∙ greatest_pad m N (λ u. F u ⊕ longest g N u v) (omega (arith, s.room)) (λ u lo hi. ap (λ (d : Delay). d ⊕ longest g N u v) (others u lo hi))
            ∙ greatest_ext m (λ u. F u ⊕ longest g N u v) (λ i. a i ⊕ longest g N i v) (λ i hi. ap (λ (d : Delay). d ⊕ longest g N i v) (inputs i hi))
            ∙ sym (ap (λ (c : Bool). cond c (a v) (greatest m (λ i. a i ⊕ longest g N i v))) (le-ltb v m (omega arith)))

  pub input_arrival : (a : ℕ → Delay) (v : ℕ) → v < m → arrival_at m N g a v ≡ a v
  unfolding arrival_at
  input_arrival a v h = ap (λ (c : Bool). cond c (a v) (greatest m (λ i. a i ⊕ longest g N i v))) (lt-ltb v m h)

  pub other_arrival : (a : ℕ → Delay) (v : ℕ) → m ≤ v → arrival_at m N g a v ≡ greatest m (λ i. a i ⊕ longest g N i v)
  unfolding arrival_at
  other_arrival a v h = ap (λ (c : Bool). cond c (a v) (greatest m (λ i. a i ⊕ longest g N i v))) (le-ltb v m h)

  pub arrival_recursion : (a : ℕ → Delay) → Only (ArrivalTimes m N g a) N (arrival_at m N g a)
  arrival_recursion a = record {
    meets = record { input = input_arrival a; other = λ v lo hi. other v lo hi };
    only = λ h H v hv. equation_is w ranked F h (λ v k. each h H v k (dec_lt v m)) v hv ∙ is v hv;
  }
    where
      F : ℕ → Delay
      F v = cond (ltb v m) (a v) absent

      here : (v : ℕ) → v < m → F v ≡ a v
      here v h = ap (λ (c : Bool). cond c (a v) absent) (lt-ltb v m h)

      none : (v : ℕ) → m ≤ v → F v ≡ absent
      none v h = ap (λ (c : Bool). cond c (a v) absent) (le-ltb v m h)

      is : (v : ℕ) → v < N → propagated N g F v ≡ arrival_at m N g a v
      is = arrival_propagated a F here (λ v h _. none v h)

      other : (v : ℕ) → m ≤ v → v < N → arrival_at m N g a v ≡ greatest N (λ u. arrival_at m N g a u ⊕ g u v)
      other v lo hi =
          sym (is v hi) ∙ propagated_equation w ranked F v
          ∙ ap₂ ◌⋓◌ (none v lo) (greatest_ext N (λ u. propagated N g F u ⊕ g u v) (λ u. arrival_at m N g a u ⊕ g u v) (λ u k. ap (λ (d : Delay). d ⊕ g u v) (is u k)))

      each : (h : ℕ → Delay) → ArrivalTimes m N g a h → (v : ℕ) → v < N → Dec (v < m) → h v ≡ F v ⋓ greatest N (λ u. h u ⊕ g u v)
      each h H v k (yes q) = H.input v q ∙ sym (ap₂ ◌⋓◌ (here v q) (none_in h v q) ∙ ⋓-absent (a v))
      each h H v k (no q) = H.other v (omega arith) k ∙ sym (ap (λ (d : Delay). d ⋓ greatest N (λ u. h u ⊕ g u v)) (none v (omega arith)))

  -- ---- required times, mirrored: signals that start at the outputs and go back

  pub mirror_required : (r : ℕ → Delay) (v : ℕ) → mirror (required_at m n N g r v) ≡ mirror (own_time m n r v) ⋓ greatest n (λ j. mirror (r j) ⊕ longest g N v (m + j))
  unfolding required_at
  mirror_required r v = mirror-least (own_time m n r v) n r (λ j. longest g N v (m + j))

  module _ (r F : ℕ → Delay) (own : (v : ℕ) → v < N → F v ≡ mirror (own_time m n r v)) where
    pub required_propagated : (v : ℕ) → v < N → propagated N (reversed g) F v ≡ mirror (required_at m n N g r v)
    unfolding propagated
    required_propagated v hv = ap₂ ◌⋓◌ (own v hv) far ∙ sym (mirror_required r v)
      where
        f : ℕ → Delay
        f u = mirror (own_time m n r u) ⊕ longest g N v u

        far : greatest N (λ u. F u ⊕ longest (reversed g) N u v) ≡ greatest n (λ j. mirror (r j) ⊕ longest g N v (m + j))
        far =
            greatest_ext N (λ u. F u ⊕ longest (reversed g) N u v) f (λ u k. ap₂ ◌⊕◌ (own u k) (longest-reversed g N u v))
            ∙ greatest_window m n N f s.room (λ u k. ap (λ (d : Delay). mirror d ⊕ longest g N v u) (own_low m n r u k)) (λ u k _. ap (λ (d : Delay). mirror d ⊕ longest g N v u) (own_high m n r u k))
            ∙ greatest_ext n (λ j. f (m + j)) (λ j. mirror (r j) ⊕ longest g N v (m + j)) (λ j k. ap (λ (d : Delay). mirror d ⊕ longest g N v (m + j)) (own_output m n r j k))

  pub required_recursion : (r : ℕ → Delay) → Only (RequiredTimes m n N g r) N (required_at m n N g r)
  required_recursion r = record {
    meets = record { each = λ v hv. same_mirror (sym (is v hv) ∙ propagated_equation (within_reversed w) back F v ∙ greatest_on v ∙ sym (mirror-least (own_time m n r v) N (required_at m n N g r) (g v))) };
    only = λ h H v hv. same_mirror (equation_is (within_reversed w) back F (λ v. mirror (h v)) (λ v k. ap mirror (H.each v k) ∙ mirror-least (own_time m n r v) N h (g v)) v hv ∙ is v hv);
  }
    where
      F : ℕ → Delay
      F v = mirror (own_time m n r v)

      is : (v : ℕ) → v < N → propagated N (reversed g) F v ≡ mirror (required_at m n N g r v)
      is = required_propagated r F (λ v _. refl)

      greatest_on : (v : ℕ) → F v ⋓ greatest N (λ u. propagated N (reversed g) F u ⊕ g v u) ≡ F v ⋓ greatest N (λ u. mirror (required_at m n N g r u) ⊕ g v u)
      greatest_on v = ap (λ (d : Delay). F v ⋓ d) (greatest_ext N (λ u. propagated N (reversed g) F u ⊕ g v u) (λ u. mirror (required_at m n N g r u) ⊕ g v u) (λ u k. ap (λ (d : Delay). d ⊕ g v u) (is u k)))
