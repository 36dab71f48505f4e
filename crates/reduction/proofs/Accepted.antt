-- What an accepted verdict says: its conditions, one record a verdict.
use mathlib.Core.Path.{◌≡◌, ◌∙◌, subst}
use mathlib.Core.Logic.{◌≢◌}
use mathlib.Core.Bool.{not, ◌&&◌, ◌||◌}
use mathlib.Core.List.{List}
use Prim.Native.Nat.{ℕ, ◌+◌, ◌<◌}
use lib.Dec.{T, eqb, leb, ltb, eqb→eq, le→leb, ltb→lt, lt→ltb}
use lib.IntN.{ℤ}
use lib.ListN.{length}
use Rattle.laws.specs.Bounded.{every, first, each}
use Rattle.laws.proofs.Booleans.{and_i, and_e, neqb→ne, ne→neqb}
use Rattle.laws.proofs.Bounded.{every_at}
use Rattle.graph.specs.Delay.{Delay, absent, at, present, ◌⊕◌, eq_d}
use Rattle.graph.specs.Graph.{Graph, longest}
use Rattle.graph.specs.Count.{fan_in, fan_out, arcs}
use Rattle.graph.proofs.Delay.{eq_d→eq}
use Rattle.graph.proofs.Presence.{absent_unless}
use Rattle.timing.specs.declared.Refusal.TheVariants.{WrongVertex, WrongSet, NumberTaken, WrongArcs, NoCommonDifference, PathBack, NothingSaved, DelayOutOfRange}
use Rattle.timing.specs.Limits.{delay_limit, fits}
use Rattle.timing.specs.Refusal.{accepted, ◌then◌}
use Rattle.timing.specs.Delays.{matrix, column}
use Rattle.timing.proofs.Verdict.{require_accepted, accepted_require, then_accepted, same_accepted}
use Rattle.reduction.specs.Outcome.{is_input, is_output, is_inner, unused}
use Rattle.reduction.specs.Common.{first_difference, common_difference}
use Rattle.reduction.specs.Shrink.{shrink_verdict}
use Rattle.reduction.specs.Deletion.{deletes}
use Rattle.reduction.specs.ShareInputs.{inputs_shared, enough_out, two_out, inputs_saved, share_inputs_verdict}
use Rattle.reduction.specs.ShareOutputs.{enough_in, outputs_saved, share_outputs_verdict}
use Rattle.reduction.specs.Prune.{pruned, prune_verdict}
use Rattle.reduction.specs.MergeBack.{driver, driver_delay, merge_fits, merge_back_verdict}
use Rattle.reduction.specs.Star.{non_empty, distinct, to_centre, covered_arcs, star_verdict}
use Rattle.reduction.proofs.Better.{Output, Inner, output_of, inner_of, inner_is}

-- b is a plus e at every place
pub common_accepted : (n : ℕ) (a b : ℕ → Delay) (e : ℤ) → common_difference n a b ≡ accepted e → (j : ℕ) → j < n → b j ≡ a j ⊕ at e
unfolding common_difference
common_accepted n a b e q j l =
    let p = require_accepted (ltb (first n (λ j. present (a j))) n && every n (λ j. eq_d (b j) (a j ⊕ at (first_difference n a b)))) NoCommonDifference _ e q in
    let h = and_e (ltb (first n (λ j. present (a j))) n) (every n (λ j. eq_d (b j) (a j ⊕ at (first_difference n a b)))) p.0 in
    subst (λ (d : ℤ). b j ≡ a j ⊕ at d) (same_accepted p.1)
    (eq_d→eq (b j) (a j ⊕ at (first_difference n a b)) (every_at n (λ j. eq_d (b j) (a j ⊕ at (first_difference n a b))) h.1 j l))

pub record ShrinkAccepted (m n N k : ℕ) (g : Graph) : Type 0 where
  pub inner : Inner m n N k
  pub relay : T (eqb (fan_in N g k) 1 || eqb (fan_out N g k) 1)
  pub in_range : T (every N (λ u. every N (λ t. fits delay_limit (g u k ⊕ g k t))))

pub shrink_accepted : (m n N k : ℕ) (g : Graph) (x : Unit {0}) → shrink_verdict m n N k g ≡ accepted x → ShrinkAccepted m n N k g
unfolding shrink_verdict
shrink_accepted m n N k g x q =
    let p7 = require_accepted (is_inner m n N k) WrongVertex _ x q in
    let p10 = require_accepted (eqb (fan_in N g k) 1 || eqb (fan_out N g k) 1) WrongArcs _ x p7.1 in
    let p14 = require_accepted (every N (λ u. every N (λ t. fits delay_limit (g u k ⊕ g k t)))) DelayOutOfRange _ x p10.1 in
    record { inner = inner_of m n N k p7.0; relay = p10.0; in_range = p14.0 }

pub record ShareInputsAccepted (m n N a b k : ℕ) (g : Graph) (e : ℤ) : Type 0 where
  pub input_a : a < m
  pub input_b : b < m
  pub two : a ≢ b
  pub inner : Inner m n N k
  pub free : T (unused N g k)
  pub difference : common_difference n (matrix m N g a) (matrix m N g b) ≡ accepted e
  pub pays : T (enough_out N g b || (two_out N g b && deletes m n N (inputs_shared a b k e g)))
  pub in_range : T (fits delay_limit (at e))

pub share_inputs_accepted : (m n N a b k : ℕ) (g : Graph) (e : ℤ) → share_inputs_verdict m n N a b k g ≡ accepted e → ShareInputsAccepted m n N a b k g e
unfolding share_inputs_verdict
share_inputs_accepted m n N a b k g e q =
    let p7 = require_accepted (is_input m a && is_input m b && not (eqb a b) && ltb k N) WrongVertex _ e q in
    let p8 = require_accepted (is_inner m n N k && unused N g k) NumberTaken _ e p7.1 in
    let p11 = then_accepted (common_difference n (matrix m N g a) (matrix m N g b)) (inputs_saved m n N a b k g) e p8.1 in
    let p13 = require_accepted (enough_out N g b || (two_out N g b && deletes m n N (inputs_shared a b k p11.0 g))) NothingSaved _ e p11.2 in
    let p14 = require_accepted (fits delay_limit (at p11.0)) DelayOutOfRange _ e p13.1 in
    let h = and_e (is_input m a && is_input m b) (not (eqb a b)) (and_e (is_input m a && is_input m b && not (eqb a b)) (ltb k N) p7.0).0 in
    let i = and_e (is_input m a) (is_input m b) h.0 in
    let f = and_e (is_inner m n N k) (unused N g k) p8.0 in
    record {
      input_a = ltb→lt a m i.0;
      input_b = ltb→lt b m i.1;
      two = neqb→ne a b h.1;
      inner = inner_of m n N k f.0;
      free = f.1;
      difference = p11.1 ∙ p14.1;
      pays = subst (λ (z : ℤ). T (enough_out N g b || (two_out N g b && deletes m n N (inputs_shared a b k z g)))) (same_accepted p14.1) p13.0;
      in_range = subst (λ (z : ℤ). T (fits delay_limit (at z))) (same_accepted p14.1) p14.0;
    }

-- the verdict once the vertices are right
pub inputs_asked : (m n N a b k : ℕ) (g : Graph) → a < m → b < m → a ≢ b → Inner m n N k → T (unused N g k)
    → share_inputs_verdict m n N a b k g ≡ (common_difference n (matrix m N g a) (matrix m N g b) then inputs_saved m n N a b k g)
unfolding share_inputs_verdict
inputs_asked m n N a b k g ha hb ab hk free =
    let low = lt→ltb k N hk.1 in
    accepted_require (is_input m a && is_input m b && not (eqb a b) && ltb k N) WrongVertex _
    (and_i (is_input m a && is_input m b && not (eqb a b)) (ltb k N) (and_i (is_input m a && is_input m b) (not (eqb a b)) (and_i (is_input m a) (is_input m b) (lt→ltb a m ha) (lt→ltb b m hb)) (ne→neqb a b ab)) low)
    ∙ accepted_require (is_inner m n N k && unused N g k) NumberTaken _ (and_i (is_inner m n N k) (unused N g k) (inner_is m n N k hk) free)

pub record ShareOutputsAccepted (m n N a b : ℕ) (g : Graph) (e : ℤ) : Type 0 where
  pub output_a : Output m n a
  pub output_b : Output m n b
  pub two : a ≢ b
  pub difference : common_difference m (column N g a) (column N g b) ≡ accepted e
  pub no_way : longest g N b a ≡ absent
  pub enough : T (enough_in N g b)
  pub in_range : T (fits delay_limit (at e))

pub share_outputs_accepted : (m n N a b : ℕ) (g : Graph) (e : ℤ) → share_outputs_verdict m n N a b g ≡ accepted e → ShareOutputsAccepted m n N a b g e
unfolding share_outputs_verdict
share_outputs_accepted m n N a b g e q =
    let p7 = require_accepted (is_output m n a && is_output m n b && not (eqb a b)) WrongVertex _ e q in
    let p11 = then_accepted (common_difference m (column N g a) (column N g b)) (outputs_saved N g a b) e p7.1 in
    let p12 = require_accepted (not (present (longest g N b a))) PathBack _ e p11.2 in
    let p13 = require_accepted (enough_in N g b) NothingSaved _ e p12.1 in
    let p14 = require_accepted (fits delay_limit (at p11.0)) DelayOutOfRange _ e p13.1 in
    let h = and_e (is_output m n a && is_output m n b) (not (eqb a b)) p7.0 in
    let o = and_e (is_output m n a) (is_output m n b) h.0 in
    record {
      output_a = output_of m n a o.0;
      output_b = output_of m n b o.1;
      two = neqb→ne a b h.1;
      difference = p11.1 ∙ p14.1;
      no_way = absent_unless (longest g N b a) p12.0;
      enough = p13.0;
      in_range = subst (λ (z : ℤ). T (fits delay_limit (at z))) (same_accepted p14.1) p14.0;
    }

pub outputs_asked : (m n N a b : ℕ) (g : Graph) → Output m n a → Output m n b → a ≢ b
    → share_outputs_verdict m n N a b g ≡ (common_difference m (column N g a) (column N g b) then outputs_saved N g a b)
unfolding share_outputs_verdict
outputs_asked m n N a b g ha hb ab =
    accepted_require (is_output m n a && is_output m n b && not (eqb a b)) WrongVertex _
    (and_i (is_output m n a && is_output m n b) (not (eqb a b)) (and_i (is_output m n a) (is_output m n b) (is_output_lem m n a ha) (is_output_lem m n b hb)) (ne→neqb a b ab))
  where
    is_output_lem : (m n j : ℕ) → Output m n j → T (is_output m n j)
    is_output_lem m n j h = and_i (leb m j) (ltb j (m + n)) (le→leb m j h.0) (lt→ltb j (m + n) h.1)

pub prune_accepted : (m n N : ℕ) (g : Graph) (x : Unit {0}) → prune_verdict m n N g ≡ accepted x → arcs N (pruned m n N g) < arcs N g
unfolding prune_verdict
prune_accepted m n N g x q = ltb→lt (arcs N (pruned m n N g)) (arcs N g) (require_accepted (ltb (arcs N (pruned m n N g)) (arcs N g)) NothingSaved _ x q).0

-- the answer x is o's driver and its arc's delay
pub record MergeBackAccepted (m n N o : ℕ) (g : Graph) (x : ℕ × ℤ) : Type 0 where
  pub output : Output m n o
  pub single : fan_in N g o ≡ 1
  pub inner : Inner m n N (driver N g o)
  pub in_range : T (merge_fits N g (driver N g o) o (driver_delay N g o))
  pub answer : (driver N g o, driver_delay N g o) ≡ x

pub merge_back_accepted : (m n N o : ℕ) (g : Graph) (x : ℕ × ℤ) → merge_back_verdict m n N o g ≡ accepted x → MergeBackAccepted m n N o g x
unfolding merge_back_verdict
merge_back_accepted m n N o g x q =
    let p7 = require_accepted (is_output m n o) WrongVertex _ x q in
    let p10 = require_accepted (eqb (fan_in N g o) 1 && is_inner m n N (driver N g o)) WrongArcs _ x p7.1 in
    let p14 = require_accepted (merge_fits N g (driver N g o) o (driver_delay N g o)) DelayOutOfRange _ x p10.1 in
    let h = and_e (eqb (fan_in N g o) 1) (is_inner m n N (driver N g o)) p10.0 in
    record {
      output = output_of m n o p7.0;
      single = eqb→eq (fan_in N g o) 1 h.0;
      inner = inner_of m n N (driver N g o) h.1;
      in_range = p14.0;
      answer = same_accepted p14.1;
    }

pub record StarAccepted (m n N : ℕ) (S Ts : List ℕ) (k : ℕ) (g : Graph) : Type 0 where
  pub sources_below : T (each S (λ s. ltb s N))
  pub targets_below : T (each Ts (λ t. ltb t N))
  pub some_source : T (non_empty S)
  pub some_target : T (non_empty Ts)
  pub sources_apart : T (distinct S)
  pub targets_apart : T (distinct Ts)
  pub inner : T (is_inner m n N k)
  pub free : T (unused N g k)
  pub joined : T (each S (λ s. each Ts (λ t. present (g s t))))
  pub saved : length S + length Ts < covered_arcs N S Ts g
  pub in_range : T (each S (λ s. fits delay_limit (to_centre S Ts g s)))

pub star_accepted : (m n N : ℕ) (S Ts : List ℕ) (k : ℕ) (g : Graph) (x : Unit {0}) → star_verdict m n N S Ts k g ≡ accepted x → StarAccepted m n N S Ts k g
unfolding star_verdict
star_accepted m n N S Ts k g x q =
    let p7 = require_accepted (each S (λ s. ltb s N) && each Ts (λ t. ltb t N) && ltb k N) WrongVertex _ x q in
    let p9 = require_accepted (non_empty S && non_empty Ts && distinct S && distinct Ts) WrongSet _ x p7.1 in
    let p8 = require_accepted (is_inner m n N k && unused N g k) NumberTaken _ x p9.1 in
    let p10 = require_accepted (each S (λ s. each Ts (λ t. present (g s t)))) WrongArcs _ x p8.1 in
    let p13 = require_accepted (ltb (length S + length Ts) (covered_arcs N S Ts g)) NothingSaved _ x p10.1 in
    let p14 = require_accepted (each S (λ s. fits delay_limit (to_centre S Ts g s))) DelayOutOfRange _ x p13.1 in
    let below = and_e (each S (λ s. ltb s N)) (each Ts (λ t. ltb t N)) (and_e (each S (λ s. ltb s N) && each Ts (λ t. ltb t N)) (ltb k N) p7.0).0 in
    let c = and_e (non_empty S && non_empty Ts && distinct S) (distinct Ts) p9.0 in
    let b = and_e (non_empty S && non_empty Ts) (distinct S) c.0 in
    let a = and_e (non_empty S) (non_empty Ts) b.0 in
    let f = and_e (is_inner m n N k) (unused N g k) p8.0 in
    record {
      sources_below = below.0;
      targets_below = below.1;
      some_source = a.0;
      some_target = a.1;
      sources_apart = b.1;
      targets_apart = c.1;
      inner = f.0;
      free = f.1;
      joined = p10.0;
      saved = ltb→lt (length S + length Ts) (covered_arcs N S Ts g) p13.0;
      in_range = p14.0;
    }
