-- The checks give `Sound`, and it gives the checks.
use mathlib.Core.Path.{◌≡◌, refl, sym, ap, ap₂, ◌∙◌}
use mathlib.Core.Logic.{◌⊎◌, inl, inr}
use mathlib.Core.Bool.{Bool, true, false, not, ◌&&◌}
use mathlib.Core.List.{List}
use Prim.Native.Nat.{ℕ, ◌+◌, ◌≤◌, ◌<◌}
use native.Mathlib.Omega.{arith}
use lib.Dec.{T, T_not, not_T, leb, leb→le, nleb→lt}
use lib.IntN.{ℤ}
use Rattle.laws.specs.Bounded.{every}
use Rattle.laws.proofs.Booleans.{and_i, and_e}
use Rattle.laws.proofs.Bounded.{every_at, every_all}
use Rattle.graph.specs.Delay.{absent, present}
use Rattle.graph.specs.Graph.{Graph, Acyclic, longest}
use Rattle.graph.proofs.Presence.{absent_or, absent_unless, not-present}
use Rattle.graph.proofs.Longest.{Within}
use Rattle.graph.proofs.Cycle.{test_acyclic, acyclic_test}
use Rattle.timing.specs.declared.Refusal.TheVariants.{Sizes, TableShort, ScratchShort, OddCell, ArcIntoInput, Cycle}
use Rattle.timing.specs.Limits.{max_vertices, delay_limit, fits}
use Rattle.timing.specs.Refusal.{Verdict, accepted, require, ◌then◌}
use Rattle.timing.specs.Table.{graph_of}
use Rattle.timing.specs.Sound.{LegalArc, Sound}
use Rattle.timing.specs.Checks.{sizes_fit, table_fits, scratch_fits, cells_fit, no_arc_into_input, no_cycle, memory_checked, arcs_checked, checked, passes}
use Rattle.timing.proofs.Verdict.{require_accepted, accepted_require, require_same, then_accepted, same_accepted}
use Rattle.timing.proofs.Limits.{fits_absent}
use Rattle.timing.proofs.Table.{graph_of_within}

module _ {m n N : ℕ} {g : Graph} (s : Sound m n N g) where
  pub sound_within : Within N g
  sound_within = record { in_range = λ u v t. ((s.legal u v t).from_below, (s.legal u v t).to_below) }

  pub sound_fits : (u v : ℕ) → T (fits delay_limit (g u v))
  sound_fits u v = go (absent_or (g u v))
    where
      go : (g u v ≡ absent) ⊎ T (present (g u v)) → T (fits delay_limit (g u v))
      go (inl e) = fits_absent delay_limit e
      go (inr t) = (s.legal u v t).in_range

  pub sound_inputs : (u i : ℕ) → i < m → g u i ≡ absent
  sound_inputs u i l = go (absent_or (g u i))
    where
      go : (g u i ≡ absent) ⊎ T (present (g u i)) → g u i ≡ absent
      go (inl e) = e
      go (inr t) = absurd (omega (arith, (s.legal u i t).not_input))

-- ---- from the checks

pub room_of : (m n N : ℕ) → T (sizes_fit m n N) → m + n ≤ N
unfolding sizes_fit
room_of m n N t = leb→le (m + n) N (and_e (leb 1 m && leb 1 n) (leb (m + n) N) (and_e (leb 1 m && leb 1 n && leb (m + n) N) (leb N max_vertices) t).0).1

pub few_of : (m n N : ℕ) → T (sizes_fit m n N) → N ≤ max_vertices
unfolding sizes_fit
few_of m n N t = leb→le N max_vertices (and_e (leb 1 m && leb 1 n && leb (m + n) N) (leb N max_vertices) t).1

pub no_cycle_acyclic : (N : ℕ) (g : Graph) → Within N g → T (no_cycle N g) → Acyclic g
unfolding no_cycle
no_cycle_acyclic N g w t = test_acyclic w (λ v l. absent_unless (longest g N v v) (every_at N (λ v. not (present (longest g N v v))) t v l))

pub sound_of : (m n N : ℕ) (g : Graph) → Within N g → T (sizes_fit m n N) → T (cells_fit N g) → T (no_arc_into_input m N g) → T (no_cycle N g) → Sound m n N g
unfolding cells_fit no_arc_into_input
sound_of m n N g w sizes cells inputs cycle = record { legal = legal; acyclic = no_cycle_acyclic N g w cycle; room = room_of m n N sizes }
  where
    legal : (u v : ℕ) → T (present (g u v)) → LegalArc m N u v (g u v)
    legal u v t = record {
      from_below = u<N;
      to_below = v<N;
      not_input = not_input_lem;
      in_range = every_at N (λ v. fits delay_limit (g u v)) (every_at N (λ u. every N (λ v. fits delay_limit (g u v))) cells u u<N) v v<N;
    }
      where
        u<N : u < N
        u<N = (w.in_range u v t).0

        v<N : v < N
        v<N = (w.in_range u v t).1

        clash : v < m → ⊥
        clash l = T_not (present (g u v)) (every_at m (λ i. not (present (g u i))) (every_at N (λ u. every m (λ i. not (present (g u i)))) inputs u u<N) v l) t

        not_input_lem : m ≤ v
        not_input_lem = leb→le m v (go (leb m v) (λ b. clash (omega (arith, nleb→lt m v b))))
          where
            go : (b : Bool) → (T (not b) → ⊥) → T b
            go true h = tt
            go false h = h tt

-- the parts of `passes`
pub record Passed (m n N : ℕ) (t : List ℤ) : Type 0 where
  pub sizes : T (sizes_fit m n N)
  pub table : T (table_fits N t)
  pub sound : Sound m n N (graph_of N t)

pub passed : (m n N : ℕ) (t : List ℤ) → T (passes m n N t) → Passed m n N t
unfolding passes
passed m n N t p =
    let g : Graph = graph_of N t in
    let p6 = and_e (sizes_fit m n N && table_fits N t && cells_fit N g && no_arc_into_input m N g) (no_cycle N g) p in
    let p5 = and_e (sizes_fit m n N && table_fits N t && cells_fit N g) (no_arc_into_input m N g) p6.0 in
    let p4 = and_e (sizes_fit m n N && table_fits N t) (cells_fit N g) p5.0 in
    let p2 = and_e (sizes_fit m n N) (table_fits N t) p4.0 in
    record { sizes = p2.0; table = p2.1; sound = sound_of m n N g (graph_of_within N t) p2.0 p4.1 p5.1 p6.1 }

-- ---- to the checks

pub acyclic_no_cycle : (N : ℕ) (g : Graph) → Acyclic g → T (no_cycle N g)
unfolding no_cycle
acyclic_no_cycle N g a = every_all N (λ v. not (present (longest g N v v))) (λ v _. not_T (present (longest g N v v)) (not-present (longest g N v v) (acyclic_test N a v)))

module _ {m n N : ℕ} {g : Graph} (s : Sound m n N g) where
  pub sound_cells : T (cells_fit N g)
  unfolding cells_fit
  sound_cells = every_all N (λ u. every N (λ v. fits delay_limit (g u v))) (λ u _. every_all N (λ v. fits delay_limit (g u v)) (λ v _. sound_fits s u v))

  pub sound_no_arc : T (no_arc_into_input m N g)
  unfolding no_arc_into_input
  sound_no_arc = every_all N (λ u. every m (λ i. not (present (g u i)))) (λ u _. every_all m (λ i. not (present (g u i)))
      (λ i l. not_T (present (g u i)) (not-present (g u i) (sound_inputs s u i l))))

  pub sound_no_cycle : T (no_cycle N g)
  sound_no_cycle = acyclic_no_cycle N g s.acyclic

pub passed-passes : {m n N : ℕ} {t : List ℤ} → Passed m n N t → T (passes m n N t)
unfolding passes
passed-passes {m} {n} {N} {t} p =
    let g : Graph = graph_of N t in
    and_i (sizes_fit m n N && table_fits N t && cells_fit N g && no_arc_into_input m N g) (no_cycle N g)
    (and_i (sizes_fit m n N && table_fits N t && cells_fit N g) (no_arc_into_input m N g)
    (and_i (sizes_fit m n N && table_fits N t) (cells_fit N g)
    (and_i (sizes_fit m n N) (table_fits N t) p.sizes p.table) (sound_cells p.sound)) (sound_no_arc p.sound)) (sound_no_cycle p.sound)

-- ---- the verdicts

pub record MemoryFits (m n N s : ℕ) (t : List ℤ) : Type 0 where
  pub sizes : T (sizes_fit m n N)
  pub table : T (table_fits N t)
  pub scratch : T (scratch_fits N s)

pub memory_accepted : (m n N s : ℕ) (t : List ℤ) (x : Unit {0}) → memory_checked m n N s t ≡ accepted x → MemoryFits m n N s t
memory_accepted m n N s t x e =
    let p1 = require_accepted (sizes_fit m n N) Sizes _ x e in
    let p2 = require_accepted (table_fits N t) TableShort _ x p1.1 in
    let p3 = require_accepted (scratch_fits N s) ScratchShort _ x p2.1 in
    record { sizes = p1.0; table = p2.0; scratch = p3.0 }

pub memory_passed : (m n N s : ℕ) (t : List ℤ) → T (sizes_fit m n N) → T (table_fits N t) → T (scratch_fits N s) → memory_checked m n N s t ≡ accepted tt
memory_passed m n N s t sizes table scratch =
    accepted_require (sizes_fit m n N) Sizes _ sizes
    ∙ accepted_require (table_fits N t) TableShort _ table
    ∙ accepted_require (scratch_fits N s) ScratchShort _ scratch

-- the scratch and the table's length count where 1 passes
pub memory_same : (m n N s s' : ℕ) (t t' : List ℤ) → (T (sizes_fit m n N) → (table_fits N t ≡ table_fits N t') × (scratch_fits N s ≡ scratch_fits N s')) → memory_checked m n N s t ≡ memory_checked m n N s' t'
memory_same m n N s s' t t' e = require_same (sizes_fit m n N) Sizes (λ p. ap₂ (λ (a b : Bool). require a TableShort (require b ScratchShort (accepted tt))) (e p).0 (e p).1)

pub record ArcsFit (m N : ℕ) (g h : Graph) : Type 0 where
  pub inputs : T (no_arc_into_input m N g)
  pub cycle : T (no_cycle N g)
  pub same : g ≡ h

pub arcs_accepted : (m N : ℕ) (g h : Graph) → arcs_checked m N g ≡ accepted h → ArcsFit m N g h
arcs_accepted m N g h e =
    let p5 = require_accepted (no_arc_into_input m N g) ArcIntoInput _ h e in
    let p6 = require_accepted (no_cycle N g) Cycle _ h p5.1 in
    record { inputs = p5.0; cycle = p6.0; same = same_accepted p6.1 }

pub arcs-passed : (m N : ℕ) (g : Graph) → T (no_arc_into_input m N g) → T (no_cycle N g) → arcs_checked m N g ≡ accepted g
arcs-passed m N g inputs cycle = accepted_require (no_arc_into_input m N g) ArcIntoInput _ inputs ∙ accepted_require (no_cycle N g) Cycle _ cycle

-- what a call that gets past its checks knows
pub record Checked (m n N s : ℕ) (t : List ℤ) (g : Graph) : Type 0 where
  pub good : Passed m n N t
  pub scratch : T (scratch_fits N s)
  pub graph : g ≡ graph_of N t

pub checked_accepted : (m n N s : ℕ) (t : List ℤ) (g : Graph) → checked m n N s t ≡ accepted g → Checked m n N s t g
unfolding checked
checked_accepted m n N s t g e =
    let h : Graph = graph_of N t in
    let p = then_accepted (memory_checked m n N s t) _ g e in
    let fit = memory_accepted m n N s t p.0 p.1 in
    let p4 = require_accepted (cells_fit N h) OddCell _ g p.2 in
    let arcs = arcs_accepted m N h g p4.1 in
    record {
      good = record { sizes = fit.sizes; table = fit.table; sound = sound_of m n N h (graph_of_within N t) fit.sizes p4.0 arcs.inputs arcs.cycle };
      scratch = fit.scratch;
      graph = sym arcs.same;
    }

-- a scratch is seen by check 3 alone
pub checked_same_scratch : (m n N s s' : ℕ) (t : List ℤ) → (T (sizes_fit m n N) → scratch_fits N s ≡ scratch_fits N s') → checked m n N s t ≡ checked m n N s' t
unfolding checked
checked_same_scratch m n N s s' t e =
    ap (λ (v : Verdict (Unit {0})). v then λ _. require (cells_fit N (graph_of N t)) OddCell (arcs_checked m N (graph_of N t))) (memory_same m n N s s' t t (λ p. (refl, e p)))

pub checked-passed : {m n N : ℕ} (s : ℕ) {t : List ℤ} → Passed m n N t → T (scratch_fits N s) → checked m n N s t ≡ accepted (graph_of N t)
unfolding checked
checked-passed {m} {n} {N} s {t} p r =
    let g : Graph = graph_of N t in
    ap (λ (v : Verdict (Unit {0})). v then λ _. require (cells_fit N g) OddCell (arcs_checked m N g)) (memory_passed m n N s t p.sizes p.table r)
    ∙ accepted_require (cells_fit N g) OddCell _ (sound_cells p.sound)
    ∙ arcs-passed m N g (sound_no_arc p.sound) (sound_no_cycle p.sound)
