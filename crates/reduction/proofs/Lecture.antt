-- The lecture example's times. They are not computed by paths, of which there are too many: what is printed meets 003's recursions, which nothing else does.
use mathlib.Core.Path.{◌≡◌, refl, sym, ap, ap₂, ◌∙◌, subst}
use mathlib.Core.Logic.{◌⊎◌, inl, inr}
use mathlib.Core.Bool.{Bool, true, ◌&&◌, ◌||◌}
use mathlib.Core.List.{List, [], ◌∷◌}
use Prim.Native.Nat.{ℕ, ◌+◌, ◌≤◌, ◌<◌}
use native.Mathlib.Omega.{arith}
use lib.Dec.{T, eqb, eqb→eq, leb, ltb, ltb→lt, leb→le, le→leb}
use lib.IntN.{ℤ, pos}
use lib.ListN.{length, get_or, length-append, length-drop}
use Rattle.laws.specs.Integers.{max_z, min_z}
use Rattle.laws.specs.Bounded.{every}
use Rattle.laws.specs.Lists.{tabulate}
use Rattle.laws.proofs.Booleans.{and_e, or_cases, cond_elim}
use Rattle.laws.proofs.Bounded.{every_at}
use Rattle.laws.proofs.Lists.{tabulate_same, length-rows}
use Rattle.graph.specs.Delay.{Delay, at, present, ◌⊕◌, ◌⊖◌, ◌⋏◌, eq_d, greatest, smallest}
use Rattle.graph.specs.Graph.{Graph}
use Rattle.graph.proofs.Delay.{eq_d→eq}
use Rattle.graph.proofs.Rank.{ranked_acyclic}
use Rattle.timing.specs.declared.Refusal.TheVariants.{ArrivalLists}
use Rattle.timing.specs.Limits.{delay_limit, absent_wide, fits, scratch_cells}
use Rattle.timing.specs.Refusal.{Verdict, accepted, ◌then◌}
use Rattle.timing.specs.Table.{read_cell, write_cell, graph_of, with_graph}
use Rattle.timing.specs.Checks.{sizes_fit}
use Rattle.timing.specs.Sound.{LegalArc, Sound}
use Rattle.timing.specs.Delays.{arrival_in, arrivals_fit, arrival_at}
use Rattle.timing.specs.Margins.{Times, own_time, required_at, margin_at, times, times_fit, margins_into, margins_call}
use Rattle.timing.specs.Recursion.{ArrivalTimes, RequiredTimes}
use Rattle.timing.proofs.Limits.{not_mark}
use Rattle.timing.proofs.Table.{graph_of_with_graph}
use Rattle.timing.proofs.Verdict.{accepted_require}
use Rattle.timing.proofs.Checks.{Passed, checked-passed, sound_within}
use Rattle.timing.proofs.Recursion.{arrival_recursion, required_recursion}
use Rattle.reduction.specs.Boards.{Arc, arc, graph_of_arcs, table, timed, lecture_arcs, lecture_arrivals, lecture_required, lecture_margins, lecture}

-- ---- a board's arcs, each tested by itself

-- an arc that a board of m inputs and N vertices may have, along which `rank` rises
abbrev legal : ℕ → ℕ → (ℕ → ℕ) → Arc → Bool
legal m N rank (arc x y d) = ltb x N && ltb y N && leb m y && fits delay_limit (at d) && ltb (rank x) (rank y)

all_legal : ℕ → ℕ → (ℕ → ℕ) → List Arc → Bool
all_legal m N rank [] = true
all_legal m N rank (x ∷ xs) = legal m N rank x && all_legal m N rank xs

record Legal (m N : ℕ) (rank : ℕ → ℕ) (u v : ℕ) (d : Delay) : Type 0 where
  is : LegalArc m N u v d
  rise : rank u < rank v

module _ (m N : ℕ) (rank : ℕ → ℕ) where
  arc_legal : (arcs : List Arc) → T (all_legal m N rank arcs) → (u v : ℕ) → T (present (graph_of_arcs arcs u v)) → Legal m N rank u v (graph_of_arcs arcs u v)
  unfolding all_legal
  arc_legal [] t u v p = absurd p
  arc_legal (arc x y d ∷ rest) t u v p =
      cond_elim (λ (z : Delay). T (present z) → Legal m N rank u v z) (eqb u x && eqb v y) (at d) (graph_of_arcs rest u v)
      (λ e _. this e) (λ _ q. arc_legal rest (and_e (legal m N rank (arc x y d)) (all_legal m N rank rest) t).1 u v q) p
    where
      this : T (eqb u x && eqb v y) → Legal m N rank u v (at d)
      this e =
          let h = and_e (eqb u x) (eqb v y) e in
          let p4 = and_e (ltb x N && ltb y N && leb m y && fits delay_limit (at d)) (ltb (rank x) (rank y)) (and_e (legal m N rank (arc x y d)) (all_legal m N rank rest) t).0 in
          let p3 = and_e (ltb x N && ltb y N && leb m y) (fits delay_limit (at d)) p4.0 in
          let p2 = and_e (ltb x N && ltb y N) (leb m y) p3.0 in
          let p1 = and_e (ltb x N) (ltb y N) p2.0 in
          rw (eqb→eq u x h.0, eqb→eq v y h.1) (record {
            is = record { from_below = ltb→lt x N p1.0; to_below = ltb→lt y N p1.1; not_input = leb→le m y p2.1; in_range = p3.1 };
            rise = ltb→lt (rank x) (rank y) p4.1;
          })

  arcs_sound : (n : ℕ) (arcs : List Arc) → T (all_legal m N rank arcs) → m + n ≤ N → Sound m n N (graph_of_arcs arcs)
  arcs_sound n arcs t room = record {
    legal = λ u v p. (arc_legal arcs t u v p).is;
    acyclic = ranked_acyclic (record { rank = rank; rise = λ u v p. (arc_legal arcs t u v p).rise });
    room = room;
  }

  -- its table has that graph
  arcs_graph : (n : ℕ) (arcs : List Arc) → T (all_legal m N rank arcs) → m + n ≤ N → graph_of N (table N arcs) ≡ graph_of_arcs arcs
  arcs_graph n arcs t room = graph_of_with_graph N (graph_of_arcs arcs) [] (sound_within (arcs_sound n arcs t room)) (λ u v z e. not_mark z (held u v z e))
    where
      held : (u v : ℕ) (z : ℤ) → graph_of_arcs arcs u v ≡ at z → T (fits delay_limit (at z))
      held u v z e = subst (λ (d : Delay). T (fits delay_limit d)) e (arc_legal arcs t u v (subst (λ (d : Delay). T (present d)) (sym e) tt)).is.in_range

-- ---- the lecture's

abbrev g : Graph
g = graph_of_arcs lecture_arcs

-- the places in 003's order
abbrev rank : ℕ → ℕ
rank v = get_or (0 ∷ 1 ∷ 2 ∷ 3 ∷ 4 ∷ 5 ∷ 6 ∷ 7 ∷ 19 ∷ 8 ∷ 9 ∷ 12 ∷ 10 ∷ 14 ∷ 16 ∷ 11 ∷ 13 ∷ 15 ∷ 17 ∷ 18 ∷ []) v 0

AT : ℕ → Delay
AT v = at (get_or lecture_arrivals v (pos 0))

RT : ℕ → Delay
RT v = at (get_or lecture_required v (pos 0))

abbrev given : List ℤ
given = tabulate 8 (λ _. pos 0)

abbrev due : List ℤ
due = pos 10 ∷ []

ok : T (all_legal 8 20 rank lecture_arcs)
unfolding all_legal
ok = tt

sound : Sound 8 1 20 g
sound = arcs_sound 8 20 rank 1 lecture_arcs ok (omega arith)

graph_is : graph_of 20 (table 20 lecture_arcs) ≡ g
graph_is = arcs_graph 8 20 rank 1 lecture_arcs ok (omega arith)

at_inputs : T (every 8 (λ v. eq_d (AT v) (arrival_in given v)))
unfolding every AT tabulate read_cell
at_inputs = tt

at_others : T (every 20 (λ v. ltb v 8 || eq_d (AT v) (greatest 20 (λ u. AT u ⊕ g u v))))
unfolding every AT greatest max_z
at_others = tt

at_outputs : T (every 20 (λ v. eq_d (RT v) (own_time 8 1 (arrival_in due) v ⋏ smallest 20 (λ t. RT t ⊖ g v t))))
unfolding every RT smallest min_z read_cell
at_outputs = tt

arrivals_meet : ArrivalTimes 8 20 g (arrival_in given) AT
arrivals_meet = record {
  input = λ v h. eq_d→eq (AT v) (arrival_in given v) (every_at 8 (λ v. eq_d (AT v) (arrival_in given v)) at_inputs v h);
  other = λ v lo hi. go v lo (or_cases (ltb v 8) (eq_d (AT v) (greatest 20 (λ u. AT u ⊕ g u v))) (every_at 20 (λ v. ltb v 8 || eq_d (AT v) (greatest 20 (λ u. AT u ⊕ g u v))) at_others v hi));
}
  where
    go : (v : ℕ) → 8 ≤ v → T (ltb v 8) ⊎ T (eq_d (AT v) (greatest 20 (λ u. AT u ⊕ g u v))) → AT v ≡ greatest 20 (λ u. AT u ⊕ g u v)
    go v lo (inl t) = absurd (omega (arith, ltb→lt v 8 t))
    go v lo (inr t) = eq_d→eq (AT v) (greatest 20 (λ u. AT u ⊕ g u v)) t

required_meet : RequiredTimes 8 1 20 g (arrival_in due) RT
required_meet = record { each = λ v h. eq_d→eq (RT v) _ (every_at 20 (λ v. eq_d (RT v) (own_time 8 1 (arrival_in due) v ⋏ smallest 20 (λ t. RT t ⊖ g v t))) at_outputs v h) }

arrival_is : (v : ℕ) → v < 20 → arrival_at 8 20 g (arrival_in given) v ≡ AT v
arrival_is v h = sym ((arrival_recursion sound (arrival_in given)).only AT arrivals_meet v h)

required_is : (v : ℕ) → v < 20 → required_at 8 1 20 g (arrival_in due) v ≡ RT v
required_is v h = sym ((required_recursion sound (arrival_in due)).only RT required_meet v h)

margin_is : (v : ℕ) → v < 20 → margin_at 8 1 20 g (arrival_in given) (arrival_in due) v ≡ RT v ⊖ AT v
unfolding margin_at
margin_is v h = ap₂ ◌⊖◌ (required_is v h) (arrival_is v h)

printed : Times
printed = record { arrival = lecture_arrivals; required = lecture_required; margin = lecture_margins }

-- a list of N cells, by what stands in each
listed : (f h : ℕ → Delay) → ((v : ℕ) → v < 20 → f v ≡ h v) → tabulate 20 (λ v. write_cell absent_wide (f v)) ≡ tabulate 20 (λ v. write_cell absent_wide (h v))
listed f h e = tabulate_same 20 (λ v. write_cell absent_wide (f v)) (λ v. write_cell absent_wide (h v)) (λ v l. ap (write_cell absent_wide) (e v l))

arrivals_listed : tabulate 20 (λ v. write_cell absent_wide (AT v)) ≡ lecture_arrivals
unfolding tabulate AT
arrivals_listed = refl

required_listed : tabulate 20 (λ v. write_cell absent_wide (RT v)) ≡ lecture_required
unfolding tabulate RT
required_listed = refl

margins_listed : tabulate 20 (λ v. write_cell absent_wide (RT v ⊖ AT v)) ≡ lecture_margins
unfolding tabulate AT RT
margins_listed = refl

times_are : times 8 1 20 g given due ≡ printed
unfolding times printed
times_are = three (listed _ AT arrival_is ∙ arrivals_listed) (listed _ RT required_is ∙ required_listed) (listed _ (λ v. RT v ⊖ AT v) margin_is ∙ margins_listed)
  where
    three : {x x' y y' z z' : List ℤ} → x ≡ x' → y ≡ y' → z ≡ z' → ◌≡◌ {A = Times} (record { arrival = x; required = y; margin = z }) (record { arrival = x'; required = y'; margin = z' })
    three e f h = cc

sized : T (sizes_fit 8 1 20)
unfolding sizes_fit
sized = tt

long : length (table 20 lecture_arcs) ≡ 400
unfolding with_graph
long = simp (length-append, length-rows, length-drop)

good : Passed 8 1 20 (table 20 lecture_arcs)
good = record { sizes = sized; table = le→leb 400 (length (table 20 lecture_arcs)) (omega (arith, long)); sound = subst (Sound 8 1 20) (sym graph_is) sound }

abbrev blank : Times
blank = record { arrival = tabulate 20 (λ _. pos 9); required = tabulate 20 (λ _. pos 9); margin = tabulate 20 (λ _. pos 9) }

fit : T (arrivals_fit 8 given && arrivals_fit 1 due && times_fit 20 blank)
unfolding arrivals_fit every tabulate read_cell
fit = tt

pub lecture_answered : lecture.0 ≡ lecture.1
unfolding margins_call margins_into printed
lecture_answered = ap timed (
    ap (λ (v : Verdict Graph). v then margins_into 8 1 20 given due blank) (checked-passed (scratch_cells 20) good tt)
    ∙ accepted_require (arrivals_fit 8 given && arrivals_fit 1 due && times_fit 20 blank) ArrivalLists (accepted (times 8 1 20 (graph_of 20 (table 20 lecture_arcs)) given due)) fit
    ∙ ap accepted (ap (λ (h : Graph). times 8 1 20 h given due) graph_is ∙ times_are)
    )
