-- Tries on a table that has passed its checks, and what a run keeps.
use mathlib.Core.Path.{◌≡◌, refl, sym, ap, ◌∙◌, subst}
use mathlib.Core.Bool.{Bool, true, false, not}
use mathlib.Core.List.{List, [], ◌∷◌, ◌++◌}
use Prim.Native.Nat.{ℕ, ◌+◌, ◌*◌, ◌≤◌, ◌<◌}
use native.Mathlib.Omega.{arith}
use lib.Dec.{T, T_not, ltb, le→leb, leb→le, lt→ltb}
use lib.IntN.{ℤ}
use lib.ListN.{length}
use Rattle.laws.proofs.Booleans.{cond_elim}
use Rattle.graph.specs.Delay.{Delay}
use Rattle.graph.specs.Graph.{Graph}
use Rattle.timing.specs.Limits.{arrival_limit, scratch_cells, fits}
use Rattle.timing.specs.Refusal.{Verdict, refused, accepted, ◌then◌}
use Rattle.timing.specs.Table.{graph_of, with_graph}
use Rattle.timing.proofs.Verdict.{then_accepted, same_accepted}
use Rattle.timing.proofs.Checks.{Passed, checked-passed}
use Rattle.reduction.specs.Outcome.{Reduced, one_step, fresh_number}
use Rattle.reduction.specs.Steps.{Step, share_inputs, plan, step_call}
use Rattle.reduction.specs.ShareInputs.{share_inputs_verdict}
use Rattle.reduction.specs.Run.{Progress, Attempt, skipped, tried, Try, attempt, round, try_step, try_share_inputs}
use Rattle.reduction.proofs.Accepted.{share_inputs_accepted}
use Rattle.reduction.proofs.Kept.{Gain, step_parts}
use Rattle.reduction.proofs.Rounds.{All, Gains}
use Rattle.paths.specs.declared.board.Board.{Board}
use Rattle.plans.specs.OnBoards.{table_by}
use Rattle.paths.specs.Checked.{Checked}
use Rattle.paths.proofs.Sizes.{board_fits}
use Rattle.run.specs.Sides.{Side, Inputs, Outputs}
use Rattle.run.specs.Sides.{share_step, try_share}
use Rattle.run.specs.Running.{progress, Running, Held, Tries, Reaches}

-- ---- a try

-- the steps that a try adds
abbrev pub gained : Bool → ℕ
gained true = 1
gained false = 0

module _ {b : Board} {t : List ℤ} (ok : Checked b t) where
  abbrev m : ℕ
  m = b.inputs

  abbrev n : ℕ
  n = b.outputs

  abbrev N : ℕ
  N = b.vertices

  pub checked-passes : Passed b.inputs b.outputs b.vertices t
  checked-passes = record { sizes = board_fits b; table = le→leb (N * N) (length t) ok.lent; sound = ok.sound }

  -- the checks of a step's call pass again
  call_is_step : (s : ℕ) → scratch_cells N ≤ s → (q : Step) → step_call m n N s q t ≡ (plan m n N q (graph_of N t) then λ g'. accepted (one_step N t g'))
  unfolding step_call
  call_is_step s room q = ap (λ (v : Verdict Graph). v then λ g. plan m n N q g then λ g'. accepted (one_step N t g')) (checked-passed s checked-passes (le→leb (scratch_cells N) s room))

  pub moves : (q : Step) (after : List ℤ) (r : Bool) → Tries (table_by b q t) t after r
      → (s c : ℕ) → scratch_cells b.vertices ≤ s → attempt (try_step b.inputs b.outputs b.vertices s q t) (progress t c) ≡ progress after (c + gained r)
  moves q after r h s c room = ap (λ (x : Verdict Reduced). attempt (tried x) (progress t c)) (call_is_step s room q) ∙ go (plan m n N q (graph_of N t)) r h
    where
      never : (y : ℕ) → refused y ≡ accepted after → ⊥
      never y e = let z : ◌≡◌ {A = ℕ} 0 1 = cc in omega arith

      go : (x : Verdict Graph) (r : Bool) → Tries (x then λ g'. accepted (with_graph N g' t)) t after r → attempt (tried (x then λ g'. accepted (one_step N t g'))) (progress t c) ≡ progress after (c + gained r)
      go (refused y) true k = absurd (never y (k.taken refl))
      go (refused y) false k = ap (λ (x : ℕ). progress t x) (omega arith) ∙ ap (λ (x : List ℤ). progress x (c + 0)) (sym (k.refused refl).1)
      go (accepted g') true k = ap (λ (x : List ℤ). progress x (c + 1)) (same_accepted (k.taken refl))
      go (accepted g') false k = absurd (k.refused refl).0

-- a share of inputs without a free number is skipped; as a step it would be refused
pub try_share_lem : (m n N s : ℕ) (side : Side) (a b : ℕ) (p : Progress) → attempt (try_share m n N side s a b p.table) p ≡ attempt (try_step m n N s (share_step side a b (fresh_number m n N (graph_of N p.table))) p.table) p
unfolding try_share_inputs plan
try_share_lem m n N s Outputs a b p = refl
try_share_lem m n N s Inputs a b p =
    cond_elim (λ (x : Attempt). attempt x p ≡ attempt (tried (called fresh)) p) (ltb fresh N) (tried (called fresh)) skipped (λ _. refl) (λ low. sym (never low (called fresh) refl))
  where
    fresh : ℕ
    fresh = fresh_number m n N (graph_of N p.table)

    called : ℕ → Verdict Reduced
    called k = step_call m n N s (share_inputs a b k) p.table

    never : T (not (ltb fresh N)) → (x : Verdict Reduced) → called fresh ≡ x → attempt (tried x) p ≡ p
    never low (refused y) e = refl
    never low (accepted r) e =
        let v = step_parts m n N s (share_inputs a b fresh) p.table r e in
        let w = then_accepted (share_inputs_verdict m n N a b fresh (graph_of N p.table)) _ v.1 v.2 in
        let h = share_inputs_accepted m n N a b fresh (graph_of N p.table) w.0 w.1 in
        absurd (T_not (ltb fresh N) low (lt→ltb fresh N h.inner.1))

-- ---- what a run keeps

-- steps never fall, and a round that adds none leaves the table
round_quiet : (m n N : ℕ) (qs : List Try) → All (Gains m n N) qs → (p : Progress) → (p.steps ≤ (round qs p).steps) × ((round qs p).steps ≡ p.steps → (round qs p).table ≡ p.table)
unfolding round
round_quiet m n N [] a p = (omega arith, λ _. refl)
round_quiet m n N (q ∷ qs) a p = go (q p.table) (a.0 p.table) (round_quiet m n N qs a.1 (attempt (q p.table) p))
  where
    go : (x : Attempt) → ((r : Reduced) → x ≡ tried (accepted r) → Gain m n N p.table r × (0 < r.steps))
        → ((attempt x p).steps ≤ (round qs (attempt x p)).steps) × ((round qs (attempt x p)).steps ≡ (attempt x p).steps → (round qs (attempt x p)).table ≡ (attempt x p).table)
        → (p.steps ≤ (round qs (attempt x p)).steps) × ((round qs (attempt x p)).steps ≡ p.steps → (round qs (attempt x p)).table ≡ p.table)
    go skipped k h = h
    go (tried (refused y)) k h = h
    go (tried (accepted r)) k h = (omega (arith, h.0), λ e. absurd (omega (arith, h.0, (k r refl).1)))

-- a property that every gain keeps
pub round_keeps : (m n N : ℕ) (P : Progress → Type 0) → ((p : Progress) (r : Reduced) → P p → Gain m n N p.table r → P (progress r.table (p.steps + r.steps))) → (qs : List Try) → All (Gains m n N) qs → (p : Progress) → P p → P (round qs p)
unfolding round
round_keeps m n N P f [] a p h = h
round_keeps m n N P f (q ∷ qs) a p h = round_keeps m n N P f qs a.1 (attempt (q p.table) p) (go (q p.table) (a.0 p.table))
  where
    go : (x : Attempt) → ((r : Reduced) → x ≡ tried (accepted r) → Gain m n N p.table r × (0 < r.steps)) → P (attempt x p)
    go skipped k = h
    go (tried (refused y)) k = h
    go (tried (accepted r)) k = f p r h (k r refl).0

module _ (b : Board) (qs : ℕ → List Try) (p q : Progress) (gain : (s : ℕ) → All (Gains b.inputs b.outputs b.vertices) (qs s)) (way : Reaches b.vertices qs p q) where
  pub running_on : Running b p → Running b q
  running_on h = subst (Running b) (way (scratch_cells b.vertices) (omega arith)) (round_keeps b.inputs b.outputs b.vertices (Running b) go (qs (scratch_cells b.vertices)) (gain (scratch_cells b.vertices)) p h)
    where
      go : (p : Progress) (r : Reduced) → Running b p → Gain b.inputs b.outputs b.vertices p.table r → Running b (progress r.table (p.steps + r.steps))
      go p r h k = record {
        checked = record { lent = leb→le (b.vertices * b.vertices) (length r.table) k.kept.passed.table; sound = k.kept.passed.sound };
        bound = omega (arith, h.bound, k.kept.fewer);
      }

  pub held_on : (M : List ℤ) → Held b M p.table → Held b M q.table
  held_on M h = subst (λ (x : Progress). Held b M x.table) (way (scratch_cells b.vertices) (omega arith)) (round_keeps b.inputs b.outputs b.vertices (λ x. Held b M x.table) go (qs (scratch_cells b.vertices)) (gain (scratch_cells b.vertices)) p h)
    where
      go : (p : Progress) (r : Reduced) → Held b M p.table → Gain b.inputs b.outputs b.vertices p.table r → Held b M r.table
      go p r h k = record {
        room = h.room;
        cells = λ i j hi hj. h.cells i j hi hj ∙ sym (k.kept.same_matrix i j hi hj);
        near = λ i j hi hj. subst (λ (d : Delay). T (fits arrival_limit d)) (sym (k.kept.same_matrix i j hi hj)) (h.near i j hi hj);
      }

  -- where no step is accepted the table stays
  pub quiet_on : q.steps ≡ p.steps → q.table ≡ p.table
  quiet_on e =
      let s = scratch_cells b.vertices in
      let w = way s (omega arith) in
      sym (ap (λ (x : Progress). x.table) w) ∙ (round_quiet b.inputs b.outputs b.vertices (qs s) (gain s) p).1 (ap (λ (x : Progress). x.steps) w ∙ e)

  pub steps_grow : p.steps ≤ q.steps
  steps_grow = subst (λ (x : Progress). p.steps ≤ x.steps) (way (scratch_cells b.vertices) (omega arith)) (round_keeps b.inputs b.outputs b.vertices (λ x. p.steps ≤ x.steps) (λ x r h k. omega (arith, h)) (qs (scratch_cells b.vertices)) (gain (scratch_cells b.vertices)) p (omega arith))

-- one list of tries after another
pub round-append : (xs ys : List Try) (p : Progress) → round (xs ++ ys) p ≡ round ys (round xs p)
unfolding round
round-append [] ys p = refl
round-append (x ∷ xs) ys p = round-append xs ys (attempt (x p.table) p)
