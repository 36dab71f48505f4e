-- The share tries of a side under way: what has been kept, and that the tries that are left lead where all of them lead from the start.
use mathlib.Core.Path.{◌≡◌, sym, ap, ◌∙◌}
use mathlib.Core.List.{List, [], ◌∷◌}
use Prim.Native.Nat.{ℕ, ◌+◌, ◌≤◌}
use mathlib.Core.Logic.{◌≢◌}
use lib.IntN.{ℤ}
use Rattle.timing.specs.Limits.{scratch_cells}
use Rattle.reduction.specs.Steps.{share_outputs}
use Rattle.reduction.specs.Run.{Progress, Try, round, numbers}
use Rattle.reduction.proofs.Rounds.{All, Gains}
use Rattle.reduction.proofs.Run.{all_pairs, step_gains, share_gains}
use Rattle.paths.specs.declared.board.Board.{Board}
use Rattle.run.specs.Sides.{Side, Inputs, Outputs}
use Rattle.run.specs.Sides.{OnSide, first_of, count_of, try_share, pair_try, share_tries}
use Rattle.run.specs.Running.{progress, Running, Held, Reaches}
use Rattle.run.proofs.PairTries.{firsts_left, seconds_left, firsts_done, seconds_all, seconds_same, seconds_other, seconds_done}
use Rattle.run.proofs.Moving.{running_on, held_on}

pub share_try_gains : (m n N : ℕ) (side : Side) (s a b : ℕ) → Gains m n N (try_share m n N side s a b)
share_try_gains m n N Inputs s a b = share_gains m n N s a b
share_try_gains m n N Outputs s a b = step_gains m n N s (share_outputs a b)

pub share_tries_gain : (m n N : ℕ) (side : Side) (s : ℕ) → All (Gains m n N) (share_tries m n N side s)
share_tries_gain m n N side s = all_pairs (Gains m n N) (try_share m n N side s) (numbers (first_of side m) (count_of side m n)) (numbers (first_of side m) (count_of side m n)) (share_try_gains m n N side s)

-- the tries of a side that are left of a round: before the pairs of a, and before a, b
abbrev pub at_first : Board → Side → ℕ → ℕ → List Try
at_first b side a s = firsts_left (try_share b.inputs b.outputs b.vertices side s) (first_of side b.inputs) (count_of side b.inputs b.outputs) a

abbrev pub at_second : Board → Side → ℕ → ℕ → ℕ → List Try
at_second b side x y s = seconds_left (try_share b.inputs b.outputs b.vertices side s) (first_of side b.inputs) (count_of side b.inputs b.outputs) x y

-- from table₀ with tries `all` to table with tries `left`
pub record Sharing (b : Board) (M : List ℤ) (all : ℕ → List Try) (table₀ : List ℤ) (steps₀ : ℕ) (left : ℕ → List Try) (table : List ℤ) (steps : ℕ) : Type 0 where
  pub running : Running b (progress table steps)
  pub held : Held b M table
  pub way : (s : ℕ) → scratch_cells b.vertices ≤ s → round (left s) (progress table steps) ≡ round (all s) (progress table₀ steps₀)

module _ {b : Board} {M : List ℤ} {all : ℕ → List Try} {table₀ : List ℤ} {steps₀ : ℕ} where
  module _ {left : ℕ → List Try} {table : List ℤ} {steps : ℕ} (h : Sharing b M all table₀ steps₀ left table steps) (left' : ℕ → List Try) where
    -- the tries that are left, said in another way
    pub sharing_same : ((s : ℕ) → left s ≡ left' s) → Sharing b M all table₀ steps₀ left' table steps
    sharing_same e = record { running = h.running; held = h.held; way = λ s room. ap (λ (qs : List Try). round qs (progress table steps)) (sym (e s)) ∙ h.way s room }

    -- one try
    pub sharing_one : (side : Side) (x y : ℕ) → ((s : ℕ) → left s ≡ try_share b.inputs b.outputs b.vertices side s x y ∷ left' s)
        → (table' : List ℤ) (steps' : ℕ) → Reaches b.vertices (pair_try b side x y) (progress table steps) (progress table' steps')
        → Sharing b M all table₀ steps₀ left' table' steps'
    unfolding round
    sharing_one side x y e table' steps' reaches = record {
      running = running_on b q p p' gain reaches h.running;
      held = held_on b q p p' gain reaches M h.held;
      way = λ s room. ap (round (left' s)) (sym (reaches s room)) ∙ ap (λ (qs : List Try). round qs p) (sym (e s)) ∙ h.way s room;
    }
      where
        q : ℕ → List Try
        q = pair_try b side x y

        p : Progress
        p = progress table steps

        p' : Progress
        p' = progress table' steps'

        gain : (s : ℕ) → All (Gains b.inputs b.outputs b.vertices) (q s)
        gain s = (share_try_gains b.inputs b.outputs b.vertices side s x y, tt)

  -- none left
  pub sharing_all : {left : ℕ → List Try} {table : List ℤ} {steps : ℕ} → Sharing b M all table₀ steps₀ left table steps → ((s : ℕ) → left s ≡ []) → Reaches b.vertices all (progress table₀ steps₀) (progress table steps)
  unfolding round
  sharing_all {left} {table} {steps} h none s room = sym (h.way s room) ∙ ap (λ (qs : List Try). round qs (progress table steps)) (none s)

  -- the pairs of a side, one a turn: from a's first on, past a, b, and on to the next a
  module _ (side : Side) {table : List ℤ} {steps : ℕ} (x : ℕ) where
    pub pairs_begin : OnSide b side x → Sharing b M all table₀ steps₀ (at_first b side x) table steps → Sharing b M all table₀ steps₀ (at_second b side x (first_of side b.inputs)) table steps
    pairs_begin on h = sharing_same h _ (λ s. seconds_all (try_share b.inputs b.outputs b.vertices side s) (first_of side b.inputs) (count_of side b.inputs b.outputs) x on.below)

    pub pair_same : (y : ℕ) → OnSide b side y → x ≡ y → Sharing b M all table₀ steps₀ (at_second b side x y) table steps → Sharing b M all table₀ steps₀ (at_second b side x (y + 1)) table steps
    pair_same y on e h = sharing_same h _ (λ s. seconds_same (try_share b.inputs b.outputs b.vertices side s) (first_of side b.inputs) (count_of side b.inputs b.outputs) x y on.below e)

    pub pair_tried : (y : ℕ) → OnSide b side y → x ≢ y → Sharing b M all table₀ steps₀ (at_second b side x y) table steps
        → (table' : List ℤ) (steps' : ℕ) → Reaches b.vertices (pair_try b side x y) (progress table steps) (progress table' steps')
        → Sharing b M all table₀ steps₀ (at_second b side x (y + 1)) table' steps'
    pair_tried y on ne h = sharing_one h _ side x y (λ s. seconds_other (try_share b.inputs b.outputs b.vertices side s) (first_of side b.inputs) (count_of side b.inputs b.outputs) x y on.below ne)

    pub pairs_end : (y : ℕ) → first_of side b.inputs + count_of side b.inputs b.outputs ≤ y → Sharing b M all table₀ steps₀ (at_second b side x y) table steps → Sharing b M all table₀ steps₀ (at_first b side (x + 1)) table steps
    pairs_end y l h = sharing_same h _ (λ s. seconds_done (try_share b.inputs b.outputs b.vertices side s) (first_of side b.inputs) (count_of side b.inputs b.outputs) x y l)

    pub sides_end : first_of side b.inputs + count_of side b.inputs b.outputs ≤ x → Sharing b M all table₀ steps₀ (at_first b side x) table steps → Reaches b.vertices all (progress table₀ steps₀) (progress table steps)
    sides_end l h = sharing_all h (λ s. firsts_done (try_share b.inputs b.outputs b.vertices side s) (first_of side b.inputs) (count_of side b.inputs b.outputs) x l)
