-- The greatest delays from a vertex as `delays_from` leaves them: how large they are, and what is read in the cells.
use mathlib.Core.Path.{◌≡◌, sym, ap, ◌∙◌, subst}
use mathlib.Core.Logic.{◌≢◌}
use mathlib.Core.List.{List}
use Prim.Native.Nat.{ℕ, ◌*◌, ◌≤◌, ◌<◌}
use native.Mathlib.Omega.{arith}
use lib.Dec.{T}
use lib.IntN.{ℤ}
use lib.ListN.{length, drop}
use Rattle.graph.specs.Delay.{Delay}
use Rattle.graph.specs.Graph.{Graph, longest, walk}
use Rattle.graph.proofs.Span.{InSpan, span_le}
use Rattle.graph.proofs.PathSpan.{longest_span}
use Rattle.graph.proofs.Closure.{walk_other, walk_elim}
use Rattle.timing.specs.Limits.{delay_limit, arrival_limit, absent_wide, fits}
use Rattle.timing.specs.Table.{read_cell, write_cell, graph_of}
use Rattle.timing.specs.Delays.{arrival_in}
use Rattle.timing.proofs.Checks.{sound_within, sound_fits}
use Rattle.timing.proofs.Limits.{fits_span, span_fits}
use Rattle.timing.proofs.Table.{read_held}
use Rattle.paths.specs.declared.board.Board.{Board}
use Rattle.paths.specs.Arrivals.{filled}
use Rattle.paths.specs.Checked.{Passable}
use Rattle.paths.proofs.Starting.{stored-length, stored_cell, stored-drop}

-- a delay within the limits is read back
read_near : (d : Delay) → T (fits arrival_limit d) → read_cell absent_wide (write_cell absent_wide d) ≡ d
read_near d t = read_held arrival_limit (omega arith) d (fits_span arrival_limit d t)

module _ {b : Board} {t : List ℤ} {o : List ℕ} (p : Passable b t o) (i : ℕ) (hi : i < b.vertices) where
  abbrev n : ℕ
  n = b.vertices

  abbrev g : Graph
  g = graph_of n t

  -- at most 90 arcs of at most 1,000,000,000
  pub walk_near : (v : ℕ) → v < b.vertices → T (fits arrival_limit (walk (longest (graph_of b.vertices t) b.vertices) i v))
  walk_near v hv = span_fits arrival_limit (walk (longest g n) i v) (walk_elim (longest g n) i v (InSpan arrival_limit) (λ _. (omega arith, omega arith))
      (λ _. span_le (n * delay_limit) arrival_limit (longest g n i v) (omega (arith, b.sized.few))
      (longest_span n (sound_within p.checked.sound) p.checked.sound.acyclic delay_limit (λ u v. fits_span delay_limit (g u v) (sound_fits p.checked.sound u v)) i v)))

  -- f is what `delays_from` leaves of f₀
  module _ (f₀ f : List ℤ) (room : b.vertices ≤ length f₀) (e : f ≡ filled b.vertices (walk (longest (graph_of b.vertices t) b.vertices) i) f₀) where
    pub held_length : length f ≡ length f₀
    held_length = ap length e ∙ stored-length n _ f₀ room

    pub held_past : drop b.vertices f ≡ drop b.vertices f₀
    held_past = ap (drop n) e ∙ stored-drop n _ f₀

    pub held_walk : (v : ℕ) → v < b.vertices → arrival_in f v ≡ walk (longest (graph_of b.vertices t) b.vertices) i v
    held_walk v hv = ap (λ (l : List ℤ). arrival_in l v) e ∙ ap (read_cell absent_wide) (stored_cell n _ f₀ v hv) ∙ read_near (walk (longest g n) i v) (walk_near v hv)

    pub held_near : (v : ℕ) → v < b.vertices → T (fits arrival_limit (arrival_in f v))
    held_near v hv = subst (λ (d : Delay). T (fits arrival_limit d)) (sym (held_walk v hv)) (walk_near v hv)

    pub held : (v : ℕ) → v < b.vertices → i ≢ v → arrival_in f v ≡ longest (graph_of b.vertices t) b.vertices i v
    held v hv ne = held_walk v hv ∙ walk_other (longest g n) i v ne
