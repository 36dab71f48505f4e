-- The loop of pass 2, on the table as it is.
use Rattle.std.specs.Prelude.{Some}
use Rattle.std.specs.Prelude.{None}
use mathlib.Core.Path.{◌≡◌, refl, sym, ap, ◌∙◌}
use mathlib.Core.List.{List}
use Prim.Native.Nat.{ℕ, ◌+◌, ◌*◌, ◌≤◌, ◌<◌}
use native.Mathlib.Omega.{arith}
use lib.IntN.{ℤ}
use lib.ListN.{length, set, drop, length-set}
use lib.Seq.{drop-set-lt}
use Rattle.laws.proofs.Grid.{row_in}
use Rattle.graph.specs.Graph.{Graph}
use Rattle.timing.specs.Limits.{absent_cell}
use Rattle.timing.specs.Table.{read_cell, graph_of, with_graph}
use Rattle.format.specs.Records.{record_at}
use Rattle.format.specs.Reading.{board_shape, with_arc, with_record}
use Rattle.files.specs.Place.{all_placed}
use Rattle.files.proofs.Leading.{Leading, leading_start, leading_turn, leading_end}
use Rattle.files.proofs.TableGraphs.{own_graph, stored_arc}
use Rattle.files.proofs.NextArcs.{Steps}

module _ (l : List ℤ) (N : ℕ) (s : List ℕ) (load : ℕ → ℕ) (t₀ : List ℤ) where
  pub record Placing (t : List ℤ) (p : ℕ) : Type 0 where
    pub inside : p ≤ length s
    pub size : length t ≡ length t₀
    pub rest : drop (N * N) t ≡ drop (N * N) t₀
    pub left : Leading (board_shape N) (with_record l load) (length s) (record_at N s) (all_placed l N s load t₀) p (graph_of N t)

  pub placing_start : 5 ≤ length s → Placing t₀ 5
  placing_start h = record { inside = h; size = refl; rest = refl; left = leading_start (board_shape N) (with_record l load) (length s) (record_at N s) 5 (graph_of N t₀) }

  module _ (t : List ℤ) (p : ℕ) (w : Placing t p) where
    pub placing_turn : N * N ≤ length t₀ → (u v q : ℕ) (d : ℤ) → Steps l N s load p (Some (record { from = u; to = v; delay = d; next = q })) → Placing (set t (N * u + v) d) q
    placing_turn room u v q d h = record {
      inside = h.1.3;
      size = length-set t (N * u + v) d ∙ w.size;
      rest = drop-set-lt (N * N) t (N * u + v) d place ∙ w.rest;
      left = leading_turn (board_shape N) (with_record l load) (length s) (record_at N s) _ p (graph_of N t) w.left q (graph_of N (set t (N * u + v) d)) h.1.2 h.1.3 (λ onward. sym (h.0 (graph_of N t) onward) ∙ ap (onward q) (sym stored));
    }
      where
        place : N * u + v < N * N
        place = omega (arith, row_in N u h.1.0, h.1.1)

        stored : graph_of N (set t (N * u + v) d) ≡ with_arc u v (read_cell absent_cell d) (graph_of N t)
        stored = stored_arc N t u v d h.1.0 h.1.1 (omega (arith, room, w.size))

    pub placing_graph : Steps l N s load p None → graph_of N t ≡ all_placed l N s load t₀
    placing_graph h = leading_end (board_shape N) (with_record l load) (length s) (record_at N s) _ p (graph_of N t) w.left (λ onward. sym (h.0 (graph_of N t) onward))

    pub placing_table : N * N ≤ length t₀ → Steps l N s load p None → t ≡ with_graph N (all_placed l N s load t₀) t₀
    placing_table room h = own_graph N t₀ t (omega (arith, room, w.size)) w.rest ∙ ap (λ (g : Graph). with_graph N g t₀) (placing_graph h)
