-- The star that is found, made.
use Rattle.std.specs.Prelude.{Some, None}
use mathlib.Core.Path.{◌≡◌, refl, sym, ap, ◌∙◌}
use mathlib.Core.Bool.{true, false}
use mathlib.Core.List.{List}
use Prim.Native.Nat.{◌<◌}
use lib.IntN.{ℤ}
use Rattle.laws.proofs.Booleans.{true_is}
use Rattle.timing.specs.Refusal.{Verdict, accepted, ◌then◌}
use Rattle.timing.specs.Table.{with_graph}
use Rattle.timing.proofs.Checks.{sound_fits}
use Rattle.reduction.specs.Star.{starred}
use Rattle.reduction.specs.Steps.{plan}
use Rattle.reduction.specs.FindStar.{targets_of, sources_of, Found}
use Rattle.reduction.proofs.FindStar.{found_accepted, found_below}
use Rattle.paths.specs.declared.board.Board.{Board}
use Rattle.paths.specs.Board.{graph_in}
use Rattle.paths.specs.Checked.{Checked}
use Rattle.plans.specs.OnBoards.{fresh_on, changed}
use Rattle.stars.specs.StarOn.{StarReadyOn}
use Rattle.stars.proofs.StarChain.{star_ready}
use Rattle.finder.specs.Finding.{find_star_on, Made}

pub none_made : (b : Board) (t : List ℤ) → find_star_on b t ≡ None → Made b t t false
none_made b t e = record { star = λ z. absurd (true_is z); none = λ _. (e, refl) }

module _ (b : Board) (t : List ℤ) (f : Found) (e : find_star_on b t ≡ Some f) where
  pub vertex_below : f.vertex < b.vertices
  vertex_below = found_below b.inputs b.outputs b.vertices (graph_in b t) f e

  pub found_ready : Checked b t → StarReadyOn b t (sources_of b.vertices (graph_in b t) f.vertex) (targets_of b.vertices (graph_in b t) f.vertex) (fresh_on b t)
  found_ready ok = star_ready b.inputs b.outputs b.vertices _ _ (fresh_on b t) (graph_in b t) tt (sound_fits ok.sound) (found_accepted b.inputs b.outputs b.vertices (graph_in b t) f e)

  pub found_made : (after : List ℤ) → after ≡ changed b (starred (sources_of b.vertices (graph_in b t) f.vertex) (targets_of b.vertices (graph_in b t) f.vertex) (fresh_on b t)) t → Made b t after true
  unfolding plan
  found_made after is = record {
    star = λ _. (
      f,
      e,
      ap (λ (v : Verdict (Unit {0})). v then (λ _. accepted (starred (sources_of b.vertices (graph_in b t) f.vertex) (targets_of b.vertices (graph_in b t) f.vertex) (fresh_on b t) (graph_in b t))) then λ g'. accepted (with_graph b.vertices g' t))
          (found_accepted b.inputs b.outputs b.vertices (graph_in b t) f e) ∙ ap accepted (sym is),
    );
    none = λ z. absurd (true_is (sym z));
  }
