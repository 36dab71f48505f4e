-- The finder's parts, at a board's table.
use Rattle.timing.specs.declared.Refusal.{Refusal}
use Rattle.std.specs.Prelude.{◌≡◌, Bool, true, false, cond, ◌&&◌, Option, Some, None, Result, List, ℕ, ◌≤◌, ltb, ℤ, length, take}
use Rattle.graph.specs.Graph.{Graph}
use Rattle.timing.specs.Limits.{max_vertices}
use Rattle.timing.specs.Refusal.{Verdict, accepted, on_value, verdict}
use Rattle.reduction.specs.FindStar.{targets_of, is_other_source, sources_of, saving_of, Found, is_candidate, best_below, find_star, star_of}
use Rattle.paths.specs.declared.board.Board.{Board}
use Rattle.paths.specs.Board.{graph_in}
use Rattle.plans.specs.OnBoards.{table_by}
use Rattle.sets.specs.declared.Set.{Set}
use Rattle.sets.specs.Sets.{holds}
use Rattle.finder.specs.declared.block.Block.{Block}
use Rattle.finder.specs.declared.best.Found as code

-- what the code has found, as the definition says it
abbrev pub found : Option code.Found → Option Found
found None = None
found (Some f) = Some (record { vertex = f.vertex; saving = f.saving })

-- document 01's number, or what is found
abbrev pub found_meaning : Result (Option code.Found) Refusal → Verdict (Option Found)
found_meaning r = on_value found (verdict r)

abbrev pub find_star_on : Board → List ℤ → Option Found
find_star_on b t = find_star b.inputs b.outputs b.vertices (graph_in b t)

-- the best of the vertices below c
abbrev pub best_on : Board → List ℤ → ℕ → Option Found
best_on b t c = best_below b.inputs b.outputs b.vertices (graph_in b t) c

-- what a's star saves, where it is accepted and saves more than so much
abbrev pub offered_on : Board → List ℤ → ℕ → ℕ → Option ℕ
offered_on b t a least =
    cond (is_candidate b.inputs b.outputs b.vertices (graph_in b t) a && ltb least (saving_of b.vertices (graph_in b t) a)) (Some (saving_of b.vertices (graph_in b t) a)) None

-- the members are the other sources of a's star
abbrev pub OthersOf : ℕ → Graph → ℕ → Set → Type 0
OthersOf N g a others = (s : ℕ) → holds others s ≡ (ltb s N && is_other_source N g a s)

-- its lists begin with S(a) and T(a)
pub record BlockOf (N : ℕ) (g : Graph) (a : ℕ) (b : Block) : Type 0 where
  pub sources : take b.source_count b.sources ≡ sources_of N g a
  pub source_count : b.source_count ≡ length (sources_of N g a)
  pub targets : take b.target_count b.targets ≡ targets_of N g a
  pub target_count : b.target_count ≡ length (targets_of N g a)
  pub few_sources : b.source_count ≤ max_vertices
  pub few_targets : b.target_count ≤ max_vertices

-- r says whether a star is found, and the table is then that star's; else no cell has changed
pub record Made (b : Board) (before after : List ℤ) (r : Bool) : Type 0 where
  pub star : r ≡ true → (f : Found) × (find_star_on b before ≡ Some f) × (table_by b (star_of b.inputs b.outputs b.vertices (graph_in b before) f.vertex) before ≡ accepted after)
  pub none : r ≡ false → (find_star_on b before ≡ None) × (after ≡ before)
