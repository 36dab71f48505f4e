-- The arrival call after its checks: the lists that fit, and the answers.
use Rattle.std.specs.Prelude.{Err, Ok}
use mathlib.Core.Path.{◌≡◌, ap, ◌∙◌}
use mathlib.Core.Logic.{◌≢◌, ◌⊎◌, inl, inr}
use mathlib.Core.Bool.{true, false, ◌&&◌}
use mathlib.Core.List.{List}
use Prim.Native.Nat.{ℕ, ◌+◌, ◌≤◌}
use native.Mathlib.Omega.{arith}
use lib.Dec.{eqb, eqb→eq}
use lib.IntN.{ℤ, pos}
use lib.ListN.{length, get_or}
use Rattle.laws.specs.Bounded.{every}
use Rattle.laws.specs.Lists.{tabulate}
use Rattle.laws.proofs.Booleans.{and_e, is_false, T_true, true_is, eq→eqb}
use Rattle.laws.proofs.Bounded.{every_at}
use Rattle.laws.proofs.Lists.{tabulate_same}
use Rattle.graph.specs.Graph.{Graph}
use Rattle.graph.proofs.Span.{span_le}
use Rattle.timing.specs.declared.Refusal.TheVariants.{ArrivalLists}
use Rattle.timing.specs.Limits.{arrival_limit, absent_wide, fits}
use Rattle.timing.specs.Refusal.{accepted}
use Rattle.timing.specs.Table.{write_cell}
use Rattle.timing.specs.Delays.{arrival_in, arrival_at, arrivals_fit, output_arrivals}
use Rattle.timing.specs.Queries.{arrivals_into}
use Rattle.timing.proofs.Limits.{fits_span, span_fits}
use Rattle.paths.specs.declared.board.Board.{Board}
use Rattle.paths.specs.Arrivals.{inside_limit, filled, Given}
use Rattle.paths.specs.Queries.{Fills}
use Rattle.paths.proofs.Starting.{stored_cell}

pub given_of : (k : ℕ) (a : List ℤ) → arrivals_fit k a ≡ true → Given k a
unfolding arrivals_fit
given_of k a e =
    let p = and_e (eqb (length a) k) (every k (λ i. fits arrival_limit (arrival_in a i))) (true_is e) in
    record {
      long = eqb→eq (length a) k p.0;
      near = λ i l. span_fits inside_limit (arrival_in a i) (span_le arrival_limit inside_limit (arrival_in a i) (omega arith)
          (fits_span arrival_limit (arrival_in a i) (every_at k (λ i. fits arrival_limit (arrival_in a i)) p.1 i l)));
    }

module _ (m n N : ℕ) (a before : List ℤ) (g : Graph) where
  pub lists_refused : (arrivals_fit m a ≡ false) ⊎ (length before ≢ n) → Fills (arrivals_into m n N a before g) before before (Err ArrivalLists)
  unfolding arrivals_into
  lists_refused h = let e = fails h in record { answer = simp e; left = simp e }
    where
      fails : (arrivals_fit m a ≡ false) ⊎ (length before ≢ n) → (arrivals_fit m a && eqb (length before) n) ≡ false
      fails (inl z) = simp z
      fails (inr ne) = is_false (arrivals_fit m a && eqb (length before) n) (λ t. ne (eqb→eq (length before) n (and_e (arrivals_fit m a) (eqb (length before) n) t).1))

  pub lists_done : arrivals_fit m a ≡ true → length before ≡ n → (after : List ℤ) → after ≡ output_arrivals m n N g a → Fills (arrivals_into m n N a before g) before after (Ok tt)
  unfolding arrivals_into
  lists_done e l after q =
      let k = T_true {b = eqb (length before) n} (eq→eqb (length before) n l) in
      record { answer = simp (e, k) (ap accepted q); left = simp (e, k) q }

-- the outputs' cells, copied out of the arrivals
pub copied : (b : Board) (a s s' : List ℤ) (g : Graph) (k : ℕ) → b.inputs + b.outputs ≤ b.vertices → k ≡ b.outputs → s' ≡ filled b.vertices (arrival_at b.inputs b.vertices g (arrival_in a)) s
    → tabulate k (λ j. get_or s' (b.inputs + j) (pos 0)) ≡ output_arrivals b.inputs b.outputs b.vertices g a
unfolding output_arrivals
copied b a s s' g k room e f =
    ap (λ (x : ℕ). tabulate x (λ j. get_or s' (b.inputs + j) (pos 0))) e
    ∙ tabulate_same b.outputs (λ j. get_or s' (b.inputs + j) (pos 0)) (λ j. write_cell absent_wide (arrival_at b.inputs b.vertices g (arrival_in a) (b.inputs + j)))
    (λ j l. ap (λ (x : List ℤ). get_or x (b.inputs + j) (pos 0)) f ∙ stored_cell b.vertices (λ v. write_cell absent_wide (arrival_at b.inputs b.vertices g (arrival_in a) v)) s (b.inputs + j) (omega arith))
