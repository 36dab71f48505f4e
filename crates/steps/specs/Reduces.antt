-- What a step's call answers, and what becomes of the table.
use Rattle.timing.specs.declared.Refusal.{Refusal}
use Rattle.std.specs.Prelude.{Err, Ok, Result, List, ℕ, ℤ}
use Rattle.graph.specs.Count.{arcs}
use Rattle.timing.specs.Refusal.{number, Verdict, refused, accepted, Answers}
use Rattle.timing.specs.Table.{graph_of}
use Rattle.reduction.specs.Outcome.{Reduced}

-- the answer of a call, from its step's and the table afterwards
abbrev pub counted : ℕ → Result (Unit {0}) Refusal → List ℤ → Result ℕ Refusal
counted N (Ok tt) table = Ok (arcs N (graph_of N table))
counted N (Err r) table = Err r

-- document 01's number, or the table afterwards, one step and the arcs left
abbrev pub reduced_meaning : Result ℕ Refusal → List ℤ → Verdict Reduced
reduced_meaning (Ok a) table = accepted (record { table = table; steps = 1; arcs_left = a })
reduced_meaning (Err r) table = refused (number r)

-- r and the table afterwards are what v says
abbrev pub Reduces : Verdict Reduced → List ℤ → List ℤ → Result ℕ Refusal → Type 0
Reduces = Answers reduced_meaning (λ x. x.table)
