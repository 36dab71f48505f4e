-- The sizes of a board that the constructor made.
use Rattle.std.specs.Prelude.{ℕ, ◌+◌, ◌≤◌}
use Rattle.timing.specs.Limits.{max_vertices}

pub record Sized (m n N : ℕ) : Type 0 where
  pub some_inputs : 1 ≤ m
  pub some_outputs : 1 ≤ n
  pub roles : m + n ≤ N
  pub few : N ≤ max_vertices
