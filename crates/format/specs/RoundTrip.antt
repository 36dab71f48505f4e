-- A written file reads back as the same table. Proved in proofs/RoundTrip.antt.
use Rattle.std.specs.Prelude.{◌≡◌, List, ℕ, ◌*◌, ◌≤◌, ◌<◌, ℤ, pos, length, get_or, take}
use Rattle.timing.specs.Limits.{scratch_cells}
use Rattle.timing.specs.Refusal.{accepted}
use Rattle.timing.specs.Checks.{sizes}
use Rattle.format.specs.Library.{InForce}
use Rattle.format.specs.Reading.{got, read_call, table_read}
use Rattle.format.specs.Writing.{Written, write_call}

-- a file is read under library l into table t', with k cells of scratch: accepted, with these sizes; the first N × N cells are those of t, each later one is as it was
pub record ReadsBack (m n N : ℕ) (t : List ℤ) (l : List ℤ) (file : List ℕ) (t' : List ℤ) (k : ℕ) : Type 0 where
  pub answer : read_call l file t' k ≡ got (sizes m n N)
  pub length_kept : length (table_read l file t' k) ≡ length t'
  pub same : (x : ℕ) → x < N * N → get_or (table_read l file t' k) x (pos 0) ≡ get_or t x (pos 0)
  pub kept : (x : ℕ) → N * N ≤ x → get_or (table_read l file t' k) x (pos 0) ≡ get_or t' x (pos 0)

-- the bytes that an accepted write of t counts, read under any library that passes into any table and scratch that are long enough
abbrev pub RoundTrip : Type 0
RoundTrip = (m n N s : ℕ) (t : List ℤ) (destination : List ℕ) (w : Written) → write_call m n N s t destination ≡ accepted w
    → (l : List ℤ) → InForce l → (t' : List ℤ) (k : ℕ) → N * N ≤ length t' → scratch_cells N ≤ k
    → ReadsBack m n N t l (take w.count w.bytes) t' k
