-- Every call with any scratch of at least 4 × N cells answers and leaves what it does with any other such scratch.
use Rattle.std.specs.Prelude.{Option, None, Some}
use mathlib.Core.Path.{◌≡◌, refl, sym, ap, ap₂, ◌∙◌, fun_ext}
use mathlib.Core.Bool.{Bool, true, false, cond}
use mathlib.Core.List.{List, [], ◌∷◌, ◌++◌, map}
use Prim.Native.Nat.{ℕ, ◌+◌, ◌-◌}
use borrow.Author.Tests.{le-leb}
use lib.Dec.{leb, ltb}
use lib.IntN.{ℤ}
use lib.ListN.{length}
use Rattle.graph.specs.Graph.{Graph}
use Rattle.graph.specs.Count.{arcs}
use Rattle.timing.specs.declared.Refusal.{Refusal}
use Rattle.timing.specs.declared.Refusal.TheVariants.{FileEnds, WrongMark, WrongLibrary}
use Rattle.timing.specs.Limits.{scratch_cells}
use Rattle.timing.specs.Refusal.{Verdict, accepted, ◌then◌}
use Rattle.timing.specs.Table.{graph_of}
use Rattle.timing.specs.Checks.{scratch_fits, memory_checked, checked, BoardSizes, sizes}
use Rattle.timing.specs.Queries.{matrix_into, matrix_call, arrivals_into, arrival_call}
use Rattle.timing.specs.Margins.{margins_into, margins_call}
use Rattle.timing.proofs.Checks.{memory_same, checked_same_scratch}
use Rattle.reduction.specs.Outcome.{Reduced, fresh_number}
use Rattle.reduction.specs.Steps.{Step, shrink, share_inputs, share_outputs, prune, merge_back, step_on, step_call}
use Rattle.reduction.specs.FindStar.{Found, find_star, find_star_call, star_of}
use Rattle.reduction.specs.Run.{Progress, Attempt, Try, tried, skipped, numbers, pairs, try_share_inputs, try_found, try_star, tries, reduce, whole_run, run_call}
use Rattle.format.specs.Library.{library_fits}
use Rattle.format.specs.Records.{byte_at, mark_at}
use Rattle.format.specs.Reading.{Reading, got, ask, ◌next◌, placed, is_board, header, opened, arcs_read, read_call, table_of, table_read}
use Rattle.format.specs.Writing.{file_into, write_call}
use Rattle.format.specs.AnyScratch.{Request, matrix, arrivals, margins, step, run, read, finder, write, cells, times, found, reduced, board, written, answered, vertices, AnyScratch}

-- what is asked first is asked of both
asked_first : {A B : Type 0} (b : Bool) (r : Refusal) (p : ℕ) (x : Reading A) (f g : A → Reading B) → (x next f) ≡ (x next g) → (ask b r p x next f) ≡ (ask b r p x next g)
asked_first true r p x f g e = e
asked_first false r p x f g e = refl

module _ (s s' : ℕ) where
  -- both pass check 3, or neither does
  abbrev Same : ℕ → Type 0
  Same N = scratch_fits N s ≡ scratch_fits N s'

  module _ (b : BoardSizes) (same : Same b.vertices) where
    -- a call that looks at the scratch in its checks alone
    call_is : {A : Type 0} (t : List ℤ) (f : Graph → Verdict A) → (checked b.inputs b.outputs b.vertices s t then f) ≡ (checked b.inputs b.outputs b.vertices s' t then f)
    call_is t f = ap (λ (v : Verdict Graph). v then f) (checked_same_scratch b.inputs b.outputs b.vertices s s' t (λ _. same))

    step_is : step_call b.inputs b.outputs b.vertices s ≡ step_call b.inputs b.outputs b.vertices s'
    unfolding step_call
    step_is = fun_ext (λ q. fun_ext (λ t. call_is t (step_on b.inputs b.outputs b.vertices q t)))

    -- a run looks at it in each step: its tries, from what a step's call answers
    abbrev star_by : (Step → List ℤ → Verdict Reduced) → List ℤ → Option Found → Attempt
    star_by call t None = skipped
    star_by call t (Some f) = tried (call (star_of b.inputs b.outputs b.vertices (graph_of b.vertices t) f.vertex) t)

    abbrev others : (Step → List ℤ → Verdict Reduced) → List Try
    others call =
        let ends = b.inputs + b.outputs in
        let free : List ℤ → ℕ = λ t. fresh_number b.inputs b.outputs b.vertices (graph_of b.vertices t) in
        pairs (λ x y t. cond (ltb (free t) b.vertices) (tried (call (share_inputs x y (free t)) t)) skipped) (numbers 0 b.inputs) (numbers 0 b.inputs)
        ++ pairs (λ x y t. tried (call (share_outputs x y) t)) (numbers b.inputs b.outputs) (numbers b.inputs b.outputs)
        ++ ((λ t. tried (call prune t)) ∷ [])
        ++ map (λ k t. tried (call (shrink k) t)) (numbers ends (b.vertices - ends))
        ++ map (λ o t. tried (call (merge_back o) t)) (numbers b.inputs b.outputs)

    abbrev tries_by : (Step → List ℤ → Verdict Reduced) → List Try
    tries_by call = others call ++ ((λ t. star_by call t (find_star b.inputs b.outputs b.vertices (graph_of b.vertices t))) ∷ [])

    star_is : (k : ℕ) (t : List ℤ) (x : Option Found) → try_found b.inputs b.outputs b.vertices k t x ≡ star_by (step_call b.inputs b.outputs b.vertices k) t x
    star_is k t None = refl
    star_is k t (Some f) = refl

    tries_of : (k : ℕ) → tries b.inputs b.outputs b.vertices k ≡ tries_by (step_call b.inputs b.outputs b.vertices k)
    unfolding tries try_share_inputs try_star
    tries_of k = ap (λ (last : Try). others (step_call b.inputs b.outputs b.vertices k) ++ (last ∷ [])) (fun_ext (λ t. star_is k t (find_star b.inputs b.outputs b.vertices (graph_of b.vertices t))))

    tries_are : tries b.inputs b.outputs b.vertices s ≡ tries b.inputs b.outputs b.vertices s'
    tries_are = tries_of s ∙ ap tries_by step_is ∙ sym (tries_of s')

    reduce_is : (t : List ℤ) → reduce b.inputs b.outputs b.vertices s t ≡ reduce b.inputs b.outputs b.vertices s' t
    unfolding reduce
    reduce_is t = simp tries_are

    run_is : (t : List ℤ) → run_call b.inputs b.outputs b.vertices s t ≡ run_call b.inputs b.outputs b.vertices s' t
    unfolding run_call
    run_is t =
        ap (λ (p : Progress). checked b.inputs b.outputs b.vertices s t then λ _. accepted (record { table = p.table; steps = p.steps; arcs_left = arcs b.vertices (graph_of b.vertices p.table) })) (reduce_is t)
        ∙ call_is t (λ _. accepted (whole_run b.inputs b.outputs b.vertices s' t))

  -- a file's sizes are known when its memory is checked
  opened_is : (l : List ℤ) (file : List ℕ) (t : List ℤ) → Same (byte_at file 4) → opened l file t s ≡ opened l file t s'
  unfolding opened header
  opened_is l file t same =
      let b = sizes (byte_at file 2) (byte_at file 3) (byte_at file 4) in
      let after : ℕ → BoardSizes → Reading BoardSizes = λ k b. placed 0 (memory_checked b.inputs b.outputs b.vertices k t) next λ _. got b in
      let memory = ap (λ (v : Verdict (Unit {0})). placed 0 v next λ _. got b) (memory_same b.inputs b.outputs b.vertices s s' t t (λ _. (refl, same))) in
      ap (ask (library_fits l) WrongLibrary 0)
      (asked_first (leb 2 (length file)) FileEnds 0 _ (after s) (after s')
      (asked_first (is_board (mark_at file 0)) WrongMark 0 _ (after s) (after s')
      (asked_first (leb 5 (length file)) FileEnds 0 (got b) (after s) (after s') memory)))

  read_is : (l : List ℤ) (file : List ℕ) (t : List ℤ) → Same (byte_at file 4) → read_call l file t s ≡ read_call l file t s'
  unfolding read_call
  read_is l file t same = ap (λ (x : Reading BoardSizes). x next λ b. arcs_read l b file next λ _. got b) (opened_is l file t same)

  left_is : (l : List ℤ) (file : List ℕ) (t : List ℤ) → Same (byte_at file 4) → table_read l file t s ≡ table_read l file t s'
  unfolding table_read
  left_is l file t same = ap (λ (x : Reading BoardSizes). table_of l x file t) (opened_is l file t same)

  same_with : (c : Request) → Same (vertices c) → answered c s ≡ answered c s'
  unfolding matrix_call arrival_call margins_call find_star_call write_call
  same_with (matrix b t destination) e = ap cells (call_is b e t (matrix_into b.inputs b.outputs b.vertices destination))
  same_with (arrivals b t a answers) e = ap cells (call_is b e t (arrivals_into b.inputs b.outputs b.vertices a answers))
  same_with (margins b t a r answers) e = ap times (call_is b e t (margins_into b.inputs b.outputs b.vertices a r answers))
  same_with (finder b t) e = ap found (call_is b e t (λ g. accepted (find_star b.inputs b.outputs b.vertices g)))
  same_with (step b q t) e = ap (λ (f : Step → List ℤ → Verdict Reduced). reduced (f q t)) (step_is b e)
  same_with (run b t) e = ap reduced (run_is b e t)
  same_with (read l file t) e = ap₂ board (read_is l file t e) (left_is l file t e)
  same_with (write b t destination) e = ap written (call_is b e t (file_into b.inputs b.outputs b.vertices destination))

pub any_scratch : AnyScratch
any_scratch c s s' h h' = same_with s s' c (le-leb (scratch_cells (vertices c)) s h ∙ sym (le-leb (scratch_cells (vertices c)) s' h'))
