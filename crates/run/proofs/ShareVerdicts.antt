-- The verdict of a share: refused where b has too few arcs or there is no common difference, and with one what is left to ask.
use mathlib.Core.Path.{◌≡◌, sym, ap, ◌∙◌, subst}
use mathlib.Core.Bool.{Bool, true, false, not}
use mathlib.Core.List.{List}
use Prim.Native.Nat.{ℕ, ◌+◌, ◌-◌, ◌≤◌, ◌<◌}
use native.Mathlib.Omega.{arith}
use lib.Dec.{T, not_T, eqb→eq, le→leb, leb→le}
use lib.IntN.{ℤ}
use Rattle.laws.proofs.Booleans.{and_e, or_cases, split}
use Rattle.laws.proofs.Bounded.{first_holds}
use Rattle.graph.specs.Count.{fan_out}
use Rattle.graph.specs.Delay.{at, present}
use Rattle.graph.specs.Graph.{Graph, longest}
use Rattle.timing.specs.Limits.{delay_limit, fits}
use Rattle.timing.specs.declared.Refusal.TheVariants.{PathBack, NothingSaved, DelayOutOfRange}
use Rattle.timing.specs.Refusal.{Verdict, refused, accepted, is_accepted, require, ◌then◌}
use Rattle.timing.specs.Table.{graph_of}
use Rattle.timing.proofs.Verdict.{is_accepted_lem}
use Rattle.reduction.specs.Outcome.{unused, fresh_number}
use Rattle.reduction.specs.ShareInputs.{enough_out, two_out, share_inputs_verdict}
use Rattle.reduction.proofs.ShareDeletion.{inputs_asked_before}
use Rattle.reduction.specs.ShareOutputs.{enough_in, outputs_saved, share_outputs_verdict}
use Rattle.reduction.proofs.Accepted.{share_inputs_accepted, share_outputs_accepted, outputs_asked}
use Rattle.paths.specs.declared.board.Board.{Board}
use Rattle.paths.specs.Checked.{Checked}
use Rattle.plans.specs.OnBoards.{inputs_saved_on}
use Rattle.run.specs.Sides.{Side, Inputs, Outputs}
use Rattle.run.specs.Sides.{is_rich}
use Rattle.run.specs.Pairs.{Pair, compared_by, Compared}

abbrev pub share_verdict : Side → ℕ → ℕ → ℕ → ℕ → ℕ → ℕ → Graph → Verdict ℤ
share_verdict Inputs m n N a b k g = share_inputs_verdict m n N a b k g
share_verdict Outputs m n N a b k g = share_outputs_verdict m n N a b g

never : {A : Type 0} (v : Verdict A) → ((x : A) → v ≡ accepted x → ⊥) → T (not (is_accepted v))
never v h = not_T (is_accepted v) (λ t. let r = is_accepted_lem v t in h r.0 r.1)

clash : {A : Type 0} (r : ℕ) (x : A) → refused r ≡ accepted x → ⊥
clash r x e = let z : ◌≡◌ {A = ℕ} 0 1 = cc in omega arith

pub refused_low : {A : Type 0} {v : Verdict A} {r : ℕ} → v ≡ refused r → T (not (is_accepted v))
refused_low {A} {v} {r} e = subst (λ (x : Verdict A). T (not (is_accepted x))) (sym e) tt

-- ---- no common difference

pub share_apart : (board : Board) (t : List ℤ) (side : Side) (a b k r : ℕ) → compared_by side board t a b ≡ refused r
    → T (not (is_accepted (share_verdict side board.inputs board.outputs board.vertices a b k (graph_of board.vertices t))))
share_apart board t Inputs a b k r q = never _ (λ x e. clash r x (sym q ∙ (share_inputs_accepted board.inputs board.outputs board.vertices a b k (graph_of board.vertices t) x e).difference))
share_apart board t Outputs a b k r q = never _ (λ x e. clash r x (sym q ∙ (share_outputs_accepted board.inputs board.outputs board.vertices a b (graph_of board.vertices t) x e).difference))

-- ---- too few arcs

module _ (m n N a b k : ℕ) (g : Graph) where
  pub share_poor : (side : Side) → is_rich side N g b ≡ false → T (not (is_accepted (share_verdict side m n N a b k g)))
  share_poor Inputs low = never (share_inputs_verdict m n N a b k g) (λ x e. subst T low (split (or_cases (enough_out N g b) _ (share_inputs_accepted m n N a b k g x e).pays)
      (λ h. le→leb 2 (fan_out N g b) (omega (arith, leb→le 3 (fan_out N g b) h)))
      (λ h. le→leb 2 (fan_out N g b) (omega (arith, eqb→eq (fan_out N g b) 2 (and_e (two_out N g b) _ h).0)))))
  share_poor Outputs low = never (share_outputs_verdict m n N a b g) (λ x e. subst T low (share_outputs_accepted m n N a b g x e).enough)

-- ---- the common difference e

module _ (board : Board) (t : List ℤ) (a b : ℕ) (e : ℤ) where
  pub rows_saved : Checked board t → Pair Inputs board a b → Compared Inputs board t a b e → (k : ℕ) → k ≡ fresh_number board.inputs board.outputs board.vertices (graph_of board.vertices t) → k < board.vertices
      → share_inputs_verdict board.inputs board.outputs board.vertices a b k (graph_of board.vertices t) ≡ inputs_saved_on board t b e
  unfolding fresh_number
  rows_saved ok p q k is low =
      let m = board.inputs in
      let n = board.outputs in
      let N = board.vertices in
      let g = graph_of N t in
      let free = subst (λ (x : ℕ). T (unused N g x)) (sym is) (first_holds (N - (m + n)) (λ x. unused N g (m + n + x)) (omega arith)) in
      inputs_asked_before a b k ok.sound (omega (arith, p.one.below)) (omega (arith, p.other.below)) p.two (omega arith, low) free ∙ ap (λ (x : Verdict ℤ). x then inputs_saved_on board t b) q

  -- no number is free
  pub rows_full : (k : ℕ) → board.vertices ≤ k → T (not (is_accepted (share_inputs_verdict board.inputs board.outputs board.vertices a b k (graph_of board.vertices t))))
  rows_full k high =
      never (share_inputs_verdict board.inputs board.outputs board.vertices a b k (graph_of board.vertices t)) (λ x q.
      omega (arith, (share_inputs_accepted board.inputs board.outputs board.vertices a b k (graph_of board.vertices t) x q).inner.1))

  pub columns_saved : Pair Outputs board a b → Compared Outputs board t a b e
      → share_outputs_verdict board.inputs board.outputs board.vertices a b (graph_of board.vertices t) ≡ outputs_saved board.vertices (graph_of board.vertices t) a b e
  columns_saved p q =
      outputs_asked board.inputs board.outputs board.vertices a b (graph_of board.vertices t) (p.one.from, p.one.below) (p.other.from, p.other.below) p.two
      ∙ ap (λ (x : Verdict ℤ). x then outputs_saved board.vertices (graph_of board.vertices t) a b) q

  -- out of range
  pub columns_far : Pair Outputs board a b → Compared Outputs board t a b e → fits delay_limit (at e) ≡ false
      → T (not (is_accepted (share_outputs_verdict board.inputs board.outputs board.vertices a b (graph_of board.vertices t))))
  columns_far p q far = subst (λ (v : Verdict ℤ). T (not (is_accepted v))) (sym (columns_saved p q)) (go (not (present (longest (graph_of board.vertices t) board.vertices b a))) (enough_in board.vertices (graph_of board.vertices t) b) (fits delay_limit (at e)) far)
    where
      go : (x y z : Bool) → z ≡ false → T (not (is_accepted (require x PathBack (require y NothingSaved (require z DelayOutOfRange (accepted e))))))
      go false y z far = tt
      go true false z far = tt
      go true true false far = tt
      go true true true far = absurd (let w : ◌≡◌ {A = ℕ} 0 1 = cc in omega arith)

  -- a path leads back
  pub columns_back : Pair Outputs board a b → Compared Outputs board t a b e → present (longest (graph_of board.vertices t) board.vertices b a) ≡ true
      → T (not (is_accepted (share_outputs_verdict board.inputs board.outputs board.vertices a b (graph_of board.vertices t))))
  columns_back p q back = subst (λ (v : Verdict ℤ). T (not (is_accepted v))) (sym (columns_saved p q)) (rw back tt)
