-- The conditions of the shares, put together from their parts.
use Rattle.std.specs.Prelude.{Err, Ok, Result}
use mathlib.Core.Path.{◌≡◌, sym, ap, ◌∙◌}
use mathlib.Core.Bool.{Bool, true, false, not, ◌&&◌}
use Prim.Native.Nat.{ℕ, ◌+◌}
use native.Mathlib.Omega.{arith}
use lib.Dec.{eqb, ltb}
use lib.IntN.{ℤ}
use Rattle.laws.proofs.Booleans.{eqb_other}
use Rattle.graph.specs.Graph.{Graph}
use Rattle.graph.specs.Count.{fan_in, fan_out}
use Rattle.timing.specs.declared.Refusal.{Refusal}
use Rattle.timing.specs.declared.Refusal.TheVariants.{WrongVertex, NumberTaken}
use Rattle.timing.specs.Refusal.{Verdict, refused, require, ◌then◌, verdict}
use Rattle.timing.specs.Delays.{matrix, column}
use Rattle.timing.specs.Sound.{Sound}
use Rattle.reduction.specs.Outcome.{is_input, is_output, is_inner, unused}
use Rattle.reduction.specs.Common.{common_difference}
use Rattle.reduction.specs.ShareInputs.{share_inputs_verdict}
use Rattle.reduction.specs.DeletionMeaning.{saved_before}
use Rattle.reduction.specs.ShareOutputs.{outputs_saved, share_outputs_verdict}
use Rattle.reduction.proofs.ShareDeletion.{share_inputs_before}

module _ (N : ℕ) (g : Graph) (k : ℕ) where
  pub used : (fan_out N g k ≡ 0 → ⊥) → unused N g k ≡ false
  unfolding unused
  used h = eqb_other (fan_in N g k + fan_out N g k) 0 (λ e. h (omega arith))

  pub used_in : fan_out N g k ≡ 0 → unused N g k ≡ eqb (fan_in N g k) 0
  unfolding unused
  used_in e = let s : fan_in N g k + fan_out N g k ≡ fan_in N g k = omega arith in ap (λ (n : ℕ). eqb n 0) s

-- ---- the verdict of share outputs

module _ (m n N a b : ℕ) (g : Graph) where
  pub outputs_wrong : (is_output m n a && is_output m n b && not (eqb a b)) ≡ false → refused 7 ≡ share_outputs_verdict m n N a b g
  unfolding share_outputs_verdict
  outputs_wrong e = sym (ap (λ (c : Bool). require c WrongVertex (common_difference m (column N g a) (column N g b) then outputs_saved N g a b)) e)

  module _ (e : (is_output m n a && is_output m n b && not (eqb a b)) ≡ true) (found : Result ℤ Refusal) (said : verdict found ≡ common_difference m (column N g a) (column N g b)) where
    outputs_right : (verdict found then outputs_saved N g a b) ≡ share_outputs_verdict m n N a b g
    unfolding share_outputs_verdict
    outputs_right =
        ap (λ (x : Verdict ℤ). x then outputs_saved N g a b) said
        ∙ sym (ap (λ (c : Bool). require c WrongVertex (common_difference m (column N g a) (column N g b) then outputs_saved N g a b)) e)

    pub outputs_common : (z : ℤ) → found ≡ Ok z → outputs_saved N g a b z ≡ share_outputs_verdict m n N a b g
    outputs_common z q = sym (ap (λ (x : Result ℤ Refusal). verdict x then outputs_saved N g a b) q) ∙ outputs_right

    pub outputs_refused : (r : Refusal) → found ≡ Err r → verdict found ≡ share_outputs_verdict m n N a b g
    outputs_refused r q = ap verdict q ∙ sym (ap (λ (x : Result ℤ Refusal). verdict x then outputs_saved N g a b) q) ∙ outputs_right

-- ---- the verdict of share inputs

module _ (m n N a b k : ℕ) {g : Graph} (s : Sound m n N g) where
  abbrev inputs : Bool
  inputs = is_input m a && is_input m b && not (eqb a b) && ltb k N

  abbrev free : Bool
  free = is_inner m n N k && unused N g k

  abbrev common : Verdict ℤ
  common = common_difference n (matrix m N g a) (matrix m N g b)

  pub inputs_wrong : (is_input m a && is_input m b && not (eqb a b) && ltb k N) ≡ false → refused 7 ≡ share_inputs_verdict m n N a b k g
  inputs_wrong e = sym (share_inputs_before a b k s ∙ ap (λ (c : Bool). require c WrongVertex (require free NumberTaken (common then saved_before m n N g b))) e)

  module _ (e : (is_input m a && is_input m b && not (eqb a b) && ltb k N) ≡ true) where
    pub number_taken : (is_inner m n N k && unused N g k) ≡ false → refused 8 ≡ share_inputs_verdict m n N a b k g
    number_taken f = sym (share_inputs_before a b k s ∙ ap (λ (c : Bool). require c WrongVertex (require free NumberTaken (common then saved_before m n N g b))) e ∙ ap (λ (c : Bool). require c NumberTaken (common then saved_before m n N g b)) f)

    module _ (f : (is_inner m n N k && unused N g k) ≡ true) (found : Result ℤ Refusal) (said : verdict found ≡ common_difference n (matrix m N g a) (matrix m N g b)) where
      inputs_right : (verdict found then saved_before m n N g b) ≡ share_inputs_verdict m n N a b k g
      inputs_right =
          ap (λ (x : Verdict ℤ). x then saved_before m n N g b) said
          ∙ sym (share_inputs_before a b k s ∙ ap (λ (c : Bool). require c WrongVertex (require free NumberTaken (common then saved_before m n N g b))) e ∙ ap (λ (c : Bool). require c NumberTaken (common then saved_before m n N g b)) f)

      pub inputs_common : (z : ℤ) → found ≡ Ok z → saved_before m n N g b z ≡ share_inputs_verdict m n N a b k g
      inputs_common z q = sym (ap (λ (x : Result ℤ Refusal). verdict x then saved_before m n N g b) q) ∙ inputs_right

      pub inputs_refused : (r : Refusal) → found ≡ Err r → verdict found ≡ share_inputs_verdict m n N a b k g
      inputs_refused r q = ap verdict q ∙ sym (ap (λ (x : Result ℤ Refusal). verdict x then saved_before m n N g b) q) ∙ inputs_right
