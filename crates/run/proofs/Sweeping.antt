-- Tries over rising numbers, one a turn.
use mathlib.Core.Path.{◌≡◌, sym, ap, ◌∙◌}
use mathlib.Core.List.{[], ◌∷◌, map}
use Prim.Native.Nat.{ℕ, suc, ◌+◌, ◌-◌, ◌≤◌, ◌<◌}
use native.Mathlib.Omega.{arith}
use Rattle.timing.specs.Limits.{scratch_cells}
use Rattle.reduction.specs.Run.{Progress, Try, round, numbers}
use Rattle.run.specs.Running.{Reaches}

module _ (N : ℕ) (f : ℕ → ℕ → Try) (a c : ℕ) (p : Progress) where
  -- the tries from v on lead from q to where all c tries, from a on, lead from p
  abbrev pub Swept : ℕ → Progress → Type 0
  Swept v q = (s : ℕ) → scratch_cells N ≤ s → round (map (f s) (numbers v (a + c - v))) q ≡ round (map (f s) (numbers a c)) p

  -- what the tries from v on lead to, when k of them are left
  abbrev onward : ℕ → ℕ → Progress → ℕ → Progress
  onward v k q s = round (map (f s) (numbers v k)) q

  pub swept_next : (v : ℕ) (q r : Progress) → v < a + c → Reaches N (λ s. f s v ∷ []) q r → Swept v q → Swept (v + 1) r
  unfolding round
  swept_next v q r l way h s room =
      let k = a + c - (v + 1) in
      let e : a + c - v ≡ suc k = omega arith in
      let e' : v + 1 ≡ suc v = omega arith in
      ap (λ (x : ℕ). onward x k r s) e' ∙ sym (ap (λ (x : Progress). onward (suc v) k x s) (way s room)) ∙ sym (ap (λ (x : ℕ). onward v x q s) e) ∙ h s room

  pub swept_all : (v : ℕ) (q : Progress) → a + c ≤ v → Swept v q → Reaches N (λ s. map (f s) (numbers a c)) p q
  unfolding round
  swept_all v q l h s room = let e : a + c - v ≡ 0 = omega arith in sym (h s room) ∙ ap (λ (k : ℕ). onward v k q s) e
