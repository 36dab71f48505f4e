-- The first record, and checks 1, 2 and 3.
use Rattle.std.specs.Prelude.{Err, Ok, Result}
use mathlib.Core.Path.{◌≡◌, refl, sym, ap, ◌∙◌, subst}
use mathlib.Core.Bool.{false}
use mathlib.Core.List.{List}
use Prim.Native.Nat.{ℕ, ◌≤◌}
use native.Mathlib.Omega.{arith}
use lib.Dec.{leb, leb→le}
use lib.IntN.{ℤ}
use lib.ListN.{length}
use Rattle.laws.proofs.Booleans.{T_true}
use Rattle.timing.specs.declared.Refusal.{Refusal}
use Rattle.timing.specs.declared.Refusal.TheVariants.{WrongMark, FileEnds, WrongLibrary}
use Rattle.timing.specs.Refusal.{number, Verdict, refused, accepted, ◌then◌}
use Rattle.timing.specs.Checks.{memory_checked, BoardSizes, sizes}
use Rattle.format.specs.Library.{library_fits, InForce}
use Rattle.format.specs.Records.{mark_at}
use Rattle.format.specs.Reading.{Reading, stopped, got, placed, ◌next◌, is_board, header, opened}
use Rattle.paths.specs.declared.board.Board.{Board}
use Rattle.paths.specs.declared.table.Table.{Table}
use Rattle.paths.specs.Board.{Lent}
use Rattle.paths.specs.Checked.{memory_sizes, MemoryChecking}
use Rattle.files.specs.Read.{Opens}
use Rattle.format.proofs.Readings.{ask_got, next_got}

-- a refusal has no board
pub refusal : {l : List ℤ} {x : Reading BoardSizes} {t : List ℤ} (r : Refusal) → x ≡ stopped (number r) 0 → Opens l x t (Err r)
refusal r e = record { answer = sym e; lent = λ b z. absurd (never b z) }
  where
    never : (b : Board) → Err r ≡ Ok b → ⊥
    never b z = let q : ◌≡◌ {A = ℕ} 0 1 = cc in omega arith

-- ---- the library, the first record, then the checks

module _ (l : List ℤ) (s : List ℕ) (t : List ℤ) (k : ℕ) where
  pub opened-not : library_fits l ≡ false → opened l s t k ≡ stopped (number WrongLibrary) 0
  unfolding opened
  opened-not e = simp e

  -- what the checks of the lent memory say is said of the call
  memory_on : InForce l → (m n N : ℕ) → header s ≡ got (sizes m n N) → (placed 0 (memory_sizes m n N k t) next λ b. got b) ≡ opened l s t k
  unfolding opened
  memory_on ok m n N e = go (memory_checked m n N k t) ∙ sym (simp (T_true {b = library_fits l} ok, e))
    where
      go : (v : Verdict (Unit {0})) → (placed 0 (v then λ _. accepted (sizes m n N)) next λ b. got b) ≡ (placed 0 v next λ _. got (sizes m n N))
      go (refused x) = refl
      go (accepted x) = refl

  pub opened_on : InForce l → (m n N : ℕ) → header s ≡ got (sizes m n N) → (x : Table) → MemoryChecking m n N k t (Ok x) → Opens l (opened l s t k) t (Ok x.board)
  opened_on ok m n N e x h = record {
    answer = ap (λ (v : Verdict BoardSizes). placed 0 v next λ b. got b) h.answer ∙ memory_on ok m n N e;
    lent = λ b q. (subst (λ (y : Board). Lent y t) (same_ok q) (subst (λ (y : List ℤ). Lent x.board y) (h.lent x refl).0 x.room), ok);
  }
    where
      same_ok : {y z : Board} → ◌≡◌ {A = Result Board Refusal} (Ok y) (Ok z) → y ≡ z
      same_ok q = cc

  pub opened_not-lent : InForce l → (m n N : ℕ) → header s ≡ got (sizes m n N) → (r : Refusal) → MemoryChecking m n N k t (Err r) → Opens l (opened l s t k) t (Err r)
  opened_not-lent ok m n N e r h = refusal r (sym (memory_on ok m n N e) ∙ ap (λ (v : Verdict BoardSizes). placed 0 v next λ b. got b) (sym h.answer))

  pub opened_off : InForce l → (r p : ℕ) → header s ≡ stopped r p → opened l s t k ≡ stopped r p
  unfolding opened
  opened_off ok r p e = simp (T_true {b = library_fits l} ok, e)

  -- the first record is whole
  pub opened_long : (b : BoardSizes) → opened l s t k ≡ got b → 5 ≤ length s
  unfolding opened header
  opened_long b e =
      let h0 = ask_got (library_fits l) WrongLibrary 0 _ b e in
      let h = next_got (header s) _ b h0.1 in
      let h1 = ask_got (leb 2 (length s)) FileEnds 0 _ h.0 h.1 in
      let h2 = ask_got (is_board (mark_at s 0)) WrongMark 0 _ h.0 h1.1 in
      leb→le 5 (length s) (ask_got (leb 5 (length s)) FileEnds 0 _ h.0 h2.1).0
