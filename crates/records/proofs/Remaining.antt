-- A loop that appends: what remains is left to append of the whole that was begun at a.
use mathlib.Core.Path.{◌≡◌, sym, ap, ◌∙◌}
use mathlib.Core.List.{List, [], ◌++◌, append_assoc, append-nil}
use Prim.Native.Nat.{ℕ}
use native.Mathlib.Omega.{arith}
use lib.ListN.{length, length-append}
use Rattle.records.specs.declared.put.Writer.{Writer}
use Rattle.records.specs.Writing.{HasRoom, Puts}
use Rattle.records.proofs.Appending.{puts_more, puts_same}

pub record Remains (whole : List ℕ) (a : Writer) (rest : List ℕ) (w : Writer) : Type 0 where
  pub done : List ℕ
  pub puts : Puts done a w
  pub parts : done ++ rest ≡ whole

module _ {whole rest : List ℕ} {a w : Writer} (r : Remains whole a rest w) where
  -- there is room for the next part
  pub remains_fits : HasRoom whole a → (xs rest' : List ℕ) → rest ≡ xs ++ rest' → HasRoom xs w
  remains_fits room xs rest' e = omega (arith, room, r.puts.same_len, r.puts.appends.end, ap length r.parts, length-append r.done rest, ap length e, length-append xs rest')

  pub remains_next : {xs rest' : List ℕ} {w' : Writer} → rest ≡ xs ++ rest' → Puts xs w w' → Remains whole a rest' w'
  remains_next {xs} {rest'} e p = record {
    done = r.done ++ xs;
    puts = puts_more r.puts p;
    parts = append_assoc r.done xs rest' ∙ ap (λ (l : List ℕ). r.done ++ l) (sym e) ∙ r.parts;
  }

  pub remains_none : rest ≡ [] → Puts whole a w
  remains_none e = puts_same (sym (append-nil r.done) ∙ ap (λ (l : List ℕ). r.done ++ l) (sym e) ∙ r.parts) r.puts
