use Rattle.std.proofs.Common.{◌≡◌, ℕ, ℤ, List, T, get_or, pos, w64, to_z, of_z, sym, ap, ◌∙◌, arith}
use Rattle.std.proofs.lemmas.Int.{to_z-of_z}
use mathlib.Core.Path.{subst}
use Rattle.laws.proofs.Filling.{fill_none, fill_here, fill_turn, fill_all}
use Rattle.graph.specs.Delay.{mirror}
use Rattle.timing.specs.Limits.{absent_wide, fits}
use Rattle.timing.specs.Table.{read_cell, write_cell}
use Rattle.timing.specs.Delays.{arrival_in}
use Rattle.paths.specs.Arrivals.{reached_limit}
use Rattle.paths.proofs.margins.mirror_all.Goals as goal

-- what is stored at v
abbrev image : List ℤ → ℕ → ℤ
image f v = write_cell absent_wide (mirror (arrival_in f v))

pub loop-x-init : goal.loop-x-init
loop-x-init c = fill_none _ _

pub mirrored-requires : goal.mirrored-requires
mirrored-requires c =
    let f₀ = c.args.f.now in
    let x = c.loop-x.x-index in
    let e : to_z w64 (of_z w64 (get_or c.loop-x.f x (pos 0))) ≡ get_or c.loop-x.f x (pos 0) = grind (arith, to_z-of_z) in
    let here = e ∙ ap (λ (l : List ℤ). get_or l x (pos 0)) c.loop-x.invariant ∙ fill_here (image f₀) f₀ x (pos 0) c.loop-x-test.true in
    subst (λ (z : ℤ). T (fits reached_limit (read_cell absent_wide z))) (sym here) (c.requires.near x c.loop-x-test.true)

pub loop-x-preserved : goal.loop-x-preserved
loop-x-preserved c =
    let f₀ = c.args.f.now in
    let x = c.loop-x.x-index in
    let e : to_z w64 (of_z w64 (get_or c.loop-x.f x (pos 0))) ≡ get_or c.loop-x.f x (pos 0) = grind (arith, to_z-of_z) in
    let r : to_z w64 (of_z w64 c.mirrored.result) ≡ c.mirrored.result = grind (arith, to_z-of_z) in
    let here = e ∙ ap (λ (l : List ℤ). get_or l x (pos 0)) c.loop-x.invariant ∙ fill_here (image f₀) f₀ x (pos 0) c.loop-x-test.true in
    fill_turn (image f₀) f₀ c.loop-x.f x _ c.loop-x-test.true c.loop-x.invariant (r ∙ c.mirrored.ensures ∙ ap (λ (z : ℤ). write_cell absent_wide (mirror (read_cell absent_wide z))) here)

pub returns : goal.returns
returns c = c.loop-x.invariant ∙ fill_all (image c.args.f.now) c.args.f.now c.loop-x.x-index (omega arith)
