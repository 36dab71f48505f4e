use Rattle.std.proofs.Common.{◌≡◌, ◌∙◌, ℕ, T, get_or, pos, sym, subst, rules, arith, w64, to_z, of_z, FitsSigned}
use Rattle.codec.specs.Bytes.{in_width}
use Rattle.codec.proofs.Patterns.{fits_in_width}
use Rattle.host.proofs.Filling.{fill_start, cell_room, fill_more, fill_end}
use Rattle.host.proofs.runs.put_matrix.Goals as goal

pub loop-x-init : goal.loop-x-init
loop-x-init c = fill_start 8 c.args.cells.now c.args.bytes.now

pub encode-requires-clause-fits_width : goal.encode-requires-clause-fits_width
encode-requires-clause-fits_width c =
    let a = c.args in
    let z = get_or a.cells.now c.loop-x.x (pos 0) in
    let held : to_z w64 (of_z w64 z) ≡ z = search rules in
    let fits : FitsSigned w64 z = search rules in
    let room = cell_room 8 a.cells.now a.bytes.now c.loop-x.x c.loop-x.bytes (omega (arith, c.loop-x-test.true, c.requires)) c.loop-x.invariant in
    subst (λ (w : ℕ). T (in_width w (to_z w64 (of_z w64 z)))) (sym room) (rw held (fits_in_width w64 8 (omega arith) fits))

pub loop-x-preserved : goal.loop-x-preserved
loop-x-preserved c =
    let a = c.args in
    let z = get_or a.cells.now c.loop-x.x (pos 0) in
    let held : to_z w64 (of_z w64 z) ≡ z = search rules in
    fill_more 8 a.cells.now a.bytes.now c.loop-x.x c.loop-x.bytes (omega (arith, c.loop-x-test.true, c.requires)) c.loop-x.invariant _ _ held c.encode.ensures.bytes_after

pub returns : goal.returns
returns c = c.loop-x.invariant ∙ fill_end 8 c.args.cells.now c.args.bytes.now c.loop-x.x (omega (arith, c.loop-x-test.false, c.loop-x.auto.x-end))
