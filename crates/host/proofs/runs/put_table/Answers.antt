use Rattle.std.proofs.Common.{◌≡◌, ◌∙◌, ℕ, T, get_or, pos, sym, subst, rules, arith, w32, w64, to_z, of_z, FitsSigned}
use Rattle.laws.proofs.Signed.{widens, handed}
use Rattle.codec.specs.Bytes.{in_width}
use Rattle.codec.proofs.Patterns.{fits_in_width}
use Rattle.host.proofs.Filling.{fill_start, cell_room, fill_more, fill_end}
use Rattle.host.proofs.runs.put_table.Goals as goal

pub loop-x-init : goal.loop-x-init
loop-x-init c = fill_start 4 c.args.cells.now c.args.bytes.now

pub encode-requires-clause-fits_width : goal.encode-requires-clause-fits_width
encode-requires-clause-fits_width c =
    let a = c.args in
    let z = get_or a.cells.now c.loop-x.x (pos 0) in
    let held : to_z w32 (of_z w32 z) ≡ z = search rules in
    let fits : FitsSigned w32 z = search rules in
    let widened : to_z w64 (of_z w64 c.wide.result) ≡ z = handed w64 (c.wide.ensures ∙ held) (widens fits) in
    let room = cell_room 4 a.cells.now a.bytes.now c.loop-x.x c.loop-x.bytes (omega (arith, c.loop-x-test.true, c.requires)) c.loop-x.invariant in
    subst (λ (w : ℕ). T (in_width w (to_z w64 (of_z w64 c.wide.result)))) (sym room) (rw widened (fits_in_width w32 4 (omega arith) fits))

pub loop-x-preserved : goal.loop-x-preserved
loop-x-preserved c =
    let a = c.args in
    let z = get_or a.cells.now c.loop-x.x (pos 0) in
    let held : to_z w32 (of_z w32 z) ≡ z = search rules in
    let fits : FitsSigned w32 z = search rules in
    let widened : to_z w64 (of_z w64 c.wide.result) ≡ z = handed w64 (c.wide.ensures ∙ held) (widens fits) in
    fill_more 4 a.cells.now a.bytes.now c.loop-x.x c.loop-x.bytes (omega (arith, c.loop-x-test.true, c.requires)) c.loop-x.invariant _ _ widened c.encode.ensures.bytes_after

pub returns : goal.returns
returns c = c.loop-x.invariant ∙ fill_end 4 c.args.cells.now c.args.bytes.now c.loop-x.x (omega (arith, c.loop-x-test.false, c.loop-x.auto.x-end))
