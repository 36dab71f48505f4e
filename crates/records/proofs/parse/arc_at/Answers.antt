use Rattle.std.proofs.Common.{◌≡◌, sym, ap, ◌∙◌, ◌+◌, Bool, ℤ, arith, w32, w64, to_z, of_z}
use Rattle.codec.specs.Bytes.{signed_at}
use Rattle.codec.proofs.Places.{part_signed}
use Rattle.laws.proofs.Signed.{back}
use Rattle.graph.specs.Delay.{at}
use Rattle.timing.specs.declared.Refusal.TheVariants.{WrongField}
use Rattle.timing.specs.Limits.{delay_limit, fits}
use Rattle.timing.specs.Refusal.{accepted, require}
use Rattle.timing.proofs.Verdict.{error_is}
use Rattle.format.specs.declared.Record.TheVariants as R
use Rattle.records.proofs.Ends.{ends_legal, arc_is}
use Rattle.records.proofs.parse.arc_at.Goals as goal

pub returns-in_err-u : goal.returns-in_err-u
returns-in_err-u c = rw (error_is c.from_residual.result _ c.from_residual.ensures.1) (sym (arc_is _ _ _ (sym c.in_err-u.ensures)))

pub slice_bounds-decode-end : goal.slice_bounds-decode-end
slice_bounds-decode-end c = (ends_legal _ _ _ 8 _ _ (sym c.in_ok-u.ensures)).0

pub returns-then-not-in_range : goal.returns-then-not-in_range
returns-then-not-in_range c =
    let d = signed_at 4 c.args.bytes.now (c.args.at + 4) in
    let handed_on : to_z w64 (of_z w64 c.decode-d.result) ≡ d = back w64 _ c.decode-d.type_inv ∙ c.decode-d.ensures ∙ part_signed c.args.bytes.now (c.args.at + 4) 4 _ (omega (arith, (ends_legal _ _ _ 8 _ _ (sym c.in_ok-u.ensures)).0)) (omega arith) in
    let range : fits delay_limit (at d) ≡ c.in_range.result = sym (c.in_range.ensures ∙ ap (λ (z : ℤ). fits delay_limit (at z)) handed_on) in
    sym (arc_is _ _ _ (sym c.in_ok-u.ensures) ∙ ap (λ (x : Bool). require x WrongField (accepted (R.Arc c.in_ok-u.u c.in_ok-u.v d))) (range ∙ c.if-not-in_range.true))

pub returns : goal.returns
returns c =
    let d = signed_at 4 c.args.bytes.now (c.args.at + 4) in
    let handed_on : to_z w64 (of_z w64 c.decode-d.result) ≡ d = back w64 _ c.decode-d.type_inv ∙ c.decode-d.ensures ∙ part_signed c.args.bytes.now (c.args.at + 4) 4 _ (omega (arith, (ends_legal _ _ _ 8 _ _ (sym c.in_ok-u.ensures)).0)) (omega arith) in
    let range : fits delay_limit (at d) ≡ c.in_range.result = sym (c.in_range.ensures ∙ ap (λ (z : ℤ). fits delay_limit (at z)) handed_on) in
    ap (λ (z : ℤ). accepted (R.Arc c.in_ok-u.u c.in_ok-u.v z)) (back w32 _ c.narrow.type_inv ∙ c.narrow.ensures ∙ handed_on)
    ∙ sym (arc_is _ _ _ (sym c.in_ok-u.ensures) ∙ ap (λ (x : Bool). require x WrongField (accepted (R.Arc c.in_ok-u.u c.in_ok-u.v d))) (range ∙ c.if-not-in_range.false))
