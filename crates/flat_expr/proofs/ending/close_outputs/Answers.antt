use Rattle.std.proofs.Common.{◌≡◌, ◌<◌, length, ap, subst, arith}
use Rattle.flat_expr.specs.Closing.{Closes}
use Rattle.flat_expr.proofs.Ended.{handed}
use Rattle.flat_expr.proofs.ending.close_outputs.Goals as goal

pub outputs-init : goal.outputs-init
outputs-init c = λ s h same. h

pub close_output-requires : goal.close_output-requires
close_output-requires c =
    let s = c.requires.0 in
    let same = c.requires.2 in
    let there : c.outputs.slot < length s.slots = omega (arith, c.outputs-test.true, ap length same, c.len-slot-end.ensures) in
    (s, c.outputs.invariant s c.requires.1 same, same, there)

pub returns-in_err-close_output : goal.returns-in_err-close_output
returns-in_err-close_output c = λ s h same.
    handed s _ _ c.close_output.result c.from_residual.result _ c.in_err-close_output.was c.from_residual.ensures.1
    (c.close_output.ensures s (c.outputs.invariant s h same) same)

pub outputs-preserved : goal.outputs-preserved
outputs-preserved c = λ s h same. c.in_ok-close_output.ensures s (c.outputs.invariant s h same) same

pub returns : goal.returns
returns c = λ s h same.
    let long = ap length same in
    let all : c.outputs.slot ≡ length s.slots = omega (arith, c.outputs-test.false, c.len-slot-end.ensures, long, c.outputs.auto) in
    subst (λ n. Closes s n 0 c.outputs.graph c.outputs.known.items) all (c.outputs.invariant s h same)
