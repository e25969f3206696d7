use Rattle.std.proofs.Common.{◌≡◌, length, add-one, arith}
use Rattle.vcp_outside.specs.Pens.{unmoved, and_then}
use Rattle.range_audit.proofs.report.variables.then_outputs.Goals as goal

pub lines-init : goal.lines-init
lines-init g c = unmoved

pub lines-preserved : goal.lines-preserved
lines-preserved g c =
    rw (add-one c.lines.i, c.output-output.ensures) (and_then c.lines.invariant (rw c.variable_name-name.ensures at c.then_variable-pen.ensures))

pub returns : goal.returns
returns g c =
    let all : c.lines.i ≡ length c.args.graph.now.outputs = omega (arith, c.lines-test.false, c.lines.auto.i-end, c.outputs-i-end.ensures) in
    rw all at c.lines.invariant
