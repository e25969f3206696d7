use Rattle.std.proofs.Common.{◌≡◌, length, add-one, arith}
use Rattle.weight_audit.proofs.report.writing.write_audit.Goals as goal

pub outputs-preserved : goal.outputs-preserved
outputs-preserved g c = rw (add-one c.outputs.output) (c.then_output-so_far.ensures _ _ _ c.outputs.invariant)

pub returns : goal.returns
returns g c =
    let all : c.outputs.output ≡ length c.args.graph.now.outputs =
    omega (arith, c.outputs-test.false, c.outputs.auto.output-end, c.outputs-output-end.ensures) in
    rw all at c.outputs.invariant
