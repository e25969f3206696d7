use Rattle.std.proofs.lemmas.Option.{slice_get_within}
use Rattle.vcp_outside.specs.Pens.{and_then}
use Rattle.range_audit.proofs.report.lines.then_operation_name.Goals as goal

pub then_source-requires : goal.then_source-requires
then_source-requires g c = slice_get_within c.args.graph.now.operations c.args.i c.args.op.now c.requires

pub returns : goal.returns
returns g c = and_then c.then_short-pen.ensures (rw c.requires at c.then_source.ensures)
