use Rattle.vcp_outside.specs.Pens.{and_then}
use Rattle.pictures.proofs.dot.nodes.then_operation.Goals as goal

pub returns : goal.returns
returns g c = and_then c.numbered.ensures (and_then c.text-pen.ensures (and_then c.then_label-pen.ensures c.then_end.ensures))
