use Rattle.vcp_outside.specs.Pens.{and_then}
use Rattle.pictures.proofs.dot.nodes.then_constant_name.Goals as goal

pub returns : goal.returns
returns g c = and_then c.numbered.ensures c.numbered-2.ensures
