use Rattle.vcp_outside.specs.Pens.{and_then}
use Rattle.pictures.proofs.dot.edges.then_edge_end.Goals as goal

pub returns : goal.returns
returns g c = and_then c.numbered.ensures (and_then c.numbered-2.ensures c.text.ensures)
