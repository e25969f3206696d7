use Rattle.vcp_outside.specs.Pens.{and_then}
use Rattle.pictures.proofs.dot.edges.then_constant_at.Goals as goal

pub returns : goal.returns
returns g c =
    let node = and_then c.then_constant_name.ensures (and_then c.text-pen.ensures (and_then c.then_constant_label-pen.ensures c.then_end-pen.ensures)) in
    and_then node (and_then c.then_constant_name-pen.ensures c.then_edge_end.ensures)
