use Rattle.vcp_outside.specs.Pens.{and_then}
use Rattle.pictures.proofs.dot.nodes.then_end.Goals as goal

pub returns : goal.returns
returns g c =
    let shape = rw c.shape.ensures at c.texts.ensures in
    let fill = rw c.fill.ensures at c.texts-2.ensures in
    and_then shape (and_then fill c.text.ensures)
