use Rattle.pictures.specs.DotText.{head, named, source, blindness}
use Rattle.std.proofs.Common.{codes}
use Rattle.pictures.proofs.Going.{in_four}
use Rattle.vcp_outside.specs.Pens.{and_then, same}
use Rattle.pictures.proofs.dot.labels.then_label.Goals as goal

pub returns : goal.returns
returns g c =
    let op = c.args.op.now in
    let graph = c.args.graph.now in
    let first = rw c.kind_name.ensures at c.pieces-pen.ensures in
    same (and_then first (and_then c.then_named-pen.ensures (and_then c.then_source-pen.ensures c.then_blindness.ensures)))
    (in_four (head c.args.n op.kind) (named graph op) (source (codes "\n") op.spot) (blindness graph c.args.colour))
