use Rattle.std.proofs.Common.{codes, decimal, ◌∷◌, [], rules, w64}
use mir.Val.{SFits}
use Rattle.std.proofs.Math.Facts.{to_z-of_z}
use Rattle.pictures.specs.Drawn.{own_of}
use Rattle.pictures.specs.DotText.{source, blindness}
use Rattle.pictures.proofs.Going.{in_three}
use Rattle.vcp_outside.specs.Pens.{and_then, same}
use Rattle.pictures.proofs.dot.labels.then_constant_label.Goals as goal

pub returns : goal.returns
returns g c =
    let op = c.args.op.now in
    let graph = c.args.graph.now in
    let fits : SFits w64 op.imm = search rules in
    let value = rw (c.own_piece.ensures, to_z-of_z {w = w64} {z = op.imm} fits) at c.pieces-pen.ensures in
    same (and_then value (and_then c.then_source-pen.ensures c.then_blindness.ensures))
    (in_three (own_of graph op.kind op.imm ∷ codes "\n" ∷ decimal c.args.n ∷ []) (source (codes " ") op.spot) (blindness graph c.args.colour))
