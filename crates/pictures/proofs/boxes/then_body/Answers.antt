use Rattle.std.proofs.Common.{rules, w64}
use mir.Val.{SFits}
use Rattle.std.proofs.Math.Facts.{to_z-of_z}
use Rattle.pictures.specs.Elements.{outline, head, own, source, note, cell_bar, constant_at}
use Rattle.pictures.specs.Drawn.{own_of}
use Rattle.pictures.proofs.Going.{body_drawn_text}
use Rattle.vcp_outside.specs.Pens.{and_then, same}
use Rattle.pictures.proofs.boxes.then_body.Goals as goal

pub returns : goal.returns
returns g c =
    let op = c.args.op.now in
    let graph = c.args.graph.now in
    let place = c.args.place in
    let looks = g.L.Looks.looks c.args.looks.now graph in
    let fits : SFits w64 op.imm = search rules in
    let told = rw (c.own_piece.ensures, to_z-of_z {w = w64} {z = op.imm} fits) at c.then_words-pen.ensures in
    let constants = and_then c.then_constant_at-pen.ensures (and_then c.then_constant_at-pen-2.ensures c.then_constant_at.ensures) in
    let last = and_then c.then_note-pen.ensures (and_then c.then_cell_bar-pen.ensures constants) in
    let all = and_then c.then_outline-pen.ensures (and_then c.then_head-pen.ensures (and_then told (and_then c.then_source-pen.ensures last))) in
    same all
    (body_drawn_text (outline c.args.n c.args.look place) (head c.args.n op.kind place) (own (own_of graph op.kind op.imm) place) (source op.spot place)
    (note graph c.args.look place) (cell_bar op.kind place) (constant_at graph looks place op 0) (constant_at graph looks place op 1)
    (constant_at graph looks place op 2))
