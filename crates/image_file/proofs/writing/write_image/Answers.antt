use Rattle.std.proofs.Common.{◌++◌, length, ap, subst, ◌∙◌}
use Rattle.op_graph.specs.Lists.{Lists}
use Rattle.image_file.specs.Image.{Parts, image_piece, head_piece, head_of, parts_of, image_of, later_lists}
use Rattle.image_file.specs.Written.{Writes}
use Rattle.image_file.proofs.Appended.{and_then, ended}
use Rattle.image_file.proofs.writing.write_image.Goals as goal

pub returns-else-has_failed : goal.returns-else-has_failed
unfolding image_piece later_lists
returns-else-has_failed c =
    let g : Lists = c.args.graph.now in
    let p : Parts = parts_of g c.args.table.now.seed c.args.table.now.step in
    let first : Writes c.new-out.result c.put_head-out.result (head_piece.spell (head_of p)) =
    subst (λ h. Writes c.new-out.result c.put_head-out.result (head_piece.spell h)) c.counts_of.ensures.counts c.put_head-out.ensures in
    let all : Writes c.new-out.result c.put_operations-out.result (image_of g c.args.table.now.seed c.args.table.now.step) =
    and_then first (and_then c.put_names-out.ensures (and_then (c.put_inputs-out.ensures p.profile (length g.names))
    (and_then (c.put_outputs-out.ensures p.profile (length g.names) (length g.operations))
    (and_then (c.put_cells-out.ensures p.profile (length g.names) (length g.operations))
    (and_then (c.put_turns-out.ensures (length g.names)) (ended (c.put_operations-out.ensures g.inputs g.outputs (length g.turn_nodes)))))))) in
    c.from_vec.ensures ∙ all.adds c.if-has_failed.false ∙ ap (λ t. t ++ image_of g c.args.table.now.seed c.args.table.now.step) c.new-out.ensures.bytes
