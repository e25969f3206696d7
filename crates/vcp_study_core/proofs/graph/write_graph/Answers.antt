use Rattle.std.proofs.Common.{false, refl}
use Rattle.pictures.specs.DotText.{IsDotOf, dot_text}
use Rattle.pictures.specs.Elements.{IsGraphPicture, graph_text}
use Rattle.vcp_study_core.specs.Texts.{Draws, Weighed, few}
use Rattle.vcp_study_core.proofs.Facts.{appends-nothing}
use Rattle.vcp_study_core.proofs.Carrying.{no_memory, wrote}
use Rattle.vcp_study_core.proofs.Weights.{dot_of, picture, undrawn}
use Rattle.vcp_study_core.proofs.graph.write_graph.Goals as goal

pub returns-in-Err : goal.returns-in-Err
returns-in-Err g c h b n =
    rw c.bytes.ensures
    (undrawn c.args.horizon c.args.drawing c.args.name.now c.args.image.now h b n (g.O.Sink.seen c.args.out.now) c.in-Err.input c.in-Err.ensures.fault)

pub returns-in-Dot : goal.returns-in-Dot
returns-in-Dot g c h b n =
    let graph = c.args.image.now.graph in
    let text = dot_text graph c.in-Ok.weights c.args.horizon in
    let is = dot_of graph c.args.horizon c.in-Ok.weights c.in-Ok.ensures.weights in
    rw c.in-Dot.is
    (wrote (Weighed c.args.horizon c.args.name.now c.args.image.now (Draws (IsDotOf graph c.args.horizon))) _ _ text false
    (few c.in-Ok.ensures.few (text, false, (is, refl), refl)) c.write_dot.result c.write_dot.ensures c.told.result c.told.ensures.ok c.told.ensures.err)

pub returns-in-Ok-layout_of : goal.returns-in-Ok-layout_of
returns-in-Ok-layout_of g c h b n =
    let graph = c.args.image.now.graph in
    let layout = c.in-Ok-layout_of.layout in
    let text = graph_text graph c.in-Ok.weights c.args.horizon layout in
    let is = picture graph c.args.horizon c.in-Ok.weights c.in-Ok.ensures.weights layout c.in-Ok-layout_of.ensures in
    rw c.in-Picture.is
    (wrote (Weighed c.args.horizon c.args.name.now c.args.image.now (Draws (IsGraphPicture graph c.args.horizon))) _ _ text false
    (few c.in-Ok.ensures.few (text, false, (is, refl), refl)) c.write_picture.result c.write_picture.ensures c.told-in-Ok-layout_of.result
    c.told-in-Ok-layout_of.ensures.ok c.told-in-Ok-layout_of.ensures.err)

pub returns : goal.returns
returns g c h b n = no_memory _ _ _ (appends-nothing _)
