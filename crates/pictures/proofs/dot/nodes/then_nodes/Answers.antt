use Rattle.std.proofs.Common.{◌≡◌, true, false, cond, ◌++◌, sym, ◌∙◌, ap, [], length, flat_map, arith}
use Rattle.std.proofs.lemmas.List.{append-nil}
use Rattle.vcp_outside.specs.Drawing.{each_below}
use Rattle.pictures.specs.Arrangement.{place_at}
use Rattle.pictures.specs.Colours.{colours}
use Rattle.pictures.specs.Constants.{is_constant}
use Rattle.pictures.specs.Drawn.{box_at, box_drawn}
use Rattle.pictures.specs.DotText.{box_text, node_line, node_name, label}
use Rattle.pictures.proofs.Going.{one_text_more}
use Rattle.vcp_outside.specs.Pens.{unmoved, and_then, same}
use Rattle.pictures.proofs.dot.nodes.then_nodes.Goals as goal

pub operations-init : goal.operations-init
operations-init g c = unmoved

pub operations-preserved : goal.operations-preserved
operations-preserved g c =
    let graph = c.args.graph.now in
    let n = c.operations.n in
    let looks = colours graph c.args.weights.now c.args.distances in
    let boxes = box_at graph looks [] in
    let op = c.operation-op.result in
    let is : is_constant op.kind ≡ false = sym c.is_constant.ensures ∙ c.if-is_constant.false in
    let drawn = rw (c.colour_of-colour.ensures, c.outputs.ensures) at c.then_operation-pen.ensures in
    same (and_then c.operations.invariant drawn)
    (one_text_more (box_text graph) boxes n ∙ ap (λ t. flat_map (box_text graph) (each_below boxes n) ++ t)
    (ap (λ o. flat_map (box_text graph) (box_drawn graph n (looks n) (place_at [] n) o)) c.operation-op.ensures ∙ append-nil _
    ∙ ap (λ t. cond t [] (node_line (node_name n) (label graph n (looks n) op) op.kind (looks n))) is))

pub operations-preserved-then-is_constant : goal.operations-preserved-then-is_constant
operations-preserved-then-is_constant g c =
    let graph = c.args.graph.now in
    let n = c.operations.n in
    let looks = colours graph c.args.weights.now c.args.distances in
    let boxes = box_at graph looks [] in
    let op = c.operation-op.result in
    let is : is_constant op.kind ≡ true = sym c.is_constant.ensures ∙ c.if-is_constant.true in
    same (and_then c.operations.invariant unmoved)
    (one_text_more (box_text graph) boxes n ∙ ap (λ t. flat_map (box_text graph) (each_below boxes n) ++ t)
    (ap (λ o. flat_map (box_text graph) (box_drawn graph n (looks n) (place_at [] n) o)) c.operation-op.ensures ∙ append-nil _
    ∙ ap (λ t. cond t [] (node_line (node_name n) (label graph n (looks n) op) op.kind (looks n))) is))

pub returns : goal.returns
returns g c =
    let all : c.operations.n ≡ length c.args.graph.now.operations =
    omega (arith, c.operations-test.false, c.operations.auto.n-end, c.len-n-end.ensures.count) in
    rw all at c.operations.invariant
