use Rattle.std.proofs.Common.{◌≡◌, true, false, cond, [], sym, ◌∙◌, ap, length, arith, flat_map}
use Rattle.std.proofs.lemmas.List.{append-nil}
use Rattle.vcp_outside.specs.Elements.{element_text}
use Rattle.pictures.specs.Arrangement.{place_at}
use Rattle.pictures.specs.Constants.{is_constant}
use Rattle.pictures.specs.Drawn.{box_of, box_drawn, box_at}
use Rattle.pictures.specs.Elements.{box_elements, body_elements}
use Rattle.pictures.proofs.Going.{one_more, drawn_text}
use Rattle.vcp_outside.specs.Pens.{unmoved, same, both}
use Rattle.pictures.proofs.boxes.then_boxes.Goals as goal

pub operations-init : goal.operations-init
operations-init g c = unmoved

pub operations-preserved : goal.operations-preserved
operations-preserved g c =
    let graph = c.args.graph.now in
    let n = c.operations.n in
    let looks = g.L.Looks.looks c.args.looks.now graph in
    let places = c.args.layout.now.places in
    let box = box_of graph n (looks n) (place_at places n) c.operation-op.result in
    let is : is_constant c.operation-op.result.kind ≡ false = sym c.is_constant.ensures ∙ c.if-is_constant.false in
    let drawn = rw (c.look-look.ensures, c.place-place.ensures) at c.then_body-pen.ensures in
    let one = ap (λ o. drawn_text (box_elements graph looks) (box_drawn graph n (looks n) (place_at places n) o)) c.operation-op.ensures
    ∙ ap (flat_map element_text) (append-nil (box_elements graph looks box) ∙ ap (λ t. cond t [] (body_elements graph looks box)) is) in
    both _ _ _ c.operations.invariant (same {s = flat_map element_text (body_elements graph looks box)} drawn one) (one_more (box_elements graph looks) (box_at graph looks places) n)

pub operations-preserved-then-is_constant : goal.operations-preserved-then-is_constant
operations-preserved-then-is_constant g c =
    let graph = c.args.graph.now in
    let n = c.operations.n in
    let looks = g.L.Looks.looks c.args.looks.now graph in
    let places = c.args.layout.now.places in
    let box = box_of graph n (looks n) (place_at places n) c.operation-op.result in
    let is : is_constant c.operation-op.result.kind ≡ true = sym c.is_constant.ensures ∙ c.if-is_constant.true in
    let none = ap (λ o. drawn_text (box_elements graph looks) (box_drawn graph n (looks n) (place_at places n) o)) c.operation-op.ensures
    ∙ ap (flat_map element_text) (append-nil (box_elements graph looks box) ∙ ap (λ t. cond t [] (body_elements graph looks box)) is) in
    both _ _ _ c.operations.invariant (same unmoved none) (one_more (box_elements graph looks) (box_at graph looks places) n)

pub returns : goal.returns
returns g c =
    let all : c.operations.n ≡ length c.args.graph.now.operations =
    omega (arith, c.operations-test.false, c.operations.auto.n-end, c.len-n-end.ensures.count) in
    rw all at c.operations.invariant
