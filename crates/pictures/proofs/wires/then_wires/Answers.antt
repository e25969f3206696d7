use Rattle.std.proofs.Common.{◌≡◌, ◌++◌, ◌∙◌, ap, length, arith}
use Rattle.pictures.specs.Drawn.{wire_of, wires_of, wires_at}
use Rattle.pictures.specs.Elements.{wire_elements}
use Rattle.pictures.proofs.Going.{drawn_more, drawn_text, one_more}
use Rattle.vcp_outside.specs.Pens.{unmoved, and_then, same, both}
use Rattle.pictures.proofs.wires.then_wires.Goals as goal

pub operations-init : goal.operations-init
operations-init g c = unmoved

pub operations-preserved : goal.operations-preserved
operations-preserved g c =
    let graph = c.args.graph.now in
    let places = c.args.layout.now.places in
    let n = c.operations.n in
    let op = c.operation-op.result in
    let first = wire_of places n op 0 in
    let second = wire_of places n op 1 in
    let third = wire_of places n op 2 in
    let all = and_then c.then_wire-pen.ensures (and_then c.then_wire-pen-in-operations.ensures c.then_wire-pen-in-operations-2.ensures) in
    let drawn = same all (ap (λ o. drawn_text (wire_elements graph) (wires_of places n o)) c.operation-op.ensures
    ∙ (drawn_more (wire_elements graph) first (second ++ third)
    ∙ ap (λ t. drawn_text (wire_elements graph) first ++ t) (drawn_more (wire_elements graph) second third))) in
    both _ _ _ c.operations.invariant drawn (one_more (wire_elements graph) (wires_at graph places) n)

pub returns : goal.returns
returns g c =
    let all : c.operations.n ≡ length c.args.graph.now.operations =
    omega (arith, c.operations-test.false, c.operations.auto.n-end, c.len-n-end.ensures.count) in
    rw all at c.operations.invariant
