use Rattle.std.proofs.Common.{◌≡◌, ◌++◌, ◌∙◌, [], ap, flat_map, length, refl, arith}
use Rattle.std.proofs.lemmas.Grind.{flat_map-append}
use Rattle.pictures.specs.Drawn.{wire_of, wires_of, wires_at}
use Rattle.pictures.specs.DotText.{wire_text}
use Rattle.pictures.proofs.Going.{one_text_more}
use Rattle.vcp_outside.specs.Pens.{unmoved, and_then, same}
use Rattle.pictures.proofs.dot.edges.then_edges.Goals as goal

pub operations-init : goal.operations-init
operations-init g c = unmoved

pub operations-preserved : goal.operations-preserved
operations-preserved g c =
    let n = c.operations.n in
    let op = c.operation-op.result in
    let text = wire_text c.args.graph.now c.args.weights.now c.args.distances in
    let first = wire_of [] n op 0 in
    let second = wire_of [] n op 1 in
    let third = wire_of [] n op 2 in
    let all = and_then c.then_wire-pen.ensures (and_then c.then_wire-pen-in-operations.ensures c.then_wire-pen-in-operations-2.ensures) in
    let told = same all (ap (λ o. flat_map text (wires_of [] n o)) c.operation-op.ensures
    ∙ (flat_map-append text first (second ++ third) ∙ ap (λ t. flat_map text first ++ t) (flat_map-append text second third))) in
    same (and_then c.operations.invariant told) (one_text_more text (wires_at c.args.graph.now []) n)

pub returns : goal.returns
returns g c =
    let all : c.operations.n ≡ length c.args.graph.now.operations =
    omega (arith, c.operations-test.false, c.operations.auto.n-end, c.len-n-end.ensures.count) in
    rw all at c.operations.invariant

pub then_wire-pen-requires : goal.then_wire-pen-requires
then_wire-pen-requires g c = record { operations = c.requires.operations; outputs = c.requires.outputs; distances = c.requires.distances; names = refl }

pub then_wire-pen-requires-in-operations : goal.then_wire-pen-requires-in-operations
then_wire-pen-requires-in-operations g c = record { operations = c.requires.operations; outputs = c.requires.outputs; distances = c.requires.distances; names = refl }

pub then_wire-pen-requires-in-operations-2 : goal.then_wire-pen-requires-in-operations-2
then_wire-pen-requires-in-operations-2 g c = record { operations = c.requires.operations; outputs = c.requires.outputs; distances = c.requires.distances; names = refl }
