use Rattle.std.proofs.Common.{◌≡◌, true, false, cond, Option, Some, None, [], ◌∷◌, slice_get, refl, sym, ◌∙◌, flat_map, ap}
use Rattle.std.proofs.lemmas.List.{append-nil}
use Rattle.std.specs.Option.{is_some}
use Rattle.op_graph.specs.declared.op.Op.{Op}
use Rattle.op_graph.specs.Rules.{reads_as}
use Rattle.vcp_outside.specs.Elements.{element_text}
use Rattle.pictures.specs.Arrangement.{place_at}
use Rattle.pictures.specs.Constants.{is_constant_there}
use Rattle.pictures.specs.Drawn.{Wire}
use Rattle.pictures.specs.Elements.{wire_element, line_from, wire_elements}
use Rattle.pictures.proofs.Going.{one_drawn}
use Rattle.vcp_outside.specs.Pens.{unmoved, same}
use Rattle.pictures.proofs.wires.then_wire.Goals as goal

of_constant : (w : Wire) (o : Option Op) → is_constant_there o ≡ true → line_from w o ≡ []
of_constant w None is = absurd cc
of_constant w (Some op) is = ap (λ t. cond t [] (wire_element w ∷ [])) is

of_other : (w : Wire) (o : Option Op) → is_constant_there o ≡ false → line_from w o ≡ wire_element w ∷ []
of_other w None is = refl
of_other w (Some op) is = ap (λ t. cond t [] (wire_element w ∷ [])) is

pub returns-then-not-reads_operation : goal.returns-then-not-reads_operation
returns-then-not-reads_operation g c =
    let op = c.args.op.now in
    let reads : is_some (reads_as op.kind op.from c.args.j) ≡ false = sym (c.reads_operation.ensures op.from) ∙ c.if-not-reads_operation.true in
    rw reads unmoved

pub returns-then-not-is_constant_at : goal.returns-then-not-is_constant_at
returns-then-not-is_constant_at g c =
    let op = c.args.op.now in
    let ops = c.args.graph.now.operations in
    let places = c.args.layout.now.places in
    let reads : is_some (reads_as op.kind op.from c.args.j) ≡ true = sym (c.reads_operation.ensures op.from) ∙ c.if-not-reads_operation.false in
    let is : is_constant_there (slice_get ops c.args.k) ≡ false = sym c.is_constant_at.ensures.value ∙ c.if-not-is_constant_at.true in
    let drawn = rw (c.place.ensures, c.place-then-not-is_constant_at.ensures) at c.then_line.ensures in
    let w : Wire = record { operand = c.args.k; reader = c.args.n; which = c.args.j; from = place_at places c.args.k; to = place_at places c.args.n } in
    rw (reads, c.requires) (same drawn (ap (flat_map element_text) (append-nil (wire_elements c.args.graph.now w) ∙ of_other w (slice_get ops c.args.k) is)
    ∙ one_drawn (wire_element w)))

pub returns-else-not-is_constant_at : goal.returns-else-not-is_constant_at
returns-else-not-is_constant_at g c =
    let op = c.args.op.now in
    let ops = c.args.graph.now.operations in
    let places = c.args.layout.now.places in
    let reads : is_some (reads_as op.kind op.from c.args.j) ≡ true = sym (c.reads_operation.ensures op.from) ∙ c.if-not-reads_operation.false in
    let is : is_constant_there (slice_get ops c.args.k) ≡ true = sym c.is_constant_at.ensures.value ∙ c.if-not-is_constant_at.false in
    let w : Wire = record { operand = c.args.k; reader = c.args.n; which = c.args.j; from = place_at places c.args.k; to = place_at places c.args.n } in
    rw (reads, c.requires) (same unmoved (ap (flat_map element_text) (append-nil (wire_elements c.args.graph.now w) ∙ of_constant w (slice_get ops c.args.k) is)))
