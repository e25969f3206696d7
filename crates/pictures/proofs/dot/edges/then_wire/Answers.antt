use Rattle.std.proofs.Common.{◌≡◌, true, false, cond, ℕ, length, Option, Some, None, slice_get, refl, ap, sym, ◌∙◌}
use Rattle.std.proofs.lemmas.List.{append-nil}
use Rattle.std.specs.Option.{is_some}
use Rattle.op_graph.specs.declared.op.Op.{Op}
use Rattle.op_graph.specs.Lists.{Lists}
use Rattle.op_graph.specs.Rules.{reads_as}
use Rattle.weight_audit.specs.Audit.{Audit}
use Rattle.pictures.specs.Colours.{colour_of}
use Rattle.pictures.specs.Constants.{is_constant, is_constant_there}
use Rattle.pictures.specs.DotText.{node_name, edge_line, constant_text, reading_text}
use Rattle.vcp_outside.specs.Pens.{unmoved, and_then, same}
use Rattle.pictures.proofs.dot.edges.then_wire.Goals as goal

module _ (g : Lists) (a : Audit) (distances n reader which : ℕ) where
  of_constant : (op : Op) → is_constant op.kind ≡ true
      → reading_text g a distances n (Some op) reader which ≡ constant_text g n (colour_of a n distances (length g.outputs)) op reader which
  of_constant op is = ap (λ t. cond t (constant_text g n (colour_of a n distances (length g.outputs)) op reader which) (edge_line (node_name n) reader which)) is

  of_other : (o : Option Op) → is_constant_there o ≡ false → reading_text g a distances n o reader which ≡ edge_line (node_name n) reader which
  of_other None is = refl
  of_other (Some op) is =
      ap (λ t. cond t (constant_text g n (colour_of a n distances (length g.outputs)) op reader which) (edge_line (node_name n) reader which)) is

pub returns-then-not-reads_operation : goal.returns-then-not-reads_operation
returns-then-not-reads_operation g c =
    let op = c.args.op.now in
    let reads : is_some (reads_as op.kind op.from c.args.j) ≡ false = sym (c.reads_operation.ensures op.from) ∙ c.if-not-reads_operation.true in
    rw reads unmoved

pub returns-then-is_constant_at : goal.returns-then-is_constant_at
returns-then-is_constant_at g c =
    let op = c.args.op.now in
    let graph = c.args.graph.now in
    let a = c.args.weights.now in
    let constant = c.operation-constant.result in
    let reads : is_some (reads_as op.kind op.from c.args.j) ≡ true = sym (c.reads_operation.ensures op.from) ∙ c.if-not-reads_operation.false in
    let is : is_constant constant.kind ≡ true =
    sym (ap is_constant_there c.operation-constant.ensures) ∙ sym c.is_constant_at.ensures.value ∙ c.if-is_constant_at.true in
    let drawn = rw (c.colour_of-colour.ensures, c.outputs.ensures) at c.then_constant_at.ensures in
    rw (reads, c.requires.names) (same (same drawn (ap (λ o. reading_text graph a c.args.distances c.args.k o c.args.n c.args.j) c.operation-constant.ensures
    ∙ of_constant graph a c.args.distances c.args.k c.args.n c.args.j constant is)) (append-nil _))

pub returns-else-is_constant_at : goal.returns-else-is_constant_at
returns-else-is_constant_at g c =
    let op = c.args.op.now in
    let graph = c.args.graph.now in
    let reads : is_some (reads_as op.kind op.from c.args.j) ≡ true = sym (c.reads_operation.ensures op.from) ∙ c.if-not-reads_operation.false in
    let is : is_constant_there (slice_get graph.operations c.args.k) ≡ false = sym c.is_constant_at.ensures.value ∙ c.if-is_constant_at.false in
    rw (reads, c.requires.names) (same (same (and_then c.numbered-pen.ensures c.then_edge_end.ensures)
    (of_other graph c.args.weights.now c.args.distances c.args.k c.args.n c.args.j (slice_get graph.operations c.args.k) is)) (append-nil _))
