use Rattle.std.proofs.Common.{rules, w64, ◌≡◌, true, false, cond, ℕ, Option, Some, None, [], ◌++◌, slice_get, refl, ap, sym, ◌∙◌, flat_map}
use mir.Val.{SFits}
use Rattle.std.proofs.Math.Facts.{to_z-of_z}
use Rattle.std.specs.Option.{is_some}
use Rattle.op_graph.specs.declared.op.Op.{Op}
use Rattle.op_graph.specs.Lists.{Lists}
use Rattle.op_graph.specs.Rules.{reads_as}
use Rattle.vcp_outside.specs.Elements.{element_text}
use Rattle.pictures.specs.declared.layout.BoxPlace.{BoxPlace}
use Rattle.pictures.specs.declared.looks.Look.{Look}
use Rattle.pictures.specs.Constants.{is_constant, is_constant_there}
use Rattle.pictures.specs.Drawn.{own_of}
use Rattle.pictures.specs.Elements.{patch, patch_value, constant_elements, constant_of}
use Rattle.pictures.proofs.Going.{one_drawn}
use Rattle.vcp_outside.specs.Pens.{unmoved, and_then, same}
use Rattle.pictures.proofs.constants.then_constant_at.Goals as goal

module _ (g : Lists) (looks : ℕ → Look) (p : BoxPlace) (which k : ℕ) where
  of_constant : (op : Op) → is_constant op.kind ≡ true
      → constant_of g looks p which k (Some op) ≡ constant_elements p which k (looks k) (own_of g op.kind op.imm)
  of_constant op is = ap (λ t. cond t (constant_elements p which k (looks k) (own_of g op.kind op.imm)) []) is

  of_other : (o : Option Op) → is_constant_there o ≡ false → constant_of g looks p which k o ≡ []
  of_other None is = refl
  of_other (Some op) is = ap (λ t. cond t (constant_elements p which k (looks k) (own_of g op.kind op.imm)) []) is

pub returns-then-not-reads_operation : goal.returns-then-not-reads_operation
returns-then-not-reads_operation g c =
    let op = c.args.op.now in
    let reads : is_some (reads_as op.kind op.from c.args.which) ≡ false = sym (c.reads_operation.ensures op.from) ∙ c.if-not-reads_operation.true in
    rw reads unmoved

pub returns-then-is_constant_at : goal.returns-then-is_constant_at
returns-then-is_constant_at g c =
    let op = c.args.op.now in
    let graph = c.args.graph.now in
    let looks = g.L.Looks.looks c.args.looks.now graph in
    let k = c.args.k in
    let constant = c.operation-constant.result in
    let reads : is_some (reads_as op.kind op.from c.args.which) ≡ true = sym (c.reads_operation.ensures op.from) ∙ c.if-not-reads_operation.false in
    let is : is_constant constant.kind ≡ true =
    sym (ap is_constant_there c.operation-constant.ensures) ∙ sym c.is_constant_at.ensures.value ∙ c.if-is_constant_at.true in
    let fits : SFits w64 constant.imm = search rules in
    let patched = rw c.look.ensures at c.then_patch-pen.ensures in
    let told = rw (c.own_piece-value.ensures, to_z-of_z {w = w64} {z = constant.imm} fits) at c.then_value.ensures in
    rw (reads, c.requires.names) (same (and_then patched told)
    (ap (λ o. flat_map element_text (constant_of graph looks c.args.place c.args.which k o)) c.operation-constant.ensures
    ∙ ap (flat_map element_text) (of_constant graph looks c.args.place c.args.which k constant is)
    ∙ ap (λ t. element_text (patch c.args.place c.args.which k (looks k)) ++ t) (one_drawn (patch_value c.args.place c.args.which (own_of graph constant.kind constant.imm)))))

pub returns-else-is_constant_at : goal.returns-else-is_constant_at
returns-else-is_constant_at g c =
    let op = c.args.op.now in
    let graph = c.args.graph.now in
    let looks = g.L.Looks.looks c.args.looks.now graph in
    let reads : is_some (reads_as op.kind op.from c.args.which) ≡ true = sym (c.reads_operation.ensures op.from) ∙ c.if-not-reads_operation.false in
    let is : is_constant_there (slice_get graph.operations c.args.k) ≡ false = sym c.is_constant_at.ensures.value ∙ c.if-is_constant_at.false in
    rw (reads, c.requires.names) (same unmoved (ap (flat_map element_text) (of_other graph looks c.args.place c.args.which c.args.k (slice_get graph.operations c.args.k) is)))
