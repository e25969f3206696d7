use Rattle.std.proofs.Common.{◌≤◌, Option, ap, rules, subst, w64}
use mir.Val.{SFits}
use Rattle.std.proofs.Math.Facts.{to_z-of_z}
use Rattle.std.proofs.lemmas.Option.{slice_get_past, slice_get_within}
use Rattle.op_graph.specs.declared.op.Op.{Op}
use Rattle.verdict_tables.specs.Places.{operation_text}
use Rattle.vcp_outside.specs.Pens.{unmoved, and_then, same}
use Rattle.verdict_tables.proofs.names.then_operation.Goals as goal

pub returns-then-n-len : goal.returns-then-n-len
returns-then-n-len g c =
    let op = c.operation-op.result in
    let fits : SFits w64 op.imm = search rules in
    let kind = rw c.kind_name.ensures at c.texts-pen.ensures in
    let variable = rw (c.unsigned_abs.ensures.value, to_z-of_z {w = w64} {z = op.imm} fits) at c.then_variable-pen.ensures in
    let place = rw c.operation-op.ensures at c.then_source.ensures in
    same (and_then c.numbered.ensures (and_then kind (and_then variable place)))
    (ap (λ (op : Option Op). operation_text c.args.graph.now c.args.n op) c.operation-op.ensures)

pub then_source-requires : goal.then_source-requires
then_source-requires g c = slice_get_within c.args.graph.now.operations c.args.n c.operation-op.result c.operation-op.ensures

pub returns-else-n-len : goal.returns-else-n-len
returns-else-n-len g c =
    same unmoved (ap (λ (op : Option Op). operation_text c.args.graph.now c.args.n op)
    (slice_get_past c.args.graph.now.operations c.args.n (subst (λ n. n ≤ c.args.n) c.len.ensures.count c.if-n-len.false)))
