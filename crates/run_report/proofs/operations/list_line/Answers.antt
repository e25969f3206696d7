use Rattle.std.proofs.Common.{◌≡◌, ℕ, List, ◌++◌, codes, append_assoc, rules, w64}
use mir.Val.{SFits}
use Rattle.std.proofs.Math.Facts.{to_z-of_z}
use Rattle.op_graph.specs.declared.op.Op.{Op}
use Rattle.run_report.specs.OperationLines.{operation_front, operands_text, own_text, code_text, source_text}
use Rattle.vcp_outside.specs.Pens.{ended}
use Rattle.run_report.proofs.operations.list_line.Goals as goal

pieces : (front read own code source : List ℕ)
    → front ++ (read ++ (own ++ (code ++ (source ++ codes "\n")))) ≡ front ++ read ++ own ++ code ++ source ++ codes "\n"
pieces front read own code source = simp append_assoc

pub returns : goal.returns
returns g c =
    let op : Op = c.operation-op.result in
    let fits : SFits w64 op.imm = search rules in
    let read = c.then_operands-pen.ensures _ _ _ c.begin_operation-pen.ensures in
    let own = rw (to_z-of_z {w = w64} {z = op.imm} fits) at (c.then_own_number-pen.ensures _ _ _ read) in
    let code = c.then_code-pen.ensures _ _ _ own in
    let source = rw c.operation-op.ensures at c.then_source.ensures in
    rw c.operation-op.ensures
    (ended g.O.Sink.seen (search rules) (source _ _ _ code) c.end.ensures (pieces (operation_front c.args.i op) (operands_text op) (own_text op.kind op.imm) (code_text c.args.table.now c.args.i) (source_text c.args.graph.now op)))
