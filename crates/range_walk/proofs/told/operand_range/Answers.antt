use Rattle.std.proofs.Common.{sym, ◌∙◌, nat_lt}
use Rattle.vcp_base.specs.Kinds.{operands}
use Rattle.op_graph.specs.GraphRun.{read}
use Rattle.range_walk.proofs.Operands.{operand_read, operand_none}
use Rattle.range_walk.proofs.told.operand_range.Goals as goal

pub read_range-requires : goal.read_range-requires
read_range-requires c = c.requires (sym c.has_operand-has.ensures ∙ c.if-has.true)

pub returns-then-has : goal.returns-then-has
returns-then-has c = λ held vs hold fit le.
    let op = c.args.op.now in
    operand_read c.read_range.result (nat_lt c.args.j (operands op.kind)) (read held vs op.kind op.imm c.args.n) (sym c.has_operand-has.ensures ∙ c.if-has.true)
    (c.read_range.ensures held vs hold fit le)

pub returns : goal.returns
returns c = λ held vs hold fit le.
    let op = c.args.op.now in
    operand_none c.only.result (nat_lt c.args.j (operands op.kind)) (read held vs op.kind op.imm c.args.n)
    (sym c.has_operand-has.ensures ∙ c.if-has.false) c.only.ensures
