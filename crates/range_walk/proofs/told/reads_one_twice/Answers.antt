use Rattle.std.proofs.Common.{sym, ◌∙◌}
use Rattle.range_walk.proofs.Operands.{same_operands}
use Rattle.range_walk.proofs.told.reads_one_twice.Goals as goal

pub returns-then-op : goal.returns-then-op
returns-then-op c = λ e held vs. same_operands held vs c.args.op.now (sym c.has_operand.ensures ∙ e) c.if-op.true
