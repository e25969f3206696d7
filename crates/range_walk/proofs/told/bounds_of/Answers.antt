use Rattle.std.proofs.Common.{◌≡◌, false, sym, subst}
use Rattle.vcp_base.specs.Kinds.{value, divides_by_zero}
use Rattle.op_graph.specs.GraphRun.{operand}
use Rattle.range_walk.specs.Intervals.{IsIn, IsWithin}
use Rattle.range_walk.proofs.told.bounds_of.Goals as goal

pub returns-then-twice : goal.returns-then-twice
returns-then-twice c = λ held vs o d.
    let op = c.args.op.now in
    let same = c.reads_one_twice-twice.ensures c.if-twice.true held vs in
    subst (λ v. IsWithin c.twice_bounds.result (value op.kind op.imm (operand held vs op 0 op.a) v (operand held vs op 2 op.c))) same
    (c.twice_bounds.ensures _ _ o.first (subst (λ v. IsIn c.args.o.second v) (sym same) o.second) o.third
    (subst (λ v. divides_by_zero op.kind v ≡ false) (sym same) d))

pub returns : goal.returns
returns c = λ held vs o d. c.value_bounds.ensures _ _ _ o.first o.second o.third d
