use Rattle.std.proofs.Common.{true, false, sym, ◌∙◌, arith}
use Rattle.verdict_tables.specs.Tables.{is_fault_in}
use Rattle.verdict_tables.proofs.Picking.{any_from, any_past}
use Rattle.verdict_tables.proofs.tables.has_fault_in.Goals as goal

pub faults-preserved : goal.faults-preserved
faults-preserved c =
    c.faults.invariant
    ∙ any_from (is_fault_in c.args.table c.args.n) c.args.group.now c.faults.i c.at.result false c.at.ensures
    (sym c.is_fault_in.ensures ∙ c.if-is_fault_in.false)

pub returns-then-is_fault_in : goal.returns-then-is_fault_in
returns-then-is_fault_in c =
    sym
    (c.faults.invariant
    ∙ any_from (is_fault_in c.args.table c.args.n) c.args.group.now c.faults.i c.at.result true c.at.ensures
    (sym c.is_fault_in.ensures ∙ c.if-is_fault_in.true))

pub returns : goal.returns
returns c =
    sym
    (c.faults.invariant
    ∙ any_past (is_fault_in c.args.table c.args.n) c.args.group.now c.faults.i (omega (arith, c.faults-test.false, c.len-i-end.ensures)))
