use Rattle.std.proofs.Common.{sym, ◌∙◌, arith}
use Rattle.verdict_tables.proofs.Picking.{first_more, first_past}
use Rattle.verdict_tables.proofs.tables.first_cycle.Goals as goal

pub faults-preserved : goal.faults-preserved
faults-preserved c = c.faults.invariant ∙ first_more c.faults.first c.args.group.now c.faults.i c.at.result _ c.at.ensures c.min-first.ensures

pub returns : goal.returns
returns c = sym (c.faults.invariant ∙ first_past c.faults.first c.args.group.now c.faults.i (omega (arith, c.faults-test.false, c.len-i-end.ensures)))
