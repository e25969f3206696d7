use Rattle.std.proofs.Common.{ℕ, ◌-◌, ap, arith}
use Rattle.fault_sites.specs.Rests.{groups_in}
use Rattle.fault_sites.proofs.Spending.{budget, spends_over, spends_past}
use Rattle.fault_sites.proofs.rests.then_cycle_or_pass.Goals as goal

pub returns-then-budget-eq0 : goal.returns-then-budget-eq0
returns-then-budget-eq0 g c = spends_over (groups_in c.args.graph.now c.args.more c.args.n) c.if-budget-eq0.true

pub returns-then-readings-budget : goal.returns-then-readings-budget
returns-then-readings-budget g c =
    let b = c.args.spent.budget in
    let many = c.requires.readings.groups c.args.n in
    spends_past (groups_in c.args.graph.now c.args.more c.args.n) (omega (arith, c.if-budget-eq0.false)) (omega (arith, c.if-readings-budget.true, many))
    (ap (λ (m : ℕ). budget (b.skip - m) b.left b.room) many)
