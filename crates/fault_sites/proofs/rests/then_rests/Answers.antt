use Rattle.std.proofs.Common.{◌≡◌, ◌+◌, nat_lt, arith}
use Rattle.fault_sites.specs.Rests.{groups_in}
use Rattle.fault_sites.proofs.Spending.{spends_none, spends_more}
use Rattle.fault_sites.proofs.rests.then_rests.Goals as goal

pub cycles-init : goal.cycles-init
cycles-init g c = spends_none

pub then_cycle_or_pass-spent-requires-clause-readings : goal.then_cycle_or_pass-spent-requires-clause-readings
then_cycle_or_pass-spent-requires-clause-readings g c = c.readings_of-here.ensures c.args.graph.now c.requires.readings

pub cycles-preserved : goal.cycles-preserved
cycles-preserved g c =
    spends_more (λ n. groups_in c.args.graph.now (nat_lt (n + 1) c.args.cycles) n) c.cycles.n c.cycles.invariant c.then_cycle_or_pass-spent.ensures

pub returns : goal.returns
returns g c = let all : c.cycles.n ≡ c.args.cycles = omega arith in rw all at c.cycles.invariant
