use Rattle.fault_sites.specs.Rests.{groups}
use Rattle.fault_sites.proofs.WrittenScripts.{how_many_groups_written, no_failure, no_groups_written, part_of_groups_written}
use Rattle.fault_sites.proofs.scripts.of_rests.write_chosen_rests.Goals as goal

pub returns-in-Some-clause-writes : goal.returns-in-Some-clause-writes
returns-in-Some-clause-writes g c =
    part_of_groups_written _ _ c.args.graph.now c.args.table.now (groups c.args.graph.now c.args.cycles) c.args.chosen.now c.count_rests-total.result
    c.in-Some.part c.write_part.result c.count_rests-total.ensures c.in-Some.ensures c.write_part.ensures.writes

pub returns-in-Some-clause-failed : goal.returns-in-Some-clause-failed
returns-in-Some-clause-failed g c = c.write_part.ensures.failed

pub returns-clause-writes : goal.returns-clause-writes
returns-clause-writes g c =
    how_many_groups_written _ _ c.args.graph.now c.args.table.now (groups c.args.graph.now c.args.cycles) c.args.chosen.now c.count_rests-total.result
    c.write_number.result c.count_rests-total.ensures c.in-None.ensures c.write_number.ensures.writes

pub returns-clause-failed : goal.returns-clause-failed
returns-clause-failed g c = c.write_number.ensures.failed

pub returns-in-Err-clause-writes : goal.returns-in-Err-clause-writes
returns-in-Err-clause-writes g c =
    no_groups_written c.args.graph.now c.args.table.now (groups c.args.graph.now c.args.cycles) c.args.chosen.now (g.O.Sink.seen c.args.out.now).written

pub returns-in-Err-clause-failed : goal.returns-in-Err-clause-failed
returns-in-Err-clause-failed g c = λ is. no_failure is
