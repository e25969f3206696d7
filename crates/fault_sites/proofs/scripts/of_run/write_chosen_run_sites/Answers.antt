use Rattle.fault_sites.specs.RunSites.{run_class_name, run_sites}
use Rattle.fault_sites.proofs.WrittenScripts.{how_many_written, no_failure, none_written, part_written}
use Rattle.fault_sites.proofs.scripts.of_run.write_chosen_run_sites.Goals as goal

pub returns-in-Some-clause-writes : goal.returns-in-Some-clause-writes
returns-in-Some-clause-writes g c =
    part_written _ _ c.args.graph.now c.args.table.now (run_class_name c.args.class) (run_sites c.args.class c.args.table.now c.args.graph.now c.args.rows.now)
    c.args.chosen.now c.in-Ok.total c.in-Some.part c.write_part.result c.in-Ok.ensures c.in-Some.ensures c.write_part.ensures.writes

pub returns-in-Some-clause-failed : goal.returns-in-Some-clause-failed
returns-in-Some-clause-failed g c = c.write_part.ensures.failed

pub returns-in-None-clause-writes : goal.returns-in-None-clause-writes
returns-in-None-clause-writes g c =
    how_many_written _ _ c.args.graph.now c.args.table.now (run_class_name c.args.class)
    (run_sites c.args.class c.args.table.now c.args.graph.now c.args.rows.now) c.args.chosen.now c.in-Ok.total c.write_number.result c.in-Ok.ensures
    c.in-None.ensures c.write_number.ensures.writes

pub returns-in-None-clause-failed : goal.returns-in-None-clause-failed
returns-in-None-clause-failed g c = c.write_number.ensures.failed

pub returns-in-Err-clause-writes : goal.returns-in-Err-clause-writes
returns-in-Err-clause-writes g c =
    none_written c.args.graph.now c.args.table.now _ (run_sites c.args.class c.args.table.now c.args.graph.now c.args.rows.now) c.args.chosen.now
    (g.O.Sink.seen c.args.out.now).written

pub returns-in-Err-clause-failed : goal.returns-in-Err-clause-failed
returns-in-Err-clause-failed g c = λ is. no_failure is
