use Rattle.std.proofs.Common.{sym, ◌∙◌, rules, refl}
use Rattle.fault_sites.specs.Part.{kept}
use Rattle.fault_sites.specs.RunSites.{run_class_name, run_sites, run_text}
use Rattle.fault_sites.proofs.Ended.{ended_text}
use Rattle.fault_sites.proofs.WrittenScripts.{no_failure, script_unwritten, script_written, sink_failed}
use Rattle.vcp_outside.specs.Pens.{ended}
use Rattle.fault_sites.proofs.scripts.of_run.write_by.Goals as goal

pub then_part_of_run-pen-requires-clause-room : goal.then_part_of_run-pen-requires-clause-room
then_part_of_run-pen-requires-clause-room g c = c.in-Ok.ensures.room

pub then_part_of_run-pen-requires-clause-begun : goal.then_part_of_run-pen-requires-clause-begun
then_part_of_run-pen-requires-clause-begun g c = c.in-Ok.ensures.begun

pub then_part_of_run-pen-requires-clause-few : goal.then_part_of_run-pen-requires-clause-few
then_part_of_run-pen-requires-clause-few g c = c.requires.few

pub then_part_of_run-pen-requires-clause-width : goal.then_part_of_run-pen-requires-clause-width
then_part_of_run-pen-requires-clause-width g c = c.requires.width

pub returns-in-Ok-clause-writes : goal.returns-in-Ok-clause-writes
returns-in-Ok-clause-writes g c =
    let a = c.args in
    let name = run_class_name a.class in
    let sites = kept a.part (run_sites a.class a.table.now a.graph.now a.rows.now) in
    let remark = (rw c.run_class_name.ensures at c.then_remark-pen.ensures) _ _ _ c.new-in-Ok.ensures in
    let told = c.then_part_of_run-pen.ensures _ _ _ remark in
    rw c.outcome.ensures (script_written a.graph.now a.table.now name sites (run_text a.class a.digest.now a.table.now a.graph.now a.rows.now a.part)
    c.end.result c.requires.script (ended g.O.Sink.seen (search rules) told c.end.ensures (ended_text name a.digest.now sites)))

pub returns-in-Ok-clause-failed : goal.returns-in-Ok-clause-failed
returns-in-Ok-clause-failed g c = λ is.
    let remark = c.then_remark-pen.ensures _ _ _ c.new-in-Ok.ensures in
    let told = c.then_part_of_run-pen.ensures _ _ _ remark in
    sink_failed c.end.result (ended g.O.Sink.seen (search rules) told c.end.ensures refl) (sym c.outcome.ensures ∙ is)

pub returns-in-Err-clause-writes : goal.returns-in-Err-clause-writes
returns-in-Err-clause-writes g c =
    let a = c.args in
    script_unwritten a.graph.now a.table.now (run_class_name a.class) (kept a.part (run_sites a.class a.table.now a.graph.now a.rows.now))
    (g.O.Sink.seen a.out.now).written

pub returns-in-Err-clause-failed : goal.returns-in-Err-clause-failed
returns-in-Err-clause-failed g c = λ is. no_failure is
