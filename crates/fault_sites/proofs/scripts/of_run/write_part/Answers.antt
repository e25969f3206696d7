use Rattle.std.proofs.Common.{◌≤◌, ◌^◌, length, arith}
use Rattle.fault_script.specs.ScriptOf.{most_faults}
use Rattle.fault_sites.specs.Part.{kept}
use Rattle.fault_sites.specs.RunSites.{run_class_name, run_sites}
use Rattle.fault_sites.proofs.RunFit.{run_read_back, run_short}
use Rattle.fault_sites.proofs.WrittenScripts.{is_script, no_failure, script_unwritten, too_many_is_none, too_many_written}
use Rattle.fault_sites.proofs.scripts.of_run.write_part.Goals as goal

pub write_by-requires-clause-script : goal.write_by-requires-clause-script
write_by-requires-clause-script g c =
    let a = c.args in
    let ops : length a.graph.now.operations ≤ 2 ^ 32 = omega (arith, c.len-operations.ensures.count) in
    let room : c.size_of.result ≤ most_faults = omega (arith, c.if-size_of.false) in
    let d = c.in-Ok.ensures in
    let digest = c.in-Ok.digest in
    is_script (run_class_name a.class) digest a.table.now a.graph.now (run_sites a.class a.table.now a.graph.now a.rows.now) a.part c.size_of.result a.total
    d.digits c.size_of.ensures c.requires.total room
    (run_read_back a.class digest a.table.now a.graph.now a.rows.now a.part d.plain c.requires.few ops)
    (run_short a.class digest a.table.now a.graph.now a.rows.now a.part (omega (arith, d.count)) c.requires.few ops)

pub returns-then-size_of-clause-writes : goal.returns-then-size_of-clause-writes
returns-then-size_of-clause-writes g c =
    let a = c.args in
    too_many_written a.graph.now a.table.now (run_class_name a.class) (run_sites a.class a.table.now a.graph.now a.rows.now) a.part c.size_of.result a.total
    (g.O.Sink.seen a.out.now).written c.size_of.ensures c.requires.total (omega (arith, c.if-size_of.true))

pub returns-then-size_of-clause-failed : goal.returns-then-size_of-clause-failed
returns-then-size_of-clause-failed g c = λ is. too_many_is_none is

pub image_digest-requires : goal.image_digest-requires
image_digest-requires g c = c.requires.table

pub write_by-requires-clause-few : goal.write_by-requires-clause-few
write_by-requires-clause-few g c = c.requires.few

pub write_by-requires-clause-width : goal.write_by-requires-clause-width
write_by-requires-clause-width g c = c.requires.width

pub returns-in-Ok-clause-writes : goal.returns-in-Ok-clause-writes
returns-in-Ok-clause-writes g c = c.write_by.ensures.writes

pub returns-in-Ok-clause-failed : goal.returns-in-Ok-clause-failed
returns-in-Ok-clause-failed g c = c.write_by.ensures.failed

pub returns-in-Err-clause-writes : goal.returns-in-Err-clause-writes
returns-in-Err-clause-writes g c =
    let a = c.args in
    script_unwritten a.graph.now a.table.now (run_class_name a.class) (kept a.part (run_sites a.class a.table.now a.graph.now a.rows.now))
    (g.O.Sink.seen a.out.now).written

pub returns-in-Err-clause-failed : goal.returns-in-Err-clause-failed
returns-in-Err-clause-failed g c = λ is. no_failure is
