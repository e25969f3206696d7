use Rattle.std.proofs.Common.{◌≤◌, ◌^◌, length, sym, ◌∙◌, arith}
use Rattle.fault_script.specs.ScriptOf.{most_faults}
use Rattle.fault_sites.specs.Part.{kept}
use Rattle.fault_sites.specs.Sites.{sites}
use Rattle.fault_sites.specs.SiteText.{classes_name, sites_text}
use Rattle.fault_sites.proofs.ReadBack.{read_back}
use Rattle.fault_sites.proofs.Short.{is_short}
use Rattle.fault_sites.proofs.WrittenScripts.{is_script, no_failure, script_unwritten, script_written, sink_failed, too_many_is_none, too_many_written}
use Rattle.fault_sites.proofs.scripts.of_class.write_part.Goals as goal

pub returns-in-Ok-clause-writes : goal.returns-in-Ok-clause-writes
returns-in-Ok-clause-writes g c =
    let a = c.args in
    let ops : length a.graph.now.operations ≤ 2 ^ 32 = omega (arith, c.len-operations.ensures.count) in
    let room : c.size_of.result ≤ most_faults = omega (arith, c.if-size_of.false) in
    let d = c.in-Ok.ensures in
    let xs = sites a.classes a.graph.now a.cycles in
    let digest = c.in-Ok.digest in
    rw c.outcome.ensures (script_written a.graph.now a.table.now (classes_name a.classes) (kept a.part xs)
    (sites_text a.classes digest a.graph.now a.cycles a.part) c.write_sites.result
    (is_script (classes_name a.classes) digest a.table.now a.graph.now xs a.part c.size_of.result a.total d.digits c.size_of.ensures c.requires.total room
    (read_back a.classes digest a.graph.now a.cycles a.part d.plain c.requires.few ops)
    (is_short a.classes digest a.graph.now a.cycles a.part (omega (arith, d.count)) c.requires.few ops)) c.write_sites.ensures)

pub returns-in-Ok-clause-failed : goal.returns-in-Ok-clause-failed
returns-in-Ok-clause-failed g c = λ is. sink_failed c.write_sites.result c.write_sites.ensures (sym c.outcome.ensures ∙ is)

pub returns-then-size_of-clause-writes : goal.returns-then-size_of-clause-writes
returns-then-size_of-clause-writes g c =
    let a = c.args in
    too_many_written a.graph.now a.table.now (classes_name a.classes) (sites a.classes a.graph.now a.cycles) a.part c.size_of.result a.total
    (g.O.Sink.seen a.out.now).written c.size_of.ensures c.requires.total (omega (arith, c.if-size_of.true))

pub returns-then-size_of-clause-failed : goal.returns-then-size_of-clause-failed
returns-then-size_of-clause-failed g c = λ is. too_many_is_none is

pub image_digest-requires : goal.image_digest-requires
image_digest-requires g c = c.requires.table

pub returns-in-Err-clause-writes : goal.returns-in-Err-clause-writes
returns-in-Err-clause-writes g c =
    let a = c.args in
    script_unwritten a.graph.now a.table.now (classes_name a.classes) (kept a.part (sites a.classes a.graph.now a.cycles)) (g.O.Sink.seen a.out.now).written

pub returns-in-Err-clause-failed : goal.returns-in-Err-clause-failed
returns-in-Err-clause-failed g c = λ is. no_failure is
