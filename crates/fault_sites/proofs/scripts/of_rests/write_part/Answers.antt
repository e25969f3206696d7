use Rattle.std.proofs.Common.{◌≡◌, ◌≤◌, ◌^◌, length, true, sym, ◌∙◌, arith}
use Rattle.fault_script.specs.ScriptOf.{most_faults}
use Rattle.fault_sites.specs.Rests.{first_fits, fitting, groups, kept_groups, rest_text}
use Rattle.fault_sites.proofs.GroupsShort.{rest_script}
use Rattle.fault_sites.proofs.WrittenScripts.{groups_unwritten, groups_written, no_failure, sink_failed, too_many_groups, too_many_is_none}
use Rattle.fault_sites.proofs.scripts.of_rests.write_part.Goals as goal

pub returns-in-Ok-clause-writes : goal.returns-in-Ok-clause-writes
returns-in-Ok-clause-writes g c =
    let a = c.args in
    let gs = kept_groups a.part (groups a.graph.now a.cycles) in
    let ops : length a.graph.now.operations ≤ 2 ^ 32 = omega (arith, c.len-operations.ensures.count) in
    let first : first_fits most_faults gs ≡ true = sym c.fits.ensures ∙ c.if-fits.true in
    let d = c.in-Ok.ensures in
    rw c.outcome.ensures (groups_written a.graph.now a.table.now gs (rest_text c.in-Ok.digest (fitting most_faults gs)) c.write_rests.result first
    (rest_script c.in-Ok.digest a.table.now a.graph.now a.cycles a.part c.entries_keep_their_rules.ensures c.len-operations.ensures.rules.part c.requires.few
    d.digits d.plain d.count ops) c.write_rests.ensures)

pub returns-in-Ok-clause-failed : goal.returns-in-Ok-clause-failed
returns-in-Ok-clause-failed g c = λ is. sink_failed c.write_rests.result c.write_rests.ensures (sym c.outcome.ensures ∙ is)

pub returns-else-fits-clause-writes : goal.returns-else-fits-clause-writes
returns-else-fits-clause-writes g c =
    let a = c.args in
    too_many_groups a.graph.now a.table.now (kept_groups a.part (groups a.graph.now a.cycles)) (g.O.Sink.seen a.out.now).written
    (sym c.fits.ensures ∙ c.if-fits.false)

pub returns-else-fits-clause-failed : goal.returns-else-fits-clause-failed
returns-else-fits-clause-failed g c = λ is. too_many_is_none is

pub image_digest-requires : goal.image_digest-requires
image_digest-requires g c = c.requires.table

pub returns-in-Err-clause-writes : goal.returns-in-Err-clause-writes
returns-in-Err-clause-writes g c =
    let a = c.args in
    groups_unwritten a.graph.now a.table.now (kept_groups a.part (groups a.graph.now a.cycles)) (g.O.Sink.seen a.out.now).written

pub returns-in-Err-clause-failed : goal.returns-in-Err-clause-failed
returns-in-Err-clause-failed g c = λ is. no_failure is
