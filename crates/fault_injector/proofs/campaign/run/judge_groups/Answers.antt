use Rattle.std.proofs.Common.{◌≡◌, ◌∙◌, ap, sym, refl, subst, length, List, Err, arith}
use Rattle.std.proofs.Math.Nat.{le_of_eq, le_trans}
use Rattle.op_graph.specs.Lists.{Lists}
use Rattle.std.specs.Io.KnownBytes.{Appends}
use Rattle.vcp_outside.specs.Counts.{Rose}
use Rattle.vcp_outside.specs.Written.{AppendsPart}
use Rattle.fault_injector.specs.References.{KeptRun}
use Rattle.coded_unit.specs.Seen.{UnitSeen}
use Rattle.fault_script.specs.declared.act.Fault.{Fault}
use Rattle.fault_injector.specs.declared.verdicts.Verdict.{Verdict}
use Rattle.fault_injector.specs.declared.campaign.fault.CampaignFault.TheVariants as fault
use Rattle.fault_injector.specs.Campaign.{Told}
use Rattle.fault_injector.specs.FaultLines.{verdict_text}
use Rattle.fault_injector.proofs.SoFar.{all_told, group_fits, line_exit, memory_exit, next_found, so_far_next, so_far_none, totals_exit}
use Rattle.fault_injector.proofs.Told.{done, wanted}
use Rattle.fault_injector.proofs.Telling.{one_counted}
use Rattle.fault_injector.proofs.campaign.run.judge_groups.Goals as goal

pub groups-init : goal.groups-init
groups-init g c =
    let r : KeptRun = c.args.reference.now in
    record {
      so_far = λ before judged right.
          rw (c.new-totals.ensures)
          (so_far_none r.table r.graph c.args.script.now r.rows r.answers before (g.U.Unit.seen c.args.unit.now) (g.O.Sink.seen c.args.out.now).written judged);
      counted = rw (c.new-totals.ensures) refl;
      never_falls = omega arith;
      stayed = refl;
    }

pub returns-in-Err : goal.returns-in-Err
returns-in-Err g c =
    let i = c.groups.invariant in
    let r : KeptRun = c.args.reference.now in
    let script = c.args.script.now in
    let old = (g.O.Sink.seen c.args.out.now).written in
    let new = (g.O.Sink.seen c.groups.out).written in
    record {
      told = λ before judged right.
          subst (λ (u : UnitSeen). Told r.table r.graph script r.rows before u old new (Err fault.Memory)) (sym (ap g.U.Unit.seen c.in-Err.ensures.err))
          (memory_exit r.table r.graph script r.rows r.answers before (g.U.Unit.seen c.groups.unit) old new c.groups.i c.groups.totals
          (i.so_far before judged right));
      never_falls = le_trans i.never_falls c.verdict.ensures.never_falls;
      write = λ is. absurd (wanted is);
      later = le_of_eq (sym i.stayed);
      stayed = λ other. i.stayed;
    }

pub line-requires : goal.line-requires
line-requires g c = (group_fits c.args.reference.now.graph c.args.script.now c.groups.i c.at-group.result.now c.at-group.ensures c.requires.groups).some

pub returns-in-Err-verdict_line : goal.returns-in-Err-verdict_line
returns-in-Err-verdict_line g c =
    let r : KeptRun = c.args.reference.now in
    let script = c.args.script.now in
    let i = c.groups.invariant in
    let unit = g.U.Unit in
    let f : List Fault = c.at-group.result.now in
    let v : Verdict = c.in-Ok.verdict in
    let found = c.in-Ok.ensures in
    let old = (g.O.Sink.seen c.args.out.now).written in
    let mid = (g.O.Sink.seen c.groups.out).written in
    let new = (g.O.Sink.seen c.verdict_line.new.out).written in
    let cause = c.in-Err-verdict_line.ensures.cause in
    let part = subst (λ (h : Lists). AppendsPart mid new (verdict_text h c.line.result v)) c.graph-graph.ensures c.in-Err-verdict_line.ensures.part in
    record {
      told = λ before judged right.
          let next = next_found r script before (unit.seen c.args.unit.now) (unit.seen c.groups.unit) (unit.seen c.verdict.new.unit) c.groups.i f v
          c.at-group.ensures judged.carried.never_falls i.never_falls right c.requires.groups found.reran found.names found.verdict in
          line_exit r.table r.graph script r.rows c.groups_are_rerun_one_after_another.ensures r.answers before (unit.seen c.groups.unit)
          (unit.seen c.verdict.new.unit) old mid new c.groups.i c.groups.totals (i.so_far before judged right) f v c.line.result next c.line.ensures part;
      never_falls = le_trans i.never_falls c.verdict.ensures.never_falls;
      write = λ is. subst (λ n. Rose n (g.O.Sink.seen c.verdict_line.new.out).faults) i.stayed cause.failed;
      later = le_trans (le_of_eq (sym i.stayed)) cause.later;
      stayed = λ other. absurd (other refl);
    }

pub groups-preserved : goal.groups-preserved
groups-preserved g c =
    let r : KeptRun = c.args.reference.now in
    let script = c.args.script.now in
    let i = c.groups.invariant in
    let unit = g.U.Unit in
    let f : List Fault = c.at-group.result.now in
    let v : Verdict = c.in-Ok.verdict in
    let found = c.in-Ok.ensures in
    let old = (g.O.Sink.seen c.args.out.now).written in
    let mid = (g.O.Sink.seen c.groups.out).written in
    let new = (g.O.Sink.seen c.verdict_line.new.out).written in
    let said = subst (λ (h : Lists). Appends mid new (verdict_text h c.line.result v)) c.graph-graph.ensures c.in-Ok-verdict_line.ensures.whole in
    record {
      so_far = λ before judged right.
          let next = next_found r script before (unit.seen c.args.unit.now) (unit.seen c.groups.unit) (unit.seen c.verdict.new.unit) c.groups.i f v
          c.at-group.ensures judged.carried.never_falls i.never_falls right c.requires.groups found.reran found.names found.verdict in
          rw (c.count.ensures)
          (so_far_next r.table r.graph script r.rows c.groups_are_rerun_one_after_another.ensures r.answers before (unit.seen c.groups.unit)
          (unit.seen c.verdict.new.unit) old mid new c.groups.i c.groups.totals (i.so_far before judged right) f v c.line.result next c.line.ensures said);
      counted = rw (c.count.ensures) (omega (arith, one_counted c.groups.totals v, i.counted));
      never_falls = omega (arith, i.never_falls, found.never_falls);
      stayed = c.in-Ok-verdict_line.ensures.cause.stayed ∙ i.stayed;
    }

pub returns-in-Err-totals_line : goal.returns-in-Err-totals_line
returns-in-Err-totals_line g c =
    let r : KeptRun = c.args.reference.now in
    let i = c.groups.invariant in
    let all : c.groups.i ≡ length c.args.script.now = omega (arith, c.groups-test.false, c.groups.auto.i-end, c.len-i-end.ensures) in
    let cause = c.in-Err-totals_line.ensures.cause in
    record {
      told = λ before judged right.
          let so_far = rw all at (i.so_far before judged right) in
          totals_exit r.table r.graph c.args.script.now r.rows r.answers before (g.U.Unit.seen c.groups.unit) _ _ _ c.groups.totals so_far
          c.in-Err-totals_line.ensures.part;
      never_falls = i.never_falls;
      write = λ is. subst (λ n. Rose n (g.O.Sink.seen c.totals_line.new.out).faults) i.stayed cause.failed;
      later = le_trans (le_of_eq (sym i.stayed)) cause.later;
      stayed = λ other. absurd (other refl);
    }

pub returns-in-Ok-totals_line : goal.returns-in-Ok-totals_line
returns-in-Ok-totals_line g c =
    let r : KeptRun = c.args.reference.now in
    let i = c.groups.invariant in
    let all : c.groups.i ≡ length c.args.script.now = omega (arith, c.groups-test.false, c.groups.auto.i-end, c.len-i-end.ensures) in
    let cause = c.in-Ok-totals_line.ensures.cause in
    record {
      told = λ before judged right.
          let so_far = rw all at (i.so_far before judged right) in
          all_told r.table r.graph c.args.script.now r.rows r.answers before (g.U.Unit.seen c.groups.unit) _ _ _ c.groups.totals so_far
          c.in-Ok-totals_line.ensures.whole;
      never_falls = i.never_falls;
      write = λ is. absurd (done is);
      later = le_trans (le_of_eq (sym i.stayed)) cause.later;
      stayed = λ other. cause.stayed ∙ i.stayed;
    }
