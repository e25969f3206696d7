use Rattle.std.proofs.Common.{◌≡◌, ◌≤◌, ◌∙◌, refl, ap, sym, subst, Err, arith, length}
use Rattle.std.proofs.Math.Nat.{le_of_eq, le_trans}
use Rattle.vcp_outside.specs.Counts.{Rose}
use Rattle.coded_unit.specs.Seen.{UnitSeen}
use Rattle.fault_injector.specs.PairCampaigns.{PairsTold}
use Rattle.fault_injector.specs.declared.campaign.fault.CampaignFault.TheVariants as fault
use Rattle.fault_injector.proofs.SoFar.{group_fits}
use Rattle.fault_injector.specs.GroupLines.{groups_in}
use Rattle.fault_injector.proofs.PairsTelling.{many_counted}
use Rattle.fault_injector.proofs.Told.{all_told, done, line_exit, memory_exit, so_far_next, so_far_none, totals_exit, wanted}
use Rattle.fault_injector.proofs.campaign.pairs.run.run_pairs.Goals as goal

pub groups-init : goal.groups-init
groups-init g c = record {
  so_far =
      rw (c.new-totals.ensures)
      (so_far_none c.args.table.now c.args.graph.now c.args.script.now c.args.rows.now (g.U.Unit.seen c.args.unit.now) (g.O.Sink.seen c.args.out.now).written);
  stayed = refl;
}

pub run_group-requires-clause-group : goal.run_group-requires-clause-group
run_group-requires-clause-group g c =
    group_fits c.args.graph.now c.args.script.now c.groups.i c.at-group.result.now c.at-group.ensures c.requires.groups

pub line-requires : goal.line-requires
line-requires g c = (group_fits c.args.graph.now c.args.script.now c.groups.i c.at-group.result.now c.at-group.ensures c.requires.groups).some

pub returns-in-Err : goal.returns-in-Err
returns-in-Err g c =
    let i = c.groups.invariant in
    let same = sym c.in-Err.ensures.none in
    record {
      told = subst (λ (u : UnitSeen). PairsTold c.args.table.now c.args.graph.now c.args.script.now c.args.rows.now (g.U.Unit.seen c.args.unit.now) u
          (g.O.Sink.seen c.args.out.now).written (g.O.Sink.seen c.groups.out).written (Err fault.Memory)) same
          (memory_exit c.args.table.now c.args.graph.now c.args.script.now c.args.rows.now _ _ _ _ c.groups.i c.groups.totals i.so_far);
      never_falls = subst (λ (u : UnitSeen). (g.U.Unit.seen c.args.unit.now).wrong ≤ u.wrong) same i.so_far.later;
      write = λ is. absurd (wanted is);
      later = le_of_eq (sym i.stayed);
      stayed = λ other. i.stayed;
    }

pub returns-in-Err-group_line : goal.returns-in-Err-group_line
returns-in-Err-group_line g c =
    let i = c.groups.invariant in
    let ran = c.in-Ok.ensures.ran in
    let cause = c.in-Err-group_line.ensures.cause in
    record {
      told =
          line_exit c.args.table.now c.args.graph.now c.args.script.now c.args.rows.now _ _ _ _ _ _ c.groups.i c.groups.totals i.so_far
          c.at-group.result.now c.in-Ok.verdict c.at-group.ensures ran c.line.result c.line.ensures c.in-Err-group_line.ensures.part;
      never_falls = le_trans i.so_far.later ran.later;
      write = λ is. subst (λ n. Rose n (g.O.Sink.seen c.group_line.new.out).faults) i.stayed cause.failed;
      later = le_trans (le_of_eq (sym i.stayed)) cause.later;
      stayed = λ other. absurd (other refl);
    }

pub count-requires : goal.count-requires
count-requires g c =
    let so_far = c.groups.invariant.so_far in
    omega (arith, ap groups_in so_far.totals_are, many_counted so_far.verdicts, so_far.count, c.groups-test.true, c.len-i-end.ensures, c.requires.short)

pub groups-preserved : goal.groups-preserved
groups-preserved g c = record {
  so_far = rw (c.count.ensures)
      (so_far_next c.args.table.now c.args.graph.now c.args.script.now c.args.rows.now _ _ _ _ _ _ c.groups.i c.groups.totals c.groups.invariant.so_far
      c.at-group.result.now c.in-Ok.verdict c.at-group.ensures c.in-Ok.ensures.ran c.line.result c.line.ensures
      c.in-Ok-group_line.ensures.whole);
  stayed = c.in-Ok-group_line.ensures.cause.stayed ∙ c.groups.invariant.stayed;
}

pub returns-in-Err-pair_totals_line : goal.returns-in-Err-pair_totals_line
returns-in-Err-pair_totals_line g c =
    let i = c.groups.invariant in
    let all : c.groups.i ≡ length c.args.script.now = omega (arith, c.groups-test.false, c.groups.auto.i-end, c.len-i-end.ensures) in
    let so_far = rw all at i.so_far in
    let cause = c.in-Err-pair_totals_line.ensures.cause in
    record {
      told =
          totals_exit c.args.table.now c.args.graph.now c.args.script.now c.args.rows.now _ _ _ _ _ c.groups.totals so_far
          c.in-Err-pair_totals_line.ensures.part;
      never_falls = i.so_far.later;
      write = λ is. subst (λ n. Rose n (g.O.Sink.seen c.pair_totals_line.new.out).faults) i.stayed cause.failed;
      later = le_trans (le_of_eq (sym i.stayed)) cause.later;
      stayed = λ other. absurd (other refl);
    }

pub returns-in-Ok-pair_totals_line : goal.returns-in-Ok-pair_totals_line
returns-in-Ok-pair_totals_line g c =
    let i = c.groups.invariant in
    let all : c.groups.i ≡ length c.args.script.now = omega (arith, c.groups-test.false, c.groups.auto.i-end, c.len-i-end.ensures) in
    let so_far = rw all at i.so_far in
    let cause = c.in-Ok-pair_totals_line.ensures.cause in
    record {
      told =
          all_told c.args.table.now c.args.graph.now c.args.script.now c.args.rows.now _ _ _ _ _ c.groups.totals so_far
          c.in-Ok-pair_totals_line.ensures.whole;
      never_falls = i.so_far.later;
      write = λ is. absurd (done is);
      later = le_trans (le_of_eq (sym i.stayed)) cause.later;
      stayed = λ other. cause.stayed ∙ i.stayed;
    }

pub run_group-requires-clause-table : goal.run_group-requires-clause-table
run_group-requires-clause-table g c = c.requires.table

pub run_group-requires-clause-other : goal.run_group-requires-clause-other
run_group-requires-clause-other g c = c.requires.other

pub run_group-requires-clause-seeds : goal.run_group-requires-clause-seeds
run_group-requires-clause-seeds g c = c.requires.seeds

pub run_group-requires-clause-width : goal.run_group-requires-clause-width
run_group-requires-clause-width g c = c.requires.width

pub run_group-requires-clause-few : goal.run_group-requires-clause-few
run_group-requires-clause-few g c = c.requires.few
