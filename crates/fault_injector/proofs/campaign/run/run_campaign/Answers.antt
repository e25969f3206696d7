use Rattle.std.proofs.Common.{[], All, List, refl, sym, subst, ap, ℤ}
use Rattle.std.proofs.Math.Nat.{le_of_eq, le_refl, le_trans}
use Rattle.op_graph.specs.Lists.{Lists}
use Rattle.signature_table.specs.Signatures.{Numbers}
use Rattle.fault_script.specs.Groups.{GroupFits}
use Rattle.fault_injector.specs.References.{KeptRun}
use Rattle.fault_injector.specs.Reruns.{IsReference}
use Rattle.fault_injector.specs.Groups.{GroupsJudged}
use Rattle.coded_unit.specs.Seen.{UnitSeen}
use Rattle.fault_injector.specs.Campaign.{Told}
use Rattle.fault_injector.proofs.SoFar.{none_told, of_kept, to_kept}
use Rattle.fault_injector.proofs.Told.{wanted}
use Rattle.fault_injector.proofs.campaign.run.run_campaign.Goals as goal

pub returns-in-Err : goal.returns-in-Err
returns-in-Err g c =
    let same = ap g.U.Unit.seen c.in-Err.ensures.err in
    record {
      told = none_told c.args.table.now c.args.graph.now c.args.script.now c.args.rows.now _ _ _ same;
      never_falls = le_of_eq (sym (ap (λ (u : UnitSeen). u.wrong) same));
      write = λ is. absurd (wanted is);
      later = le_refl _;
      stayed = λ other. refl;
    }

pub returns-in-Ok : goal.returns-in-Ok
returns-in-Ok g c =
    let r : KeptRun = c.in-Ok.reference in
    let new = c.in-Ok.ensures in
    let t = c.args.table.now in
    let graph = c.args.graph.now in
    let rows = c.args.rows.now in
    let script = c.args.script.now in
    let before : UnitSeen = g.U.Unit.seen c.args.unit.now in
    let mid : UnitSeen = g.U.Unit.seen c.new.new.unit in
    let judged = c.judge_groups.ensures in
    record {
      told =
          of_kept (λ (t : Numbers) (h : Lists) (xs : List (List ℤ)). Told t h script xs before (g.U.Unit.seen c.judge_groups.new.unit)
          (g.O.Sink.seen c.args.out.now).written (g.O.Sink.seen c.judge_groups.new.out).written c.judge_groups.result) r t graph rows new.graph new.table
          new.rows
          (judged.told before
          (to_kept (λ (t : Numbers) (h : Lists) (xs : List (List ℤ)). GroupsJudged t h xs r.answers script [] before mid) r t graph rows
          new.graph new.table new.rows (c.groups_are_rerun_one_after_another.ensures.starts t graph rows r.answers script r.end before mid new.ran))
          (λ h. to_kept (λ (t : Numbers) (h : Lists) (xs : List (List ℤ)). IsReference t h xs r.answers) r t graph rows new.graph new.table new.rows
          (new.honest h)));
      never_falls = le_trans new.ran.carried.never_falls judged.never_falls;
      write = judged.write;
      later = judged.later;
      stayed = judged.stayed;
    }

pub new-requires-clause-table : goal.new-requires-clause-table
new-requires-clause-table g c = c.requires.table

pub new-requires-clause-width : goal.new-requires-clause-width
new-requires-clause-width g c = c.requires.width

pub new-requires-clause-few : goal.new-requires-clause-few
new-requires-clause-few g c = c.requires.few

pub judge_groups-requires-clause-groups : goal.judge_groups-requires-clause-groups
judge_groups-requires-clause-groups g c = subst (λ (h : Lists). All (GroupFits h) c.args.script.now) (sym c.in-Ok.ensures.graph) c.requires.groups

pub judge_groups-requires-clause-short : goal.judge_groups-requires-clause-short
judge_groups-requires-clause-short g c = c.requires.short
