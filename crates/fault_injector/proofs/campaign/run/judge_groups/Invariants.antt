use Rattle.std.proofs.Common.{◌≡◌, ◌≤◌, []}
use Rattle.coded_unit.specs.Seen.{StaysHonest, UnitSeen}
use Rattle.fault_injector.specs.Groups.{GroupsJudged}
use Rattle.fault_injector.specs.References.{KeptRun}
use Rattle.fault_injector.specs.Reruns.{IsReference}
use Rattle.fault_injector.specs.FaultLines.{faults}
use Rattle.fault_injector.proofs.SoFar.{SoFar}
use Rattle.fault_injector.proofs.campaign.run.judge_groups.Given as goal

abbrev pub invariant-groups : goal.invariant-groups
invariant-groups g l =
    let unit = g.U.Unit in
    let sink = g.O.Sink in
    let r : KeptRun = l.reference in
    record {
      so_far :
          (before : UnitSeen) → GroupsJudged r.table r.graph r.rows r.answers l.script [] before (unit.seen l.fn.unit)
          → (StaysHonest before (unit.seen l.fn.unit) → IsReference r.table r.graph r.rows r.answers)
          → SoFar r.table r.graph l.script r.rows r.answers before (unit.seen l.unit) (sink.seen l.fn.out).written (sink.seen l.out).written l.i l.totals;
      counted : faults l.totals ≡ l.i;
      never_falls : (unit.seen l.fn.unit).wrong ≤ (unit.seen l.unit).wrong;
      stayed : (sink.seen l.out).faults ≡ (sink.seen l.fn.out).faults;
    }
