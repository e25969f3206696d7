use Rattle.std.proofs.Common.{◌≡◌, ◌-◌, ◌≤◌, length, vec_capacity}
use Rattle.fault_injector.specs.Crossing.{Room, past_of}
use Rattle.fault_injector.specs.References.{KeptRun}
use Rattle.fault_injector.specs.declared.campaign.reruns.rerun.Work.{Work}
use Rattle.fault_injector.proofs.RerunRuns.{Between}
use Rattle.fault_injector.proofs.campaign.reruns.rerun.rerun.Given as goal

abbrev pub invariant-cycles : goal.invariant-cycles
invariant-cycles g l =
    let unit = g.U.Unit in
    let r : KeptRun = l.reference in
    let w : Work = l.work in
    record {
      between : Between r l.group l.n (past_of w) w.held.items w.cell_marks.items
          (unit.seen l.fn.unit).log (unit.seen l.unit).log (unit.seen l.fn.unit).wrong (unit.seen l.unit).wrong;
      room : Room r.graph w;
      faults : length l.group ≤ vec_capacity l.faults;
      count : l.count ≡ length r.answers;
      within : l.n ≤ length r.answers;
    }

abbrev pub decreases-cycles : goal.decreases-cycles
decreases-cycles g l = l.count - l.n
