use Rattle.std.proofs.Common.{◌≡◌, ◌≤◌, ◌-◌, length, vec_capacity}
use Rattle.coded_machine.specs.Calls.{AllWords}
use Rattle.fault_injector.specs.Begun.{begun}
use Rattle.fault_injector.proofs.AgainRuns.{Midway}
use Rattle.fault_injector.proofs.campaign.reruns.again.rerun_cycle.Given as goal

abbrev pub invariant-operations : goal.invariant-operations
invariant-operations g l =
    let unit = g.U.Unit in
    record {
      midway : Midway (begun l.b) (length l.own.items) l.own.items (unit.seen l.fn.unit).log (unit.seen l.unit).log (unit.seen l.fn.unit).wrong
          (unit.seen l.unit).wrong;
      words : AllWords l.own.items;
      few : length l.own.items ≤ length l.b.graph.now.operations;
      room : vec_capacity l.fn.own ≤ vec_capacity l.own;
      all : l.count ≡ length l.b.graph.now.operations;
    }

abbrev pub decreases-operations : goal.decreases-operations
decreases-operations g l = length l.b.graph.now.operations - length l.own.items
