use Rattle.std.proofs.Common.{◌≡◌, ◌≤◌, ℕ, false, length, vec_capacity}
use Rattle.fault_script.specs.Changes.{acts_of}
use Rattle.fault_injector.specs.Touched.{BeginMarks, mark}
use Rattle.fault_injector.proofs.campaign.reruns.marks.mark_front.Given as goal

abbrev pub invariant-front : goal.invariant-front
invariant-front l = record {
  begin : BeginMarks l.graph (acts_of l.standing.group.now l.standing.cycle) l.cells l.marks.items;
  none : (i : ℕ) → mark l.marks.items i ≡ false;
  marked : length l.marks.items ≡ l._k;
  within : l.front ≤ length l.graph.operations;
  room : vec_capacity l.fn.marks ≤ vec_capacity l.marks;
}
