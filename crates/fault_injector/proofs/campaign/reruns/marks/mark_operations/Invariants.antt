use Rattle.std.proofs.Common.{◌≡◌, ◌≤◌, [], drop, length, vec_capacity}
use Rattle.fault_script.specs.Changes.{acts_of}
use Rattle.fault_injector.specs.Begun.{answers_in}
use Rattle.fault_injector.specs.Touched.{given_marks}
use Rattle.fault_injector.proofs.campaign.reruns.marks.mark_operations.Given as goal

abbrev pub invariant-operations : goal.invariant-operations
invariant-operations l =
    let other = answers_in l.other in
    let acts = acts_of l.standing.group.now l.standing.cycle in
    record {
      marks : given_marks other acts l.cells [] 0 l.graph.operations ≡ given_marks other acts l.cells l.marks.items l.k (drop l.k l.graph.operations);
      marked : length l.marks.items ≡ l.k;
      room : vec_capacity l.fn.marks ≤ vec_capacity l.marks;
      all : l.count ≡ length l.graph.operations;
    }
