use Rattle.std.proofs.Common.{◌≡◌, ◌≤◌, ◌++◌, drop, length, map, vec_capacity}
use Rattle.coded_machine.specs.Calls.{word_at}
use Rattle.coded_machine.specs.CycleEnds.{stored_words}
use Rattle.fault_injector.specs.Begun.{answers_in}
use Rattle.fault_injector.proofs.campaign.reruns.passing.store_answers.Given as goal

abbrev pub invariant-cells : goal.invariant-cells
invariant-cells l = record {
  words : stored_words l.graph (answers_in l.from) ≡ l.held.items ++ map (λ n. word_at (answers_in l.from) n) (drop l.i l.graph.stores);
  stored : length l.held.items ≡ l.i;
  room : vec_capacity l.fn.held ≤ vec_capacity l.held;
  stores : l.stores ≡ l.graph.stores;
}
