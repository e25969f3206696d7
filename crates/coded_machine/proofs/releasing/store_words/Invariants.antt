use Rattle.std.proofs.Common.{◌≡◌, ◌++◌, drop, take, length, map}
use Rattle.coded_machine.specs.Calls.{word_at}
use Rattle.coded_machine.specs.CycleEnds.{stored_words}
use Rattle.coded_machine.proofs.releasing.store_words.Given as goal

abbrev pub invariant-cells : goal.invariant-cells
invariant-cells l = record {
  count : length l.held ≡ length l.graph.stores;
  words : stored_words l.graph l.answers ≡ take l.i l.held ++ map (λ n. word_at l.answers n) (drop l.i l.graph.stores);
}
