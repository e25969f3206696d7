use Rattle.std.proofs.Common.{◌≡◌, ◌≤◌, ◌+◌, ◌++◌, drop, length, vec_capacity}
use Rattle.coded_machine.specs.State.{State}
use Rattle.fault_injector.specs.Kept.{front_words}
use Rattle.fault_injector.proofs.campaign.reruns.kept.keep_words.Given as goal

abbrev pub invariant-operations : goal.invariant-operations
invariant-operations l =
    let m : State = l.machine in
    record {
      words : l.fn.words.items ++ front_words m.answers ≡ l.words.items ++ front_words (drop l.k m.answers);
      count : length l.words.items ≡ length l.fn.words.items + l.k;
      room : vec_capacity l.fn.words ≤ vec_capacity l.words;
      all : l.count ≡ length m.graph.operations;
    }
