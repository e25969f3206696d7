use Rattle.std.proofs.Common.{◌≡◌, ◌≤◌, length, vec_capacity}
use Rattle.coded_machine.specs.Calls.{AllWords}
use Rattle.fault_injector.specs.Begun.{GoesOver, begun}
use Rattle.fault_injector.proofs.campaign.reruns.again.copy_untouched.Given as goal

abbrev pub invariant-words : goal.invariant-words
invariant-words l = record {
  over : GoesOver (begun l.b) l.fn.own.items l.own.items;
  words : AllWords l.fn.own.items → AllWords l.own.items;
  count : length l.own.items ≡ l.k;
  from : length l.fn.own.items ≤ l.k;
  there : l.to ≤ length l.b.other.words.now;
  within : l.to ≤ length l.b.graph.now.operations;
  few : length l.own.items ≤ length l.b.graph.now.operations;
  room : vec_capacity l.fn.own ≤ vec_capacity l.own;
}
