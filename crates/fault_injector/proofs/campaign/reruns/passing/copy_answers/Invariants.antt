use Rattle.std.proofs.Common.{◌≡◌, ◌≤◌, take, vec_capacity}
use Rattle.fault_injector.specs.References.{words_answered}
use Rattle.fault_injector.proofs.campaign.reruns.passing.copy_answers.Given as goal

abbrev pub invariant-words : goal.invariant-words
invariant-words l = record {
  items : l.to.items ≡ words_answered (take l.i l.from.words.now);
  room : vec_capacity l.fn.to ≤ vec_capacity l.to;
}
