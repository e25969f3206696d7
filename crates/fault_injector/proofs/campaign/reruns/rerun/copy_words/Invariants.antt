use Rattle.std.proofs.Common.{◌≡◌, ◌≤◌, take, vec_capacity}
use Rattle.fault_injector.proofs.campaign.reruns.rerun.copy_words.Given as goal

abbrev pub invariant-words : goal.invariant-words
invariant-words l = record {
  items : l.to.items ≡ take l.i l.from;
  room : vec_capacity l.fn.to ≤ vec_capacity l.to;
}
