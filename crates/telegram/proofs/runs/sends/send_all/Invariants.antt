use Rattle.std.proofs.Common.{◌≡◌, ◌≤◌, ◌+◌, ◌-◌, vec_len, vec_capacity}
use Rattle.telegram.proofs.RunSending.{SentSoFar}
use Rattle.telegram.proofs.runs.sends.send_all.Given as goal

abbrev pub invariant-senders : goal.invariant-senders
invariant-senders g l = record {
  so_far : SentSoFar l.wire l.cycle l.values l.fn.words.items l.words.items (g.U.Unit.seen l.fn.unit) (g.U.Unit.seen l.unit) l.id;
  room : vec_len l.words + (l.wire.senders - l.id) ≤ vec_capacity l.words;
  same : vec_capacity l.words ≡ vec_capacity l.fn.words;
}
