use Rattle.std.proofs.Common.{◌≡◌, ◌≤◌, ◌*◌, length, vec_capacity}
use Rattle.telegram.specs.WireRun.{sent_in}
use Rattle.telegram.proofs.SoFar.{SoFar}
use Rattle.telegram.proofs.runs.run.run_wire.Given as goal

abbrev pub invariant-events : goal.invariant-events
invariant-events g l =
    let unit = g.U.Unit.seen in
    let out = g.O.Sink.seen in
    record {
      so_far : SoFar l.script.wire l.script.events (unit l.fn.unit) (unit l.unit) (out l.fn.out) (out l.out) l.i l.begun l.delivered l.receiver l.words.items;
      faults : (out l.fn.out).faults ≤ (out l.out).faults;
      stayed : (out l.out).faults ≡ (out l.fn.out).faults;
      room : vec_capacity l.words ≡ length (sent_in l.script.events) * l.script.wire.senders;
    }
