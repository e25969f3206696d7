use Rattle.std.proofs.Common.{◌≤◌, ◌<◌, ◌+◌, ◌*◌, ◌^◌, ◌∙◌, ℕ, ℤ, ◌+ℤ◌, List, length, slice_get, Some, arith, refl, ap, sym, subst}
use Rattle.std.proofs.Math.Nat.{le_refl, le_trans}
use Rattle.std.proofs.lemmas.List.{drop_all}
use Rattle.vcp_base.specs.Limits.{most_cycles}
use Rattle.coded_unit.specs.Words.{nearest_word}
use Rattle.telegram.specs.Receipts.{State, nothing_heard, receipt_of}
use Rattle.telegram.specs.WireRun.{IsEvent}
use Rattle.telegram.proofs.Growing.{every_at}
use Rattle.telegram.proofs.RunLookups.{place_within, room_left, same_addend}
use Rattle.telegram.proofs.SoFar.{SoFar, cycle_sent, few_cycles, handed, kept_length, sent_before, so_far_none, within}
use Rattle.telegram.proofs.Ends.{no_memory, complete, end_failed, line_failed, unsent, unsent_failed}
use Rattle.telegram.proofs.Telling.{one_at_most}
use Rattle.telegram.proofs.runs.run.run_wire.Goals as goal
use Rattle.telegram.proofs.runs.run.run_wire.Goals.{in-Cycle+in_default, in-Deliver+in-Ok-receipt_line}

-- ---- before the first event

pub returns-in-Err : goal.returns-in-Err
returns-in-Err g c =
    record {
      runs =
          (no_memory c.args.script.now.wire c.args.script.now.events (g.U.Unit.seen c.args.unit.now) (g.O.Sink.seen c.args.out.now));
      later = le_refl _;
      stayed = λ other. refl;
    }

pub events-init : goal.events-init
events-init g c =
    let w = c.args.script.now.wire in
    let es = c.args.script.now.events in
    let before = g.U.Unit.seen c.args.unit.now in
    let old = g.O.Sink.seen c.args.out.now in
    record {
      so_far =
          subst (λ (s : State). SoFar w es before before old old 0 0 0 s c.in-Ok.words.items) (sym c.new-receiver.ensures)
          (subst (λ (l : List ℤ). SoFar w es before before old old 0 0 0 (nothing_heard w.listen w.age w.seed w.step) l) (sym c.in-Ok.ensures.empty)
          (so_far_none w es before old c.requires.sent));
      faults = le_refl _;
      stayed = refl;
      room = c.in-Ok.ensures.room ∙ ap (λ (n : ℕ). n * w.senders) c.cycles_of.ensures;
    }

-- ---- a cycle begins

pub send_all-requires : goal.send_all-requires
send_all-requires g c =
    let w = c.args.script.now.wire in
    let es = c.args.script.now.events in
    let before = g.U.Unit.seen c.args.unit.now in
    let now = g.U.Unit.seen c.events.unit in
    let old = g.O.Sink.seen c.args.out.now in
    let new = g.O.Sink.seen c.events.out in
    let so_far = c.events.invariant.so_far in
    let there = c.at.ensures ∙ ap Some c.in-Cycle.is in
    let below =
    within w es before now old new c.events.i c.events.begun c.events.delivered c.events.receiver c.events.words.items so_far c.in-Cycle.values there in
    let kept = kept_length w es before now old new c.events.i c.events.begun c.events.delivered c.events.receiver c.events.words.items so_far in
    record {
      wire = c.requires.wire;
      cycle = le_trans below c.requires.events.few;
      values = every_at (IsEvent w) es c.events.i _ c.requires.events.each there;
      room = room_left _ _ c.events.begun _ w.senders (c.events.words.ok.0 ∙ kept) c.events.invariant.room below;
    }

pub tick-requires : goal.tick-requires
tick-requires g c =
    let there = c.at.ensures ∙ ap Some c.in-Cycle.is in
    let below =
    within c.args.script.now.wire c.args.script.now.events (g.U.Unit.seen c.args.unit.now) (g.U.Unit.seen c.events.unit) (g.O.Sink.seen c.args.out.now)
    (g.O.Sink.seen c.events.out) c.events.i c.events.begun c.events.delivered c.events.receiver c.events.words.items c.events.invariant.so_far
    c.in-Cycle.values there in
    let same = ap (λ (s : State). s.begun) c.events.invariant.so_far.hears_is in
    subst (λ n. n < most_cycles) (sym same) (le_trans below c.requires.events.few)

pub returns-in-Err-unsent_line : goal.returns-in-Err-unsent_line
returns-in-Err-unsent_line g c =
    let w = c.args.script.now.wire in
    let es = c.args.script.now.events in
    record {
      runs =
          (unsent_failed w es (g.U.Unit.seen c.args.unit.now) (g.U.Unit.seen c.events.unit) (g.O.Sink.seen c.args.out.now) (g.O.Sink.seen c.events.out)
          c.events.i c.events.begun c.events.delivered c.events.receiver c.events.words.items c.events.invariant.so_far c.events.invariant.faults
          (c.receipts_follow_the_equation.ensures.run w es c.requires.wire c.requires.events) c.in-Cycle.values c.send_all.new.words.items
          (g.U.Unit.seen c.send_all.new.unit) c.in-Some.id (c.at.ensures ∙ ap Some c.in-Cycle.is) c.in-Some.ensures.sends (g.O.Sink.seen c.unsent_line.new.out)
          c.in-Err-unsent_line.ensures.part c.in-Err-unsent_line.ensures.cause.failed);
      later = le_trans c.events.invariant.faults c.in-Err-unsent_line.ensures.cause.later;
      stayed = λ other. absurd (other refl);
    }

pub returns-in-Ok-unsent_line : goal.returns-in-Ok-unsent_line
returns-in-Ok-unsent_line g c =
    let w = c.args.script.now.wire in
    let es = c.args.script.now.events in
    record {
      runs =
          unsent w es (g.U.Unit.seen c.args.unit.now) (g.U.Unit.seen c.events.unit) (g.O.Sink.seen c.args.out.now) (g.O.Sink.seen c.events.out)
          c.events.i c.events.begun c.events.delivered c.events.receiver c.events.words.items c.events.invariant.so_far c.events.invariant.faults
          (c.receipts_follow_the_equation.ensures.run w es c.requires.wire c.requires.events) c.in-Cycle.values c.send_all.new.words.items
          (g.U.Unit.seen c.send_all.new.unit) c.in-Some.id (c.at.ensures ∙ ap Some c.in-Cycle.is) c.in-Some.ensures.sends (g.O.Sink.seen c.unsent_line.new.out)
          c.in-Ok-unsent_line.ensures.whole;
      later = le_trans c.events.invariant.faults c.in-Ok-unsent_line.ensures.cause.later;
      stayed = λ other. c.in-Ok-unsent_line.ensures.cause.stayed ∙ c.events.invariant.stayed;
    }

-- ---- a telegram is handed

pub word_at-requires : goal.word_at-requires
word_at-requires g c =
    let w = c.args.script.now.wire in
    let es = c.args.script.now.events in
    let before = g.U.Unit.seen c.args.unit.now in
    let now = g.U.Unit.seen c.events.unit in
    let old = g.O.Sink.seen c.args.out.now in
    let new = g.O.Sink.seen c.events.out in
    let so_far = c.events.invariant.so_far in
    let there = c.at.ensures ∙ ap Some c.in-Deliver.is in
    let sent =
    sent_before w es before now old new c.events.i c.events.begun c.events.delivered c.events.receiver c.events.words.items so_far c.in-Deliver.line
    c.in-Deliver.id c.in-Deliver.number c.in-Deliver.alter there in
    let few = few_cycles w es before now old new c.events.i c.events.begun c.events.delivered c.events.receiver c.events.words.items so_far in
    let kept = kept_length w es before now old new c.events.i c.events.begun c.events.delivered c.events.receiver c.events.words.items so_far in
    let sender = (every_at (IsEvent w) es c.events.i _ c.requires.events.each there).0 in
    record {
      senders = c.requires.wire.senders;
      number = le_trans (le_trans sent few) c.requires.events.few;
      id = sender;
      there = place_within (length c.deref.result.now) c.events.begun c.in-Deliver.number c.in-Deliver.id w.senders
          (ap (λ (l : List ℤ). length l) c.deref.ensures.value ∙ kept) sent sender;
    }

pub take-receipt-requires : goal.take-receipt-requires
take-receipt-requires g c =
    let w = c.args.script.now.wire in
    let es = c.args.script.now.events in
    let before = g.U.Unit.seen c.args.unit.now in
    let now = g.U.Unit.seen c.events.unit in
    let old = g.O.Sink.seen c.args.out.now in
    let new = g.O.Sink.seen c.events.out in
    let sent =
    sent_before w es before now old new c.events.i c.events.begun c.events.delivered c.events.receiver c.events.words.items c.events.invariant.so_far
    c.in-Deliver.line c.in-Deliver.id c.in-Deliver.number c.in-Deliver.alter (c.at.ensures ∙ ap Some c.in-Deliver.is) in
    let few =
    few_cycles w es before now old new c.events.i c.events.begun c.events.delivered c.events.receiver c.events.words.items c.events.invariant.so_far in
    le_trans (le_trans sent few) c.requires.events.few

pub returns-in-Err-receipt_line : goal.returns-in-Err-receipt_line
returns-in-Err-receipt_line g c =
    let w = c.args.script.now.wire in
    let es = c.args.script.now.events in
    let s = c.events.receiver in
    let n = c.in-Deliver.number in
    let there = c.at.ensures ∙ ap Some c.in-Deliver.is in
    let sent = every_at (IsEvent w) es c.events.i _ c.requires.events.each there in
    let kept_there = ap (λ (l : List ℤ). slice_get l (n * w.senders + c.in-Deliver.id)) (sym c.deref.ensures.value) ∙ c.word_at.ensures in
    let added = ap (λ (z : ℤ). nearest_word (c.word_at.result +ℤ z)) (same_addend c.in-Deliver.alter sent.1) in
    let x_is = c.take-receipt.ensures.receipt ∙ ap (λ (z : ℤ). receipt_of s (record { number = n; word = z })) (c.shift-word.ensures ∙ added) in
    record {
      runs =
          (line_failed w es (g.U.Unit.seen c.args.unit.now) (g.U.Unit.seen c.events.unit) (g.O.Sink.seen c.args.out.now) (g.O.Sink.seen c.events.out)
          c.events.i c.events.begun c.events.delivered s c.events.words.items c.events.invariant.so_far c.events.invariant.faults
          (c.receipts_follow_the_equation.ensures.run w es c.requires.wire c.requires.events) c.in-Deliver.line c.in-Deliver.id n c.in-Deliver.alter
          c.word_at.result c.take-receipt.result there sent.0 kept_there x_is (g.O.Sink.seen c.receipt_line.new.out)
          c.in-Err-receipt_line.ensures.part c.in-Err-receipt_line.ensures.cause.failed);
      later = le_trans c.events.invariant.faults c.in-Err-receipt_line.ensures.cause.later;
      stayed = λ other. absurd (other refl);
    }

pub overflow_add-delivered : goal.overflow_add-delivered
overflow_add-delivered g c =
    let one = one_at_most c.take-receipt.result in
    omega (arith, c.events.invariant.so_far.few, one, c.delivered_by-delivered.ensures, c.events-test.true, c.len-i-end.type_inv)

-- ---- after an event

pub events-preserved : goal.events-preserved
events-preserved g c =
    let w = c.args.script.now.wire in
    let es = c.args.script.now.events in
    let before = g.U.Unit.seen c.args.unit.now in
    let now = g.U.Unit.seen c.events.unit in
    let old = g.O.Sink.seen c.args.out.now in
    let new = g.O.Sink.seen c.events.out in
    let s = c.events.receiver in
    let kept = c.events.words.items in
    let invariant = c.events.invariant in
    elim c.match-at.branch [
      | in-Cycle+in_default t ↦
          let there = c.at.ensures ∙ ap Some t.in-Cycle.is in
          let next =
          cycle_sent w es before now old new c.events.i c.events.begun c.events.delivered s kept invariant.so_far t.in-Cycle.values t.send_all.new.words.items
          (g.U.Unit.seen t.send_all.new.unit) there t.in_default.ensures.sends in
          record {
            so_far = rw (t.out-is, t.unit-is, t.words-is, t.receiver-is, t.begun-is, t.delivered-is, t.tick.ensures) next;
            faults = rw t.out-is invariant.faults;
            stayed = rw t.out-is invariant.stayed;
            room = rw t.words-is (t.send_all.ensures.room ∙ invariant.room);
          }
      | in-Deliver+in-Ok-receipt_line t ↦
          let n = t.in-Deliver.number in
          let there = c.at.ensures ∙ ap Some t.in-Deliver.is in
          let sent = every_at (IsEvent w) es c.events.i _ c.requires.events.each there in
          let kept_there = ap (λ (l : List ℤ). slice_get l (n * w.senders + t.in-Deliver.id)) (sym t.deref.ensures.value) ∙ t.word_at.ensures in
          let added = ap (λ (z : ℤ). nearest_word (t.word_at.result +ℤ z)) (same_addend t.in-Deliver.alter sent.1) in
          let x_is = t.take-receipt.ensures.receipt ∙ ap (λ (z : ℤ). receipt_of s (record { number = n; word = z })) (t.shift-word.ensures ∙ added) in
          let next =
          handed w es before now old new c.events.i c.events.begun c.events.delivered s kept invariant.so_far t.in-Deliver.line t.in-Deliver.id n
          t.in-Deliver.alter t.word_at.result t.take-receipt.result there sent.0 kept_there x_is (g.O.Sink.seen t.receipt_line.new.out)
          (c.events.delivered + t.delivered_by-delivered.result) t.in-Ok-receipt_line.ensures.whole
          (ap (λ (k : ℕ). c.events.delivered + k) t.delivered_by-delivered.ensures) in
          let later = t.receipt_line.ensures.cause.later in
          record {
            so_far = rw (t.out-is, t.unit-is, t.words-is, t.receiver-is, t.begun-is, t.delivered-is, t.take-receipt.ensures.receiver) next;
            faults = rw t.out-is (le_trans invariant.faults later);
            stayed = rw t.out-is (t.in-Ok-receipt_line.ensures.cause.stayed ∙ invariant.stayed);
            room = rw t.words-is invariant.room;
          }
    ]

-- ---- behind the last event

pub returns : goal.returns
returns g c =
    let w = c.args.script.now.wire in
    let es = c.args.script.now.events in
    let past : length es ≤ c.events.i = subst (λ n. n ≤ c.events.i) c.len-i-end.ensures c.events-test.false in
    record {
      runs =
          (end_failed w es (g.U.Unit.seen c.args.unit.now) (g.U.Unit.seen c.events.unit) (g.O.Sink.seen c.args.out.now) (g.O.Sink.seen c.events.out)
          c.events.i c.events.begun c.events.delivered c.events.receiver c.events.words.items c.events.invariant.so_far c.events.invariant.faults
          (c.receipts_follow_the_equation.ensures.run w es c.requires.wire c.requires.events) (drop_all c.events.i es past) (g.O.Sink.seen c.end_line.new.out)
          c.in-Err-end_line.ensures.part c.in-Err-end_line.ensures.cause.failed);
      later = le_trans c.events.invariant.faults c.in-Err-end_line.ensures.cause.later;
      stayed = λ other. absurd (other refl);
    }

pub returns-in-Ok-end_line : goal.returns-in-Ok-end_line
returns-in-Ok-end_line g c =
    let w = c.args.script.now.wire in
    let es = c.args.script.now.events in
    let past : length es ≤ c.events.i = subst (λ n. n ≤ c.events.i) c.len-i-end.ensures c.events-test.false in
    record {
      runs =
          complete w es (g.U.Unit.seen c.args.unit.now) (g.U.Unit.seen c.events.unit) (g.O.Sink.seen c.args.out.now) (g.O.Sink.seen c.events.out)
          c.events.i c.events.begun c.events.delivered c.events.receiver c.events.words.items c.events.invariant.so_far c.events.invariant.faults
          (c.receipts_follow_the_equation.ensures.run w es c.requires.wire c.requires.events) (drop_all c.events.i es past) (g.O.Sink.seen c.end_line.new.out)
          c.in-Ok-end_line.ensures.whole;
      later = le_trans c.events.invariant.faults c.in-Ok-end_line.ensures.cause.later;
      stayed = λ other. c.in-Ok-end_line.ensures.cause.stayed ∙ c.events.invariant.stayed;
    }

pub new-receiver-requires : goal.new-receiver-requires
new-receiver-requires g c =
    let w = c.requires.wire in
    record { listen = le_trans w.listen w.senders; seed = w.seed; step_from = w.step_from; step_to = w.step_to }

pub room-requires-clause-senders : goal.room-requires-clause-senders
room-requires-clause-senders g c = c.requires.wire.senders

pub room-requires-clause-cycles : goal.room-requires-clause-cycles
room-requires-clause-cycles g c = subst (λ n. n ≤ most_cycles) (sym c.cycles_of.ensures) c.requires.events.few

pub at-requires : goal.at-requires
at-requires g c = subst (λ n. c.events.i < n) c.len-i-end.ensures c.events-test.true

begun_fits : (n : ℕ) → n < most_cycles → n + 1 < 2 ^ 32
begun_fits n below = omega (arith, below)

pub overflow_add-begun : goal.overflow_add-begun
overflow_add-begun g c =
    let there = c.at.ensures ∙ ap Some c.in-Cycle.is in
    let below =
    within c.args.script.now.wire c.args.script.now.events (g.U.Unit.seen c.args.unit.now) (g.U.Unit.seen c.events.unit) (g.O.Sink.seen c.args.out.now)
    (g.O.Sink.seen c.events.out) c.events.i c.events.begun c.events.delivered c.events.receiver c.events.words.items c.events.invariant.so_far
    c.in-Cycle.values there in
    record { fits = begun_fits c.events.begun (le_trans below c.requires.events.few) }
