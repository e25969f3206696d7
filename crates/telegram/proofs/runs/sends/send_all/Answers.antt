use Rattle.std.proofs.Common.{◌≡◌, ◌+◌, true, List, ℤ, refl, sym, ap, subst, ◌∙◌, arith, to_z, of_z, to_z-of_z, w64}
use Rattle.vcp_base.specs.declared.ty.Ty.TheVariants as ty
use Rattle.vcp_base.specs.Types.{fits}
use Rattle.telegram.proofs.Growing.{every_at}
use Rattle.telegram.proofs.RunSending.{Sent, SentSoFar, sent_none, sent_next, sent_cut, sent_all}
use Rattle.telegram.proofs.runs.sends.send_all.Goals as goal

pub senders-init : goal.senders-init
senders-init g c = record {
  so_far = sent_none c.args.wire.now c.args.cycle c.args.values.now c.args.words.now.items (g.U.Unit.seen c.args.unit.now);
  room = omega (arith, c.requires.room);
  same = refl;
}

pub send-given-requires-clause-value : goal.send-given-requires-clause-value
send-given-requires-clause-value g c =
    let v = c.at.result in
    let same : to_z w64 (of_z w64 v) ≡ v = grind (arith, to_z-of_z) in
    ap (λ (z : ℤ). fits ty.Dint z) same
    ∙ every_at (λ z. fits ty.Dint z ≡ true) c.args.values.now c.senders.id v c.requires.values.1 c.at.ensures

pub returns-in_default-clause-sends : goal.returns-in_default-clause-sends
returns-in_default-clause-sends g c =
    let v = c.at.result in
    let same : to_z w64 (of_z w64 v) ≡ v = grind (arith, to_z-of_z) in
    let ensures = c.send-given.ensures in
    let given : Sent c.args.wire.now c.args.cycle c.senders.id (to_z w64 (of_z w64 v)) c.send-given.result (g.U.Unit.seen c.senders.unit)
    (g.U.Unit.seen c.send-given.new.unit) =
    record { log = ensures.log; wrong = ensures.wrong; honest = ensures.honest; failed = ensures.failed } in
    let sent = subst
    (λ (z : ℤ). Sent c.args.wire.now c.args.cycle c.senders.id z c.send-given.result (g.U.Unit.seen c.senders.unit) (g.U.Unit.seen c.send-given.new.unit))
    same given in
    sent_cut c.args.wire.now c.args.cycle c.args.values.now c.args.words.now.items c.senders.words.items (g.U.Unit.seen c.args.unit.now)
    (g.U.Unit.seen c.senders.unit) (g.U.Unit.seen c.send-given.new.unit) c.senders.id v c.send-given.result c.senders.invariant.so_far c.at.ensures sent
    c.in_default.ensures.none c.senders-test.true

pub senders-preserved : goal.senders-preserved
senders-preserved g c =
    let v = c.at.result in
    let same : to_z w64 (of_z w64 v) ≡ v = grind (arith, to_z-of_z) in
    let ensures = c.send-given.ensures in
    let given : Sent c.args.wire.now c.args.cycle c.senders.id (to_z w64 (of_z w64 v)) c.send-given.result (g.U.Unit.seen c.senders.unit)
    (g.U.Unit.seen c.send-given.new.unit) =
    record { log = ensures.log; wrong = ensures.wrong; honest = ensures.honest; failed = ensures.failed } in
    let sent = subst
    (λ (z : ℤ). Sent c.args.wire.now c.args.cycle c.senders.id z c.send-given.result (g.U.Unit.seen c.senders.unit) (g.U.Unit.seen c.send-given.new.unit))
    same given in
    record {
      so_far =
          subst
          (λ (l : List ℤ). SentSoFar c.args.wire.now c.args.cycle c.args.values.now c.args.words.now.items l (g.U.Unit.seen c.args.unit.now)
          (g.U.Unit.seen c.send-given.new.unit) (c.senders.id + 1))
          (sym c.push_reserved.ensures.items)
          (sent_next c.args.wire.now c.args.cycle c.args.values.now c.args.words.now.items c.senders.words.items (g.U.Unit.seen c.args.unit.now)
          (g.U.Unit.seen c.senders.unit) (g.U.Unit.seen c.send-given.new.unit) c.senders.id v c.send-given.result c.senders.invariant.so_far c.at.ensures sent
          c.in-Some.word c.in-Some.ensures.some);
      room = omega (arith, c.senders.invariant.room, c.senders-test.true, c.push_reserved.ensures.len, c.push_reserved.ensures.capacity);
      same = c.push_reserved.ensures.capacity ∙ c.senders.invariant.same;
    }

pub returns-clause-sends : goal.returns-clause-sends
returns-clause-sends g c =
    let all : c.senders.id ≡ c.args.wire.now.senders = omega (arith, c.senders-test.false, c.senders.auto.id-end) in
    sent_all c.args.wire.now c.args.cycle c.args.values.now c.args.words.now.items c.senders.words.items (g.U.Unit.seen c.args.unit.now)
    (g.U.Unit.seen c.senders.unit) c.requires.values.0
    (subst
    (λ n. SentSoFar c.args.wire.now c.args.cycle c.args.values.now c.args.words.now.items c.senders.words.items (g.U.Unit.seen c.args.unit.now)
    (g.U.Unit.seen c.senders.unit) n)
    all c.senders.invariant.so_far)
