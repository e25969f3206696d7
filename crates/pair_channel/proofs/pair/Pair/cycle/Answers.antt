use Rattle.std.proofs.Common.{◌≡◌, ◌<◌, ◌≤◌, ◌+◌, ◌^◌, None, length, sym, ap, subst, refl, ◌∙◌, IfSome}
use Rattle.std.proofs.lemmas.Option.{none-some}
use Rattle.vcp_base.specs.Limits.{most_cycles}
use Rattle.op_graph.specs.Lists.{Lists}
use Rattle.coded_machine.specs.State.{State, with_answers}
use Rattle.pair_channel.specs.PairStates.{PairState}
use Rattle.pair_channel.specs.PairTurns.{PairTurn}
use Rattle.pair_channel.specs.SoundPair.{SoundPair, Together}
use Rattle.pair_channel.proofs.States.{few_more, left_by, pair_left, unchanged_row, closed_between, counted, if_none}
use Rattle.pair_channel.proofs.pair.Pair.cycle.Goals as goal

pub cycle-one-requires-clause-cycle : goal.cycle-one-requires-clause-cycle
cycle-one-requires-clause-cycle g c =
    let together = c.self.invariant.together c.in_default.is in
    subst (λ n. n < most_cycles) (sym (together.first_cycles ∙ ap (λ (q : PairState). q.cycles) c.self.view_is)) c.requires.cycle

pub cycle-one-requires-clause-between : goal.cycle-one-requires-clause-between
cycle-one-requires-clause-between g c = ap (λ (q : PairState). q.first.under_way) c.self.view_is ∙ c.requires.between

pub cycle-two-requires-clause-cycle : goal.cycle-two-requires-clause-cycle
cycle-two-requires-clause-cycle g c =
    let together = c.self.invariant.together c.in_default.is in
    subst (λ n. n < most_cycles) (sym (together.second_cycles ∙ ap (λ (q : PairState). q.cycles) c.self.view_is)) c.requires.cycle

pub cycle-two-requires-clause-out : goal.cycle-two-requires-clause-out
cycle-two-requires-clause-out g c = c.self.invariant.theirs ∙ ap (λ (h : Lists). length h.outputs) (sym c.self.invariant.one_graph)

pub both-end-requires : goal.both-end-requires
both-end-requires g c = record {
  few = subst (λ n. n < 2 ^ 32) (sym (c.cycle-one.ensures.width ∙ c.self.invariant.ours)) c.self.invariant.few;
  width = c.cycle-two.ensures.width ∙ (c.self.invariant.theirs ∙ (sym c.self.invariant.ours ∙ sym c.cycle-one.ensures.width));
}

pub settle-requires : goal.settle-requires
settle-requires g c = record {
  few = subst (λ n. n < most_cycles) (sym (ap (λ (q : PairState). q.cycles) c.self.view_is)) c.requires.cycle;
  width = c.requires.out
      ∙ (ap (λ (q : PairState). length q.first.graph.outputs) (sym c.self.view_is) ∙ (sym c.self.invariant.ours ∙ sym c.cycle-one.ensures.width));
  going = c.in_default.is;
}

pub invariant_of-self : goal.invariant_of-self
invariant_of-self g c =
    let s = c.self.inside in
    let p : PairState = record { first = s.first; second = s.second; cycles = s.cycles; ended = s.ended } in
    let sound : SoundPair p s.ours s.theirs = c.self.invariant in
    let together : Together p = sound.together c.in_default.is in
    let m : State = with_answers s.first c.cycle-one.new.self.answers in
    let k : State = with_answers s.second c.cycle-two.new.self.answers in
    let few : s.cycles < most_cycles = subst (λ n. n < most_cycles) (sym (ap (λ (q : PairState). q.cycles) c.self.view_is)) c.requires.cycle in
    (left_by p s.ours s.theirs m k c.cycle-one.new.self c.cycle-two.new.self c.cycle-one.result c.cycle-two.result c.cycle-one.new.out c.cycle-two.new.out
    c.settle.new.row c.args.out.now c.settle.new.out c.both-end.result c.settle.new.cycles c.settle.new.ended sound c.in_default.is few refl refl
    (c.cycle-one.ensures.machine together.first_going) (c.cycle-two.ensures.machine together.second_going)
    c.cycle-one.ensures.graph c.cycle-two.ensures.graph c.cycle-one.ensures.between c.cycle-two.ensures.between
    (c.cycle-one.ensures.out together.first_going) (c.cycle-two.ensures.out together.second_going)
    c.cycle-one.ensures.width c.cycle-two.ensures.width c.both-end.ensures c.settle.ensures.row
    c.settle.ensures.out c.settle.ensures.cycles c.settle.ensures.ended).0

pub returns : goal.returns
returns g c =
    let s = c.self.inside in
    let one = g.U.Unit in
    let unit = g.V.Unit in
    let p : PairState = record { first = s.first; second = s.second; cycles = s.cycles; ended = s.ended } in
    let now : PairState =
    record { first = c.cycle-one.new.self; second = c.cycle-two.new.self; cycles = c.settle.new.cycles; ended = c.settle.new.ended } in
    let sound : SoundPair p s.ours s.theirs = c.self.invariant in
    let together : Together p = sound.together c.in_default.is in
    let m : State = with_answers s.first c.cycle-one.new.self.answers in
    let k : State = with_answers s.second c.cycle-two.new.self.answers in
    let e = c.cycle-one.result in
    let f = c.cycle-two.result in
    let few : s.cycles < most_cycles = subst (λ n. n < most_cycles) (sym (ap (λ (q : PairState). q.cycles) c.self.view_is)) c.requires.cycle in
    let done =
    (left_by p s.ours s.theirs m k c.cycle-one.new.self c.cycle-two.new.self e f c.cycle-one.new.out c.cycle-two.new.out
    c.settle.new.row c.args.out.now c.settle.new.out c.both-end.result c.settle.new.cycles c.settle.new.ended sound c.in_default.is few refl refl
    (c.cycle-one.ensures.machine together.first_going) (c.cycle-two.ensures.machine together.second_going)
    c.cycle-one.ensures.graph c.cycle-two.ensures.graph c.cycle-one.ensures.between c.cycle-two.ensures.between
    (c.cycle-one.ensures.out together.first_going) (c.cycle-two.ensures.out together.second_going)
    c.cycle-one.ensures.width c.cycle-two.ensures.width c.both-end.ensures c.settle.ensures.row
    c.settle.ensures.out c.settle.ensures.cycles c.settle.ensures.ended).1 in
    let none : c.args.self.now.ended ≡ None = sym (ap (λ (q : PairState). q.ended) c.self.view_is) ∙ c.in_default.is in
    record {
      turn =
          subst (λ (q : PairState). q.ended ≡ None → PairTurn q now c.args.row.now c.both-end.result c.args.out.now c.settle.new.out
          (one.seen c.args.first.now) (one.seen c.cycle-one.new.unit)
          (unit.seen c.args.second.now) (unit.seen c.cycle-two.new.unit))
          c.self.view_is
          (λ going. record {
            going = going;
            first_end = e;
            second_end = f;
            first = c.cycle-one.ensures.turn together.first_going;
            second = c.cycle-two.ensures.turn together.second_going;
            first_cause = c.cycle-one.ensures.cause together.first_going;
            second_cause = c.cycle-two.ensures.cause together.second_going;
            end_is = done.end_is;
            cause = done.cause;
            out_is = done.out_is;
            pair_is = sym (pair_left p c.cycle-one.new.self c.cycle-two.new.self c.both-end.result c.settle.new.cycles c.settle.new.ended
                c.settle.ensures.cycles c.settle.ensures.ended);
          });
      repeats = if_none _ _ none;
      unchanged = λ apart. c.settle.ensures.out ∙ unchanged_row c.both-end.result c.cycle-one.new.out c.args.out.now apart;
      between = c.cycle-one.ensures.between;
      graph = c.cycle-one.ensures.graph ∙ ap (λ (q : PairState). q.first.graph) c.self.view_is;
      cycles =
          subst (λ n. c.settle.new.cycles ≤ n + 1) (ap (λ (q : PairState). q.cycles) c.self.view_is)
          (subst (λ n. n ≤ s.cycles + 1) (sym c.settle.ensures.cycles) (counted c.both-end.result s.cycles));
      width = c.settle.ensures.width;
    }

pub returns-in-Some : goal.returns-in-Some
returns-in-Some g c =
    let s = c.self.inside in
    let p : PairState = record { first = s.first; second = s.second; cycles = s.cycles; ended = s.ended } in
    let m : PairState = c.args.self.now in
    let end = c.in-Some.end in
    let out = c.args.out.now in
    let is = sym (ap (λ (q : PairState). q.ended) c.self.view_is) ∙ c.in-Some.is in
    record {
      turn = λ going. absurd (none-some end (sym going ∙ is));
      repeats = subst (λ o. IfSome o (λ e. (end ≡ e) × (m ≡ m) × (out ≡ out) × (c.args.first.now ≡ c.args.first.now) × (c.args.second.now ≡ c.args.second.now))) (sym is) (refl, refl, refl, refl, refl);
      unchanged = λ apart. refl;
      between = sym (ap (λ (q : PairState). q.first.under_way) c.self.view_is) ∙ closed_between p s.ours s.theirs end c.self.invariant c.in-Some.is;
      graph = refl;
      cycles = few_more m.cycles;
      width = refl;
    }
