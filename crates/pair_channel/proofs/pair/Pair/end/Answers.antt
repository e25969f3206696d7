use Rattle.std.proofs.Common.{◌≡◌, ◌<◌, ◌≤◌, ◌+◌, ◌^◌, List, ℤ, None, length, sym, ap, subst, refl, ◌∙◌, IfSome}
use Rattle.std.proofs.lemmas.Option.{none-some}
use Rattle.vcp_base.specs.Limits.{most_cycles}
use Rattle.op_graph.specs.Lists.{Lists}
use Rattle.coded_unit.specs.declared.call.Answer.{Answer}
use Rattle.coded_machine.specs.CycleEnds.{Cause, end_of, end_or, outputs_of}
use Rattle.coded_machine.specs.State.{State, given, with_answers}
use Rattle.pair_channel.specs.PairEnds.{both, PairCause}
use Rattle.pair_channel.specs.PairStates.{PairState, pair_row_after}
use Rattle.pair_channel.specs.PairTurns.{PairConcluded}
use Rattle.pair_channel.specs.SoundPair.{SoundPair, Together}
use Rattle.pair_channel.proofs.States.{few_more, left_by, pair_left, first_finished, unchanged_row, closed_between, counted, if_none}
use Rattle.pair_channel.proofs.pair.Pair.end.Goals as goal

pub end-one-requires-clause-cycle : goal.end-one-requires-clause-cycle
end-one-requires-clause-cycle g c =
    let together = c.self.invariant.together c.in_default.is in
    subst (λ n. n < most_cycles) (sym (together.first_cycles ∙ ap (λ (q : PairState). q.cycles) c.self.view_is)) c.requires.cycle

pub end-one-requires-clause-finished : goal.end-one-requires-clause-finished
end-one-requires-clause-finished g c =
    let s = c.self.inside in
    let p : PairState = record { first = s.first; second = s.second; cycles = s.cycles; ended = s.ended } in
    first_finished p c.args.self.now c.self.view_is c.in_default.is c.requires.finished

pub cycle-two-requires-clause-cycle : goal.cycle-two-requires-clause-cycle
cycle-two-requires-clause-cycle g c =
    let together = c.self.invariant.together c.in_default.is in
    subst (λ n. n < most_cycles) (sym (together.second_cycles ∙ ap (λ (q : PairState). q.cycles) c.self.view_is)) c.requires.cycle

pub cycle-two-requires-clause-out : goal.cycle-two-requires-clause-out
cycle-two-requires-clause-out g c = c.self.invariant.theirs ∙ ap (λ (h : Lists). length h.outputs) (sym c.self.invariant.one_graph)

pub both-end-requires : goal.both-end-requires
both-end-requires g c = record {
  few = subst (λ n. n < 2 ^ 32) (sym (c.end-one.ensures.width ∙ c.self.invariant.ours)) c.self.invariant.few;
  width = c.cycle-two.ensures.width ∙ (c.self.invariant.theirs ∙ (sym c.self.invariant.ours ∙ sym c.end-one.ensures.width));
}

pub settle-requires : goal.settle-requires
settle-requires g c = record {
  few = subst (λ n. n < most_cycles) (sym (ap (λ (q : PairState). q.cycles) c.self.view_is)) c.requires.cycle;
  width = c.requires.out
      ∙ (ap (λ (q : PairState). length q.first.graph.outputs) (sym c.self.view_is) ∙ (sym c.self.invariant.ours ∙ sym c.end-one.ensures.width));
  going = c.in_default.is;
}

pub invariant_of-self : goal.invariant_of-self
invariant_of-self g c =
    let s = c.self.inside in
    let p : PairState = record { first = s.first; second = s.second; cycles = s.cycles; ended = s.ended } in
    let sound : SoundPair p s.ours s.theirs = c.self.invariant in
    let together : Together p = sound.together c.in_default.is in
    let k : State = with_answers s.second c.cycle-two.new.self.answers in
    let few : s.cycles < most_cycles = subst (λ n. n < most_cycles) (sym (ap (λ (q : PairState). q.cycles) c.self.view_is)) c.requires.cycle in
    (left_by p s.ours s.theirs s.first k c.end-one.new.self c.cycle-two.new.self c.end-one.result c.cycle-two.result c.end-one.new.out c.cycle-two.new.out
    c.settle.new.row c.args.out.now c.settle.new.out c.both-end.result c.settle.new.cycles c.settle.new.ended sound c.in_default.is few refl refl
    c.end-one.ensures.machine (c.cycle-two.ensures.machine together.second_going) c.end-one.ensures.graph c.cycle-two.ensures.graph c.end-one.ensures.between
    c.cycle-two.ensures.between c.end-one.ensures.out (c.cycle-two.ensures.out together.second_going) c.end-one.ensures.width c.cycle-two.ensures.width
    c.both-end.ensures c.settle.ensures.row c.settle.ensures.out c.settle.ensures.cycles c.settle.ensures.ended).0

pub returns : goal.returns
returns g c =
    let s = c.self.inside in
    let unit = g.V.Unit in
    let p : PairState = record { first = s.first; second = s.second; cycles = s.cycles; ended = s.ended } in
    let now : PairState =
    record { first = c.end-one.new.self; second = c.cycle-two.new.self; cycles = c.settle.new.cycles; ended = c.settle.new.ended } in
    let sound : SoundPair p s.ours s.theirs = c.self.invariant in
    let together : Together p = sound.together c.in_default.is in
    let k : State = with_answers s.second c.cycle-two.new.self.answers in
    let e = c.end-one.result in
    let f = c.cycle-two.result in
    let few : s.cycles < most_cycles = subst (λ n. n < most_cycles) (sym (ap (λ (q : PairState). q.cycles) c.self.view_is)) c.requires.cycle in
    let done =
    (left_by p s.ours s.theirs s.first k c.end-one.new.self c.cycle-two.new.self e f c.end-one.new.out c.cycle-two.new.out
    c.settle.new.row c.args.out.now c.settle.new.out c.both-end.result c.settle.new.cycles c.settle.new.ended sound c.in_default.is few refl refl
    c.end-one.ensures.machine (c.cycle-two.ensures.machine together.second_going) c.end-one.ensures.graph c.cycle-two.ensures.graph c.end-one.ensures.between
    c.cycle-two.ensures.between c.end-one.ensures.out (c.cycle-two.ensures.out together.second_going) c.end-one.ensures.width c.cycle-two.ensures.width
    c.both-end.ensures c.settle.ensures.row c.settle.ensures.out c.settle.ensures.cycles c.settle.ensures.ended).1 in
    let answers : c.end-one.new.self.answers ≡ given s.first = c.end-one.ensures.answers together.first_going in
    let other : List ℤ = outputs_of s.second.graph c.cycle-two.new.self.answers in
    let none : c.args.self.now.ended ≡ None = sym (ap (λ (q : PairState). q.ended) c.self.view_is) ∙ c.in_default.is in
    record {
      concluded =
          subst (λ (q : PairState). q.ended ≡ None → PairConcluded q now c.args.row.now c.both-end.result c.args.out.now c.settle.new.out
          (unit.seen c.args.second.now) (unit.seen c.cycle-two.new.unit))
          c.self.view_is
          (λ going. record {
            going = going;
            first_going = together.first_going;
            first_end = e;
            second_end = f;
            first_end_is = c.end-one.ensures.end
                ∙ ap (λ o. end_or o (end_of s.first.graph s.first.table s.first.cycles (given s.first))) together.first_going;
            first_machine = c.end-one.ensures.machine;
            first_answers = answers;
            second = c.cycle-two.ensures.turn together.second_going;
            first_cause = subst (λ (xs : List Answer). Cause s.first.graph s.first.table s.first.cycles xs e) (sym answers)
                (c.end-one.ensures.cause together.first_going);
            second_cause = c.cycle-two.ensures.cause together.second_going;
            end_is = subst (λ (xs : List Answer). c.both-end.result ≡ both e f (outputs_of s.first.graph xs) other) (sym answers) done.end_is;
            cause = subst (λ (xs : List Answer). PairCause e f (outputs_of s.first.graph xs) other c.both-end.result) (sym answers) done.cause;
            out_is = subst (λ (xs : List Answer). c.settle.new.out ≡ pair_row_after c.both-end.result (outputs_of s.first.graph xs) c.args.out.now) (sym answers)
                done.out_is;
            pair_is = sym (pair_left p c.end-one.new.self c.cycle-two.new.self c.both-end.result c.settle.new.cycles c.settle.new.ended c.settle.ensures.cycles
                c.settle.ensures.ended);
          });
      repeats = if_none _ _ none;
      unchanged = λ apart. c.settle.ensures.out ∙ unchanged_row c.both-end.result c.end-one.new.out c.args.out.now apart;
      between = c.end-one.ensures.between;
      graph = c.end-one.ensures.graph ∙ ap (λ (q : PairState). q.first.graph) c.self.view_is;
      cycles =
          subst (λ n. c.settle.new.cycles ≤ n + 1) (ap (λ (q : PairState). q.cycles) c.self.view_is)
          (subst (λ n. n ≤ s.cycles + 1) (sym c.settle.ensures.cycles) (counted c.both-end.result s.cycles));
      width = c.settle.ensures.width;
    }

pub returns-in-Some : goal.returns-in-Some
returns-in-Some g c =
    let s = c.self.inside in
    let p : PairState = record { first = s.first; second = s.second; cycles = s.cycles; ended = s.ended } in
    let m : PairState = c.args.self.now in
    let end = c.in-Some.end in
    let out = c.args.out.now in
    let is = sym (ap (λ (q : PairState). q.ended) c.self.view_is) ∙ c.in-Some.is in
    record {
      concluded = λ going. absurd (none-some end (sym going ∙ is));
      repeats = subst (λ o. IfSome o (λ e. (end ≡ e) × (m ≡ m) × (out ≡ out) × (c.args.second.now ≡ c.args.second.now))) (sym is) (refl, refl, refl, refl);
      unchanged = λ apart. refl;
      between = sym (ap (λ (q : PairState). q.first.under_way) c.self.view_is) ∙ closed_between p s.ours s.theirs end c.self.invariant c.in-Some.is;
      graph = refl;
      cycles = few_more m.cycles;
      width = refl;
    }
