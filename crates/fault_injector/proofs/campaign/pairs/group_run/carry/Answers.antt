use Rattle.std.proofs.Common.{◌∙◌, ◌<◌, refl, ap, sym, subst, length}
use Rattle.vcp_base.specs.Limits.{most_cycles}
use Rattle.coded_machine.specs.Calls.{CallsOf}
use Rattle.coded_machine.specs.State.{State, given, with_answer, setting}
use Rattle.fault_injector.specs.Carried.{faults_of, keeps_of}
use Rattle.pair_channel.specs.PairStates.{PairState}
use Rattle.fault_injector.specs.GroupRuns.{outer_seen, processor_seen}
use Rattle.fault_injector.proofs.CallsAsked.{asked_smaller, cycle_asked, first_finished, nothing_asked, one_asked}
use Rattle.fault_injector.proofs.campaign.pairs.group_run.carry.Goals as goal

pub calls-init : goal.calls-init
calls-init g c = record {
  same = refl;
  faults = refl;
  pair = refl;
  so_far =
      nothing_asked c.cycles_by_hand_are_whole.ensures c.args.pair.now.first c.args.inputs.now (faults_of c.args.scripted.now.carried.items)
      (keeps_of c.args.scripted.now.carried.items) c.args.scripted.now.wrong (g.U.Unit.seen c.args.scripted.now.unit.now) c.requires.first_going
      c.requires.between;
}

pub next_call-requires : goal.next_call-requires
next_call-requires g c =
    subst (λ n. n < most_cycles) (sym (ap (λ (x : PairState). x.cycles) c.calls.invariant.pair)) c.requires.few

pub calls-preserved : goal.calls-preserved
calls-preserved g c =
    let i = c.calls.invariant in
    let call = c.in-Some.ensures in
    let p = c.perform-answer.ensures in
    let old : PairState = c.args.pair.now in
    let here : PairState = c.calls.pair in
    let next : PairState = c.put.new.self in
    let awaits = call.some.0 refl in
    record {
      same = p.same ∙ i.same;
      faults = p.faults ∙ i.faults;
      pair =
          c.put.ensures
          ∙ (ap (λ (x : PairState). record x { first = with_answer here.first c.perform-answer.result }) i.pair
          ∙ ap (λ (m : State). record old { first = m }) (sym (ap (λ (x : PairState). x.first) c.put.ensures)));
      so_far =
          one_asked c.cycles_by_hand_are_whole.ensures old.first here.first next.first c.args.inputs.now (faults_of c.args.scripted.now.carried.items)
          (faults_of c.calls.scripted.carried.items) (keeps_of c.args.scripted.now.carried.items) (keeps_of c.calls.scripted.carried.items)
          (keeps_of c.perform-answer.new.self.carried.items) c.args.scripted.now.wrong c.calls.scripted.wrong c.perform-answer.new.self.wrong
          (g.U.Unit.seen c.args.scripted.now.unit.now) (g.U.Unit.seen c.calls.scripted.unit.now) (g.U.Unit.seen c.perform-answer.new.self.unit.now) c.in-Some.call
          c.perform-answer.result i.so_far call.next call.call awaits.1.left (ap (λ (x : PairState). x.first) c.put.ensures) i.faults p.kept p.wrong
          p.performed p.right;
    }

pub returns : goal.returns
returns g c =
    let i = c.calls.invariant in
    let old : PairState = c.args.pair.now in
    let p : PairState = c.calls.pair in
    let new : PairState = c.end.new.self in
    let row = c.args.inputs.now in
    let going = ap (λ (x : PairState). x.ended) i.pair ∙ c.requires.going in
    let x = outer_seen c.args.scripted.now.wrong in
    let y = outer_seen c.calls.scripted.wrong in
    let concluded = c.end.ensures.concluded going in
    record {
      turn =
          c.pairs_by_hand_are_whole.ensures old p new row (CallsOf (setting old.first row) (given p.first)) c.end.result c.args.outputs.now c.end.new.out x y
          processor_seen processor_seen i.so_far.done.under i.pair (first_finished p going (c.in_default.ensures.none.0 refl)) i.so_far.carried concluded;
      asked =
          cycle_asked old.first p.first row (faults_of c.args.scripted.now.carried.items) (keeps_of c.args.scripted.now.carried.items)
          (keeps_of c.calls.scripted.carried.items) c.args.scripted.now.wrong c.calls.scripted.wrong (g.U.Unit.seen c.args.scripted.now.unit.now)
          (g.U.Unit.seen c.calls.scripted.unit.now) new.first.answers concluded.first_answers i.so_far;
      between = c.end.ensures.between;
      width = c.end.ensures.width;
      same = i.same;
      faults = i.faults;
    }

pub put-requires : goal.put-requires
put-requires g c = c.in-Some.ensures.some.0 refl

pub end-requires : goal.end-requires
end-requires g c =
    let i = c.calls.invariant in
    record {
      cycle = subst (λ n. n < most_cycles) (sym (ap (λ (x : PairState). x.cycles) i.pair)) c.requires.few;
      finished = c.in_default.ensures.none.0 refl;
      out = c.requires.out ∙ sym (ap (λ (x : State). length x.graph.outputs) i.so_far.done.under.same);
    }

pub perform-answer-requires : goal.perform-answer-requires
perform-answer-requires g c = c.in-Some.ensures.asked

pub calls-smaller : goal.calls-smaller
calls-smaller g c = asked_smaller c.calls.pair c.put.new.self c.perform-answer.result c.put.ensures (c.in-Some.ensures.some.0 refl).1.left
