use Rattle.std.proofs.Common.{ap, ◌≡◌, ◌<◌, ◌∙◌, sym, subst, cond, [], true≢false}
use Rattle.vcp_base.specs.Limits.{most_cycles}
use Rattle.op_graph.specs.Lists.{Lists}
use Rattle.coded_machine.specs.Calls.{HasOwnNumber, CallsOf, Carried}
use Rattle.coded_machine.specs.Common.{IsBegun}
use Rattle.coded_machine.specs.State.{State, given, setting}
use Rattle.coded_machine.proofs.Turns.{begun_same, begun_carried, only_answers, carried_turn, turn_smaller, finished_whole, whole_kept}
use Rattle.coded_machine.proofs.machine.Machine.carry.Goals as goal

pub has_own_number-requires : goal.has_own_number-requires
has_own_number-requires g c =
    let same : c.calls.self.graph ≡ c.graph-graph.result.now = ap (λ (m : State). m.graph) c.calls.invariant.same ∙ sym c.graph-graph.ensures in
    subst (λ (x : Lists). HasOwnNumber x c.args.row.now c.in-Some.call) same c.in-Some.ensures.own

pub calls-preserved : goal.calls-preserved
calls-preserved g c = record {
  same = only_answers c.args.self.now c.calls.self c.append_answer.new.self c.perform-answer.result c.calls.invariant.same c.append_answer.ensures;
  way = ap (λ (m : State). m.under_way) c.append_answer.ensures;
  carried =
      carried_turn c.args.self.now c.calls.self c.append_answer.new.self c.args.row.now c.in-Some.call c.perform-answer.result _ _ _ _ _ _
      c.calls.invariant.same c.append_answer.ensures c.in-Some.ensures.next c.calls.invariant.carried c.perform-answer.ensures.log c.perform-answer.ensures.wrong;
}

pub begin-begun-requires : goal.begin-begun-requires
begin-begun-requires g c = record {
  cycle = c.requires.cycle;
  going = c.requires.going;
}

pub calls-init : goal.calls-init
calls-init g c =
    let m = c.begin-begun.new.self in
    let first = c.args.self.now in
    let begun = c.begin-begun.ensures.machine in
    record { same = begun_same m first begun; way = ap (λ (k : State). k.under_way) begun; carried = begun_carried m first c.args.row.now _ _ begun }

pub following-requires : goal.following-requires
following-requires g c = record {
  cycle = subst (λ (m : State). m.cycles < most_cycles) (sym c.calls.invariant.same) c.requires.cycle;
  going = ap (λ (m : State). m.ended) c.calls.invariant.same ∙ c.requires.going;
  way = c.calls.invariant.way;
  number = c.begin-begun.ensures.cycle ∙ sym (ap (λ (m : State). m.cycles) c.calls.invariant.same);
  begun = subst (λ (m : State). IsBegun m.graph m.table c.begin-begun.result) (sym c.calls.invariant.same) c.begin-begun.ensures.begun;
}

pub perform-answer-requires : goal.perform-answer-requires
perform-answer-requires g c = c.in-Some.ensures.asked

pub append_answer-requires : goal.append_answer-requires
append_answer-requires g c = record {
  awaits = c.in-Some.ensures.some;
  way = c.calls.invariant.way;
}

pub returns-then-not-has_own_number : goal.returns-then-not-has_own_number
returns-then-not-has_own_number g c = absurd (true≢false (sym c.has_own_number.ensures ∙ c.if-not-has_own_number.true))

pub calls-smaller : goal.calls-smaller
calls-smaller g c = turn_smaller c.calls.self c.append_answer.new.self c.perform-answer.result c.append_answer.ensures c.in-Some.ensures.some

pub has_code-requires : goal.has_code-requires
has_code-requires g c = c.begin-begun.ensures.begun.profile ∙ sym (ap (λ (x : Lists). x.profile) c.graph-graph.ensures)

pub returns : goal.returns
returns g c =
    let so_far = c.calls.invariant in
    let given_is : given c.calls.self ≡ c.calls.self.answers = ap (λ b. cond b c.calls.self.answers []) so_far.way in
    let going = ap (λ (m : State). m.ended) so_far.same ∙ c.requires.going in
    record {
      sure = c.has_code.ensures;
      given = given_is;
      whole = whole_kept c.args.self.now c.calls.self so_far.same given_is (finished_whole c.calls.self going (c.following.ensures.none c.in_default.is));
      carried =
          subst (λ answers. Carried (CallsOf (setting c.args.self.now c.args.row.now) answers) (g.U.Unit.seen c.args.unit.now).log (g.U.Unit.seen c.calls.unit).log
          (g.U.Unit.seen c.args.unit.now).wrong (g.U.Unit.seen c.calls.unit).wrong) given_is so_far.carried;
      machine = so_far.same;
    }
