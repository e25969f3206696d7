use Rattle.std.proofs.Common.{rules, ◌≡◌, sym, ap, subst, ◌∙◌, [], cond, false, vec_capacity, None}
use Rattle.coded_machine.specs.Calls.{AllWords}
use Rattle.coded_machine.specs.Sound.{Sound}
use Rattle.coded_machine.specs.CycleEnds.{first_outside}
use Rattle.coded_machine.specs.State.{State, given}
use Rattle.coded_machine.proofs.Ends.{scans_none}
use Rattle.coded_machine.proofs.machine.Machine.conclude.Goals as goal

pub end_of_answers-end-requires-clause-words : goal.end_of_answers-end-requires-clause-words
end_of_answers-end-requires-clause-words c = λ going.
    let m : State =
    record {
      graph = c.self.inside.graph.now;
      table = c.self.inside.table.now;
      held = c.self.inside.held.items;
      answers = c.self.inside.answers.items;
      under_way = c.self.inside.under_way;
      cycles = c.self.inside.cycles;
      ended = c.self.inside.ended;
    } in
    let whole : Sound m false (vec_capacity c.self.inside.answers) =
    subst (λ b. Sound m b (vec_capacity c.self.inside.answers)) going c.self.invariant in
    let same : c.given-given.result.now ≡ cond c.self.inside.under_way c.self.inside.answers.items [] = c.given-given.ensures
    ∙ ap (λ xs. cond c.self.inside.under_way xs []) c.deref.ensures.value in
    subst AllWords (sym same) whole.progress

pub release-requires-clause-inside : goal.release-requires-clause-inside
release-requires-clause-inside c =
    let answers = c.given-given.result.now in
    let none = scans_none c.self.inside.graph.now c.self.inside.table.now c.self.inside.cycles answers
    (sym c.end_of_answers-end.ensures ∙ c.is_released.ensures.yes c.if-not-is_released.false) in
    let same : answers ≡ cond c.self.inside.under_way c.self.inside.answers.items [] = c.given-given.ensures
    ∙ ap (λ xs. cond c.self.inside.under_way xs []) c.deref.ensures.value in
    subst (λ (m : State). first_outside m.graph.profile (given m) m.graph.outputs ≡ None) c.self.view_is
    (subst (λ xs. first_outside c.self.inside.graph.now.profile xs c.self.inside.graph.now.outputs ≡ None) same none.1)

pub returns-then-not-release : goal.returns-then-not-release
returns-then-not-release c = search rules

pub returns-then-not-is_released : goal.returns-then-not-is_released
returns-then-not-is_released c = search rules

pub returns-else-not-release : goal.returns-else-not-release
returns-else-not-release c = search rules
