use Rattle.std.proofs.Common.{rules, subst, ◌≡◌, refl, sym, ap, ◌∙◌, IfSome, Some, None, vec_capacity}
use Rattle.std.proofs.lemmas.Option.{none-some}
use Rattle.coded_machine.specs.State.{State, given}
use Rattle.coded_machine.specs.Sound.{Sound}
use Rattle.coded_machine.specs.CycleEnds.{Cause, end_of, end_or}
use Rattle.coded_machine.proofs.Causes.{end_has_cause}
use Rattle.coded_machine.proofs.Ends.{released_is_accepted, accepted_is_released}
use Rattle.coded_machine.proofs.ByHand.{all_kept}
use Rattle.coded_machine.proofs.Following.{answers_kept, closed_same, row_kept, one_more_few}
use Rattle.coded_machine.proofs.Turns.{finished_whole}
use Rattle.coded_machine.proofs.machine.Machine.end.Goals as goal

pub returns-in-None-clause-accepted : goal.returns-in-None-clause-accepted
returns-in-None-clause-accepted c =
    let m : State = c.args.self.now in
    let going : m.ended ≡ None = sym c.repeated.ensures.end ∙ c.in-None.is in
    let is = c.conclude.ensures.end in (
      λ e. (going, released_is_accepted m.graph m.table m.cycles (given m) (finished_whole m going c.requires.finished) (sym is ∙ e)),
      λ h. is ∙ accepted_is_released m.graph m.table m.cycles (given m) h.1,
    )

pub returns-in-None-clause-cause : goal.returns-in-None-clause-cause
returns-in-None-clause-cause c = λ going.
    let m : State = c.args.self.now in
    subst (Cause m.graph m.table m.cycles (given m)) (sym c.conclude.ensures.end)
    (end_has_cause m.graph m.table m.cycles (given m) (finished_whole m going c.requires.finished))

pub returns-in-None-clause-answers : goal.returns-in-None-clause-answers
returns-in-None-clause-answers c = λ going.
    let m : State = c.args.self.now in
    let sound : Sound m c.self.inside.halted (vec_capacity c.self.inside.answers) =
    subst (λ n. Sound n c.self.inside.halted (vec_capacity c.self.inside.answers)) c.self.view_is c.self.invariant in
    ap (λ (n : State). n.answers) c.conclude.ensures.machine ∙ answers_kept m c.conclude.result
    ∙ all_kept m sound.few (finished_whole m going c.requires.finished)

pub returns-in-Some : goal.returns-in-Some
returns-in-Some c =
    let m : State = c.args.self.now in
    let end = c.in-Some.end in
    let out = c.args.out.now in
    let is : m.ended ≡ Some end = sym c.repeated.ensures.end ∙ c.in-Some.is in
    let closed = c.in-Some.ensures.closed in
    let no : m.ended ≡ None → ⊥ = λ going. none-some end (sym going ∙ is) in
    record {
      end = sym (ap (λ o. end_or o (end_of m.graph m.table m.cycles (given m))) is);
      machine = closed_same m end closed.0 is closed.1;
      out = row_kept m end out closed.0;
      accepted = (λ e. absurd (closed.0 e), λ h. absurd (no h.0));
      cause = λ going. absurd (no going);
      repeats = subst (λ o. IfSome o (λ e. (end ≡ e) × (m ≡ m) × (out ≡ out))) (sym is) (refl, refl, refl);
      between = closed.1;
      answers = λ going. absurd (no going);
      graph = refl;
      table = refl;
      cycles = one_more_few m.cycles;
      width = refl;
    }

pub returns-in-None-clause-end : goal.returns-in-None-clause-end
returns-in-None-clause-end c =
    let m : State = c.args.self.now in
    let going : m.ended ≡ None = sym c.repeated.ensures.end ∙ c.in-None.is in
    c.conclude.ensures.end ∙ sym (ap (λ o. end_or o (end_of m.graph m.table m.cycles (given m))) going)

pub returns-in-None-clause-machine : goal.returns-in-None-clause-machine
returns-in-None-clause-machine c = c.conclude.ensures.machine

pub returns-in-None-clause-out : goal.returns-in-None-clause-out
returns-in-None-clause-out c = c.conclude.ensures.out

pub conclude-requires : goal.conclude-requires
conclude-requires c = search rules
