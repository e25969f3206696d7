use Rattle.std.proofs.Common.{rules, ◌≡◌, ◌≤◌, ◌+◌, ◌∙◌, ap, refl, subst, sym, arith, IfSome, None, true≢false, vec_capacity}
use Rattle.std.proofs.lemmas.Option.{none-some}
use Rattle.coded_machine.specs.State.{State, setting}
use Rattle.coded_machine.specs.Sound.{Sound}
use Rattle.coded_machine.specs.CycleEnds.{Accepted, Cause}
use Rattle.coded_machine.proofs.Following.{follows_carried, turn_carried, row_carried, told_carried}
use Rattle.coded_machine.proofs.machine.Machine.cycle.Goals as goal

pub returns : goal.returns
returns g c =
    let m : State = c.args.self.now in
    let mid : State = c.carry.new.self in
    let new : State = c.end.new.self in
    let result = c.end.result in
    let carried = c.carry.ensures in
    let end = c.end.ensures in
    let going : m.ended ≡ None = sym c.repeated.ensures.end ∙ c.in_default.is in
    let mid_going : mid.ended ≡ None = ap (λ (n : State). n.ended) carried.machine ∙ going in
    let turn = turn_carried m mid new c.args.row.now result _ _ _ _ going carried.machine carried.given carried.whole carried.carried end.end end.machine in
    let accepted = told_carried Accepted m mid new result carried.machine carried.given end.machine in
    let cause = told_carried (λ g t n answers. Cause g t n answers result) m mid new result carried.machine carried.given end.machine in
    record {
      whole = λ _. turn.whole;
      carried = λ _. turn.carried;
      end = λ _. turn.end_is;
      machine = λ _. turn.machine;
      out = λ _. end.out ∙ row_carried m mid new result c.args.out.now carried.machine carried.given end.machine;
      accepted = (λ e. (going, accepted.0 (end.accepted.0 e).1), λ h. end.accepted.1 (mid_going, accepted.1 h.1));
      cause = λ _. cause.0 (end.cause mid_going);
      repeats = subst (λ o. IfSome o (λ e. (result ≡ e) × (new ≡ m) × (c.end.new.out ≡ c.args.out.now) × (c.carry.new.unit ≡ c.args.unit.now))) (sym going) tt;
      between = end.between;
      graph = end.graph ∙ ap (λ (n : State). n.graph) carried.machine;
      table = end.table ∙ ap (λ (n : State). n.table) carried.machine;
      cycles = subst (λ (n : State). new.cycles ≤ n.cycles + 1) carried.machine end.cycles;
      width = end.width;
      turn = λ _. turn;
      honest = λ _ same small values hold.
          let sound : Sound m c.self.inside.halted (vec_capacity c.self.inside.answers) =
          subst (λ n. Sound n c.self.inside.halted (vec_capacity c.self.inside.answers)) c.self.view_is c.self.invariant in
          let stands =
          c.right_answers_stand_for_values.ensures.cycle (setting m c.args.row.now) values mid.answers sound.graph sound.table c.requires.cycle hold
          (carried.carried.honest same small) carried.whole in
          follows_carried m mid new values c.args.row.now result c.end.new.out _ going carried.machine carried.given stands end.end end.machine end.out;
    }

pub returns-in-Some : goal.returns-in-Some
returns-in-Some g c =
    let m : State = c.args.self.now in
    let end = c.in-Some.end in
    let is = sym c.repeated.ensures.end ∙ c.in-Some.is in
    let no : m.ended ≡ None → ⊥ = λ going. none-some end (sym going ∙ is) in
    record {
      whole = λ going. absurd (no going);
      carried = λ going. absurd (no going);
      end = λ going. absurd (no going);
      machine = λ going. absurd (no going);
      out = λ going. absurd (no going);
      accepted = (λ e. absurd (c.in-Some.ensures.closed.0 e), λ h. absurd (no h.0));
      cause = λ going. absurd (no going);
      repeats =
          subst (λ o. IfSome o (λ e. (end ≡ e) × (m ≡ m) × (c.args.out.now ≡ c.args.out.now) × (c.args.unit.now ≡ c.args.unit.now))) (sym is)
          (refl, refl, refl, refl);
      between = c.in-Some.ensures.closed.1;
      graph = refl;
      table = refl;
      cycles = omega arith;
      width = refl;
      turn = λ going. absurd (no going);
      honest = λ going. absurd (no going);
    }

pub carry-requires-clause-cycle : goal.carry-requires-clause-cycle
carry-requires-clause-cycle g c = c.requires.cycle

pub carry-requires-clause-between : goal.carry-requires-clause-between
carry-requires-clause-between g c = c.requires.between

pub carry-requires-clause-going : goal.carry-requires-clause-going
carry-requires-clause-going g c = sym c.repeated.ensures.end ∙ c.in_default.is

pub returns-then-not-carry : goal.returns-then-not-carry
returns-then-not-carry g c = absurd (true≢false (sym c.carry.ensures.sure ∙ c.if-not-carry.true))

pub end-requires : goal.end-requires
end-requires g c = search rules
