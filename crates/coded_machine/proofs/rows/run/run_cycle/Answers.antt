use Rattle.std.proofs.Common.{◌≡◌, ◌∙◌, ◌+◌, ◌<◌, ◌++◌, ◌∷◌, [], OnOk, ap, subst, sym, true≢false}
use Rattle.vcp_base.specs.Limits.{most_cycles}
use Rattle.vcp_outside.specs.Written.{WritesTo}
use Rattle.coded_machine.specs.CycleEnds.{outputs_of, Cause}
use Rattle.coded_machine.specs.Runs.{Turn}
use Rattle.coded_machine.specs.State.{State, with_answers, after_end, row_after}
use Rattle.coded_machine.proofs.Failing.{failed_row, released_row, failed_released, failed_keeps}
use Rattle.coded_machine.proofs.rows.run.run_cycle.Goals as goal

pub is_next-requires : goal.is_next-requires
is_next-requires g c = record {
  next = (
      let m = c.args.machine.now in
      let answers = c.cycle.new.self.answers in
      let counted : c.cycle.new.self.cycles ≡ m.cycles + 1 =
      ap (λ (s : State). s.cycles) (c.cycle.ensures.machine c.requires.going ∙ ap (after_end (with_answers m answers)) c.in-Released.is) in
      c.cycles.ensures.value ∙ counted ∙ ap (λ n. n + 1) (sym c.cycles-cycle.ensures.value));
  few = subst (λ n. n < most_cycles) (sym c.cycles-cycle.ensures.value) c.requires.few;
}

pub cycle-requires : goal.cycle-requires
cycle-requires g c = record {
  cycle = c.requires.few;
  between = c.requires.between;
  out = c.requires.width;
}

pub returns-then-not-is_next : goal.returns-then-not-is_next
returns-then-not-is_next g c = absurd (true≢false (sym c.is_next.ensures ∙ c.if-not-is_next.true))

pub returns-in_err-take-in-Released : goal.returns-in_err-take-in-Released
returns-in_err-take-in-Released g c =
    let m = c.args.machine.now in
    let answers = c.cycle.new.self.answers in
    let text = g.R.ReleasedRows.text in
    let row : c.cycle.new.out ≡ outputs_of m.graph answers =
    c.cycle.ensures.out c.requires.going ∙ ap (λ e. row_after (with_answers m answers) e c.args.outputs.now) c.in-Released.is in
    let bytes : text c.cycles-cycle.result c.cycle.new.out ≡ text m.cycles (outputs_of m.graph answers) =
    ap (λ n. text n c.cycle.new.out) c.cycles-cycle.ensures.value ∙ ap (text m.cycles) row in
    let released = c.in-Released.is ∙ sym (failed_released c.from_residual.result c.from_residual.ensures.0) in
    record {
      turn = subst (λ e. Turn m c.cycle.new.self c.args.inputs.now e (g.U.Unit.seen c.args.unit.now).log (g.U.Unit.seen c.cycle.new.unit).log
          (g.U.Unit.seen c.args.unit.now).wrong (g.U.Unit.seen c.cycle.new.unit).wrong) released (c.cycle.ensures.turn c.requires.going);
      cause = subst (Cause m.graph m.table m.cycles answers) released (c.cycle.ensures.cause c.requires.going);
      between = c.cycle.ensures.between;
      written =
          failed_row text m.cycles (outputs_of m.graph answers) _ _ _ _ _ _ c.from_residual.result c.from_residual.ensures.0 bytes
          (subst (λ r. WritesTo (g.O.Sink.seen c.args.out.now) (g.O.Sink.seen c.take.new.out) (text c.cycles-cycle.result c.cycle.new.out) r)
          c.in_err-take-in-Released.was c.take.ensures.writes);
      kept = λ rows kept. failed_keeps c.from_residual.result c.from_residual.ensures.0 _;
      width = c.cycle.ensures.width;
    }

pub returns-in_ok-take-in-Released : goal.returns-in_ok-take-in-Released
returns-in_ok-take-in-Released g c =
    let m = c.args.machine.now in
    let answers = c.cycle.new.self.answers in
    let text = g.R.ReleasedRows.text in
    let row : c.cycle.new.out ≡ outputs_of m.graph answers =
    c.cycle.ensures.out c.requires.going ∙ ap (λ e. row_after (with_answers m answers) e c.args.outputs.now) c.in-Released.is in
    let bytes : text c.cycles-cycle.result c.cycle.new.out ≡ text m.cycles (outputs_of m.graph answers) =
    ap (λ n. text n c.cycle.new.out) c.cycles-cycle.ensures.value ∙ ap (text m.cycles) row in
    record {
      turn = subst (λ e. Turn m c.cycle.new.self c.args.inputs.now e (g.U.Unit.seen c.args.unit.now).log (g.U.Unit.seen c.cycle.new.unit).log
          (g.U.Unit.seen c.args.unit.now).wrong (g.U.Unit.seen c.cycle.new.unit).wrong) c.in-Released.is (c.cycle.ensures.turn c.requires.going);
      cause = subst (Cause m.graph m.table m.cycles c.cycle.new.self.answers) c.in-Released.is (c.cycle.ensures.cause c.requires.going);
      between = c.cycle.ensures.between;
      written = released_row text m.cycles (outputs_of m.graph answers) c.in_ok-take-in-Released.was bytes c.take.ensures.writes;
      kept = λ rows kept. subst (λ o. g.R.ReleasedRows.Keeps c.take.new.self (rows ++ o ∷ [])) row
          (subst (λ r. OnOk r (g.R.ReleasedRows.Keeps c.take.new.self (rows ++ c.cycle.new.out ∷ []))) c.in_ok-take-in-Released.was
          (c.take.ensures.keeps rows kept));
      width = c.cycle.ensures.width;
    }
