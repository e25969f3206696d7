use Rattle.std.proofs.Common.{◌≡◌, ℕ, None, Result, List, ℤ, length, refl, sym, ap, subst, ◌∙◌, true, false}
use Rattle.std.proofs.lemmas.Bool.{true≢false, false≢true}
use Rattle.std.specs.Prelude.{IfOk, IfErr, Err}
use Rattle.std.proofs.lemmas.List.{length-map}
use Rattle.vcp_typed.specs.declared.slot.Slot.{Slot}
use Rattle.vcp_typed.specs.Fitting.{AreFit, NameSlots}
use Rattle.run_report.specs.Lines.{AreNamed}
use Rattle.vcp_typed.specs.Meaning.{Stop}
use Rattle.vcp_typed.specs.SourceRun.{cycle as cycle_of}
use Rattle.st_plain.specs.declared.stop.Stop.{Stop as Cause}
use Rattle.st_plain.specs.Evaluator.{Evaluator, or_again, comes_to, within_turns}
use Rattle.vcp_base.specs.Stops.{told_stop}
use Rattle.vcp_base.specs.declared.turns.Turn.{Turn}
use Rattle.run_report.specs.Lines.{row_text, stop_text}
use Rattle.vcp_core.specs.PlainRun.{cycle_line}
use Rattle.vcp_core.proofs.Written.{writes_answer, fails_answer}
use Rattle.flat_expr.specs.Told.{names_of}
use Rattle.vcp_core.proofs.PlainNames.{in-length}
use Rattle.vcp_core.proofs.plain_run.print_cycle.Goals as goal

-- before a stop the next cycle is the meaning's
goes : (e : Evaluator) (row : List ℤ) (r : Result (List ℤ) Stop) → e.stop ≡ None → comes_to e row ≡ r → cycle_of e.program e.values row ≡ r
goes e row r is h = sym (ap (λ s. or_again s (cycle_of e.program e.values row)) is) ∙ h

-- turns that name slots have names among those of the slots
named : (slots : List Slot) (r : Result (List ℤ) Stop) (s : Stop) → IfErr r (λ x. NameSlots slots x.turns) → r ≡ Err s → AreNamed s.turns (names_of slots)
named slots r s h is =
    let Q : Result (List ℤ) Stop → Type 0 = λ x. IfErr x (λ y. NameSlots slots y.turns) in
    let all : NameSlots slots s.turns = subst Q is h in
    λ k d below. rw (length-map slots (λ s. s.name)) (all.named k d below)

pub stop_line-requires : goal.stop_line-requires
stop_line-requires g c =
    let e = c.args.plain.now in
    rw (c.turns.ensures, c.requires.names)
    (named e.program.slots _ _ (c.turns_name_slots.ensures.cycle e.program e.values c.args.inputs.now c.requires.checked)
    (goes e c.args.inputs.now _ c.requires.going c.in-Err.ensures.stop))

-- the line of a stop, whose turns are told and whose names are the slots'
stop-line : (slots : List Slot) (n : ℕ) (names : List (List ℕ)) (turns told : List Turn) (r : Result (List ℤ) Stop) (s : Cause) → r ≡ Err (within_turns turns s)
    → names ≡ names_of slots → told ≡ turns → cycle_line slots n r ≡ stop_text n (told_stop names s.kind s.spot told)
stop-line slots n names turns told r s is named same = rw (is, named, same) refl

pub cycle-requires : goal.cycle-requires
cycle-requires g c = record { row = c.requires.row; cells = c.requires.cells }

-- ---- the cycle goes on

pub returns-in-Ok-row_line : goal.returns-in-Ok-row_line
returns-in-Ok-row_line g c =
    let e = c.args.plain.now in
    let is = goes e c.args.inputs.now _ c.requires.going c.in-Ok.ensures.values in
    let Fits : Result (List ℤ) Stop → Type 0 = λ r. IfOk r (AreFit e.program.slots) in
    let fit : AreFit e.program.slots c.cycle.new.self.values =
    subst Fits is (c.values_fit.ensures.cycle e.program c.args.inputs.now e.values c.requires.checked c.requires.row c.requires.fit) in
    let text = ap (cycle_line e.program.slots c.args.cycle) is ∙ ap (row_text c.args.cycle) (sym c.in-Ok.ensures.outputs) in
    record {
      program = c.cycle.ensures.program;
      line = writes_answer tt true c.in-Ok-row_line.ensures text;
      going = λ more. c.in-Ok.ensures.going;
      values = λ more. is;
      fit = λ more. fit;
      cells = λ more.
          ap length c.in-Ok.ensures.outputs ∙ in-length _ _ (c.values_fit.ensures.outputs e.program.slots c.cycle.new.self.values fit) ∙ sym c.requires.cells;
      stopped = λ no. absurd (true≢false no);
    }

pub returns-in-Err-row_line : goal.returns-in-Err-row_line
returns-in-Err-row_line g c =
    let e = c.args.plain.now in
    let is = goes e c.args.inputs.now _ c.requires.going c.in-Ok.ensures.values in
    let text = ap (cycle_line e.program.slots c.args.cycle) is ∙ ap (row_text c.args.cycle) (sym c.in-Ok.ensures.outputs) in
    record {
      program = c.cycle.ensures.program;
      line = fails_answer _ c.in-Err-row_line.ensures text;
      going = tt;
      values = tt;
      fit = tt;
      cells = tt;
      stopped = tt;
    }

-- ---- it stops

pub returns-in-Ok-stop_line : goal.returns-in-Ok-stop_line
returns-in-Ok-stop_line g c =
    let e = c.args.plain.now in
    let is = goes e c.args.inputs.now _ c.requires.going c.in-Err.ensures.stop in
    record {
      program = c.cycle.ensures.program;
      line = writes_answer tt false c.in-Ok-stop_line.ensures
          (stop-line e.program.slots c.args.cycle _ _ _ _ c.in-Err.stop is c.requires.names c.turns.ensures);
      going = λ more. absurd (false≢true more);
      values = λ more. absurd (false≢true more);
      fit = λ more. absurd (false≢true more);
      cells = λ more. absurd (false≢true more);
      stopped = λ no. (_, is);
    }

pub returns-in-Err-stop_line : goal.returns-in-Err-stop_line
returns-in-Err-stop_line g c =
    let e = c.args.plain.now in
    let is = goes e c.args.inputs.now _ c.requires.going c.in-Err.ensures.stop in
    record {
      program = c.cycle.ensures.program;
      line = fails_answer _ c.in-Err-stop_line.ensures
          (stop-line e.program.slots c.args.cycle _ _ _ _ c.in-Err.stop is c.requires.names c.turns.ensures);
      going = tt;
      values = tt;
      fit = tt;
      cells = tt;
      stopped = tt;
    }
