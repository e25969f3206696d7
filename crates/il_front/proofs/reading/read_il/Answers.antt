use Rattle.std.proofs.Common.{◌≡◌, ◌∙◌, ap}
use Rattle.vcp_typed.specs.SourceRun.{Program, source_run}
use Rattle.il_front.specs.declared.fault.IlFault.TheVariants as fault
use Rattle.il_front.specs.Answers.{NotIl}
use Rattle.il_front.specs.Outcomes.{IsTypedIl, RunsAsListed}
use Rattle.il_front.proofs.Built.{err_weaker, ok_weaker}
use Rattle.il_front.proofs.reading.read_il.Goals as goal

pub returns-clause-runs : goal.returns-clause-runs
returns-clause-runs c =
    let text = c.args.text.now in
    ok_weaker c.read.result (IsTypedIl text) (RunsAsListed text)
    (λ p (i, is, same). (i, is, λ rows. ap (λ (q : Program). source_run q rows) same ∙ c.accumulator_runs.ensures text i rows is)) c.read.ensures.ok

pub returns-clause-only : goal.returns-clause-only
returns-clause-only c = λ i is.
    err_weaker c.read.result (NotIl c.args.text.now) (λ e. e ≡ fault.Memory) (λ e h. c.il_answers_are_one.ensures.either c.args.text.now i e is h)
    c.read.ensures.err
