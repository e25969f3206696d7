use Rattle.std.proofs.Common.{ap, inl, inr, refl, Err}
use Rattle.vcp_inputs.specs.Forms.{demo}
use Rattle.vcp_inputs.specs.Abouts.{about, made_name}
use Rattle.vcp_core.specs.Demo.{DemoTask}
use Rattle.vcp_core.proofs.DemoRun.{source_lost}
use Rattle.vcp_core.proofs.Performing.{input_performs, still, wanted_performs}
use Rattle.vcp_core.proofs.demo.demo_command.Goals as goal

pub run_made-requires-clause-typed : goal.run_made-requires-clause-typed
run_made-requires-clause-typed g c b = rw c.in-Ok.ensures.source at (c.in-Ok-typed_of.ensures.loads made_name b)

pub returns-in-Err : goal.returns-in-Err
returns-in-Err g c files =
    let number = c.args.number in
    wanted_performs (about (demo number)) (λ h. DemoTask number) files files refl (λ none. refl) _ _ (still _) refl refl

pub returns : goal.returns
returns g c files =
    let number = c.args.number in
    let i = c.in-Err-typed_of.input in
    input_performs (about (demo number)) (λ h. DemoTask number) files files refl (λ none. refl) (inr (inl refl)) _ made_name i
    (λ h may. source_lost number files _ _ (still _) i 0 0 (λ e. c.in-Err-typed_of.ensures.read (ap Err e))
    (rw c.in-Ok.ensures.source at (c.in-Err-typed_of.ensures.loads made_name 0)))
    (λ some. absurd (some refl)) (λ is. absurd (c.in-Err-typed_of.ensures.read (ap Err is))) (λ no. refl)
    (λ is. absurd (c.in-Err-typed_of.ensures.read (ap Err is)))
    c.in-Err-typed_of.ensures.caused (inr (inl refl))
