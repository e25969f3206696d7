use Rattle.std.proofs.Common.{◌∙◌, ap, inl, inr, refl, Ok, Err}
use Rattle.input_rows.specs.RowsOf.{types_of}
use Rattle.program_maker.specs.MadeRows.{made_rows}
use Rattle.vcp_typed.specs.Fitting.{input_columns}
use Rattle.vcp_inputs.specs.Forms.{demo}
use Rattle.vcp_inputs.specs.Abouts.{about, made_name}
use Rattle.coded_machine.specs.Moments.{moment}
use Rattle.vcp_inputs.specs.Answer.{source}
use Rattle.vcp_inputs.specs.Printing.{no_words}
use Rattle.vcp_core.specs.declared.demo.Sums.{Sums}
use Rattle.vcp_core.specs.Demo.{summary_job, summed_up, DemoTask}
use Rattle.vcp_core.specs.MachineRun.{RunsTo}
use Rattle.vcp_core.proofs.DemoRun.{no-sums, opened_comes, rows_lost, summed-shown}
use Rattle.vcp_core.proofs.Performing.{input_performs, ran, run_ends, run_performs, still, wanted_performs}
use Rattle.vcp_core.proofs.JobFacts.{as-itself}
use Rattle.vcp_core.proofs.Loaded.{opens-as}
use Rattle.vcp_core.proofs.PlainNames.{types-of-inputs}
use Rattle.std.proofs.lemmas.Bool.{true≢false}
use Rattle.vcp_core.proofs.demo.run_made.Goals as goal

pub run_program-requires-clause-types : goal.run_program-requires-clause-types
run_program-requires-clause-types g c = c.in-Ok-open.ensures.types ∙ (ap types_of c.in-Ok.ensures.columns ∙ types-of-inputs c.args.program.now.slots)

pub returns-in-Err : goal.returns-in-Err
returns-in-Err g c files =
    let number = c.args.number in
    wanted_performs (about (demo number)) (λ h. DemoTask number) files files refl (λ none. refl) _ _ (still _) refl refl

pub returns-in-Ok-open : goal.returns-in-Ok-open
returns-in-Ok-open g c files =
    let number = c.args.number in
    let program = c.args.program.now in
    let j = summary_job number program c.in-Ok-open.rows in
    let before = moment (g.U.Unit.seen c.args.unit.now) (g.O.Sink.seen c.args.out.now) in
    let after = moment (g.U.Unit.seen c.run_program.new.unit) (g.O.Sink.seen c.run_program.new.out) in
    let ended : RunsTo j before after c.run_program.result = c.run_program.ensures.ran (source program) made_name (summed_up number) no_words
    (as-itself program c.in-Ok-open.rows)
    (λ h. summed-shown _ _ (λ (x : Sums). x.last) (λ (x : Sums). x.sum) (λ now rows kept. kept) no-sums number program c.in-Ok-open.rows h c.in-Ok-open.ensures.few) in
    let opens = opens-as c.args.rows (made_rows number) c.in-Ok.columns (input_columns program.slots) 0 0 (Ok c.in-Ok-open.rows) c.requires.rows
    c.in-Ok.ensures.columns (c.in-Ok-open.ensures.opens 0 0) in
    rw (c.run_ended.ensures.line, c.run_ended.ensures.status)
    (run_performs (about (demo number)) (λ h. DemoTask number) files files refl (λ none. refl) (inr (inl refl)) before after made_name c.run_program.result
    (λ e is. run_ends e)
    (λ h may. ran (about (demo number)) files files before after (DemoTask number) j c.run_program.result refl
    (opened_comes number program c.in-Ok-open.rows 0 0 (c.requires.typed 0) opens) c.run_program.ensures.causes.write ended)
    (λ some. absurd (some refl)) (λ no. absurd (true≢false no)) (λ calls. c.run_program.ensures.causes.stopped) c.run_program.ensures.causes.refused
    c.run_program.ensures.causes.write refl c.run_program.ensures.causes.stayed (inr (inl refl)))

pub returns : goal.returns
returns g c files =
    let number = c.args.number in
    let program = c.args.program.now in
    let i = c.in-Err-open.input in
    let opens = opens-as c.args.rows (made_rows number) c.in-Ok.columns (input_columns program.slots) 0 0 (Err i) c.requires.rows
    c.in-Ok.ensures.columns (c.in-Err-open.ensures.opens 0 0) in
    input_performs (about (demo number)) (λ h. DemoTask number) files files refl (λ none. refl) (inr (inl refl)) _ made_name i
    (λ h may. rows_lost number files _ _ (still _) program i 0 0 (c.requires.typed 0) (λ e. c.in-Err-open.ensures.read (ap Err e)) opens)
    (λ some. absurd (some refl)) (λ is. absurd (c.in-Err-open.ensures.read (ap Err is))) (λ no. refl)
    (λ is. absurd (c.in-Err-open.ensures.read (ap Err is)))
    c.in-Err-open.ensures.caused (inr (inl refl))
