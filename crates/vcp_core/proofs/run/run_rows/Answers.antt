use Rattle.std.proofs.Common.{◌∙◌, inl, inr, ap, refl, Err, ◌≡◌, subst, sym}
use Rattle.input_rows.specs.RowsOf.{types_of}
use Rattle.vcp_inputs.specs.Forms.{plain, rows_of, il, run, as_code}
use Rattle.vcp_inputs.specs.Tables.{rows_name}
use Rattle.coded_machine.specs.Moments.{moment}
use Rattle.vcp_typed.specs.Fitting.{input_columns}
use Rattle.vcp_inputs.specs.Programs.{TypedOf, NotTyped}
use Rattle.vcp_inputs.specs.Abouts.{about, source_word}
use Rattle.vcp_inputs.specs.Kinds.{answers, runs as runs_to}
use Rattle.vcp_core.specs.Tasks.{plain_answer as plain_answer_to, TaskOf, rows_job}
use Rattle.vcp_core.proofs.Facts.{if_some_weaker, not_none, if_some_both}
use Rattle.vcp_core.proofs.LoadedRows.{opened_comes, rows_may}
use Rattle.vcp_core.proofs.Performing.{files_run, ran, run_ends}
use Rattle.vcp_core.proofs.PlainNames.{types-of-inputs}
use Rattle.vcp_core.proofs.PlainKinds.{plain_ends, plain_refuses, plain_reaches}
use Rattle.vcp_core.proofs.ProgramsRead.{AnswersOnRows, RunsOnRows, program_unopened}
use Rattle.std.proofs.lemmas.Bool.{false≢true, true≢false}
use Rattle.vcp_inputs.specs.RowsOutcome.{source_outcome}
use Rattle.vcp_inputs.specs.Answer.{listed, source}
use Rattle.vcp_inputs.specs.FileTasks.{OnRows}
use Rattle.vcp_inputs.specs.Printing.{every_row, no_words}
use Rattle.vcp_inputs.specs.Reports.{subject_outputs}
use Rattle.vcp_core.specs.MachineRun.{RunsTo}
use Rattle.vcp_core.proofs.JobFacts.{as-itself}
use Rattle.vcp_core.proofs.ListedRuns.{il_comes, stands_listed}
use Rattle.vcp_core.proofs.PrintedRun.{rows-shown}
use Rattle.vcp_core.proofs.run.run_rows.Goals as goal

-- ---- `plain`

pub print_run-requires-clause-types : goal.print_run-requires-clause-types
print_run-requires-clause-types g c =
    c.in-Ok.ensures.types ∙ (ap types_of c.requires.fit.columns ∙ types-of-inputs c.args.loaded.now.program.slots)

pub returns-in-Plain : goal.returns-in-Plain
returns-in-Plain g c p files later read =
    let rows = rows_of c.args.rows in
    let unit = g.U.Unit.seen c.args.unit.now in
    let both = rw c.in-Plain.is at read in
    let f = plain p rows in
    let t = c.args.loaded.now.program in
    let left = c.in-Ok.rows in
    let r = c.print_run.result in
    let before = g.O.Sink.seen c.args.out.now in
    let after = g.O.Sink.seen c.print_run.new.out in
    let prints = c.print_run.ensures.prints in
    rw (c.in-Plain.is, c.run_ended.ensures.line, c.run_ended.ensures.status, c.rows_name-name.ensures)
    (files_run (about f) (TaskOf f) files later not_none both.file.held (inr (inl refl)) (moment unit before) (moment unit after) (rows_name rows) r
    (plain_ends t left before after r prints)
    (if_some_weaker files.held _ _
    (λ h comes. plain_reaches t left before after p rows (TaskOf f h) files later unit comes r prints c.print_run.ensures.write)
    (opened_comes TypedOf NotTyped (λ v. input_columns v.slots) (about f) (source_word p) rows not_none (inr (inl refl)) (λ w among. inr among)
    (λ n among. among) (AnswersOnRows rows) files later t c.args.loaded.now.columns c.args.loaded.now.rows c.requires.fit.columns both left
    (λ h. answers (plain_answer_to (rows_name rows) t left)) (c.in-Ok.ensures.opens 0 0) (λ h. refl)))
    both.file.ended (λ no. refl) (λ calls. absurd (false≢true calls))
    (λ is. absurd (plain_refuses t left before after r prints is)) c.print_run.ensures.write both.file.faults c.print_run.ensures.stayed
    (rows_may (about f) rows (λ w among. inr among) (λ n among. among)))

-- ---- `run` and `il`

pub run_program-requires-clause-types : goal.run_program-requires-clause-types
run_program-requires-clause-types g c =
    c.in-Ok.ensures.types ∙ (ap types_of c.requires.fit.columns ∙ types-of-inputs c.args.loaded.now.program.slots)

pub run_program-requires-clause-code : goal.run_program-requires-clause-code
run_program-requires-clause-code g c = elim c.in-Run.is [
  | inl is ↦ rw is at c.requires.code
  | inr is ↦ rw is at c.requires.code
]

pub returns-in-Ok : goal.returns-in-Ok
returns-in-Ok g c p files later read =
    let code = as_code c.in-Run.code in
    let rows = rows_of c.args.rows in
    let t = c.args.loaded.now.program in
    let columns = c.args.loaded.now.columns in
    let left = c.in-Ok.rows in
    let before = moment (g.U.Unit.seen c.args.unit.now) (g.O.Sink.seen c.args.out.now) in
    let after = moment (g.U.Unit.seen c.run_program.new.unit) (g.O.Sink.seen c.run_program.new.out) in
    let o = source_outcome c.args.loaded.now.rows columns in
    let law = c.lists_are_told.ensures in
    elim c.in-Run.is [
      | inl is ↦ (
          let both = rw is at read in
          let f = run p rows code in
          let j = rows_job (rows_name rows) code (source t) left in
          let ended : RunsTo j before after c.run_program.result = c.run_program.ensures.ran (source t) (rows_name rows)
          (every_row (subject_outputs (source t))) no_words (as-itself t left) (rows-shown _ _ (source t) code left (rows_name rows)) in
          rw (is, c.run_ended-in-Run.ensures.line, c.run_ended-in-Run.ensures.status, c.rows_name-name.ensures)
          (files_run (about f) (TaskOf f) files later not_none both.file.held (inr (inl refl)) before after (rows_name rows) c.run_program.result (λ e is. run_ends e)
          (if_some_weaker files.held _ _
          (λ h comes. ran (about f) files later before after (TaskOf f h) j c.run_program.result refl comes c.run_program.ensures.causes.write ended)
          (opened_comes TypedOf NotTyped (λ v. input_columns v.slots) (about f) (source_word p) rows not_none (inr (inl refl)) (λ w among. inr among)
          (λ n among. among) (RunsOnRows rows code) files later t columns c.args.loaded.now.rows c.requires.fit.columns both left (λ h. runs_to j)
          (c.in-Ok.ensures.opens 0 0) (λ h. refl)))
          both.file.ended (λ no. absurd (true≢false no)) (λ calls. c.run_program.ensures.causes.stopped) c.run_program.ensures.causes.refused
          c.run_program.ensures.causes.write both.file.faults c.run_program.ensures.causes.stayed (rows_may (about f) rows (λ w among. inr among) (λ n among. among))))
      | inr is ↦ (
          let both = rw is at read in
          let f = il p rows code in
          rw (is, c.run_ended-in-Run.ensures.line, c.run_ended-in-Run.ensures.status, c.rows_name-name.ensures)
          (files_run (about f) (TaskOf f) files later not_none both.file.held (inr (inl refl)) before after (rows_name rows) c.run_program.result (λ e is. run_ends e)
          (if_some_both files.held files.held _ _ _ refl
          (λ h (text, found, few, (i, is, same)) outcome.
          ran (about f) files later before after (TaskOf f h) (rows_job (rows_name rows) code (listed i) left) c.run_program.result refl
          (il_comes law.columns p rows code h text i t columns o (runs_to (rows_job (rows_name rows) code (listed i) left)) found few is same
          c.requires.fit.columns outcome
          (subst (λ x. OnRows (rows_name rows) (λ l y. y ≡ runs_to (rows_job (rows_name rows) code (listed i) l)) x
          (runs_to (rows_job (rows_name rows) code (listed i) left))) (sym (c.in-Ok.ensures.opens 0 0)) refl))
          c.run_program.ensures.causes.write
          (c.run_program.ensures.ran (listed i) (rows_name rows) (every_row (subject_outputs (listed i))) no_words
          (stands_listed law.columns law.told text i t left is same) (rows-shown _ _ (listed i) code left (rows_name rows))))
          both.file.loads both.rows_are)
          both.file.ended (λ no. absurd (true≢false no)) (λ calls. c.run_program.ensures.causes.stopped) c.run_program.ensures.causes.refused
          c.run_program.ensures.causes.write both.file.faults c.run_program.ensures.causes.stayed (rows_may (about f) rows (λ w among. inr among) (λ n among. among))))
    ]

-- ---- ROWS aren't opened

pub returns : goal.returns
returns g c p files later read =
    rw c.rows_name-name.ensures
    (program_unopened c.lists_are_told.ensures.columns p (rows_of c.args.rows) files later c.args.loaded.now c.requires.fit _ c.in-Err.input
    (λ is. c.in-Err.ensures.read (ap Err is)) (c.in-Err.ensures.opens files.broken later.broken) c.in-Err.ensures.caused c.args.run read)
