use Rattle.coded_machine.specs.Moments.{moment}
use Rattle.input_rows.specs.RowsOf.{RowsLeft, through}
use Rattle.std.proofs.Common.{inl, inr, ap, refl, Err, ◌∙◌, ◌≡◌, ◌<◌, ◌≤◌, ◌+◌, arith, sym, subst, length, None}
use Rattle.std.proofs.lemmas.Bool.{true≢false}
use Rattle.vcp_base.specs.Limits.{most_cycles}
use Rattle.vcp_core.proofs.Facts.{if_some_weaker, not_none}
use Rattle.vcp_core.proofs.ImageLoaded.{image-carried, table-is-of, types-width}
use Rattle.vcp_core.proofs.ImagesRead.{Executed, Traced, single_unopened}
use Rattle.vcp_core.proofs.LoadedRows.{opened_comes, rows_may}
use Rattle.vcp_core.proofs.Performing.{files_run, ran, run_ends}
use Rattle.vcp_core.proofs.PrintedRun.{rows-shown}
use Rattle.vcp_core.proofs.TwoChannels.{ApartImage, Comparing, apart_comes, compared, rows_apart}
use Rattle.vcp_core.proofs.WordsHonest.{meant-words}
use Rattle.vcp_core.proofs.WordsRun.{last-part-is, through-few, through-all}
use Rattle.vcp_core.specs.ChannelsRun.{ComparesTo}
use Rattle.vcp_core.specs.MachineRun.{RunsTo}
use Rattle.vcp_core.specs.Tasks.{pair_job, TaskOf, table_code, rows_job, words_job}
use Rattle.vcp_inputs.specs.Abouts.{about, image_word}
use Rattle.vcp_inputs.specs.Answer.{image}
use Rattle.vcp_inputs.specs.Forms.{exec, rows_of, pair, trace}
use Rattle.vcp_inputs.specs.Images.{ImageOf, NotImage}
use Rattle.vcp_inputs.specs.Kinds.{compares, runs as runs_to}
use Rattle.vcp_inputs.specs.Printing.{cycle_words, each_word, every_row, no_words}
use Rattle.vcp_inputs.specs.Reports.{subject_outputs}
use Rattle.vcp_inputs.specs.RowsRead.{graph_columns}
use Rattle.vcp_inputs.specs.Tables.{rows_name}
use Rattle.vcp_core.proofs.single_run.run_image.Goals as goal

-- ---- `exec`

pub run_printed-requires-clause-table : goal.run_printed-requires-clause-table
run_printed-requires-clause-table g c = table-is-of c.args.loaded.now.image.table c.args.loaded.now.image.graph c.requires.fit.table

pub run_printed-requires-clause-width : goal.run_printed-requires-clause-width
run_printed-requires-clause-width g c =
    types-width c.args.loaded.now.image.graph c.args.loaded.now.columns c.in-Ok.rows.types c.in-Ok.ensures.types c.requires.fit.columns

pub returns-in-Exec : goal.returns-in-Exec
returns-in-Exec g c later m files read =
    let rows = rows_of c.args.rows in
    let f = exec m rows in
    let i = c.args.loaded.now.image in
    let left = c.in-Ok.rows in
    let j = rows_job (rows_name rows) (table_code i.table) (image i.graph) left in
    let before = moment (g.U.Unit.seen c.args.unit.now) (g.O.Sink.seen c.args.out.now) in
    let after = moment (g.U.Unit.seen c.run_printed.new.unit) (g.O.Sink.seen c.run_printed.new.out) in
    let ended : RunsTo j before after c.run_printed.result = c.run_printed.ensures.ran (image i.graph) (table_code i.table) (rows_name rows)
    (every_row (subject_outputs (image i.graph))) no_words (image-carried i.graph i.table left c.requires.fit.table)
    (rows-shown _ _ (image i.graph) (table_code i.table) left (rows_name rows) i.graph) in
    rw (c.in-Exec.is, c.run_ended.ensures.line, c.run_ended.ensures.status, c.rows_name-name.ensures)
    (files_run (about f) (TaskOf f) files later not_none read.file.held (inr (inl refl)) before after (rows_name rows) c.run_printed.result (λ e is. run_ends e)
    (if_some_weaker files.held _ _
    (λ h comes. ran (about f) files later before after (TaskOf f h) j c.run_printed.result refl comes c.run_printed.ensures.causes.write ended)
    (opened_comes ImageOf NotImage (λ v. graph_columns v.graph) (about f) (image_word m) rows not_none (inr (inl refl)) (λ w among. inr among)
    (λ n among. among) (Executed m rows) files later i c.args.loaded.now.columns c.args.loaded.now.rows c.requires.fit.columns read left (λ h. runs_to j) (c.in-Ok.ensures.opens 0 0) (λ h. refl)))
    read.file.ended (λ no. absurd (true≢false no)) (λ calls. c.run_printed.ensures.causes.stopped) c.run_printed.ensures.causes.refused c.run_printed.ensures.causes.write
    read.file.faults c.run_printed.ensures.causes.stayed (rows_may (about f) rows (λ w among. inr among) (λ n among. among)))

-- ---- `trace`

pub run_printed-requires-in-Trace-clause-table : goal.run_printed-requires-in-Trace-clause-table
run_printed-requires-in-Trace-clause-table g c = table-is-of c.args.loaded.now.image.table c.args.loaded.now.image.graph c.requires.fit.table

pub run_printed-requires-in-Trace-clause-width : goal.run_printed-requires-in-Trace-clause-width
run_printed-requires-in-Trace-clause-width g c =
    ap (λ (l : RowsLeft). length l.types) c.through.ensures.rows
    ∙ types-width c.args.loaded.now.image.graph c.args.loaded.now.columns c.in-Ok.rows.types c.in-Ok.ensures.types c.requires.fit.columns

pub run_printed-requires-in-Trace-clause-few : goal.run_printed-requires-in-Trace-clause-few
run_printed-requires-in-Trace-clause-few g c =
    let cycle : c.in-Trace.cycle < most_cycles = rw c.in-Trace.is at c.requires.range in
    let few = subst (λ (l : RowsLeft). length l.rows ≤ c.in-Trace.cycle + 1) (sym c.through.ensures.rows) (through-few c.in-Trace.cycle c.in-Ok.rows) in
    omega (arith, cycle, few)

pub run_printed-requires-in-Trace-clause-sound : goal.run_printed-requires-in-Trace-clause-sound
run_printed-requires-in-Trace-clause-sound g c = rw c.in-Trace.is at c.requires.range

pub returns-in-Trace : goal.returns-in-Trace
returns-in-Trace g c later m files read =
    let rows = rows_of c.args.rows in
    let n = c.in-Trace.cycle in
    let f = trace m rows n in
    let i = c.args.loaded.now.image in
    let code = table_code i.table in
    let j = words_job (rows_name rows) n i.graph code (through n c.in-Ok.rows) in
    let before = moment (g.U.Unit.seen c.args.unit.now) (g.O.Sink.seen c.args.out.now) in
    let after = moment (g.U.Unit.seen c.run_printed-in-Trace.new.unit) (g.O.Sink.seen c.run_printed-in-Trace.new.out) in
    let cycle : n < most_cycles = rw c.in-Trace.is at c.requires.range in
    let few = subst (λ (l : RowsLeft). length l.rows ≤ n + 1) (sym c.through.ensures.rows) (through-few n c.in-Ok.rows) in
    let all = subst (λ (l : RowsLeft). l.refusal ≡ None → length l.rows ≡ n + 1) (sym c.through.ensures.rows) (through-all n c.in-Ok.rows) in
    let laws = c.right_answers_stand_for_values.ensures in
    let meant = meant-words laws.cycle laws.cells_at_first i.graph i.table _ n c.len-rules.ensures.rules c.step-ranges.ensures.ranges c.requires.fit.table few cycle in
    let ended : RunsTo j before after c.run_printed-in-Trace.result =
    subst (λ left. RunsTo (words_job (rows_name rows) n i.graph code left) before after c.run_printed-in-Trace.result) c.through.ensures.rows
    (c.run_printed-in-Trace.ensures.ran (image i.graph) code (rows_name rows) (each_word i.graph code n) (cycle_words i.graph code n)
    (image-carried i.graph i.table _ c.requires.fit.table)
    (record { first_is = refl; row_is = refl; words_are = meant; last_is = last-part-is i.graph n (rows_name rows) i.table _ few all _ _ })) in
    rw (c.in-Trace.is, c.run_ended-in-Trace.ensures.line, c.run_ended-in-Trace.ensures.status, c.rows_name-name.ensures)
    (files_run (about f) (TaskOf f) files later not_none read.file.held (inr (inl refl)) before after (rows_name rows) c.run_printed-in-Trace.result (λ e is. run_ends e)
    (if_some_weaker files.held _ _
    (λ h comes. ran (about f) files later before after (TaskOf f h) j c.run_printed-in-Trace.result refl comes c.run_printed-in-Trace.ensures.causes.write ended)
    (opened_comes ImageOf NotImage (λ v. graph_columns v.graph) (about f) (image_word m) rows not_none (inr (inl refl)) (λ w among. inr among)
    (λ n among. among) (Traced m rows n) files later i c.args.loaded.now.columns c.args.loaded.now.rows c.requires.fit.columns read c.in-Ok.rows (λ h. runs_to j) (c.in-Ok.ensures.opens 0 0) (λ h. refl)))
    read.file.ended (λ no. absurd (true≢false no)) (λ calls. c.run_printed-in-Trace.ensures.causes.stopped) c.run_printed-in-Trace.ensures.causes.refused
    c.run_printed-in-Trace.ensures.causes.write
    read.file.faults c.run_printed-in-Trace.ensures.causes.stayed (rows_may (about f) rows (λ w among. inr among) (λ n among. among)))

-- ---- `pair`

pub run_channels-requires-clause-width : goal.run_channels-requires-clause-width
run_channels-requires-clause-width g c =
    types-width c.args.loaded.now.image.graph c.args.loaded.now.columns c.in-Ok.rows.types c.in-Ok.ensures.types c.requires.fit.columns

pub run_channels-requires-clause-seed : goal.run_channels-requires-clause-seed
run_channels-requires-clause-seed g c = rw c.in-Pair.is at c.requires.range

pub run_channels-requires-clause-apart : goal.run_channels-requires-clause-apart
run_channels-requires-clause-apart g c = rw c.in-Pair.is at c.requires.apart

pub returns-in-Ok : goal.returns-in-Ok
returns-in-Ok g c later m files read =
    let rows = rows_of c.args.rows in
    let seed = c.in-Pair.seed in
    let f = pair m rows seed in
    let i = c.args.loaded.now.image in
    let j = pair_job (rows_name rows) i c.in-Ok.rows in
    let before = moment (g.U.Unit.seen c.args.unit.now) (g.O.Sink.seen c.args.out.now) in
    let after = moment (g.U.Unit.seen c.run_channels.new.unit) (g.O.Sink.seen c.run_channels.new.out) in
    let ended : ComparesTo j before after c.run_channels.result = c.run_channels.ensures.ran (rows_name rows) in
    rw (c.in-Pair.is, c.run_ended-in-Pair.ensures.line, c.run_ended-in-Pair.ensures.status, c.rows_name-name.ensures)
    (files_run (about f) (TaskOf f) files later not_none read.file.held (inr (inl refl)) before after (rows_name rows) c.run_channels.result (λ e is. run_ends e)
    (if_some_weaker files.held _ _
    (λ h comes. compared j before after (about f) (TaskOf f h) files later c.run_channels.result refl
    (apart_comes m rows seed h (compares j) comes) c.run_channels.ensures.causes.write ended)
    (opened_comes (ApartImage seed) NotImage (λ v. graph_columns v.graph) (about f) (image_word m) rows not_none (inr (inl refl)) (λ w among. inr among)
    (λ n among. among) (Comparing rows) files later i c.args.loaded.now.columns c.args.loaded.now.rows c.requires.fit.columns
    (rows_apart m seed rows files later i c.args.loaded.now.columns c.args.loaded.now.rows (rw c.in-Pair.is at c.requires.apart) read) c.in-Ok.rows (λ h. compares j) (c.in-Ok.ensures.opens 0 0) (λ h. refl)))
    read.file.ended (λ no. absurd (true≢false no)) (λ calls. c.run_channels.ensures.causes.stopped) c.run_channels.ensures.causes.refused c.run_channels.ensures.causes.write
    read.file.faults c.run_channels.ensures.causes.stayed (rows_may (about f) rows (λ w among. inr among) (λ n among. among)))

-- ---- ROWS aren't opened

pub returns : goal.returns
returns g c later m files read =
    rw c.rows_name-name.ensures
    (single_unopened m (rows_of c.args.rows) files later c.args.loaded.now c.requires.fit read _ c.in-Err.input (λ is. c.in-Err.ensures.read (ap Err is))
    (c.in-Err.ensures.opens files.broken later.broken) c.in-Err.ensures.caused c.args.run c.requires.apart)
