use Rattle.vcp_inputs.specs.Forms.{program_run, rows_of}
use Rattle.vcp_core.specs.ProgramsRead.{language_of}
use Rattle.vcp_core.proofs.ProgramsRead.{reads_run, run_coded, run_few}
use Rattle.vcp_core.proofs.program_run.program_run_command.Goals as goal

pub load_program_rows-requires : goal.load_program_rows-requires
load_program_rows-requires g c = record { few = run_few c.args.source.now (rows_of c.args.rows) c.args.run c.requires.sound }

pub run_rows-requires-clause-code : goal.run_rows-requires-clause-code
run_rows-requires-clause-code g c = run_coded c.args.source.now (rows_of c.args.rows) c.args.run c.requires.sound

pub returns-in-Err : goal.returns-in-Err
returns-in-Err g c =
    let p = c.args.source.now in
    let rows = rows_of c.args.rows in
    c.in-Err.ensures.unread rows (program_run p rows c.args.run) _ (reads_run p rows c.args.run)

pub returns-in-Err-load_program_rows : goal.returns-in-Err-load_program_rows
returns-in-Err-load_program_rows g c =
    let p = c.args.source.now in
    let rows = rows_of c.args.rows in
    c.in-Err-load_program_rows.ensures.unread (language_of c.args.run) p _ c.in-Ok.ensures.read (program_run p rows c.args.run) _
    (reads_run p rows c.args.run)

pub returns : goal.returns
returns g c =
    let p = c.args.source.now in
    let files = g.F.Files.seen c.args.files.now in
    c.run_rows.ensures p files _ (c.in-Ok-load_program_rows.ensures.read (language_of c.args.run) p files c.in-Ok.ensures.read)
