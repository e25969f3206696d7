use Rattle.std.proofs.Common.{◌≡◌, inl, inr, refl, ap, Err}
use Rattle.st_tree.specs.ProgramTree.{ProgramTree}
use Rattle.st_tree.specs.ProgramViews.{program_tree}
use Rattle.st_writer.specs.CanonicalProgram.{canonical}
use Rattle.vcp_inputs.specs.Forms.{format}
use Rattle.vcp_inputs.specs.Programs.{IsProgram, NoProgram}
use Rattle.vcp_inputs.specs.Abouts.{about, source_word}
use Rattle.vcp_inputs.specs.Kinds.{Task, prints}
use Rattle.vcp_core.specs.Tasks.{TaskOf}
use Rattle.vcp_core.proofs.Performing.{files_wanted, quiet_lost, quiet_printed}
use Rattle.vcp_core.proofs.Facts.{no_error, not_none, same_error}
use Rattle.vcp_core.proofs.format.format_command.Goals as goal

abbrev Formatted : ProgramTree → Task → Type 0
Formatted t x = x ≡ prints (canonical t)

pub returns : goal.returns
returns g c unit =
    let p = c.args.source.now in
    rw c.bytes-in-Err.ensures
    (quiet_lost (about (format p)) IsProgram NoProgram (λ h. Formatted) (source_word p) (g.F.Files.seen c.args.files.now)
    (g.F.Files.seen c.load_program.new.files) _ c.in-Err.input (inl refl) not_none (inr (inl refl)) c.load_program.ensures.held
    c.in-Err.ensures.loads (λ r is. c.in-Err.ensures.whole r (ap Err is)) (λ is. c.in-Err.ensures.left (ap Err is))
    (λ is. c.in-Err.ensures.unread (ap Err is)) (λ no. c.in-Err.ensures.stayed (λ e. no (same_error e)))
    c.in-Err.ensures.caused)

pub returns-in-Ok : goal.returns-in-Ok
returns-in-Ok g c unit =
    let p = c.args.source.now in
    files_wanted (about (format p)) (TaskOf (format p)) (g.F.Files.seen c.args.files.now) (g.F.Files.seen c.load_program.new.files) not_none
    c.load_program.ensures.held _ (c.in-Ok.ensures.stayed no_error)

pub returns-in-Ok-write_program : goal.returns-in-Ok-write_program
returns-in-Ok-write_program g c unit =
    let p = c.args.source.now in
    let t = program_tree c.in-Ok.program in
    rw c.text_ended.ensures
    (quiet_printed (about (format p)) IsProgram NoProgram Formatted (source_word p) (g.F.Files.seen c.args.files.now)
    (g.F.Files.seen c.load_program.new.files) t
    (record {
      loads = c.in-Ok.ensures.loads;
      ended = c.in-Ok.ensures.ended;
      faults = c.in-Ok.ensures.stayed no_error;
      broken = c.load_program.ensures.broken_later;
      held = c.load_program.ensures.held;
    })
    not_none (inl refl) (canonical t) refl unit _ _ c.write_all.result (rw (c.bytes.ensures, c.in-Ok-write_program.ensures.text) at c.write_all.ensures))
