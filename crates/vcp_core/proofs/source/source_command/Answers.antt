use Rattle.std.proofs.Common.{inl, refl, ap, Err}
use Rattle.coded_machine.specs.Moments.{moment}
use Rattle.vcp_inputs.specs.Forms.{check, compile, as_code}
use Rattle.vcp_inputs.specs.Programs.{TypedOf, NotTyped}
use Rattle.vcp_inputs.specs.Abouts.{about, source_word}
use Rattle.vcp_inputs.specs.Kinds.{prints}
use Rattle.vcp_core.specs.Tasks.{TaskOf, ok_text}
use Rattle.vcp_core.proofs.Performing.{compiled_performs, files_wanted, quiet_printed}
use Rattle.vcp_core.proofs.Facts.{no_error, not_none, same_error}
use Rattle.vcp_core.proofs.SourceTold.{Sized, source_lost}
use Rattle.vcp_core.proofs.source.source_command.Goals as goal

pub image_for-requires : goal.image_for-requires
image_for-requires g c = record { code = rw c.in-Image-text.is at c.requires.sound }

pub returns-in-Err : goal.returns-in-Err
returns-in-Err g c unit =
    rw c.bytes.ensures
    (source_lost c.args.source.now (g.F.Files.seen c.args.files.now) (g.F.Files.seen c.load_typed.new.files) (moment unit _)
    c.load_typed.ensures.held c.in-Err.input c.in-Err.ensures.loads (λ r is. c.in-Err.ensures.whole r (ap Err is)) (λ is. c.in-Err.ensures.left (ap Err is))
    (λ is. c.in-Err.ensures.unread (ap Err is)) (λ no. c.in-Err.ensures.stayed (λ e. no (same_error e))) c.in-Err.ensures.caused c.args.text)

pub returns-in-Size-text : goal.returns-in-Size-text
returns-in-Size-text g c unit =
    let p = c.args.source.now in
    rw (c.in-Size-text.is, c.text_ended.ensures)
    (quiet_printed (about (check p)) TypedOf NotTyped Sized (source_word p) (g.F.Files.seen c.args.files.now) (g.F.Files.seen c.load_typed.new.files)
    c.in-Ok.program
    (record {
      loads = c.in-Ok.ensures.loads;
      ended = c.in-Ok.ensures.ended;
      faults = c.in-Ok.ensures.stayed no_error;
      broken = c.load_typed.ensures.broken_later;
      held = c.load_typed.ensures.held;
    })
    not_none (inl refl) (ok_text c.size.result) (ap (λ n. prints (ok_text n)) c.size.ensures.size) unit _ _ c.ok_line.result c.ok_line.ensures)

pub returns-in-Ok-image_for : goal.returns-in-Ok-image_for
returns-in-Ok-image_for g c unit =
    rw (c.in-Image-text.is, c.text_ended-in-Ok-image_for.ensures)
    (compiled_performs c.args.source.now (as_code c.in-Image-text.code) (g.F.Files.seen c.args.files.now) (g.F.Files.seen c.load_typed.new.files) c.in-Ok.program
    (record {
      loads = c.in-Ok.ensures.loads;
      ended = c.in-Ok.ensures.ended;
      faults = c.in-Ok.ensures.stayed no_error;
      broken = c.load_typed.ensures.broken_later;
      held = c.load_typed.ensures.held;
    })
    unit _ _ c.in-Ok-image_for.image _ c.in-Ok-image_for.ensures c.bytes-in-Ok-image_for.ensures c.write_all.result c.write_all.ensures)

pub returns : goal.returns
returns g c unit =
    let p = c.args.source.now in
    let code = as_code c.in-Image-text.code in
    rw c.in-Image-text.is
    (files_wanted (about (compile p code)) (TaskOf (compile p code)) (g.F.Files.seen c.args.files.now) (g.F.Files.seen c.load_typed.new.files) not_none
    c.load_typed.ensures.held _ (c.in-Ok.ensures.stayed no_error))
