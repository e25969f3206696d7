use Rattle.std.proofs.Common.{ap, inl, refl, Err}
use Rattle.vcp_base.specs.Limits.{most_image_bytes}
use Rattle.image_file.specs.Image.{image_of}
use Rattle.coded_machine.specs.Moments.{moment}
use Rattle.vcp_inputs.specs.Forms.{list, widen}
use Rattle.vcp_inputs.specs.Images.{ImageOf, NotImage}
use Rattle.vcp_inputs.specs.Abouts.{about, image_word}
use Rattle.vcp_core.specs.Loading.{FirstRead}
use Rattle.vcp_core.specs.Tasks.{TaskOf, listing, widened}
use Rattle.vcp_core.proofs.Facts.{no_error, not_none, same_error}
use Rattle.vcp_core.proofs.ImageLoaded.{corrections-long, table-is-of}
use Rattle.vcp_core.proofs.ImageTold.{Listed, Widened, image_lost}
use Rattle.vcp_core.proofs.Performing.{files_wanted, quiet_printed}
use Rattle.vcp_core.proofs.image.image_command.Goals as goal

pub list_operations-requires : goal.list_operations-requires
list_operations-requires g c =
    corrections-long c.in-Ok.loaded.table c.in-Ok.loaded.graph (table-is-of c.in-Ok.loaded.table c.in-Ok.loaded.graph c.in-Ok.ensures.table)

pub returns-in-Err : goal.returns-in-Err
returns-in-Err g c unit =
    rw c.bytes.ensures
    (image_lost c.args.image.now (g.F.Files.seen c.args.files.now) (g.F.Files.seen c.load_image.new.files) (moment unit _)
    c.load_image.ensures.held c.in-Err.input c.in-Err.ensures.loads (λ r is. c.in-Err.ensures.whole r (ap Err is)) (λ is. c.in-Err.ensures.left (ap Err is))
    (λ is. c.in-Err.ensures.unread (ap Err is)) (λ no. c.in-Err.ensures.stayed (λ e. no (same_error e))) c.in-Err.ensures.caused c.args.text)

pub returns-in-List : goal.returns-in-List
returns-in-List g c unit =
    let m = c.args.image.now in
    let i = c.in-Ok.loaded in
    let files = g.F.Files.seen c.args.files.now in
    let later = g.F.Files.seen c.load_image.new.files in
    let read : FirstRead ImageOf NotImage most_image_bytes m files later i = record {
      loads = c.in-Ok.ensures.loads;
      ended = c.in-Ok.ensures.ended;
      faults = c.in-Ok.ensures.stayed no_error;
      broken = c.load_image.ensures.broken_later;
      held = c.load_image.ensures.held;
    } in
    rw (c.in-List.is, c.text_ended.ensures)
    (quiet_printed (about (list m)) ImageOf NotImage Listed (image_word m) files later i read not_none (inl refl) (listing i.graph i.table) refl unit _ _
    c.list_operations.result c.list_operations.ensures)

pub returns-in-Ok-wide_image : goal.returns-in-Ok-wide_image
returns-in-Ok-wide_image g c unit =
    let m = c.args.image.now in
    let i = c.in-Ok.loaded in
    let files = g.F.Files.seen c.args.files.now in
    let later = g.F.Files.seen c.load_image.new.files in
    let read : FirstRead ImageOf NotImage most_image_bytes m files later i = record {
      loads = c.in-Ok.ensures.loads;
      ended = c.in-Ok.ensures.ended;
      faults = c.in-Ok.ensures.stayed no_error;
      broken = c.load_image.ensures.broken_later;
      held = c.load_image.ensures.held;
    } in
    rw (c.in-Widen.is, c.text_ended-in-Ok-wide_image.ensures)
    (quiet_printed (about (widen m)) ImageOf NotImage Widened (image_word m) files later i read not_none (inl refl)
    (image_of (widened i.graph) i.table.seed i.table.step) refl unit _ _ c.write_all.result
    (rw (c.bytes-in-Ok-wide_image.ensures, c.in-Ok-wide_image.ensures) at c.write_all.ensures))

pub returns-in-Widen : goal.returns-in-Widen
returns-in-Widen g c unit =
    let m = c.args.image.now in
    rw c.in-Widen.is
    (files_wanted (about (widen m)) (TaskOf (widen m)) (g.F.Files.seen c.args.files.now) (g.F.Files.seen c.load_image.new.files) not_none
    c.load_image.ensures.held _ (c.in-Ok.ensures.stayed no_error))

pub returns : goal.returns
returns g c unit =
    let m = c.args.image.now in
    let i = c.in-Ok.loaded in
    let files = g.F.Files.seen c.args.files.now in
    let later = g.F.Files.seen c.load_image.new.files in
    let read : FirstRead ImageOf NotImage most_image_bytes m files later i = record {
      loads = c.in-Ok.ensures.loads;
      ended = c.in-Ok.ensures.ended;
      faults = c.in-Ok.ensures.stayed no_error;
      broken = c.load_image.ensures.broken_later;
      held = c.load_image.ensures.held;
    } in
    rw c.in-Audit.is (c.audit_image.ensures unit files later read)
