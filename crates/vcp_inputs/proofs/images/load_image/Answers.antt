use Rattle.std.proofs.Common.{refl, Ok, Err}
use Rattle.vcp_base.specs.Limits.{most_image_bytes}
use Rattle.vcp_inputs.specs.Files.{Untaken}
use Rattle.vcp_inputs.specs.Images.{ImageOf, NotImage}
use Rattle.vcp_inputs.proofs.Causes.{image_caused}
use Rattle.vcp_inputs.proofs.FilesLoaded.{file_lost, file_taken}
use Rattle.vcp_inputs.proofs.NotBytes.{image_not_bytes}
use Rattle.vcp_inputs.proofs.RowsLoaded.{no_error}
use Rattle.vcp_inputs.proofs.TakenImages.{image_refuses, is_image}
use Rattle.vcp_inputs.proofs.images.load_image.Goals as goal

-- ---- the file isn't read

pub returns : goal.returns
returns g c =
    let why = c.in-Err.ensures in
    let loaded = file_lost ImageOf NotImage (g.F.Files.seen c.args.files.now) (g.F.Files.seen c.read_file.new.files) c.args.name.now most_image_bytes
    c.in-Err.input (Err c.in-Err.input) refl why.reads why.unread why.long why.left why.stayed in
    record {
      loads = loaded.loads;
      table = tt;
      unread = loaded.unread;
      caused = loaded.caused;
      ended = loaded.ended;
      whole = loaded.whole;
      left = loaded.left;
      stayed = loaded.stayed;
      held = c.read_file.ensures.held;
      later = c.read_file.ensures.later;
      broken_later = c.read_file.ensures.broken_later;
    }

-- ---- its bytes are taken, or refused

pub returns-in-Ok-read_image : goal.returns-in-Ok-read_image
returns-in-Ok-read_image g c =
    let read = c.in-Ok.ensures in
    let is = is_image c.bytes.result.now _ _ c.in-Ok-read_image.ensures.answer in
    let loaded = file_taken ImageOf NotImage (g.F.Files.seen c.args.files.now) (g.F.Files.seen c.read_file.new.files) c.args.name.now most_image_bytes
    c.in-Ok.text _ (Ok (record { graph = _; table = _ })) c.bytes.ensures (image_not_bytes c.in-Ok.text) read.reads read.ended (read.stayed no_error) is tt tt in
    record {
      loads = loaded.loads;
      table = is.table;
      unread = loaded.unread;
      caused = loaded.caused;
      ended = loaded.ended;
      whole = loaded.whole;
      left = loaded.left;
      stayed = loaded.stayed;
      held = c.read_file.ensures.held;
      later = c.read_file.ensures.later;
      broken_later = c.read_file.ensures.broken_later;
    }

pub returns-in-Ok : goal.returns-in-Ok
returns-in-Ok g c =
    let read = c.in-Ok.ensures in
    let refused : Untaken (NotImage c.bytes.result.now) c.from.result = rw c.from.ensures (image_refuses c.bytes.result.now _ c.in-Err-read_image.ensures.answer) in
    let loaded = file_taken ImageOf NotImage (g.F.Files.seen c.args.files.now) (g.F.Files.seen c.read_file.new.files) c.args.name.now most_image_bytes
    c.in-Ok.text _ (Err c.from.result) c.bytes.ensures (image_not_bytes c.in-Ok.text) read.reads read.ended (read.stayed no_error) tt refused (rw c.from.ensures (image_caused _)) in
    record {
      loads = loaded.loads;
      table = tt;
      unread = loaded.unread;
      caused = loaded.caused;
      ended = loaded.ended;
      whole = loaded.whole;
      left = loaded.left;
      stayed = loaded.stayed;
      held = c.read_file.ensures.held;
      later = c.read_file.ensures.later;
      broken_later = c.read_file.ensures.broken_later;
    }
