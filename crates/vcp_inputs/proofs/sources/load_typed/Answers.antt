use Rattle.std.proofs.Common.{refl, Err}
use Rattle.vcp_base.specs.Limits.{most_source_bytes}
use Rattle.vcp_inputs.specs.Programs.{TypedOf, NotTyped}
use Rattle.vcp_inputs.proofs.FilesLoaded.{file_lost, file_taken}
use Rattle.vcp_inputs.proofs.NotBytes.{typed_not_bytes}
use Rattle.vcp_inputs.proofs.RowsLoaded.{no_error}
use Rattle.vcp_inputs.proofs.sources.load_typed.Goals as goal

pub returns-in-Err : goal.returns-in-Err
returns-in-Err g c =
    let why = c.in-Err.ensures in
    let loaded = file_lost TypedOf NotTyped (g.F.Files.seen c.args.files.now) (g.F.Files.seen c.read_file.new.files) c.args.name.now most_source_bytes
    c.in-Err.input (Err c.in-Err.input) refl why.reads why.unread why.long why.left why.stayed in
    record {
      loads = loaded.loads;
      unread = loaded.unread;
      caused = loaded.caused;
      ended = loaded.ended;
      whole = loaded.whole;
      left = loaded.left;
      stayed = loaded.stayed;
      held = c.read_file.ensures.held;
      later = c.read_file.ensures.later;
      broken_later = c.read_file.ensures.broken_later;
    }

pub returns-in-Ok : goal.returns-in-Ok
returns-in-Ok g c =
    let read = c.in-Ok.ensures in
    let made = c.typed_program.ensures in
    let loaded = file_taken TypedOf NotTyped (g.F.Files.seen c.args.files.now) (g.F.Files.seen c.read_file.new.files) c.args.name.now most_source_bytes
    c.in-Ok.source _ c.typed_program.result c.bytes.ensures (typed_not_bytes c.in-Ok.source) read.reads read.ended
    (read.stayed no_error) made.ok made.err made.caused in
    record {
      loads = loaded.loads;
      unread = loaded.unread;
      caused = loaded.caused;
      ended = loaded.ended;
      whole = loaded.whole;
      left = loaded.left;
      stayed = loaded.stayed;
      held = c.read_file.ensures.held;
      later = c.read_file.ensures.later;
      broken_later = c.read_file.ensures.broken_later;
    }
