use Rattle.std.proofs.Common.{refl, Err}
use Rattle.il_front.specs.Answers.{most_il_bytes}
use Rattle.il_front.specs.Outcomes.{IsTypedIl}
use Rattle.vcp_inputs.specs.Listings.{NotListing}
use Rattle.vcp_inputs.proofs.FilesLoaded.{file_lost, file_taken}
use Rattle.vcp_inputs.proofs.NotBytes.{listing_not_bytes}
use Rattle.vcp_inputs.proofs.RowsLoaded.{no_error}
use Rattle.vcp_inputs.proofs.listings.load_il.Goals as goal

pub returns-in-Err : goal.returns-in-Err
returns-in-Err g c =
    let why = c.in-Err.ensures in
    let loaded = file_lost IsTypedIl NotListing (g.F.Files.seen c.args.files.now) (g.F.Files.seen c.read_file.new.files) c.args.name.now most_il_bytes
    c.in-Err.input (Err c.in-Err.input) refl why.reads why.unread why.long why.left why.stayed in
    record {
      loads = loaded.loads;
      unread = loaded.unread;
      caused = loaded.caused;
      ended = loaded.ended;
      whole = loaded.whole;
      left = loaded.left;
      stayed = loaded.stayed;
      held = c.read_file.ensures.held;
      later = c.read_file.ensures.later;
      broken_later = c.read_file.ensures.broken_later;
    }

pub returns-in-Ok : goal.returns-in-Ok
returns-in-Ok g c =
    let read = c.in-Ok.ensures in
    let made = c.listed_twice.ensures in
    let loaded = file_taken IsTypedIl NotListing (g.F.Files.seen c.args.files.now) (g.F.Files.seen c.read_file.new.files) c.args.name.now most_il_bytes
    c.in-Ok.text _ c.listed_twice.result c.bytes.ensures (listing_not_bytes c.in-Ok.text) read.reads read.ended
    (read.stayed no_error) made.ok made.err made.caused in
    record {
      loads = loaded.loads;
      unread = loaded.unread;
      caused = loaded.caused;
      ended = loaded.ended;
      whole = loaded.whole;
      left = loaded.left;
      stayed = loaded.stayed;
      held = c.read_file.ensures.held;
      later = c.read_file.ensures.later;
      broken_later = c.read_file.ensures.broken_later;
    }
