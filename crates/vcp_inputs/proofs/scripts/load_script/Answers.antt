use Rattle.std.proofs.Common.{refl, Ok, Err}
use Rattle.vcp_base.specs.Limits.{most_source_bytes}
use Rattle.vcp_inputs.specs.Files.{Untaken}
use Rattle.vcp_inputs.specs.Scripts.{ScriptOf, NotScript}
use Rattle.vcp_inputs.proofs.Causes.{script_caused}
use Rattle.vcp_inputs.proofs.FilesLoaded.{file_lost, file_taken}
use Rattle.vcp_inputs.proofs.NotBytes.{script_not_bytes}
use Rattle.vcp_inputs.proofs.RowsLoaded.{no_error}
use Rattle.vcp_inputs.proofs.TakenScripts.{script_refuses}
use Rattle.vcp_inputs.proofs.scripts.load_script.Goals as goal

-- ---- the file isn't read

pub returns : goal.returns
returns g c =
    let why = c.in-Err.ensures in
    let loaded = file_lost (ScriptOf c.args.graph.now) (NotScript c.args.graph.now) (g.F.Files.seen c.args.files.now) (g.F.Files.seen c.read_file.new.files) c.args.name.now most_source_bytes
    c.in-Err.input (Err c.in-Err.input) refl why.reads why.unread why.long why.left why.stayed in
    record {
      loads = loaded.loads;
      fits = tt;
      few = tt;
      unread = loaded.unread;
      caused = loaded.caused;
      ended = loaded.ended;
      whole = loaded.whole;
      left = loaded.left;
      stayed = loaded.stayed;
      held = c.read_file.ensures.held;
      later = c.read_file.ensures.later;
      broken_later = c.read_file.ensures.broken_later;
    }

-- ---- its bytes are taken, or refused

pub returns-in-Ok-read_script : goal.returns-in-Ok-read_script
returns-in-Ok-read_script g c =
    let read = c.in-Ok.ensures in
    let made = c.in-Ok-read_script.ensures in
    let loaded = file_taken (ScriptOf c.args.graph.now) (NotScript c.args.graph.now) (g.F.Files.seen c.args.files.now) (g.F.Files.seen c.read_file.new.files) c.args.name.now most_source_bytes
    c.in-Ok.text _ (Ok c.in-Ok-read_script.script) c.bytes.ensures (script_not_bytes c.args.graph.now c.in-Ok.text) read.reads read.ended (read.stayed no_error) made.script tt tt in
    record {
      loads = loaded.loads;
      fits = made.fits;
      few = made.few;
      unread = loaded.unread;
      caused = loaded.caused;
      ended = loaded.ended;
      whole = loaded.whole;
      left = loaded.left;
      stayed = loaded.stayed;
      held = c.read_file.ensures.held;
      later = c.read_file.ensures.later;
      broken_later = c.read_file.ensures.broken_later;
    }

pub returns-in-Ok : goal.returns-in-Ok
returns-in-Ok g c =
    let read = c.in-Ok.ensures in
    let refused : Untaken (NotScript c.args.graph.now c.bytes.result.now) c.from.result = rw c.from.ensures (script_refuses c.args.graph.now c.bytes.result.now _ c.in-Err-read_script.ensures.refusal) in
    let loaded = file_taken (ScriptOf c.args.graph.now) (NotScript c.args.graph.now) (g.F.Files.seen c.args.files.now) (g.F.Files.seen c.read_file.new.files) c.args.name.now most_source_bytes
    c.in-Ok.text _ (Err c.from.result) c.bytes.ensures (script_not_bytes c.args.graph.now c.in-Ok.text) read.reads read.ended (read.stayed no_error) tt refused (rw c.from.ensures (script_caused _)) in
    record {
      loads = loaded.loads;
      fits = tt;
      few = tt;
      unread = loaded.unread;
      caused = loaded.caused;
      ended = loaded.ended;
      whole = loaded.whole;
      left = loaded.left;
      stayed = loaded.stayed;
      held = c.read_file.ensures.held;
      later = c.read_file.ensures.later;
      broken_later = c.read_file.ensures.broken_later;
    }
