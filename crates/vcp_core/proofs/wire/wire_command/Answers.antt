use Rattle.std.proofs.Common.{◌≡◌, ap, refl, inl, inr, Err}
use Rattle.vcp_base.specs.Limits.{most_source_bytes}
use Rattle.vcp_inputs.specs.Forms.{wire}
use Rattle.vcp_inputs.specs.Wires.{WireOf, NotWire}
use Rattle.vcp_inputs.specs.Abouts.{about, script_word}
use Rattle.vcp_inputs.specs.Kinds.{wires}
use Rattle.vcp_core.proofs.Facts.{if_some_weaker, no_error, not_none, same_error}
use Rattle.vcp_core.proofs.Performing.{file_takes, quiet_lost}
use Rattle.vcp_core.proofs.WireTasks.{wire_ends}
use Rattle.vcp_core.proofs.wire.wire_command.Goals as goal

-- F isn't taken
pub returns-in-Err : goal.returns-in-Err
returns-in-Err g c =
    let f = c.args.script.now in
    let files = g.F.Files.seen c.args.files.now in
    let later = g.F.Files.seen c.load_wire.new.files in
    rw c.bytes.ensures
    (quiet_lost (about (wire f)) WireOf NotWire (λ h s x. x ≡ wires s) (script_word f) files later _
    c.in-Err.input (inl refl) not_none (inr (inl refl)) c.load_wire.ensures.held
    c.in-Err.ensures.loads (λ r is. c.in-Err.ensures.whole r (ap Err is)) (λ is. c.in-Err.ensures.left (ap Err is))
    (λ is. c.in-Err.ensures.unread (ap Err is)) (λ no. c.in-Err.ensures.stayed (λ e. no (same_error e)))
    c.in-Err.ensures.caused)

-- it was run, or wasn't run to its end
pub returns-in-Ok : goal.returns-in-Ok
returns-in-Ok g c =
    let f = c.args.script.now in
    let s = c.in-Ok.loaded in
    let files = g.F.Files.seen c.args.files.now in
    let later = g.F.Files.seen c.load_wire.new.files in
    rw c.wire_ended.ensures
    (wire_ends f files later c.load_wire.ensures.held c.in-Ok.ensures.ended (c.in-Ok.ensures.stayed no_error) s c.in-Ok.ensures.fits
    (if_some_weaker files.held _ _ (λ h found. file_takes WireOf NotWire most_source_bytes (λ s x. x ≡ wires s) f h s (wires s) found refl)
    c.in-Ok.ensures.loads)
    _ _ _ _ c.run_wire.result c.run_wire.ensures.runs c.run_wire.ensures.stayed)
