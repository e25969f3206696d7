-- Texts that are no scripts of a wire.
use Rattle.std.proofs.Common.{ℕ, ◌≡◌, ◌≢◌, List, Err}
use Rattle.telegram.specs.declared.script.wire_fault.WireFault.{WireFault}
use Rattle.telegram.specs.declared.script.wire_fault.WireFault.TheVariants as wire
use Rattle.telegram.specs.ScriptOf.{script_of}
use Rattle.vcp_inputs.specs.Files.{Untaken}
use Rattle.vcp_inputs.specs.Refusals.{unwired}
use Rattle.vcp_inputs.specs.Wires.{NotWire, no_wire}

-- the script's fault is told
pub wire_refuses : (text : List ℕ) (f : WireFault) → (f ≢ wire.Memory → script_of text ≡ Err f) → Untaken (NotWire text) (unwired f)
wire_refuses text (wire.Form line) why = no_wire (wire.Form line) (λ e. cc) (why (λ e. cc))
wire_refuses text (wire.Range line) why = no_wire (wire.Range line) (λ e. cc) (why (λ e. cc))
wire_refuses text (wire.Unsent line) why = no_wire (wire.Unsent line) (λ e. cc) (why (λ e. cc))
wire_refuses text wire.Memory why = tt
