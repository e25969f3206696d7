-- Wires: the script of a wire that a text is, and why a text is none.
use Rattle.std.specs.Prelude.{ℕ, ◌≡◌, ◌≢◌, List, Ok, Err}
use Rattle.telegram.specs.declared.script.script.WireScript.{WireScript}
use Rattle.telegram.specs.declared.script.wire_fault.WireFault.{WireFault}
use Rattle.telegram.specs.declared.script.wire_fault.WireFault.TheVariants as wire
use Rattle.telegram.specs.ScriptOf.{script_of}
use Rattle.vcp_inputs.specs.declared.refusal.Refusal.{Refusal}
use Rattle.vcp_inputs.specs.declared.refusal.Refusal.TheVariants as refusal

-- the text is this script of a wire
abbrev pub WireOf : List ℕ → WireScript → Type 0
WireOf text script = script_of text ≡ Ok script

-- the text is no script of a wire: this is its first refused line, and why
pub data NotWire (text : List ℕ) : Refusal → Type 0 where
  no_wire : (f : WireFault) → f ≢ wire.Memory → script_of text ≡ Err f → NotWire text (refusal.Wire f)
