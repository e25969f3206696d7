-- Refusals: a fault of a layer below, as a refusal of the file, or as want of memory; and that no refusal is want of memory.
use Rattle.std.specs.Prelude.{IsSome}
use Rattle.vcp_outside.specs.declared.reading.ReadAll.{ReadAll}
use Rattle.vcp_outside.specs.declared.reading.ReadAll.TheVariants as reading
use Rattle.input_rows.specs.declared.fault.RowFault.{RowFault}
use Rattle.input_rows.specs.declared.fault.RowFault.TheVariants as rows
use Rattle.image_file.specs.declared.fault.ImageFault.{ImageFault}
use Rattle.image_file.specs.declared.fault.ImageFault.TheVariants as image
use Rattle.fault_script.specs.declared.script_fault.ScriptFault.{ScriptFault}
use Rattle.fault_script.specs.declared.script_fault.ScriptFault.TheVariants as script
use Rattle.telegram.specs.declared.script.wire_fault.WireFault.{WireFault}
use Rattle.telegram.specs.declared.script.wire_fault.WireFault.TheVariants as wire
use Rattle.vcp_inputs.specs.declared.refusal.Refusal.TheVariants as refusal
use Rattle.vcp_inputs.specs.declared.refusal.NoInput.{NoInput}
use Rattle.vcp_inputs.specs.declared.refusal.NoInput.TheVariants as input
use Rattle.vcp_inputs.specs.Lines.{diagnostic_of}

-- of the reading of a whole file
abbrev pub unread : ReadAll → NoInput
unread reading.Failed = input.Unread
unread reading.TooLong = input.Refused refusal.Bytes
unread reading.Memory = input.Memory

-- of rows
abbrev pub no_rows : RowFault → NoInput
no_rows rows.Header = input.Refused (refusal.Rows rows.Header)
no_rows (rows.Width row) = input.Refused (refusal.Rows (rows.Width row))
no_rows (rows.Cell row column) = input.Refused (refusal.Rows (rows.Cell row column))
no_rows rows.Form = input.Refused (refusal.Rows rows.Form)
no_rows rows.Cycles = input.Refused (refusal.Rows rows.Cycles)
no_rows rows.Cycle = input.Refused (refusal.Rows rows.Cycle)
no_rows rows.Memory = input.Memory

-- of an image
abbrev pub unimaged : ImageFault → NoInput
unimaged (image.Magic at) = input.Refused (refusal.Image (image.Magic at))
unimaged (image.Version at) = input.Refused (refusal.Image (image.Version at))
unimaged (image.Short at) = input.Refused (refusal.Image (image.Short at))
unimaged (image.Field at) = input.Refused (refusal.Image (image.Field at))
unimaged (image.Operand at) = input.Refused (refusal.Image (image.Operand at))
unimaged (image.Table at stored expected) = input.Refused (refusal.Image (image.Table at stored expected))
unimaged (image.Rest at) = input.Refused (refusal.Image (image.Rest at))
unimaged image.Memory = input.Memory

-- of a script
abbrev pub unscripted : ScriptFault → NoInput
unscripted (script.Form line) = input.Refused (refusal.Script (script.Form line))
unscripted (script.Site line) = input.Refused (refusal.Script (script.Site line))
unscripted (script.Early line) = input.Refused (refusal.Script (script.Early line))
unscripted (script.Kind line) = input.Refused (refusal.Script (script.Kind line))
unscripted (script.Group line) = input.Refused (refusal.Script (script.Group line))
unscripted (script.Twice line) = input.Refused (refusal.Script (script.Twice line))
unscripted (script.Faults line) = input.Refused (refusal.Script (script.Faults line))
unscripted script.Memory = input.Memory

-- of the script of a wire
abbrev pub unwired : WireFault → NoInput
unwired (wire.Form line) = input.Refused (refusal.Wire (wire.Form line))
unwired (wire.Range line) = input.Refused (refusal.Wire (wire.Range line))
unwired (wire.Unsent line) = input.Refused (refusal.Wire (wire.Unsent line))
unwired wire.Memory = input.Memory

-- ---- no refusal is want of memory

-- where a file is refused, it is for a fault that has a place and a code
abbrev pub IsCaused : NoInput → Type 0
IsCaused input.Unread = Unit {0}
IsCaused (input.Refused r) = IsSome (diagnostic_of r)
IsCaused input.Memory = Unit {0}
