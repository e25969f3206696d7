-- Reach: the status of a command that came to its end, and the line and the status of one that ended by a fault.
use Rattle.std.specs.Prelude.{ℕ, List, [], Result, Ok, Err}
use Rattle.coded_machine.specs.declared.rows.fault.RunFault.{RunFault}
use Rattle.coded_machine.specs.declared.rows.fault.RunFault.TheVariants as run
use Rattle.vcp_inputs.specs.Lines.{memory_text, write_fault_text, input_text, input_status}
use Rattle.vcp_inputs.specs.Refusals.{no_rows}
use Rattle.telegram.specs.declared.runs.wire_end.WireEnd.{WireEnd}
use Rattle.telegram.specs.declared.runs.wire_end.WireEnd.TheVariants as wire
use Rattle.vcp_core.specs.declared.ending.Ending.{Ending}
use Rattle.vcp_core.specs.declared.ending.Ending.TheVariants as end
use Rattle.vcp_core.specs.declared.fault.Fault.{Fault}
use Rattle.vcp_core.specs.declared.fault.Fault.TheVariants as fault

-- the status of a command that came to its end so
abbrev pub end_status : Ending → ℕ
end_status end.Done = 0
end_status end.Stopped = 2
end_status end.Refused = 3

-- how a command came to its end that ran the script of a wire
abbrev pub wire_ending : WireEnd → Ending
wire_ending wire.Complete = end.Done
wire_ending (wire.Unsent cycle id) = end.Refused

-- the line of a fault, and the status
abbrev pub fault_text : Fault → List ℕ
fault_text (fault.Input name i) = input_text name.now i
fault_text fault.Write = write_fault_text
fault_text fault.Memory = memory_text

abbrev pub fault_status : Fault → ℕ
fault_status (fault.Input name i) = input_status i
fault_status fault.Write = 6
fault_status fault.Memory = 7

-- the line of a command that ended so, nothing where it came to its end; and the status
abbrev pub told_line : Result Ending Fault → List ℕ
told_line (Ok e) = []
told_line (Err e) = fault_text e

abbrev pub told_status : Result Ending Fault → ℕ
told_status (Ok e) = end_status e
told_status (Err e) = fault_status e

-- the same of a run that ended so, on rows that lines tell by this name
abbrev pub run_line : List ℕ → Result Ending RunFault → List ℕ
run_line name (Ok e) = []
run_line name (Err (run.Rows f)) = input_text name (no_rows f)
run_line name (Err run.Write) = write_fault_text
run_line name (Err run.Memory) = memory_text

abbrev pub run_code : Result Ending RunFault → ℕ
run_code (Ok e) = end_status e
run_code (Err (run.Rows f)) = input_status (no_rows f)
run_code (Err run.Write) = 6
run_code (Err run.Memory) = 7
