-- Refusals: why a row that is refused gives up a run.
use Rattle.input_rows.specs.declared.fault.RowFault.{RowFault}
use Rattle.input_rows.specs.declared.fault.RowFault.TheVariants as row
use Rattle.coded_machine.specs.declared.rows.fault.RunFault.{RunFault}
use Rattle.coded_machine.specs.declared.rows.fault.RunFault.TheVariants as fault

-- want of memory is no fault of a row
abbrev pub given_up_by : RowFault → RunFault
given_up_by row.Memory = fault.Memory
given_up_by why = fault.Rows why
