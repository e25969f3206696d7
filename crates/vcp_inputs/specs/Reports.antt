-- Reports: a run as it is reported, and the lines that print it.
use Rattle.std.specs.Prelude.{ℕ, List, [], map, slice_get, Option, Some, None, ℤ}
use Rattle.vcp_base.specs.Stops.{ToldStop}
use Rattle.input_rows.specs.declared.fault.RowFault.{RowFault}
use Rattle.vcp_typed.specs.Fitting.{output_columns}
use Rattle.vcp_typed.specs.SourceRun.{Program}
use Rattle.op_graph.specs.Lists.{Lists, output_column}
use Rattle.coded_machine.specs.declared.cycle_end.CycleEnd.{CycleEnd}
use Rattle.coded_machine.specs.declared.cycle_end.CycleEnd.TheVariants as cycle
use Rattle.flat_expr.specs.Told.{Told, names_of, source_end, told_source, told_graph, halted_at}
use Rattle.il_front.specs.Accumulator.{Il, acc_run}
use Rattle.vcp_inputs.specs.declared.refusal.Refusal.TheVariants as refusal
use Rattle.vcp_inputs.specs.Lines.{refusal_text}
use Rattle.vcp_inputs.specs.Answer.{Subject, source, listed, image}

-- How a run ended: with its rows; at a stop; or at an output, counted from 0, with the residue that was found and the expected one.
pub data RunEnd : Type 0 where
  complete : RunEnd
  stopped : ToldStop → RunEnd
  refused : ℕ → ℕ → ℕ → RunEnd

-- the end of a run with this stop or none
abbrev pub end_told : Option ToldStop → RunEnd
end_told None = complete
end_told (Some s) = stopped s

-- ---- where reports come from

-- the run of an instruction list on the accumulator, as it is told
abbrev pub told_listed : Il → List (List ℤ) → Told
told_listed i rows = record { rows = (acc_run i rows).rows; end = source_end (names_of i.slots) (acc_run i rows).end }

-- the run that is meant where a subject is run on these rows: the program's own, that of the instruction list on the accumulator, or that of the
-- image's graph on plain integers
abbrev pub told_of : Subject → List (List ℤ) → Told
told_of (source p) rows = told_source p rows
told_of (listed i) rows = told_listed i rows
told_of (image g) rows = told_graph g rows

-- the end of a graph's run, by the end of its last cycle
abbrev pub end_read : Lists → CycleEnd → RunEnd
end_read g cycle.Released = complete
end_read g (cycle.Stopped k why) = end_told (halted_at g why (slice_get g.operations k))
end_read g (cycle.Refused output found wanted) = refused output found wanted

-- ---- names, the line of a refused row and the status

-- the names of a program's outputs, in order of declaration
abbrev pub output_names : Program → List (List ℕ)
output_names p = map (λ c. c.name) (output_columns p.slots)

-- and of what is run
abbrev pub subject_outputs : Subject → List (List ℕ)
subject_outputs (source p) = output_names p
subject_outputs (listed i) = map (λ c. c.name) (output_columns i.slots)
subject_outputs (image g) = map (λ c. c.name) (map (output_column g.names) g.outputs)

-- the status of a run that didn't come to the end of its rows: 2 of a stop, 3 of a value that isn't accepted
abbrev pub early_status : RunEnd → Option ℕ
early_status complete = None
early_status (stopped s) = Some 2
early_status (refused output found wanted) = Some 3

-- The line and the status of a run that ended early with this status or not, where this refusal or none stands behind its rows: to that a run comes
-- which ends with them. Rows are told by ROWS' name.
abbrev pub line_and_status : List ℕ → Option ℕ → Option RowFault → List ℕ × ℕ
line_and_status name None None = ([], 0)
line_and_status name None (Some why) = (refusal_text name (refusal.Rows why), 1)
line_and_status name (Some status) behind = ([], status)

abbrev pub behind_text : List ℕ → RunEnd → Option RowFault → List ℕ
behind_text name e behind = (line_and_status name (early_status e) behind).0

abbrev pub run_status : RunEnd → Option RowFault → ℕ
run_status e behind = (line_and_status [] (early_status e) behind).1
