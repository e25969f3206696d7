-- PairLines: the lines of a pair's run. Each ends with LF.
use Rattle.std.specs.Prelude.{ℕ, ℤ, List, [], ◌++◌, length, map, slice_get, Option, Some, None, decimal, codes}
use Rattle.std.specs.Fmt.{signed_decimal}
use Rattle.vcp_base.specs.Spellings.{stop_name}
use Rattle.vcp_base.specs.Stops.{told_stop}
use Rattle.vcp_base.specs.declared.kind.StopKind.{StopKind}
use Rattle.input_rows.specs.declared.fault.RowFault.{RowFault}
use Rattle.op_graph.specs.declared.op.Op.{Op}
use Rattle.op_graph.specs.Lists.{Lists, output_column, turns_of}
use Rattle.coded_machine.specs.declared.cycle_end.CycleEnd.{CycleEnd}
use Rattle.coded_machine.specs.declared.cycle_end.CycleEnd.TheVariants as end
use Rattle.run_report.specs.Lines.{header_text, row_text, end_text, stop_text}
use Rattle.run_report.specs.Variables.{output_name}
use Rattle.coded_machine.specs.RowRuns.{texts_from}
use Rattle.pair_channel.specs.declared.pair_end.PairEnd.{PairEnd}
use Rattle.pair_channel.specs.declared.pair_end.PairEnd.TheVariants as pair
use Rattle.pair_channel.specs.PairRuns.{PairOutcome}

-- an operation that stopped, and why
abbrev pub operation_text : ℕ → StopKind → List ℕ
operation_text op why = decimal op ++ (codes " " ++ stop_name why)

-- an output that is refused, with the residue that was found and the expected one
abbrev pub refused_output_text : List ℕ → ℕ → ℕ → List ℕ
refused_output_text name found wanted = codes "refused " ++ (name ++ (codes " found " ++ (decimal found ++ (codes " expected " ++ decimal wanted))))

-- how one channel ended a cycle
abbrev pub channel_text : Lists → CycleEnd → List ℕ
channel_text g end.Released = codes "released"
channel_text g (end.Stopped op why) = operation_text op why
channel_text g (end.Refused output found wanted) = refused_output_text (output_name g output) found wanted

-- the channels ended a cycle differently, or refused it
abbrev pub parted_text : Lists → ℕ → CycleEnd → CycleEnd → List ℕ
parted_text g cycle first second =
    codes "parted "
    ++ (decimal cycle ++ (codes " first " ++ (channel_text g first ++ (codes " second " ++ (channel_text g second ++ codes "\n")))))

-- an output of this name has two values
abbrev pub differ_text : List ℕ → ℕ → ℤ → ℤ → List ℕ
differ_text name cycle first second =
    codes "differ "
    ++ (decimal cycle ++ (codes " " ++ (name ++ (codes " first " ++ (signed_decimal first ++ (codes " second " ++ (signed_decimal second ++ codes "\n")))))))

-- a stop of both channels in a cycle, at an operation that is there
abbrev pub halt_text : Lists → ℕ → StopKind → Option Op → List ℕ
halt_text g cycle why None = []
halt_text g cycle why (Some op) = stop_text cycle (told_stop g.names why op.spot (turns_of g op.turn))

-- the last line of a pair's run of so many cycles: its end, its stop, or how the channels disagree; none where the next row is refused
abbrev pub pair_last : Lists → ℕ → PairEnd → Option RowFault → List ℕ
pair_last g n pair.Released None = end_text n
pair_last g n pair.Released (Some why) = []
pair_last g n (pair.Stopped op why) behind = halt_text g n why (slice_get g.operations op)
pair_last g n (pair.Parted first second) behind = parted_text g n first second
pair_last g n (pair.Differ output first second) behind = differ_text (output_name g output) n first second

-- the header of a graph's run
abbrev pub pair_header : Lists → List ℕ
pair_header g = header_text (map (λ c. c.name) (map (output_column g.names) g.outputs))

-- All that is printed of a pair's run, on rows with this refusal behind them or none: the header, a line for each row that was released, and
-- the last line.
abbrev pub pair_text : Lists → PairOutcome → Option RowFault → List ℕ
pair_text g o behind = pair_header g ++ (texts_from row_text 0 o.rows ++ pair_last g (length o.rows) o.end behind)
