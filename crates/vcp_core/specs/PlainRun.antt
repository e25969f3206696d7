-- PlainRun: what a program's own run prints on the rows of inputs that are left, and how the printing ends.
use Rattle.std.specs.Prelude.{ℕ, suc, ◌≡◌, ◌≢◌, ℤ, List, [], ◌∷◌, ◌++◌, length, Option, Some, None, Result, Ok, Err}
use Rattle.std.specs.Io.KnownBytes.{Appends}
use Rattle.vcp_base.specs.Stops.{told_stop}
use Rattle.vcp_outside.specs.Written.{AppendsFront, AppendsPart}
use Rattle.vcp_typed.specs.declared.slot.Slot.{Slot}
use Rattle.vcp_typed.specs.Meaning.{Stop}
use Rattle.vcp_typed.specs.SourceRun.{Program, outputs, run_from, source_run}
use Rattle.flat_expr.specs.Told.{names_of, source_end, told_source}
use Rattle.input_rows.specs.declared.fault.RowFault.{RowFault}
use Rattle.input_rows.specs.declared.fault.RowFault.TheVariants as row
use Rattle.input_rows.specs.RowsOf.{RowsLeft}
use Rattle.coded_machine.specs.RowRuns.{texts_from}
use Rattle.run_report.specs.Lines.{header_text, row_text, stop_text}
use Rattle.vcp_inputs.specs.Reports.{end_told, output_names}
use Rattle.vcp_core.specs.EndLines.{last_text}
use Rattle.coded_machine.specs.declared.rows.fault.RunFault.{RunFault}
use Rattle.coded_machine.specs.declared.rows.fault.RunFault.TheVariants as fault
use Rattle.vcp_core.specs.declared.ending.Ending.{Ending}
use Rattle.vcp_core.specs.declared.ending.Ending.TheVariants as end

-- all that a program's run prints on the rows that are left
abbrev pub plain_text : Program → RowsLeft → List ℕ
plain_text p left =
    header_text (output_names p) ++ (texts_from row_text 0 (told_source p left.rows).rows
    ++ last_text (output_names p) (length (told_source p left.rows).rows) (end_told (told_source p left.rows).end) left.refusal)

-- the last line of a program's run of so many cycles: its stop, or its end; none where the next row is refused
abbrev pub plain_last_line : Program → ℕ → Option Stop → Option RowFault → List ℕ
plain_last_line p n stop refusal = last_text (output_names p) n (end_told (source_end (names_of p.slots) stop)) refusal

-- ---- how the printing ends

-- How the printing of these bytes ends, where they are all that a run prints that has this stop or none, on rows with this
-- refusal behind them or none. All of them are printed at the end, after a stop and before a refusal; a front of them that
-- lacks something where the sink failed, and some front of them where there was no memory.
abbrev pub PrintsText : List ℕ → Option Stop → Option RowFault → Option (List ℕ) → Option (List ℕ) → Result Ending RunFault → Type 0
PrintsText text stop refusal old new (Ok end.Done) = (stop ≡ None) × (refusal ≡ None) × Appends old new text
PrintsText text stop refusal old new (Ok end.Stopped) = (s : Stop) × (stop ≡ Some s) × Appends old new text
PrintsText text stop refusal old new (Ok end.Refused) = ⊥
PrintsText text stop refusal old new (Err (fault.Rows f)) = (stop ≡ None) × (refusal ≡ Some f) × (f ≢ row.Memory) × Appends old new text
PrintsText text stop refusal old new (Err fault.Write) = AppendsPart old new text
PrintsText text stop refusal old new (Err fault.Memory) = AppendsFront old new text

-- how the printing of a program's run on the rows that are left ends
abbrev pub Prints : Program → RowsLeft → Option (List ℕ) → Option (List ℕ) → Result Ending RunFault → Type 0
Prints p left old new result =
    PrintsText (plain_text p left) (source_run p left.rows).end left.refusal old new result

-- ---- the loop over the cycles

-- the line of a cycle: its row, or its stop
abbrev pub cycle_line : List Slot → ℕ → Result (List ℤ) Stop → List ℕ
cycle_line slots n (Ok m) = row_text n (outputs slots m)
cycle_line slots n (Err s) = stop_text n (told_stop (names_of slots) s.kind s.spot s.turns)

-- the lines from cycle n on: a line for each row, and the last one
abbrev pub lines_from : Program → ℕ → List (List ℤ) → Option Stop → Option RowFault → List ℕ
lines_from p n [] stop refusal = plain_last_line p n stop refusal
lines_from p n (row ∷ rows) stop refusal = row_text n row ++ lines_from p (suc n) rows stop refusal

-- the same of a program whose slots have these values, on the rows that are left
abbrev pub rest_text : Program → ℕ → List ℤ → RowsLeft → List ℕ
rest_text p n m left = lines_from p n (run_from p m left.rows).rows (run_from p m left.rows).end left.refusal

-- how the printing of those lines ends
abbrev pub PrintsFrom : Program → ℕ → List ℤ → RowsLeft → Option (List ℕ) → Option (List ℕ) → Result Ending RunFault → Type 0
PrintsFrom p n m left old new result =
    PrintsText (rest_text p n m left) (run_from p m left.rows).end left.refusal old new result
