-- EndLines: the last line of a run of which each row is printed.
use Rattle.std.specs.Prelude.{ℕ, List, [], Option}
use Rattle.input_rows.specs.declared.fault.RowFault.{RowFault}
use Rattle.run_report.specs.Lines.{end_text}
use Rattle.vcp_inputs.specs.Printing.{last_line}
use Rattle.vcp_inputs.specs.Reports.{RunEnd}

-- the last line of a run of so many cycles: its stop, the output that is refused, or its end; none where the next row is refused
abbrev pub last_text : List (List ℕ) → ℕ → RunEnd → Option RowFault → List ℕ
last_text names n e behind = last_line [] (end_text n) names n e behind
