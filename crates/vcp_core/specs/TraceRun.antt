-- TraceRun: what is printed of a machine's run of which the words of one cycle are shown.
use Rattle.std.specs.Prelude.{ℕ, cond, nat_le, List, [], Option, None, ℤ, codes}
use Rattle.coded_machine.specs.declared.cycle_end.CycleEnd.{CycleEnd}
use Rattle.coded_machine.specs.State.{State}
use Rattle.input_rows.specs.declared.fault.RowFault.{RowFault}
use Rattle.vcp_inputs.specs.CycleWords.{word_lines, words_among}
use Rattle.vcp_inputs.specs.Printing.{last_line}
use Rattle.vcp_inputs.specs.Reports.{RunEnd, end_read}

-- the words that a machine's operations answered in cycle n, where it was begun
abbrev pub answered_words : State → ℕ → List ℤ
answered_words m n = cond (nat_le n m.cycles) (words_among m.answers) []

-- these lines, and then the last line of a run of so many cycles; nothing where the next row is refused
abbrev pub words_then : List ℕ → List (List ℕ) → ℕ → RunEnd → Option RowFault → List ℕ
words_then lines names n e behind = last_line lines (codes "released\n") names n e behind

-- what is shown of a machine's run that came to this end, with outputs of these names
abbrev pub traced_text : State → List (List ℕ) → ℕ → CycleEnd → List ℕ
traced_text m names n e = words_then (word_lines m.graph m.table n 0 m.graph.operations (answered_words m n)) names m.cycles (end_read m.graph e) None
