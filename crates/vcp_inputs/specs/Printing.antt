-- Printing: a run as it is reported, and what is printed of it.
use Rattle.std.specs.Prelude.{ℕ, ℤ, List, [], ◌++◌, length, slice_index_or, Option, Some, None, codes}
use Rattle.input_rows.specs.declared.fault.RowFault.{RowFault}
use Rattle.input_rows.specs.RowsOf.{RowsLeft}
use Rattle.coded_unit.specs.declared.call.Answer.{Answer as UnitAnswer}
use Rattle.op_graph.specs.Lists.{Lists}
use Rattle.signature_table.specs.Signatures.{table_of}
use Rattle.coded_machine.specs.RowRuns.{texts_from}
use Rattle.run_report.specs.Lines.{header_text, row_text, end_text, stop_text, refused_text}
use Rattle.vcp_inputs.specs.Forms.{Code}
use Rattle.vcp_inputs.specs.Answer.{Answer}
use Rattle.vcp_inputs.specs.CycleWords.{words_in, words_meant, word_lines}
use Rattle.vcp_inputs.specs.Reports.{RunEnd, complete, stopped, refused, behind_text, run_status}

-- ---- a run as it is told

-- the rows of outputs that were released, the end, and the words of it that are shown
pub record Report : Type 0 where
  pub rows : List (List ℤ)
  pub end : RunEnd
  pub words : List ℤ

-- no row yet, no end and no word
abbrev pub no_report : Report
no_report = record { rows = []; end = complete; words = [] }

-- a run, and then a later one, unless it was ended
abbrev pub goes_on : RunEnd → Report → Report → Report
goes_on complete r later = record { rows = r.rows ++ later.rows; end = later.end; words = r.words ++ later.words }
goes_on (stopped s) r later = r
goes_on (refused output found wanted) r later = r

abbrev pub run_then : Report → Report → Report
run_then r later = goes_on r.end r later

-- ---- the words that are shown

-- the words of a run that are shown: as they are read off the answers in its cycles, and as they are meant on rows of inputs
pub record ShownWords : Type 0 where
  pub read : List (List UnitAnswer) → List ℤ
  pub meant : List (List ℤ) → List ℤ

abbrev pub no_words : ShownWords
no_words = record { read = λ cycles. []; meant = λ rows. [] }

-- those of cycle n of a graph's run
abbrev pub cycle_words : Lists → Code → ℕ → ShownWords
cycle_words g code n = record { read = λ cycles. words_in n cycles; meant = λ rows. words_meant g code n rows }

-- ---- what is printed

-- What is printed of a run: first, for each released row, of the words that are shown, and where the run came to the end of its rows.
pub record Printing : Type 0 where
  pub header : List ℕ
  pub row : ℕ → List ℤ → List ℕ
  pub lines : List ℤ → List ℕ
  pub done : List (List ℤ) → List ℕ

-- each row, under the names of the outputs
abbrev pub every_row : List (List ℕ) → Printing
every_row names = record { header = header_text names; row = row_text; lines = λ words. []; done = λ rows. end_text (length rows) }

-- a line for each word that an operation of a graph answered in cycle n, with the numbers of a code
abbrev pub each_word : Lists → Code → ℕ → Printing
each_word g code n = record {
  header = [];
  row = λ cycle row. [];
  lines = λ words. word_lines g (table_of code.seed code.step g) n 0 g.operations words;
  done = λ rows. codes "released\n";
}

-- These lines, and then the last line of a run of so many cycles, with outputs of these names: its stop, the output that is refused, or what
-- is printed where it came to the end of its rows; nothing where the next row is refused.
abbrev pub last_line : List ℕ → List ℕ → List (List ℕ) → ℕ → RunEnd → Option RowFault → List ℕ
last_line lines done names n complete None = lines ++ done
last_line lines done names n complete (Some why) = []
last_line lines done names n (stopped s) behind = lines ++ stop_text n s
last_line lines done names n (refused output found wanted) behind = lines ++ refused_text n (slice_index_or names output []) found wanted

-- what stands behind the rows of a run that ended so
abbrev pub last_part : Printing → List (List ℕ) → Report → RunEnd → Option RowFault → List ℕ
last_part p names r e behind = last_line (p.lines r.words) (p.done r.rows) names (length r.rows) e behind

-- all that is printed of a run, on rows with this refusal behind them or none
abbrev pub run_text : Printing → List (List ℕ) → Report → Option RowFault → List ℕ
run_text p names r behind = p.header ++ (texts_from p.row 0 r.rows ++ last_part p names r r.end behind)

-- the answer to a run that is told so: ROWS are told by this name
abbrev pub told_answer : Printing → List (List ℕ) → List ℕ → RowsLeft → Report → Answer
told_answer p names rows_name left r =
    record { out = run_text p names r left.refusal; err = behind_text rows_name r.end left.refusal; status = run_status r.end left.refusal }
