-- CycleWords: the words of one cycle of a run, in order of operation, and their lines.
use Rattle.std.specs.Prelude.{ℕ, zero, suc, List, [], ◌∷◌, ◌++◌, slice_index_or, Option, Some, None, ℤ}
use Rattle.vcp_base.specs.declared.code.Profile.{Profile}
use Rattle.vcp_base.specs.declared.kind.StopKind.{StopKind}
use Rattle.coded_unit.specs.declared.call.Answer.{Answer as Given}
use Rattle.coded_unit.specs.declared.call.Answer.TheVariants as answer
use Rattle.coded_unit.specs.Words.{coded}
use Rattle.op_graph.specs.declared.op.Op.{Op}
use Rattle.op_graph.specs.Lists.{Lists}
use Rattle.op_graph.specs.GraphRun.{Cycle, cycle, initial, stored}
use Rattle.signature_table.specs.Signatures.{Numbers, expected}
use Rattle.run_report.specs.OperationLines.{trace_text}
use Rattle.vcp_inputs.specs.Forms.{Code}

-- ---- read off the unit's answers

-- the words among answers
abbrev pub words_among : List Given → List ℤ
words_among [] = []
words_among (answer.Word w ∷ answers) = w ∷ words_among answers
words_among (answer.Range ∷ answers) = words_among answers
words_among (answer.DivZero ∷ answers) = words_among answers
words_among (answer.Operand ∷ answers) = words_among answers

-- the words among the answers in cycle n, and none where the run doesn't begin that cycle
abbrev pub words_in : ℕ → List (List Given) → List ℤ
words_in n cycles = words_among (slice_index_or cycles n [])

-- ---- meant

-- the later cycle, where the one before it doesn't stop
abbrev pub unless_stopped : Option StopKind → Option Cycle → Option Cycle
unless_stopped None later = later
unless_stopped (Some why) later = None

-- cycle n of a graph on plain integers over these rows, where the cells hold these values; None where the run doesn't begin it
abbrev pub cycle_begun : Lists → List ℤ → List (List ℤ) → ℕ → Option Cycle
cycle_begun g held [] n = None
cycle_begun g held (row ∷ rows) zero = Some (cycle g held row)
cycle_begun g held (row ∷ rows) (suc n) = unless_stopped (cycle g held row).stop (cycle_begun g (stored g (cycle g held row).values) rows n)

-- the words of values in cycle n, which are those of the operations from k on: each has the value and the residue that is expected
abbrev pub words_for : Profile → Code → ℕ → ℕ → List ℤ → List ℤ
words_for p code n k [] = []
words_for p code n k (v ∷ values) = coded p v (expected p code.seed code.step k n) ∷ words_for p code n (suc k) values

-- the words of a cycle that a run begins
abbrev pub words_begun : Profile → Code → ℕ → Option Cycle → List ℤ
words_begun p code n None = []
words_begun p code n (Some c) = words_for p code n 0 c.values

-- the words of cycle n of a graph's run over these rows
abbrev pub words_meant : Lists → Code → ℕ → List (List ℤ) → List ℤ
words_meant g code n rows = words_begun g.profile code n (cycle_begun g (initial g) rows n)

-- ---- printed

-- the lines of words of these operations in cycle n, which are counted from k
abbrev pub word_lines : Lists → Numbers → ℕ → ℕ → List Op → List ℤ → List ℕ
word_lines g t n k ops [] = []
word_lines g t n k [] (w ∷ words) = []
word_lines g t n k (op ∷ ops) (w ∷ words) = trace_text g.profile t k n op.kind w ++ word_lines g t n (suc k) ops words
