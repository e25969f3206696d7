-- State: what a machine is between two calls.
use Rattle.std.specs.Prelude.{ℕ, ◌≡◌, ◌≢◌, ◌+◌, ◌<◌, Bool, true, false, cond, ◌⊎◌, List, [], ◌∷◌, ◌++◌, length, Option, Some, None, ℤ}
use Rattle.coded_unit.specs.declared.call.Answer.{Answer}
use Rattle.coded_unit.specs.declared.call.Answer.TheVariants as answer
use Rattle.op_graph.specs.Lists.{Lists}
use Rattle.signature_table.specs.Signatures.{Numbers}
use Rattle.coded_machine.specs.declared.cycle_end.CycleEnd.{CycleEnd}
use Rattle.coded_machine.specs.declared.cycle_end.CycleEnd.TheVariants as end
use Rattle.coded_machine.specs.Calls.{Setting, AllWords, Whole}
use Rattle.coded_machine.specs.CycleEnds.{initial_words, stored_words, outputs_of}

-- A machine: the graph and the numbers of its code; the words of the cells; the answers of the last cycle that made
-- calls; whether that cycle is under way; the number of released cycles; and the end that is repeated, where one came
-- that was no release.
pub record State : Type 0 where
  pub graph : Lists
  pub table : Numbers
  pub held : List ℤ
  pub answers : List Answer
  pub under_way : Bool
  pub cycles : ℕ
  pub ended : Option CycleEnd

-- before the first cycle
abbrev pub fresh : Lists → Numbers → State
fresh g t = record { graph = g; table = t; held = initial_words g t.seed; answers = []; under_way = false; cycles = 0; ended = None }

-- the answers put in this cycle
abbrev pub given : State → List Answer
given m = cond m.under_way m.answers []

-- what this cycle began with, on this row of inputs
abbrev pub setting : State → List ℤ → Setting
setting m row = record { graph = m.graph; table = m.table; held = m.held; row = row; cycle = m.cycles }

-- a call is to be made in this cycle: some operation isn't answered yet, no answer is a stop, and no end is repeated
pub record Awaits (m : State) : Type 0 where
  pub going : m.ended ≡ None
  pub words : AllWords (given m)
  pub left : length (given m) < length m.graph.operations

-- no call is to be made: every operation is answered in this cycle or the last answer is no word, or an end is repeated
abbrev pub Finished : State → Type 0
Finished m = (m.ended ≢ None) ⊎ Whole m.graph.operations (given m)

-- with one more answer in this cycle
abbrev pub with_answer : State → Answer → State
with_answer m a = record m { answers = given m ++ a ∷ []; under_way = true }

-- with the answers of a whole cycle
abbrev pub with_answers : State → List Answer → State
with_answers m answers = record m { answers = answers; under_way = true }

-- After a cycle's end: a release stores the cells and counts the cycle, and any other end is repeated from then on.
abbrev pub after_end : State → CycleEnd → State
after_end m end.Released = record m { held = stored_words m.graph (given m); under_way = false; cycles = m.cycles + 1 }
after_end m e = record m { under_way = false; ended = Some e }

-- the row of outputs after a cycle's end: a release sets it, and any other end leaves it
abbrev pub row_after : State → CycleEnd → List ℤ → List ℤ
row_after m end.Released row = outputs_of m.graph (given m)
row_after m e row = row

-- the word of an answer that is there and is one
abbrev pub word_in : Option Answer → Option ℤ
word_in None = None
word_in (Some (answer.Word w)) = Some w
word_in (Some _) = None
