-- AnswersOver: the answers of a whole run under acts over an honest unit, and the words that its cells hold at the end.
use Rattle.std.specs.Prelude.{ℕ, suc, Bool, true, false, cond, ◌&&◌, List, [], ◌∷◌, ◌++◌, length, Option, ℤ}
use Rattle.coded_unit.specs.declared.call.Answer.{Answer}
use Rattle.op_graph.specs.declared.op.Op.{Op}
use Rattle.op_graph.specs.Lists.{Lists}
use Rattle.signature_table.specs.Signatures.{Numbers}
use Rattle.coded_machine.specs.Calls.{Setting, call_of, is_word}
use Rattle.coded_machine.specs.CycleEnds.{initial_words, stored_words}
use Rattle.coded_machine.specs.Runs.{setting_at}
use Rattle.fault_script.specs.declared.act.Act.{Act}
use Rattle.fault_script.specs.Changes.{Acts}
use Rattle.fault_injector.specs.RunLaw.{Words, no_words, taken}
use Rattle.fault_injector.specs.Scripts.{right_by}

-- ---- one cycle

-- the answer of the next operation: the right one to its call, but for the change of an act
abbrev pub next_answer : Setting → (ℕ → Option Act) → Words → List Answer → Op → Answer
next_answer s acts past before op = right_by (acts (length before)) (taken past before op (acts (length before))) (call_of s op before)

-- a cycle goes on after a word, and ends with any other answer
abbrev pub on_word : Bool → List Answer → (List Answer → List Answer) → List Answer
on_word true own next = next own
on_word false own next = []

abbrev pub answer_then : List Answer → (List Answer → List Answer) → Answer → List Answer
answer_then before next a = a ∷ on_word (is_word a) (before ++ a ∷ []) next

-- the answers of these operations, up to the first that is no word, where those before them answered `before`
abbrev pub answers_from : Setting → (ℕ → Option Act) → Words → List Answer → List Op → List Answer
answers_from s acts past before [] = []
answers_from s acts past before (op ∷ ops) = answer_then before (λ own. answers_from s acts past own ops) (next_answer s acts past before op)

-- the answers of a cycle
abbrev pub answers_in : Setting → (ℕ → Option Act) → Words → List Answer
answers_in s acts past = answers_from s acts past [] s.graph.operations

-- ---- whole runs

abbrev pub all_words : List Answer → Bool
all_words [] = true
all_words (a ∷ answers) = is_word a && all_words answers

-- a run goes on after a cycle of words
abbrev pub later_if : Bool → List Answer → (List Answer → List (List Answer)) → List (List Answer)
later_if true own next = next own
later_if false own next = []

abbrev pub and_later : (List Answer → List (List Answer)) → List Answer → List (List Answer)
and_later next own = own ∷ later_if (all_words own) own next

-- the answers of the cycles from n on, where the cycle before left `past` and the cells hold these words
abbrev pub answers_over : Numbers → Lists → Acts → ℕ → Words → List ℤ → List (List ℤ) → List (List Answer)
answers_over t g acts n past held [] = []
answers_over t g acts n past held (row ∷ rows) =
    and_later (λ own. answers_over t g acts (suc n) (record { held = held; answers = own }) (stored_words g own) rows)
    (answers_in (setting_at g t n held row) (acts n) past)

-- the answers of the run under these acts over rows of inputs, cycle by cycle
abbrev pub run_answers : Numbers → Lists → Acts → List (List ℤ) → List (List Answer)
run_answers t g acts rows = answers_over t g acts 0 no_words (initial_words g t.seed) rows

-- ---- what the cells hold at the end

-- a cycle of words stores the words that the STOREs answered, and any other cycle stores nothing
abbrev pub held_next : Lists → List ℤ → List Answer → List ℤ
held_next g held own = cond (all_words own) (stored_words g own) held

-- the words of the cells after these cycles
abbrev pub held_behind : Lists → List ℤ → List (List Answer) → List ℤ
held_behind g held [] = held
held_behind g held (own ∷ cycles) = held_behind g (held_next g held own) cycles

-- the words of the cells at the end of the run under these acts
abbrev pub held_at_end : Numbers → Lists → Acts → List (List ℤ) → List ℤ
held_at_end t g acts rows = held_behind g (initial_words g t.seed) (run_answers t g acts rows)
