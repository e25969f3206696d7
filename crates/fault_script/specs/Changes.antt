-- Changes: what the acts of faults do to calls and to their answers.
use Rattle.std.specs.Prelude.{ℕ, zero, suc, ◌+◌, ◌==◌, Bool, true, false, cond, ◌&&◌, ◌||◌, not, List, [], ◌∷◌, map, Option, Some, None, ℤ, ◌+ℤ◌}
use Rattle.std.specs.Option.{is_some}
use Rattle.coded_unit.specs.Words.{nearest_word}
use Rattle.coded_unit.specs.declared.call.Call.{Call}
use Rattle.coded_unit.specs.declared.call.Answer.{Answer}
use Rattle.coded_unit.specs.declared.call.Answer.TheVariants as answer
use Rattle.fault_script.specs.declared.act.Act.{Act}
use Rattle.fault_script.specs.declared.act.Act.TheVariants as act
use Rattle.fault_script.specs.declared.act.Fault.{Fault}

-- the acts of a run: the act at an operation in a cycle, where there is one
abbrev pub Acts : Type 0
Acts = ℕ → ℕ → Option Act

-- the acts of these faults, by cycle and operation
abbrev pub acts_of : List Fault → Acts
acts_of [] n k = None
acts_of (f ∷ more) n k = cond (f.cycle == n && f.op == k) (Some f.act) (acts_of more n k)

-- the word of operand j of a call
abbrev pub operand_word : Call → ℕ → ℤ
operand_word call zero = call.a
operand_word call (suc zero) = call.b
operand_word call (suc (suc j)) = call.c

-- the call with this word as operand j
abbrev pub with_operand : Call → ℕ → ℤ → Call
with_operand call zero w = record call { a = w }
with_operand call (suc zero) w = record call { b = w }
with_operand call (suc (suc j)) w = record call { c = w }

-- the call that is done in place of a call, where `kept` is the word that the act takes from an earlier one
abbrev pub changed : Act → ℤ → Call → Call
changed (act.OperandAdd j e) kept call = with_operand call j (nearest_word (operand_word call j +ℤ e))
changed (act.OperandFrom j r) kept call = with_operand call j kept
changed (act.OperandStale j) kept call = with_operand call j kept
changed (act.ResultAdd e) kept call = call
changed (act.Operator kind) kept call = record call { kind = kind }
changed act.Skip kept call = call

-- an answer with e added to its word; a stop stays as it is
abbrev pub shifted : ℤ → Answer → Answer
shifted e (answer.Word w) = answer.Word (nearest_word (w +ℤ e))
shifted e answer.Range = answer.Range
shifted e answer.DivZero = answer.DivZero
shifted e answer.Operand = answer.Operand

-- the answer that is handed back in place of an answer
abbrev pub answered : Act → ℤ → Answer → Answer
answered (act.OperandAdd j e) kept given = given
answered (act.OperandFrom j r) kept given = given
answered (act.OperandStale j) kept given = given
answered (act.ResultAdd e) kept given = shifted e given
answered (act.Operator kind) kept given = given
answered act.Skip kept given = answer.Word kept

-- the act takes a word of an earlier call
abbrev pub takes_word : Act → Bool
takes_word (act.OperandAdd j e) = false
takes_word (act.OperandFrom j r) = true
takes_word (act.OperandStale j) = true
takes_word (act.ResultAdd e) = false
takes_word (act.Operator kind) = false
takes_word act.Skip = true

-- no call is done
abbrev pub is_skip : Act → Bool
is_skip (act.OperandAdd j e) = false
is_skip (act.OperandFrom j r) = false
is_skip (act.OperandStale j) = false
is_skip (act.ResultAdd e) = false
is_skip (act.Operator kind) = false
is_skip act.Skip = true

-- the word of an answer, or the one that was there before
abbrev pub word_of : Answer → Option ℤ → Option ℤ
word_of (answer.Word w) before = Some w
word_of answer.Range before = before
word_of answer.DivZero before = before
word_of answer.Operand before = before

-- a call of operation k in cycle n
abbrev pub is_call_of : ℕ → ℕ → Call → Bool
is_call_of n k call = call.cycle == n && call.op == k

-- a call of operation k in the cycle before cycle n
abbrev pub is_call_before : ℕ → ℕ → Call → Bool
is_call_before n k call = (call.cycle + 1) == n && call.op == k

-- The word that a fault has kept after a call with this answer: the answer of register r in its cycle, the operand or the answer of its
-- operation in the cycle before.
abbrev pub kept_by : Fault → Act → Option ℤ → Call → Answer → Option ℤ
kept_by f (act.OperandAdd j e) kept call given = kept
kept_by f (act.OperandFrom j r) kept call given = cond (is_call_of f.cycle r call) (word_of given kept) kept
kept_by f (act.OperandStale j) kept call given = cond (is_call_before f.cycle f.op call) (Some (operand_word call j)) kept
kept_by f (act.ResultAdd e) kept call given = kept
kept_by f (act.Operator kind) kept call given = kept
kept_by f act.Skip kept call given = cond (is_call_before f.cycle f.op call) (word_of given kept) kept

-- ---- the faults of a group, beside each the word that was kept for it

-- before the first call none is kept
abbrev pub none_kept : List Fault → List (Option ℤ)
none_kept faults = map (λ f. None) faults

-- what is kept after a call with this answer
abbrev pub kept_after : List Fault → List (Option ℤ) → Call → Answer → List (Option ℤ)
kept_after [] keeps call given = []
kept_after (f ∷ faults) [] call given = []
kept_after (f ∷ faults) (kept ∷ keeps) call given = kept_by f f.act kept call given ∷ kept_after faults keeps call given

-- the act of a fault, where it has the word that it takes
abbrev pub act_with : Act → Option ℤ → Option Act
act_with a kept = cond (not (takes_word a) || is_some kept) (Some a) None

-- the act that is carried out at a call: that of the fault at its operation in its cycle, the first of them, where it has the word that it takes
abbrev pub act_at_call : List Fault → List (Option ℤ) → Call → Option Act
act_at_call [] keeps call = None
act_at_call (f ∷ faults) [] call = None
act_at_call (f ∷ faults) (kept ∷ keeps) call = cond (is_call_of f.cycle f.op call) (act_with f.act kept) (act_at_call faults keeps call)

-- and the word that was kept for that fault
abbrev pub kept_at_call : List Fault → List (Option ℤ) → Call → Option ℤ
kept_at_call [] keeps call = None
kept_at_call (f ∷ faults) [] call = None
kept_at_call (f ∷ faults) (kept ∷ keeps) call = cond (is_call_of f.cycle f.op call) kept (kept_at_call faults keeps call)
