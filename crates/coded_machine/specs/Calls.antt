-- Calls: the one list of the calls of a cycle, from the answers to them.
use Rattle.std.specs.Prelude.{ℕ, ◌≡◌, ◌<◌, ◌≤◌, ◌-◌, ◌^◌, Bool, true, false, cond, nat_lt, List, [], ◌∷◌, ◌++◌, length, Option, Some, ℤ, pos, unsigned_abs}
use Rattle.std.specs.Prelude.{slice_get, slice_index_or}
use Rattle.vcp_base.specs.declared.kind.Kind.{Kind}
use Rattle.vcp_base.specs.declared.kind.Kind.TheVariants as kind
use Rattle.vcp_base.specs.Kinds.{operands}
use Rattle.vcp_base.specs.Values.{at}
use Rattle.coded_unit.specs.declared.call.Call.{Call}
use Rattle.coded_unit.specs.declared.call.Answer.{Answer}
use Rattle.coded_unit.specs.declared.call.Answer.TheVariants as answer
use Rattle.coded_unit.specs.Log.{Entry, GrowsBy}
use Rattle.coded_unit.specs.Right.{Right}
use Rattle.op_graph.specs.declared.op.Op.{Op}
use Rattle.op_graph.specs.Lists.{Lists, cells}
use Rattle.signature_table.specs.Signatures.{Numbers, correction, store_of, stamp}
use Rattle.coded_machine.specs.declared.calling.Operands.{Operands}

-- What a cycle begins with: the graph, the numbers of its code, the words of its cells, the row of inputs, and the
-- cycle's number, counted from 0.
pub record Setting : Type 0 where
  pub graph : Lists
  pub table : Numbers
  pub held : List ℤ
  pub row : List ℤ
  pub cycle : ℕ

-- an answer is a word
abbrev pub is_word : Answer → Bool
is_word (answer.Word w) = true
is_word answer.Range = false
is_word answer.DivZero = false
is_word answer.Operand = false

-- its word, and 0 where it is none
abbrev pub word_of : Answer → ℤ
word_of (answer.Word w) = w
word_of answer.Range = pos 0
word_of answer.DivZero = pos 0
word_of answer.Operand = pos 0

-- the word that operation k answered, and 0 where it answered none
abbrev pub word_at : List Answer → ℕ → ℤ
word_at answers k = word_of (slice_index_or answers k answer.Operand)

-- what an operand that reads operation n gets: the word of its cell for LOAD, and else the word that operation n answered
abbrev pub read_word : List ℤ → List Answer → Kind → ℤ → ℕ → ℤ
read_word held answers kind.Load imm n = at held (unsigned_abs imm)
read_word held answers _ imm n = word_at answers n

-- the word of operand j, which reads operation n; the zero word where there is no such operand
abbrev pub operand_word : List ℤ → List Answer → Op → ℕ → ℕ → ℤ
operand_word held answers op j n = cond (nat_lt j (operands op.kind)) (read_word held answers op.kind op.imm n) (pos 0)

-- an operation's own number: the value of its input for INPUT, and else its `imm`
abbrev pub own_number : Kind → ℤ → ℤ → ℤ
own_number kind.Input imm input = input
own_number _ imm input = imm

-- the call of operation k of a graph in cycle n, with what it reads
abbrev pub operation_call : Lists → Numbers → ℕ → ℕ → Op → Operands → Call
operation_call g t n k op reads = record {
  profile = g.profile;
  op = k;
  cycle = n;
  kind = op.kind;
  from = op.from;
  ty = op.ty;
  a = reads.a;
  b = reads.b;
  c = reads.c;
  imm = own_number op.kind op.imm reads.input;
  corr = correction g.profile t.seed t.step k op (store_of (cells g) (unsigned_abs op.imm));
  stamp = stamp t.step n;
}

-- what an operation reads, after the answers to the earlier ones
abbrev pub operands_of : Setting → Op → List Answer → Operands
operands_of s op answers = record {
  a = operand_word s.held answers op 0 op.a;
  b = operand_word s.held answers op 1 op.b;
  c = operand_word s.held answers op 2 op.c;
  input = at s.row (unsigned_abs op.imm);
}

-- the call of the next operation, after the answers to the earlier ones
abbrev pub call_of : Setting → Op → List Answer → Call
call_of s op answers = operation_call s.graph s.table s.cycle (length answers) op (operands_of s op answers)

-- the call has the graph's code and its operation's own number, where the inputs have these values
pub record HasOwnNumber (g : Lists) (row : List ℤ) (call : Call) : Type 0 where
  pub profile : call.profile ≡ g.profile
  pub op : Op
  pub there : slice_get g.operations call.op ≡ Some op
  pub number : call.imm ≡ own_number op.kind op.imm (at row (unsigned_abs op.imm))

-- the calls of these operations with these answers, where `before` answered the earlier ones
abbrev pub calls_from : Setting → List Answer → List Op → List Answer → List Entry
calls_from s before ops [] = []
calls_from s before [] (a ∷ answers) = []
calls_from s before (op ∷ ops) (a ∷ answers) = (call_of s op before, a) ∷ calls_from s (before ++ a ∷ []) ops answers

-- the calls of a cycle with these answers, one for each operation in order
abbrev pub CallsOf : Setting → List Answer → List Entry
CallsOf s answers = calls_from s [] s.graph.operations answers

-- the call is the next one of a cycle after these answers: with it and any answer to it, the list of calls has this entry more
abbrev pub Next : Setting → List Answer → Call → Type 0
Next s answers call = (a : Answer) → CallsOf s (answers ++ a ∷ []) ≡ CallsOf s answers ++ (call, a) ∷ []

-- the call is that of the operation that comes after these answers
abbrev pub CallsNextOperation : Setting → List Answer → Call → Type 0
CallsNextOperation s answers call = (op : Op) → slice_get s.graph.operations (length answers) ≡ Some op → call ≡ call_of s op answers

-- each answer is a word
abbrev pub AllWords : List Answer → Type 0
AllWords [] = Unit {0}
AllWords (a ∷ answers) = (is_word a ≡ true) × AllWords answers

-- the answers of a whole cycle: each operation is answered by a word, or the last answer is the first that is none
abbrev pub Whole : List Op → List Answer → Type 0
Whole [] [] = Unit {0}
Whole [] (a ∷ answers) = ⊥
Whole (op ∷ ops) [] = ⊥
Whole (op ∷ ops) (a ∷ answers) = cond (is_word a) (Whole ops answers) (answers ≡ [])

-- each answer is the right one
abbrev pub AllRight : List Entry → Type 0
AllRight [] = Unit {0}
AllRight (e ∷ es) = (e.1 ≡ Right e.0) × AllRight es

-- What these calls leave of a unit: its log grew by them with their answers and by nothing else; and no answer is wrong
-- where the count of wrong ones is the same and below its last value.
pub record Carried (calls : List Entry) (told_before told_now : Option (List Entry)) (wrong_before wrong_now : ℕ) : Type 0 where
  pub told : GrowsBy told_before told_now calls
  pub never_falls : wrong_before ≤ wrong_now
  pub honest : wrong_now ≡ wrong_before → wrong_before < 2 ^ 64 - 1 → AllRight calls
