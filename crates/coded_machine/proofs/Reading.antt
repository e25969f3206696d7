-- Reading: what an operation reads is answered by a word, where the earlier answers are words.
use Rattle.std.proofs.Common.{ℕ, zero, suc, ◌<◌, ◌≡◌, ◌≢◌, refl, List, [], ◌∷◌, length, slice_get, slice_index_or, take, Some, true, nat_lt, ℤ, arith, ap, ◌∙◌}
use Rattle.std.specs.Prelude.{unsigned_abs}
use Rattle.std.proofs.lemmas.List.{length-take-le}
use Rattle.std.proofs.lemmas.Option.{slice_get_within}
use Rattle.vcp_base.specs.declared.kind.Kind.{Kind}
use Rattle.vcp_base.specs.declared.kind.Kind.TheVariants as kind
use Rattle.vcp_base.specs.Kinds.{operands}
use Rattle.coded_unit.specs.declared.call.Answer.{Answer}
use Rattle.coded_unit.specs.declared.call.Answer.TheVariants as answer
use Rattle.op_graph.specs.declared.op.Op.{Op}
use Rattle.op_graph.specs.Lists.{Lists}
use Rattle.op_graph.specs.Rules.{IsGraph}
use Rattle.op_graph.specs.Laws.{EntryLaws, ReadLaws}
use Rattle.op_graph.specs.Reads.{OperandThere, Linked}
use Rattle.vcp_base.specs.Values.{at}
use Rattle.coded_unit.specs.declared.call.Call.{Call}
use Rattle.signature_table.specs.Signatures.{Numbers}
use Rattle.coded_machine.specs.declared.calling.Operands.{Operands}
use Rattle.coded_machine.specs.Calls.{is_word, AllWords, operand_word, own_number, operation_call, operands_of, call_of}
use Rattle.coded_machine.specs.Runs.{setting_at}

-- an answer that is a word is one of some integer
word_is : (a : Answer) → is_word a ≡ true → (w : ℤ) × (a ≡ answer.Word w)
word_is (answer.Word w) h = (w, refl)
word_is answer.Range h = absurd cc
word_is answer.DivZero h = absurd cc
word_is answer.Operand h = absurd cc

-- of answers that are words, each is one
pub word_at_place : (answers : List Answer) (k : ℕ) (other : Answer) → AllWords answers → k < length answers
    → (w : ℤ) × (slice_index_or answers k other ≡ answer.Word w)
word_at_place [] k other h lt = absurd (omega arith)
word_at_place (a ∷ answers) zero other h lt = word_is a h.0
word_at_place (a ∷ answers) (suc k) other h lt = word_at_place answers k other h.1 (omega arith)

-- the operands that operation k has are there
pub linked_at : EntryLaws → ReadLaws → (g : Lists) (k : ℕ) (op : Op) → IsGraph g → slice_get g.operations k ≡ Some op → Linked g.stores (take k g.operations) op
linked_at entries reads g k op graph there =
    let within : k < length g.operations = slice_get_within g.operations k op there in
    let long : length (take k g.operations) ≡ k = length-take-le k g.operations (omega arith) in
    reads.linked g (length g.turn_nodes) (take k g.operations) op graph (rw long (entries.operation g k op graph.part there))

-- what an operation reads is an operation before it, but for a LOAD
pub before : (ops : List Op) (stores : List ℕ) (k : Kind) (imm : ℤ) (n : ℕ) → k ≢ kind.Load → OperandThere ops stores k imm n → n < length ops
before ops stores kind.Input imm n h there = there
before ops stores kind.Const imm n h there = there
before ops stores kind.Load imm n h there = absurd (h refl)
before ops stores kind.Store imm n h there = there
before ops stores kind.Out imm n h there = there
before ops stores kind.Conv imm n h there = there
before ops stores kind.Neg imm n h there = there
before ops stores kind.Not imm n h there = there
before ops stores kind.Add imm n h there = there
before ops stores kind.Sub imm n h there = there
before ops stores kind.Mul imm n h there = there
before ops stores kind.Div imm n h there = there
before ops stores kind.Mod imm n h there = there
before ops stores kind.Eq imm n h there = there
before ops stores kind.Lt imm n h there = there
before ops stores kind.And imm n h there = there
before ops stores kind.Or imm n h there = there
before ops stores kind.Xor imm n h there = there
before ops stores kind.Sel imm n h there = there

-- so it is one of the k operations before operation k
pub read_before : (g : Lists) (k : ℕ) (op : Op) (j n : ℕ) → slice_get g.operations k ≡ Some op
    → (nat_lt j (operands op.kind) ≡ true → OperandThere (take k g.operations) g.stores op.kind op.imm n) → op.kind ≢ kind.Load →
    nat_lt j (operands op.kind) ≡ true → n < k
read_before g k op j n there reads other has =
    let within : k < length g.operations = slice_get_within g.operations k op there in
    let long : length (take k g.operations) ≡ k = length-take-le k g.operations (omega arith) in
    let first : n < length (take k g.operations) = before (take k g.operations) g.stores op.kind op.imm n other (reads has) in
    omega (arith, first, long)

own_is : (k : Kind) (imm x y : ℤ) → (k ≡ kind.Input → x ≡ y) → own_number k imm x ≡ own_number k imm y
own_is kind.Input imm x y same = same refl
own_is _ imm x y same = refl

-- the call of an operation with the words that it reads, and with its own input where it is an INPUT
pub call_is : (g : Lists) (t : Numbers) (held row : List ℤ) (answers : List Answer) (op : Op) (m n : ℕ) (reads : Operands) {call : Call}
    → call ≡ operation_call g t m (length answers) op reads → m ≡ n → reads.a ≡ operand_word held answers op 0 op.a
    → reads.b ≡ operand_word held answers op 1 op.b → reads.c ≡ operand_word held answers op 2 op.c
    → (op.kind ≡ kind.Input → reads.input ≡ at row (unsigned_abs op.imm)) → call ≡ call_of (setting_at g t n held row) op answers
call_is g t held row answers op m n reads is cycle a b c input =
    let read = operands_of (setting_at g t n held row) op answers in
    let own = own_is op.kind op.imm reads.input read.input input in
    let numbered = λ (k : ℕ) (imm : ℤ) (words : Operands). record (operation_call g t k (length answers) op words) { imm = imm } in
    is ∙ ap (λ k. operation_call g t k (length answers) op reads) cycle
    ∙ ap (λ imm. numbered n imm reads) own
    ∙ ap (λ w. numbered n (own_number op.kind op.imm read.input) (record reads { a = w })) a
    ∙ ap (λ w. numbered n (own_number op.kind op.imm read.input) (record reads { a = read.a; b = w })) b
    ∙ ap (λ w. numbered n (own_number op.kind op.imm read.input) (record reads { a = read.a; b = read.b; c = w })) c
