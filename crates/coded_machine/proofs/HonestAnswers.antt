-- HonestAnswers: the right answers to the calls of a cycle stand for the cycle on plain integers.
use Rattle.std.proofs.Common.{ℕ, zero, suc, ◌+◌, ◌*◌, ◌<◌, ◌≡◌, refl, sym, ap, subst, ◌∙◌, List, [], ◌∷◌, ◌++◌, length, length-append, append_assoc, slice_get}
use Rattle.std.proofs.Common.{arith, Bool, true, false, cond, nat_lt, ℤ, pos, neg_ℤ, ◌+ℤ◌, ◌-ℤ◌, ◌*ℤ◌, Some, Ok, Err}
use Rattle.std.specs.Prelude.{unsigned_abs}
use Rattle.std.proofs.lemmas.Int.{ints}
use Rattle.std.proofs.lemmas.List.{get_or_past}
use Rattle.std.proofs.lemmas.Option.{slice_get_within}
use Rattle.std.proofs.Math.IntN.{zero-*ℤ}
use Rattle.vcp_base.specs.declared.kind.Kind.{Kind}
use Rattle.vcp_base.specs.declared.kind.Kind.TheVariants as kind
use Rattle.vcp_base.specs.declared.kind.StopKind.TheVariants as stop
use Rattle.vcp_base.specs.Kinds.{operands, multiplier, multipliers, Outcome, outcome}
use Rattle.vcp_base.specs.Code.{modulus}
use Rattle.vcp_base.specs.declared.code.Profile.{Profile}
use Rattle.coded_unit.specs.declared.call.Answer.{Answer}
use Rattle.coded_unit.specs.declared.call.Answer.TheVariants as answer
use Rattle.coded_unit.specs.Words.{modulo, coded}
use Rattle.coded_unit.specs.Right.{Right, answer_of}
use Rattle.coded_unit.specs.Step.{Carries}
use Rattle.op_graph.specs.declared.op.Op.{Op}
use Rattle.op_graph.specs.Lists.{Lists, cells}
use Rattle.op_graph.specs.Rules.{IsGraph, Each, Operates, scope}
use Rattle.vcp_base.specs.Values.{at}
use Rattle.op_graph.specs.Reads.{OperandThere, Linked}
use Rattle.op_graph.specs.GraphRun.{own, read, operand, outcome_of, Cycle, after, cycle_from, cycle}
use Rattle.signature_table.specs.Signatures.{signature, stamp, stamp_before, expected, stored_signature, read_signature, store_in, store_of}
use Rattle.coded_machine.specs.Calls.{Setting, calls_from, CallsOf, call_of, own_number, Whole, AllRight, is_word, word_at, read_word}
use Rattle.coded_machine.specs.Honest.{CellsHold, words_from, answers_for}
use Rattle.coded_machine.proofs.Promised.{Laws}
use Rattle.coded_machine.proofs.Places.{get_there}

-- the expected residues of a cycle are residues
abbrev pub Below : Setting → Type 0
Below s = (k : ℕ) → expected s.graph.profile s.table.seed s.table.step k s.cycle < modulus s.graph.profile

-- ---- absent operands

-- an absent operand has the multiplier 0
absent : (k : Kind) (j : ℕ) → nat_lt j (operands k) ≡ false → multiplier k j ≡ pos 0
absent k j h = get_or_past (multipliers k) j (pos 0) (grind arith)

-- so its signature is of no account
any_signature : (b : Bool) (m e f : ℤ) → (b ≡ false → m ≡ pos 0) → m *ℤ cond b e f ≡ m *ℤ e
any_signature true m e f h = refl
any_signature false m e f h = ap (λ n. n *ℤ f) (h refl) ∙ zero-*ℤ f ∙ sym (ap (λ n. n *ℤ e) (h refl) ∙ zero-*ℤ e)

-- a residue is below the constant, which is so no zero
constant_positive : (laws : Laws) (p : Profile) → 0 < modulus p
constant_positive laws p = let below = (laws.coded.words p).below (pos 0) in omega (arith, below)

-- one operand, present or not
operand_case : (laws : Laws) (p : Profile) (present : Bool) (word v e : ℤ) (stamp : ℕ) → (present ≡ true → word ≡ coded p v (modulo p (e +ℤ pos stamp))) →
    cond present word (pos 0) ≡ coded p (cond present v (pos 0)) (modulo p (cond present e (neg_ℤ (pos stamp)) +ℤ pos stamp +ℤ pos 0))
operand_case laws p false word v e stamp h =
    let z : neg_ℤ (pos stamp) +ℤ pos stamp +ℤ pos 0 ≡ pos 0 = omega (arith, ints) in
    let none : modulo p (pos 0) ≡ 0 = (laws.coded.words p).small 0 (constant_positive laws p) in
    rw (z, none) (sym (laws.coded.words p).zero)
operand_case laws p true word v e stamp h = let z : e +ℤ pos stamp +ℤ pos 0 ≡ e +ℤ pos stamp = omega (arith, ints) in rw z (h refl)

-- ---- words of values

expected_residue : (laws : Laws) (p : Profile) (seed step k n : ℕ) → expected p seed step k n < modulus p
    → modulo p (pos (signature p seed k) +ℤ pos (stamp step n)) ≡ expected p seed step k n
expected_residue laws p seed step k n h = ap (modulo p) (omega (arith, ints)) ∙ (laws.coded.words p).small (expected p seed step k n) h

pub length-words : (p : Profile) (seed step n k : ℕ) (values : List ℤ) → length (words_from p seed step n k values) ≡ length values
length-words p seed step n k [] = refl
length-words p seed step n k (v ∷ values) = ap suc (length-words p seed step n (suc k) values)

pub at_words : (p : Profile) (seed step n k : ℕ) (values : List ℤ) (i : ℕ) → i < length values →
    word_at (words_from p seed step n k values) i ≡ coded p (at values i) (expected p seed step (k + i) n)
at_words p seed step n k [] i h = absurd (omega arith)
at_words p seed step n k (v ∷ values) zero h = ap (λ j. coded p v (expected p seed step j n)) (omega arith)
at_words p seed step n k (v ∷ values) (suc i) h =
    at_words p seed step n (suc k) values i (omega arith) ∙ ap (λ j. coded p (at values i) (expected p seed step j n)) (omega arith)

more_words : (p : Profile) (seed step n k : ℕ) (values : List ℤ) (v : ℤ) →
    words_from p seed step n k (values ++ v ∷ []) ≡ words_from p seed step n k values ++ answer.Word
    (coded p v (expected p seed step (k + length values) n)) ∷ []
more_words p seed step n k [] v = ap (λ j. answer.Word (coded p v (expected p seed step j n)) ∷ []) (omega arith)
more_words p seed step n k (w ∷ values) v =
    ap (λ xs. answer.Word (coded p w (expected p seed step k n)) ∷ xs)
    (more_words p seed step n (suc k) values v
    ∙ ap (λ j. words_from p seed step n (suc k) values ++ answer.Word (coded p v (expected p seed step j n)) ∷ []) (omega arith))

-- the word of an earlier operation
word_before : (laws : Laws) (p : Profile) (seed step n from : ℕ) (values : List ℤ) (before : List Answer) → expected p seed step from n < modulus p →
    before ≡ words_from p seed step n 0 values → from < length values → word_at before from ≡ coded p (at values from)
    (modulo p (pos (signature p seed from) +ℤ pos (stamp step n)))
word_before laws p seed step n from values before below words h =
    ap (λ b. word_at b from) words ∙ at_words p seed step n 0 values from h ∙ ap (λ j. coded p (at values from) (expected p seed step j n)) (omega arith)
    ∙ ap (coded p (at values from)) (sym (expected_residue laws p seed step from n below))

-- ---- the words of cells

stored_residue : (laws : Laws) (p : Profile) (seed step m n : ℕ) → expected p seed step m n < modulus p
    → modulo p (pos (signature p seed m) -ℤ pos step +ℤ pos (stamp step n)) ≡ signature p seed m + stamp_before step n
stored_residue laws p seed step m n h =
    let least : signature p seed m + step * n < modulus p = omega (arith, h) in
    ap (modulo p) (omega (arith, ints)) ∙ (laws.coded.words p).small (signature p seed m + step * n) least

cell_signature : (laws : Laws) (g : Lists) (seed step i m : ℕ) → IsGraph g → slice_get g.stores i ≡ Some m
    → stored_signature g.profile seed step (store_of (cells g) i) ≡ pos (signature g.profile seed m) -ℤ pos step
cell_signature laws g seed step i m graph there =
    let within : i < length g.stores = slice_get_within g.stores i m there in
    let l = get_there g.loads i (omega (arith, graph.all_stored)) in
    ap (λ c. stored_signature g.profile seed step (store_in c)) (laws.cells.at g.loads g.stores i l.0 m l.1 there)

cell_word : (laws : Laws) (s : Setting) (held : List ℤ) (i m : ℕ) → Below s → IsGraph s.graph
    → CellsHold s.graph s.table.seed (stamp_before s.table.step s.cycle) s.held held → slice_get s.graph.stores i ≡ Some m →
    at s.held i ≡ coded s.graph.profile (at held i)
    (modulo s.graph.profile (stored_signature s.graph.profile s.table.seed s.table.step (store_of (cells s.graph) i) +ℤ pos (stamp s.table.step s.cycle)))
cell_word laws s held i m below graph hold there =
    hold.words i m there
    ∙ ap (coded s.graph.profile (at held i)) (sym (stored_residue laws s.graph.profile s.table.seed s.table.step m s.cycle (below m)))
    ∙ ap (λ z. coded s.graph.profile (at held i) (modulo s.graph.profile (z +ℤ pos (stamp s.table.step s.cycle))))
    (sym (cell_signature laws s.graph s.table.seed s.table.step i m graph there))

-- what an operand reads has its value, and its signature with the stamp
read_is : (laws : Laws) (s : Setting) (held values : List ℤ) (ops : List Op) (before : List Answer) (k : Kind) (imm : ℤ) (n : ℕ) → Below s → IsGraph s.graph
    → CellsHold s.graph s.table.seed (stamp_before s.table.step s.cycle) s.held held →
    before ≡ words_from s.graph.profile s.table.seed s.table.step s.cycle 0 values → length values ≡ length ops → OperandThere ops s.graph.stores k imm n →
    read_word s.held before k imm n ≡ coded s.graph.profile (read held values k imm n)
    (modulo s.graph.profile
    (read_signature s.graph.profile s.table.seed s.table.step (store_of (cells s.graph) (unsigned_abs imm)) k n +ℤ pos (stamp s.table.step s.cycle)))
read_is laws s held values ops before kind.Load imm n below graph hold words count there =
    cell_word laws s held (unsigned_abs imm) there.0 below graph hold there.1
read_is laws s held values ops before k imm n below graph hold words count there =
    word_before laws s.graph.profile s.table.seed s.table.step s.cycle n values before (below n) words (omega (arith, there, count))

-- ---- one call

own_is : (row : List ℤ) (k : Kind) (imm : ℤ) → own_number k imm (at row (unsigned_abs imm)) ≡ own row k imm
own_is row kind.Input imm = refl
own_is row k imm = refl

one_answer : (laws : Laws) (s : Setting) (held values : List ℤ) (ops : List Op) (op : Op) (before : List Answer) → Below s → IsGraph s.graph
    → CellsHold s.graph s.table.seed (stamp_before s.table.step s.cycle) s.held held →
    before ≡ words_from s.graph.profile s.table.seed s.table.step s.cycle 0 values → length before ≡ length values → length values ≡ length ops
    → Linked s.graph.stores ops op →
    Right (call_of s op before) ≡ answer_of s.graph.profile (outcome_of held s.row values op)
    (expected s.graph.profile s.table.seed s.table.step (length values) s.cycle)
one_answer laws s held values ops op before below graph hold words number_is count link =
    let kind = op.kind in
    let seed = s.table.seed in
    let step = s.table.step in
    let t = stamp step s.cycle in
    let none = neg_ℤ (pos t) in
    let sig = λ (j : ℕ). pos (signature s.graph.profile seed j) in
    let from = λ (j : ℕ). read_signature s.graph.profile seed step (store_of (cells s.graph) (unsigned_abs op.imm)) op.kind j in
    let m = multiplier kind 0 in
    let n = multiplier kind 1 in
    let o = multiplier kind 2 in
    let e = from op.a in
    let f = from op.b in
    let g = from op.c in
    let e' = cond (nat_lt 0 (operands kind)) e none in
    let f' = cond (nat_lt 1 (operands kind)) f none in
    let g' = cond (nat_lt 2 (operands kind)) g none in
    let v = operand held values op 0 op.a in
    let w = operand held values op 1 op.b in
    let x = operand held values op 2 op.c in
    let call = call_of s op before in
    let is = λ (j : ℕ). read_is laws s held values ops before kind op.imm j below graph hold words count in
    let carries : Carries call kind (sig (length values)) e' f' g' (pos 0) (pos 0) (pos 0) v w x = record {
      first = operand_case laws s.graph.profile (nat_lt 0 (operands kind)) _ _ e t (λ r. is op.a (link.first r));
      second = operand_case laws s.graph.profile (nat_lt 1 (operands kind)) _ _ f t (λ r. is op.b (link.second r));
      third = operand_case laws s.graph.profile (nat_lt 2 (operands kind)) _ _ g t (λ r. is op.c (link.third r));
      correction = ap (λ j. modulo s.graph.profile (sig j -ℤ m *ℤ e -ℤ n *ℤ f -ℤ o *ℤ g)) number_is
          ∙ ap (λ z. modulo s.graph.profile (sig (length values) -ℤ z -ℤ n *ℤ f -ℤ o *ℤ g))
          (sym (any_signature (nat_lt 0 (operands kind)) m e none (absent kind 0)))
          ∙ ap (λ z. modulo s.graph.profile (sig (length values) -ℤ m *ℤ e' -ℤ z -ℤ o *ℤ g))
          (sym (any_signature (nat_lt 1 (operands kind)) n f none (absent kind 1)))
          ∙ ap (λ z. modulo s.graph.profile (sig (length values) -ℤ m *ℤ e' -ℤ n *ℤ f' -ℤ z))
          (sym (any_signature (nat_lt 2 (operands kind)) o g none (absent kind 2)));
    } in
    let plain : sig (length values) +ℤ pos t +ℤ (m *ℤ pos 0 +ℤ n *ℤ pos 0 +ℤ o *ℤ pos 0) ≡ sig (length values) +ℤ pos t = omega (arith, ints) in
    laws.coded.steps call (sig (length values)) e' f' g' (pos 0) (pos 0) (pos 0) v w x carries
    ∙ ap (λ i. answer_of s.graph.profile (outcome kind op.from op.ty i v w x)
    (modulo s.graph.profile (sig (length values) +ℤ pos t +ℤ (m *ℤ pos 0 +ℤ n *ℤ pos 0 +ℤ o *ℤ pos 0)))) (own_is s.row kind op.imm)
    ∙ ap (λ z. answer_of s.graph.profile (outcome kind op.from op.ty (own s.row kind op.imm) v w x) (modulo s.graph.profile z)) plain
    ∙ ap (λ r. answer_of s.graph.profile (outcome kind op.from op.ty (own s.row kind op.imm) v w x) r)
    (expected_residue laws s.graph.profile seed step (length values) s.cycle (below (length values)))

-- ---- all calls of a cycle

-- the answers after one, where it is a word and where it is none
turn_case : (p : Profile) (W : Type 0) (o : Outcome) (next : ℤ → Cycle) (values : List ℤ) (a : Answer) (before answers : List Answer) (r seed step n : ℕ) →
    a ≡ answer_of p o r → before ≡ words_from p seed step n 0 values → cond (is_word a) W (answers ≡ []) →
    ((v : ℤ) → o ≡ Ok v → a ≡ answer.Word (coded p v r) → W → before ++ a ∷ answers ≡ answers_for p seed step n (next v)) →
    before ++ a ∷ answers ≡ answers_for p seed step n (after values next o)
turn_case p W (Ok v) next values a before answers r seed step n e words whole rest = rest v refl e (subst (λ b. cond (is_word b) W (answers ≡ [])) e whole)
turn_case p W (Err stop.Range) next values a before answers r seed step n e words whole rest = let none : answers ≡ [] =
    subst (λ b. cond (is_word b) W (answers ≡ [])) e whole in rw (e, none, words) refl
turn_case p W (Err stop.DivZero) next values a before answers r seed step n e words whole rest = let none : answers ≡ [] =
    subst (λ b. cond (is_word b) W (answers ≡ [])) e whole in rw (e, none, words) refl
turn_case p W (Err stop.Operand) next values a before answers r seed step n e words whole rest = let none : answers ≡ [] =
    subst (λ b. cond (is_word b) W (answers ≡ [])) e whole in rw (e, none, words) refl

honest_from : (laws : Laws) (s : Setting) (turns : ℕ) (held values : List ℤ) (front ops : List Op) (before answers : List Answer) → Below s → IsGraph s.graph
    → CellsHold s.graph s.table.seed (stamp_before s.table.step s.cycle) s.held held →
    Each (Operates (scope s.graph) turns) front ops → before ≡ words_from s.graph.profile s.table.seed s.table.step s.cycle 0 values → length values
    ≡ length front →
    AllRight (calls_from s before ops answers) → Whole ops answers →
    before ++ answers ≡ answers_for s.graph.profile s.table.seed s.table.step s.cycle (cycle_from held s.row values ops)
honest_from laws s turns held values front [] before [] below graph hold fit words count right whole = ap (λ xs. xs ++ []) words
honest_from laws s turns held values front [] before (a ∷ answers) below graph hold fit words count right whole = absurd whole
honest_from laws s turns held values front (op ∷ ops) before [] below graph hold fit words count right whole = absurd whole
honest_from laws s turns held values front (op ∷ ops) before (a ∷ answers) below graph hold fit words count right whole =
    let seed = s.table.seed in
    let step = s.table.step in
    let n = s.cycle in
    let o = outcome_of held s.row values op in
    let r = expected s.graph.profile seed step (length values) n in
    let many : length before ≡ length values = ap length words ∙ length-words s.graph.profile seed step n 0 values in
    let first : a ≡ answer_of s.graph.profile o r = right.0
    ∙ one_answer laws s held values front op before below graph hold words many count (laws.reads.linked s.graph turns front op graph fit.0) in
    turn_case s.graph.profile (Whole ops answers) o (λ v. cycle_from held s.row (values ++ v ∷ []) ops) values a before answers r seed step n first words whole
    (λ v given is rest.
    let grown : before ++ a ∷ [] ≡ words_from s.graph.profile seed step n 0 (values ++ v ∷ []) =
    ap (λ b. b ++ a ∷ []) words ∙ ap (λ b. words_from s.graph.profile seed step n 0 values ++ b ∷ []) is
    ∙ ap (λ j. words_from s.graph.profile seed step n 0 values ++ answer.Word (coded s.graph.profile v (expected s.graph.profile seed step j n)) ∷ [])
    (omega arith)
    ∙ sym (more_words s.graph.profile seed step n 0 values v) in
    let later = honest_from laws s turns held (values ++ v ∷ []) (front ++ op ∷ []) ops (before ++ a ∷ []) answers below graph hold fit.1 grown
    (simp length-append (omega arith)) right.1 rest in
    sym (append_assoc before (a ∷ []) answers) ∙ later)

-- With the right answers alone, the answers of a cycle stand for the cycle on plain integers.
pub honest_answers : (laws : Laws) (s : Setting) (held : List ℤ) (answers : List Answer) → Below s → IsGraph s.graph
    → CellsHold s.graph s.table.seed (stamp_before s.table.step s.cycle) s.held held →
    AllRight (CallsOf s answers) → Whole s.graph.operations answers →
    answers ≡ answers_for s.graph.profile s.table.seed s.table.step s.cycle (cycle s.graph held s.row)
honest_answers laws s held answers below graph hold right whole =
    honest_from laws s (length s.graph.turn_nodes) held [] [] s.graph.operations [] answers below graph hold graph.part.operations refl refl right whole
