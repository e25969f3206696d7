-- CycleRun: the run law of one cycle.
use Rattle.std.proofs.Common.{◌≡◌, ℕ, zero, suc, ◌+◌, ◌<◌, ◌≤◌, ◌&&◌, Bool, true, false, cond, nat_lt, List, [], ◌∷◌, ◌++◌, length, length-append, append_assoc}
use Rattle.std.proofs.Common.{slice_get, Option, Some, None, Ok, Err, IfOk, ℤ, pos, ◌+ℤ◌, ◌-ℤ◌, unsigned_abs, refl, sym, ap, subst, ◌∙◌, arith}
use Rattle.std.proofs.lemmas.Bool.Decides.{nat_tests}
use Rattle.std.proofs.lemmas.Int.{ints}
use Rattle.std.proofs.lemmas.List.{append-nil}
use Rattle.std.proofs.lemmas.Option.{slice_get_within}
use Rattle.vcp_base.specs.declared.kind.Kind.{Kind}
use Rattle.vcp_base.specs.declared.kind.Kind.TheVariants as kind
use Rattle.vcp_base.specs.declared.kind.StopKind.TheVariants as stop
use Rattle.vcp_base.specs.Kinds.{operands, Outcome}
use Rattle.vcp_base.specs.Values.{at}
use Rattle.coded_unit.specs.declared.call.Answer.{Answer}
use Rattle.coded_unit.specs.declared.call.Answer.TheVariants as answer
use Rattle.coded_unit.specs.Right.{answer_of}
use Rattle.coded_unit.specs.Words.{modulo}
use Rattle.op_graph.specs.declared.op.Op.{Op}
use Rattle.op_graph.specs.GraphRun.{Cycle, after}
use Rattle.op_graph.specs.Laws.{ReadLaws, CellLaws}
use Rattle.op_graph.specs.Lists.{Lists, cells}
use Rattle.op_graph.specs.Reads.{OperandThere, Linked, named}
use Rattle.op_graph.specs.Rules.{IsGraph, Each, Operates, scope}
use Rattle.signature_table.specs.Signatures.{Numbers, signature, stamp, stored_signature, read_signature, store_in, store_of}
use Rattle.coded_machine.specs.Calls.{Whole, call_of, operation_call, operands_of, is_word, word_at, read_word}
use Rattle.fault_script.specs.declared.act.Act.{Act}
use Rattle.fault_script.specs.declared.act.Act.TheVariants as act
use Rattle.fault_script.specs.Differences.{Frame, read_as, difference}
use Rattle.fault_injector.specs.Scripts.{right_by}
use Rattle.fault_injector.specs.Stepping.{Near, MayStand, OperandStands, ReadsStand, TakenStands, StepUnder, OutcomesAreNear, word_of, stamp_past}
use Rattle.fault_injector.specs.FaultRun.{Begun, course, given_by, cycle_under_from}
use Rattle.fault_injector.proofs.Shifts.{zero_near}
use Rattle.fault_injector.specs.RunLaw.{Words, integer, CellsStand, AnswersStand, Stands, taken, setting_of, RightsUnder, words_under, answers_under, AllStand}
use Rattle.fault_injector.specs.RunLaw.{Solved, CycleRuns}

-- what the laws below promise
pub record Laws : Type 0 where
  pub reads : ReadLaws
  pub cells : CellLaws
  pub step : StepUnder
  pub near : OutcomesAreNear

abbrev now : Begun → ℤ
now b = pos (stamp b.table.step b.cycle)

-- ---- words of values

at_words : (b : Begun) (k : ℕ) (values : List ℤ) (i : ℕ) → i < length values
    → word_at (words_under b k values) i ≡ word_of b.table (at values i) (integer b.table (k + i) (now b) (at b.differences.given (k + i)))
at_words b k [] i h = absurd (omega arith)
at_words b k (v ∷ values) zero h = ap (λ j. word_of b.table v (integer b.table j (now b) (at b.differences.given j))) (omega arith)
at_words b k (v ∷ values) (suc i) h =
    at_words b (suc k) values i (omega arith) ∙ ap (λ j. word_of b.table (at values i) (integer b.table j (now b) (at b.differences.given j))) (omega arith)

more_words : (b : Begun) (k : ℕ) (values : List ℤ) (v : ℤ)
    → words_under b k (values ++ v ∷ []) ≡ words_under b k values ++ answer.Word
    (word_of b.table v (integer b.table (k + length values) (now b) (at b.differences.given (k + length values)))) ∷ []
more_words b k [] v = ap (λ j. answer.Word (word_of b.table v (integer b.table j (now b) (at b.differences.given j))) ∷ []) (omega arith)
more_words b k (w ∷ values) v =
    ap (λ xs. answer.Word (word_of b.table w (integer b.table k (now b) (at b.differences.given k))) ∷ xs)
    (more_words b (suc k) values v
    ∙ ap (λ j. words_under b (suc k) values ++ answer.Word (word_of b.table v (integer b.table j (now b) (at b.differences.given j))) ∷ []) (omega arith))

-- the word of an earlier operation
pub word_before : (b : Begun) (values : List ℤ) (before : List Answer) (n : ℕ) → before ≡ words_under b 0 values → n < length values
    → word_at before n ≡ word_of b.table (at values n) (integer b.table n (now b) (at b.differences.given n))
word_before b values before n words h =
    ap (λ (xs : List Answer). word_at xs n) words ∙ at_words b 0 values n h
    ∙ ap (λ j. word_of b.table (at values n) (integer b.table j (now b) (at b.differences.given j))) (omega arith)

-- ---- words of cells

there : {X : Type 0} (xs : List X) (i : ℕ) → i < length xs → (x : X) × (slice_get xs i ≡ Some x)
there [] i h = absurd (omega arith)
there (x ∷ xs) zero h = (x, refl)
there (x ∷ xs) (suc i) h = there xs i (omega arith)

cell_signature : (laws : Laws) (t : Numbers) (g : Lists) (i m : ℕ) → IsGraph g → slice_get g.stores i ≡ Some m
    → stored_signature t.profile t.seed t.step (store_of (cells g) i) ≡ pos (signature t.profile t.seed m) -ℤ pos t.step
cell_signature laws t g i m graph is =
    let within : i < length g.stores = slice_get_within g.stores i m is in
    let l = there g.loads i (omega (arith, graph.all_stored)) in
    ap (λ c. stored_signature t.profile t.seed t.step (store_in c)) (laws.cells.at g.loads g.stores i l.0 m l.1 is)

-- a word with the signature of a STORE and the stamp less the step is one that a LOAD expects at the stamp
of_cell : (s p d x o : ℤ) → o ≡ s -ℤ p → s +ℤ (d -ℤ p) +ℤ x ≡ o +ℤ d +ℤ x
of_cell s p d x o e = omega (arith, ints, e)

cell_read : (laws : Laws) (t : Numbers) (g : Lists) (d : ℤ) (held values differences : List ℤ) (i m : ℕ) → IsGraph g
    → CellsStand t g (d -ℤ pos t.step) held values differences
    → slice_get g.stores i ≡ Some m → at held i ≡ word_of t (at values i)
    (stored_signature t.profile t.seed t.step (store_of (cells g) i) +ℤ d +ℤ at differences i)
cell_read laws t g d held values differences i m graph stand is =
    stand i m is
    ∙ ap (word_of t (at values i)) (of_cell (pos (signature t.profile t.seed m)) (pos t.step) d (at differences i)
    (stored_signature t.profile t.seed t.step (store_of (cells g) i)) (cell_signature laws t g i m graph is))

-- ---- what an operation reads

read_is : (laws : Laws) (t : Numbers) (g : Lists) (d : ℤ) (held : List ℤ) (answers : List Answer) (values differences : Frame) (count : ℕ) (front : List Op)
    (op : Op) (j : ℕ) (k : Kind) → IsGraph g
    → CellsStand t g (d -ℤ pos t.step) held values.held differences.held → AnswersStand t d count answers values.given differences.given → length front ≤ count
    → OperandThere front g.stores k op.imm (named op j)
    → read_word held answers k op.imm (named op j)
    ≡ word_of t (read_as values op j k) (read_signature t.profile t.seed t.step (store_of (cells g) (unsigned_abs op.imm)) k
    (named op j) +ℤ d +ℤ read_as differences op j k)
read_is laws t g d held answers values differences count front op j kind.Load graph cells given few is =
    cell_read laws t g d held values.held differences.held (unsigned_abs op.imm) is.0 graph cells is.1
read_is laws t g d held answers values differences count front op j _ graph cells given few is = given (named op j) (omega (arith, is, few))

-- the operands that are there, by their number
pub link_at : (stores : List ℕ) (front : List Op) (op : Op) → Linked stores front op → (j : ℕ) → nat_lt j (operands op.kind) ≡ true
    → OperandThere front stores op.kind op.imm (named op j)
link_at stores front op link zero h = link.first h
link_at stores front op link (suc zero) h = link.second h
link_at stores front op link (suc (suc j)) h = let third : nat_lt 2 (operands op.kind) ≡ true = grind (arith, nat_tests) in link.third third

choice : {X : Type 0} (b : Bool) (x y z : X) → (b ≡ true → x ≡ y) → cond b x z ≡ cond b y z
choice true x y z h = h refl
choice false x y z h = refl

read_near : (f : Frame) (op : Op) (j : ℕ) (k : Kind) → ((i : ℕ) → Near (at f.held i)) → ((i : ℕ) → Near (at f.given i)) → Near (read_as f op j k)
read_near f op j kind.Load held given = held (unsigned_abs op.imm)
read_near f op j _ held given = given (named op j)

-- Where a cycle has come to: the words of its values so far, before this operation.
record Come (b : Begun) (past : Words) (held values : List ℤ) (before : List Answer) (front : List Op) (op : Op) : Type 0 where
  graph : IsGraph b.graph
  profile : b.table.profile ≡ b.graph.profile
  stands : Stands b past held
  words : before ≡ words_under b 0 values
  many : length before ≡ length values
  count : length values ≡ length front
  inside : length front < length b.graph.operations
  near : (i : ℕ) → Near (at values i)
  link : Linked b.graph.stores front op

operand_is : (laws : Laws) (b : Begun) (past : Words) (held values : List ℤ) (before : List Answer) (front : List Op) (op : Op)
    → Come b past held values before front op → (j : ℕ)
    → OperandStands b.table b.graph b.cycle (course b values) op j
    (cond (nat_lt j (operands op.kind)) (read_word held before op.kind op.imm (named op j)) (pos 0))
operand_is laws b past held values before front op come j =
    choice (nat_lt j (operands op.kind)) _ _ _
    (λ h.
    read_is laws b.table b.graph (now b) held before (record { held = b.held; given = values }) b.differences
    (length values) front op j op.kind come.graph come.stands.cells
    (λ n below. word_before b values before n come.words below) (omega (arith, come.count)) (link_at b.graph.stores front op come.link j h))

-- ---- the word that an act takes

pub and_second : (x y : Bool) → x && y ≡ true → y ≡ true
and_second true y h = h
and_second false y h = absurd (grind (arith, h))

taken_is : (laws : Laws) (b : Begun) (past : Words) (held values : List ℤ) (before : List Answer) (front : List Op) (op : Op)
    → Come b past held values before front op
    → (a : Option Act) → MayStand op.kind (length values) b.cycle a
    → TakenStands b.table b.graph b.cycle (course b values) (length values) op a (taken past before op a)
taken_is laws b past held values before front op come (Some (act.OperandFrom j r)) may =
    let inside : nat_lt r (length values) ≡ true = and_second (nat_lt j (operands op.kind)) (nat_lt r (length values)) may.sited in
    word_before b values before r come.words (grind (arith, nat_tests))
taken_is laws b past held values before front op come (Some (act.OperandStale j)) may =
    let later : nat_lt 0 b.cycle ≡ true = may.timely in
    let after_first : 0 < b.cycle = grind (arith, nat_tests) in
    read_is laws b.table b.graph (stamp_past b.table b.cycle) past.held past.answers b.past b.past_differences
    (length b.graph.operations) front op j op.kind come.graph
    (come.stands.past_cells after_first) (come.stands.past_answers after_first) (omega (arith, come.inside))
    (link_at b.graph.stores front op come.link j may.sited)
taken_is laws b past held values before front op come (Some act.Skip) may =
    let later : nat_lt 0 b.cycle ≡ true = may.timely in
    let after_first : 0 < b.cycle = grind (arith, nat_tests) in
    ap (word_at past.answers) come.many ∙ come.stands.past_answers after_first (length values) (omega (arith, come.count, come.inside))
taken_is laws b past held values before front op come (Some (act.OperandAdd j e)) may = tt
taken_is laws b past held values before front op come (Some (act.ResultAdd e)) may = tt
taken_is laws b past held values before front op come (Some (act.Operator other)) may = tt
taken_is laws b past held values before front op come None may = tt

-- ---- one call

one_answer : (laws : Laws) (b : Begun) (past : Words) (held values : List ℤ) (before : List Answer) (front : List Op) (op : Op)
    → Come b past held values before front op
    → MayStand op.kind (length values) b.cycle (b.acts (length values))
    → at b.differences.given (length values) ≡ difference b.table b.graph b.past_differences b.differences (length values) op (b.acts (length values))
    → right_by (b.acts (length before)) (taken past before op (b.acts (length before))) (call_of (setting_of b held) op before)
    ≡ answer_of b.table.profile (given_by b values op) (modulo b.table.profile
    (integer b.table (length values) (now b) (at b.differences.given (length values))))
one_answer laws b past held values before front op come may solved =
    let s = setting_of b held in
    let reads : ReadsStand b.table b.graph b.cycle b.row (course b values) op (operands_of s op before) = record {
      first = operand_is laws b past held values before front op come 0;
      second = operand_is laws b past held values before front op come 1;
      third = operand_is laws b past held values before front op come 2;
      input = refl;
    } in
    ap (λ k. right_by (b.acts k) (taken past before op (b.acts k)) (operation_call b.graph b.table b.cycle k op (operands_of s op before))) come.many
    ∙ laws.step b.table b.graph b.cycle (length values) b.row (course b values) op (operands_of s op before) (b.acts (length values))
    (taken past before op (b.acts (length values))) come.profile may
    (λ j. read_near (record { held = b.held; given = values }) op j op.kind come.stands.near_cells come.near) reads
    (taken_is laws b past held values before front op come (b.acts (length values)) may)
    ∙ ap (λ (x : ℤ). answer_of b.table.profile (given_by b values op) (modulo b.table.profile (integer b.table (length values) (now b) x))) (sym solved)

-- ---- a whole cycle

-- the answers after one, where it is a word and where it is none
turn_case : (b : Begun) (W : Type 0) (o : Outcome) (next : ℤ → Cycle) (values : List ℤ) (a : Answer) (before answers : List Answer) (r : ℕ) →
    a ≡ answer_of b.table.profile o r → before ≡ words_under b 0 values → cond (is_word a) W (answers ≡ []) →
    ((v : ℤ) → o ≡ Ok v → a ≡ answer_of b.table.profile (Ok v) r → W → before ++ a ∷ answers ≡ answers_under b (next v)) →
    before ++ a ∷ answers ≡ answers_under b (after values next o)
turn_case b W (Ok v) next values a before answers r e words whole rest = rest v refl e (subst (λ x. cond (is_word x) W (answers ≡ [])) e whole)
turn_case b W (Err stop.Range) next values a before answers r e words whole rest =
    let none : answers ≡ [] = subst (λ x. cond (is_word x) W (answers ≡ [])) e whole in rw (e, none, words) refl
turn_case b W (Err stop.DivZero) next values a before answers r e words whole rest =
    let none : answers ≡ [] = subst (λ x. cond (is_word x) W (answers ≡ [])) e whole in rw (e, none, words) refl
turn_case b W (Err stop.Operand) next values a before answers r e words whole rest =
    let none : answers ≡ [] = subst (λ x. cond (is_word x) W (answers ≡ [])) e whole in rw (e, none, words) refl

-- one more value keeps all near
pub near_more : (values : List ℤ) (v : ℤ) → ((i : ℕ) → Near (at values i)) → Near v → (i : ℕ) → Near (at (values ++ v ∷ []) i)
near_more [] v h n zero = n
near_more [] v h n (suc i) = h i
near_more (w ∷ values) v h n zero = h zero
near_more (w ∷ values) v h n (suc i) = near_more values v (λ j. h (suc j)) n i

pub near_if : (o : Outcome) (v : ℤ) → o ≡ Ok v → IfOk o Near → Near v
near_if o v e h = subst (λ (o : Outcome). IfOk o Near) e h

pub one_longer : {X : Type 0} (xs : List X) (x : X) → suc (length xs) ≡ length (xs ++ x ∷ [])
one_longer xs x = omega (arith, length-append xs (x ∷ []))

run_from : (laws : Laws) (b : Begun) (past : Words) (held : List ℤ) (front ops : List Op) (values : List ℤ) (before answers : List Answer) → IsGraph b.graph
    → b.table.profile ≡ b.graph.profile → Stands b past held
    → length front + length ops ≡ length b.graph.operations → Each (Operates (scope b.graph) (length b.graph.turn_nodes)) front ops
    → before ≡ words_under b 0 values → length before ≡ length values
    → length values ≡ length front → ((i : ℕ) → Near (at values i)) → AllStand b.cycle b.acts (length values) ops → Solved b (length values) ops
    → Whole ops answers → RightsUnder (setting_of b held) b.acts past before ops answers
    → before ++ answers ≡ answers_under b (cycle_under_from b values ops)
run_from laws b past held front [] values before [] graph profile stands whole_count fit words many count near may solved whole right = append-nil before
    ∙ words ∙ sym (append-nil (words_under b 0 values))
run_from laws b past held front [] values before (a ∷ answers) graph profile stands whole_count fit words many count near may solved whole right = absurd whole
run_from laws b past held front (op ∷ ops) values before [] graph profile stands whole_count fit words many count near may solved whole right = absurd whole
run_from laws b past held front (op ∷ ops) values before (a ∷ answers) graph profile stands whole_count fit words many count near may solved whole right =
    let come : Come b past held values before front op = record {
      graph = graph;
      profile = profile;
      stands = stands;
      words = words;
      many = many;
      count = count;
      inside = omega (arith, whole_count);
      near = near;
      link = laws.reads.linked b.graph (length b.graph.turn_nodes) front op graph fit.0;
    } in
    let first = right.0 ∙ one_answer laws b past held values before front op come may.0 solved.0 in
    turn_case b (Whole ops answers) (given_by b values op) (λ v. cycle_under_from b (values ++ v ∷ []) ops) values a before answers _ first words whole
    (λ v is e later.
    let index : length values ≡ 0 + length values = omega arith in
    let word : a ≡ answer.Word (word_of b.table v (integer b.table (0 + length values) (now b) (at b.differences.given (0 + length values)))) =
    e ∙ ap (λ k. answer.Word (word_of b.table v (integer b.table k (now b) (at b.differences.given k)))) index in
    sym (append_assoc before (a ∷ []) answers)
    ∙ run_from laws b past held (front ++ op ∷ []) ops (values ++ v ∷ []) (before ++ a ∷ []) answers graph profile stands
    (omega (arith, whole_count, one_longer front op)) fit.1
    (ap (λ (xs : List Answer). xs ++ a ∷ []) words ∙ ap (λ (x : Answer). words_under b 0 values ++ x ∷ []) word ∙ sym (more_words b 0 values v))
    (omega (arith, many, one_longer before a, one_longer values v)) (omega (arith, count, one_longer values v, one_longer front op))
    (near_more values v near
    (near_if (given_by b values op) v is
    (laws.near b.table b.graph b.cycle (length values) b.row (course b values) op (b.acts (length values)) may.0 (stands.near_past (length values)))))
    (subst (λ k. AllStand b.cycle b.acts k ops) (one_longer values v) may.1) (subst (λ k. Solved b k ops) (one_longer values v) solved.1) later right.1)

pub cycle_runs : Laws → CycleRuns
cycle_runs laws b past held answers graph profile may solved stands whole right =
    run_from laws b past held [] b.graph.operations [] [] answers graph profile stands (omega arith) graph.part.operations refl refl refl
    (λ i. zero_near) may solved whole right
