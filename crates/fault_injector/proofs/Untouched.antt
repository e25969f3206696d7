-- Untouched: where nothing is touched, no call is made again, and the answers and the verdict are those of the run without the faults.
use Rattle.std.proofs.Common.{◌≡◌, ℕ, zero, suc, ◌+◌, ◌-◌, ◌<◌, ◌≤◌, ◌==◌, ◌&&◌, ◌||◌, Bool, true, false, cond, nat_lt, List, [], ◌∷◌, ◌++◌, length, map, drop, slice_get, Option, Some, None, ℤ, unsigned_abs, refl, sym, ap, subst, ◌∙◌, arith}
use Rattle.std.specs.Option.{is_some}
use Rattle.std.proofs.lemmas.Bool.{eq-eqb}
use Rattle.std.proofs.lemmas.Bool.Decides.{nat_tests}
use Rattle.std.proofs.lemmas.List.{append_assoc, append-nil, length-append}
use Rattle.vcp_base.specs.declared.kind.Kind.{Kind}
use Rattle.vcp_base.specs.declared.kind.Kind.TheVariants as kind
use Rattle.vcp_base.specs.declared.kind.StopKind.{StopKind}
use Rattle.vcp_base.specs.declared.kind.StopKind.TheVariants as stop
use Rattle.vcp_base.specs.Differences.{Difference, first_difference}
use Rattle.vcp_base.specs.Kinds.{operands, same, same_stop}
use Rattle.coded_unit.specs.declared.call.Answer.{Answer}
use Rattle.op_graph.specs.declared.op.Op.{Op}
use Rattle.op_graph.specs.GraphRun.{Stop}
use Rattle.op_graph.specs.Lists.{Lists}
use Rattle.op_graph.specs.Reads.{named}
use Rattle.signature_table.specs.Signatures.{Numbers}
use Rattle.coded_machine.specs.Calls.{Whole, call_of, is_word}
use Rattle.coded_machine.specs.CycleEnds.{end_of, outputs_of, stored_words}
use Rattle.fault_script.specs.declared.act.Act.{Act}
use Rattle.fault_script.specs.Changes.{Acts}
use Rattle.fault_injector.specs.Accepted.{RefusedAt}
use Rattle.fault_injector.specs.RunLaw.{Words, taken}
use Rattle.fault_injector.specs.declared.verdicts.Verdict.{Verdict}
use Rattle.fault_injector.specs.declared.verdicts.Verdict.TheVariants as verdict
use Rattle.fault_injector.specs.Verdicts.{judged}
use Rattle.fault_injector.specs.Laws.{NoneRefused, AsksNoMore, NothingTouched}
use Rattle.fault_injector.specs.Reruns.{Again, CycleAgain, Part, after_answer, again, and_later, cycle_again, done, go_on, read_cycle, refusal_in, runs_again, source_of, source_touched, stop_in, unless_judged}
use Rattle.fault_injector.specs.Touched.{BeginMarks, Marks, StaysMarked, cycle_marks, given_marks, held_marks, mark, operand_touched, past_touched_stop, reads_touched_as, touched_at}
use Rattle.fault_injector.proofs.ListsOfReruns.{drop_there}
use Rattle.fault_injector.proofs.RowsBeside.{same_self}

-- ---- marks

abbrev NoMark : List Bool → Type 0
NoMark marks = (i : ℕ) → mark marks i ≡ false

no_mark_more : (before : List Bool) (b : Bool) → NoMark before → b ≡ false → NoMark (before ++ b ∷ [])
no_mark_more [] b none h zero = h
no_mark_more [] b none h (suc i) = refl
no_mark_more (x ∷ before) b none h zero = none zero
no_mark_more (x ∷ before) b none h (suc i) = no_mark_more before b (λ j. none (suc j)) h i

and_false : (b x : Bool) → x ≡ false → b && x ≡ false
and_false true x h = h
and_false false x h = refl

all_false : (f a b c d : Bool) → f ≡ false → a ≡ false → b ≡ false → c ≡ false → d ≡ false → f || a || b || c || d ≡ false
all_false true a b c d p q r s t = absurd cc
all_false false true b c d p q r s t = absurd cc
all_false false false true c d p q r s t = absurd cc
all_false false false false true d p q r s t = absurd cc
all_false false false false false d p q r s t = t

reads_untouched : (m : Marks) (op : Op) (j : ℕ) (k : Kind) → NoMark m.held → NoMark m.given → reads_touched_as m op j k ≡ false
reads_untouched m op j kind.Load held given = held (unsigned_abs op.imm)
reads_untouched m op j _ held given = given (named op j)

operand_untouched : (m : Marks) (op : Op) (j : ℕ) → NoMark m.held → NoMark m.given → operand_touched m op j ≡ false
operand_untouched m op j held given = and_false (nat_lt j (operands op.kind)) (reads_touched_as m op j op.kind) (reads_untouched m op j op.kind held given)

either_false : (b x : Bool) → x ≡ false → cond b false x ≡ false
either_false true x h = refl
either_false false x h = h

untouched_at : (other : List Answer) (acts : ℕ → Option Act) (m : Marks) (k : ℕ) (op : Op) → acts k ≡ None → NoMark m.held → NoMark m.given
    → touched_at other acts m k op ≡ false
untouched_at other acts m k op none held given =
    all_false (is_some (acts k)) (operand_touched m op 0) (operand_touched m op 1) (operand_touched m op 2) (past_touched_stop other m.given k)
    (ap is_some none) (operand_untouched m op 0 held given) (operand_untouched m op 1 held given) (operand_untouched m op 2 held given)
    (either_false (nat_lt k (length other)) (mark m.given (length other - 1)) (given (length other - 1)))

none_given : (other : List Answer) (acts : ℕ → Option Act) (held before : List Bool) (k : ℕ) (ops : List Op) → ((i : ℕ) → acts i ≡ None) → NoMark held
    → NoMark before → NoMark (given_marks other acts held before k ops)
none_given other acts held before k [] none h b = b
none_given other acts held before k (op ∷ ops) none h b =
    none_given other acts held (before ++ touched_at other acts (record { held = held; given = before }) k op ∷ []) (k + 1) ops none h
    (no_mark_more before _ b (untouched_at other acts (record { held = held; given = before }) k op (none k) h b))

-- the marks of the first operations, at which no fault is, where no cell is marked
pub front_more : (g : Lists) (acts : ℕ → Option Act) (held before : List Bool) (op : Op) → slice_get g.operations (length before) ≡ Some op
    → acts (length before) ≡ None → NoMark held → NoMark before → BeginMarks g acts held before → BeginMarks g acts held (before ++ false ∷ [])
front_more g acts held before op there none h b begin = λ other.
    let k = length before in
    let rest = drop (k + 1) g.operations in
    let more = length-append before (false ∷ []) in
    let next : k + 1 ≡ length (before ++ false ∷ []) = omega (arith, more) in
    begin other
    ∙ (ap (λ (ops : List Op). given_marks other acts held before k ops) (drop_there g.operations k op there)
    ∙ (ap (λ (m : Bool). given_marks other acts held (before ++ m ∷ []) (k + 1) rest)
    (untouched_at other acts (record { held = held; given = before }) k op none h b)
    ∙ ap (λ (n : ℕ). given_marks other acts held (before ++ false ∷ []) n (drop n g.operations)) next))

pub none_more : (before : List Bool) → NoMark before → NoMark (before ++ false ∷ [])
none_more before none = no_mark_more before false none refl

below_stop : (b x : Bool) → b ≡ true → cond b false x ≡ false
below_stop true x h = refl
below_stop false x h = absurd cc

within_cycle : (other : List Answer) (given : List Bool) (k : ℕ) → k < length other → past_touched_stop other given k ≡ false
within_cycle other given k below = below_stop (nat_lt k (length other)) (mark given (length other - 1)) (grind (arith, nat_tests))

-- in whole cycles without a fault the marks are the same
steady_from : (other also : List Answer) (acts more : ℕ → Option Act) (held before : List Bool) (k : ℕ) (ops : List Op) → k + length ops ≤ length other
    → k + length ops ≤ length also → ((i : ℕ) → acts i ≡ None) → ((i : ℕ) → more i ≡ None)
    → given_marks other acts held before k ops ≡ given_marks also more held before k ops
steady_from other also acts more held before k [] few fewer none nor = refl
steady_from other also acts more held before k (op ∷ ops) few fewer none nor =
    let m : Marks = record { held = held; given = before } in
    let same : touched_at other acts m k op ≡ touched_at also more m k op =
    ap (λ (a : Option Act). is_some a || operand_touched m op 0 || operand_touched m op 1 || operand_touched m op 2 || past_touched_stop other before k)
    (none k ∙ sym (nor k))
    ∙ ap (λ (s : Bool). is_some (more k) || operand_touched m op 0 || operand_touched m op 1 || operand_touched m op 2 || s)
    (within_cycle other before k (omega (arith, few)) ∙ sym (within_cycle also before k (omega (arith, fewer)))) in
    ap (λ (b : Bool). given_marks other acts held (before ++ b ∷ []) (k + 1) ops) same
    ∙ steady_from other also acts more held (before ++ touched_at also more m k op ∷ []) (k + 1) ops (omega (arith, few)) (omega (arith, fewer)) none nor

pub stays_marked : (g : Lists) (other : List Answer) (acts : ℕ → Option Act) (held marks : List Bool) → length g.operations ≤ length other
    → ((k : ℕ) → acts k ≡ None) → marks ≡ (cycle_marks g other acts held).given → StaysMarked g held marks
stays_marked g other acts held marks whole none are = λ also more enough nor.
    steady_from also other more acts held [] 0 g.operations (omega (arith, enough)) (omega (arith, whole)) nor none ∙ sym are

pub none_touched : (g : Lists) (other : List Answer) (acts : ℕ → Option Act) (cell_marks : List Bool) → NothingTouched acts cell_marks
    → NoMark (cycle_marks g other acts cell_marks).given
none_touched g other acts cell_marks u = none_given other acts cell_marks [] 0 g.operations u.no_fault u.cells (λ i. refl)

stores_untouched : (given : List Bool) (stores : List ℕ) → NoMark given → NoMark (map (λ n. mark given n) stores)
stores_untouched given [] none i = refl
stores_untouched given (n ∷ stores) none zero = none n
stores_untouched given (n ∷ stores) none (suc i) = stores_untouched given stores none i

pub none_held : (g : Lists) (other : List Answer) (acts : ℕ → Option Act) (cell_marks : List Bool) → NothingTouched acts cell_marks
    → NoMark (held_marks g (cycle_marks g other acts cell_marks).given)
none_held g other acts cell_marks u = stores_untouched (cycle_marks g other acts cell_marks).given g.stores (none_touched g other acts cell_marks u)

-- ---- one cycle

seam : (xs : List Answer) (x : Answer) (ys : List Answer) → slice_get (xs ++ x ∷ ys) (length xs) ≡ Some x
seam [] x ys = refl
seam (y ∷ xs) x ys = seam xs x ys

word_goes : (x : Answer) (ops : List Op) (rest : List Answer) → is_word x ≡ true → cond (is_word x) (Whole ops rest) (rest ≡ []) → Whole ops rest
word_goes x ops rest e whole = subst (λ (b : Bool). cond b (Whole ops rest) (rest ≡ [])) e whole

stop_ends : (x : Answer) (ops : List Op) (rest : List Answer) → is_word x ≡ false → cond (is_word x) (Whole ops rest) (rest ≡ []) → rest ≡ []
stop_ends x ops rest e whole = subst (λ (b : Bool). cond b (Whole ops rest) (rest ≡ [])) e whole

after_same : (c : CycleAgain) (before : List Answer) (x : Answer) (rest left : List Answer) (ops : List Op) (b : Bool) → is_word x ≡ b
    → c.other ≡ before ++ x ∷ rest → cond (is_word x) (Whole ops rest) (rest ≡ [])
    → (c.other ≡ (before ++ x ∷ []) ++ rest → Whole ops rest → again c (before ++ x ∷ []) ops left ≡ done c.other left)
    → after_answer b (before ++ x ∷ []) (λ left. again c (before ++ x ∷ []) ops left) left ≡ done c.other left
after_same c before x rest left ops true e is whole goes = goes (is ∙ sym (append_assoc before (x ∷ []) rest)) (word_goes x ops rest e whole)
after_same c before x rest left ops false e is whole goes =
    ap (λ (own : List Answer). done own left) (sym (is ∙ ap (λ (ys : List Answer). before ++ x ∷ ys) (stop_ends x ops rest e whole)))

again_same : (c : CycleAgain) (ops : List Op) (before rest left : List Answer) → NoMark c.touched → c.other ≡ before ++ rest → Whole ops rest
    → again c before ops left ≡ done c.other left
again_same c [] before [] left none is whole = ap (λ (own : List Answer). done own left) (sym (is ∙ append-nil before))
again_same c [] before (x ∷ rest) left none is whole = absurd whole
again_same c (op ∷ ops) before [] left none is whole = absurd whole
again_same c (op ∷ ops) before (x ∷ rest) left none is whole =
    let k = length before in
    let next : Answer → List Answer → Part = λ a left. after_answer (is_word a) (before ++ a ∷ []) (λ left. again c (before ++ a ∷ []) ops left) left in
    let asks = source_touched (c.acts k) (taken c.past before op (c.acts k)) (call_of c.setting op before) in
    let there : slice_get c.other k ≡ Some x = ap (λ (xs : List Answer). slice_get xs k) is ∙ seam before x rest in
    ap (λ (b : Bool). go_on before (cond b asks (source_of (slice_get c.other k))) next left) (none k)
    ∙ (ap (λ (y : Option Answer). go_on before (source_of y) next left) there
    ∙ after_same c before x rest left ops (is_word x) refl is whole
    (λ is_next whole_next. again_same c ops (before ++ x ∷ []) rest left none is_next whole_next))

pub cycle_same : (t : Numbers) (g : Lists) (acts : Acts) (n : ℕ) (past : Words) (held : List ℤ) (cell_marks : List Bool) (row : List ℤ)
    (other left : List Answer) → Whole g.operations other → NothingTouched (acts n) cell_marks
    → again (cycle_again t g acts n past held cell_marks row other) [] g.operations left ≡ done other left
cycle_same t g acts n past held cell_marks row other left whole u =
    again_same (cycle_again t g acts n past held cell_marks row other) g.operations [] other left (none_touched g other (acts n) cell_marks u) refl whole

-- ---- its verdict

pub row_same : (row : List ℤ) (number : ℕ) → first_difference row row number ≡ None
row_same [] number = refl
row_same (x ∷ row) number =
    ap (λ (b : Bool). cond b (first_difference row row (suc number)) (Some (record { place = number; first = x; second = x }))) (same_self x)
    ∙ row_same row (suc number)

kind_same : (k : StopKind) → same_stop k k ≡ true
kind_same stop.Range = refl
kind_same stop.DivZero = refl
kind_same stop.Operand = refl

both : (a b : Bool) → a ≡ true → b ≡ true → a && b ≡ true
both true b h e = e
both false b h e = absurd cc

stop_same : (n : ℕ) (s : Stop) (r : Option RefusedAt) (w : Option Difference) → judged n (Some s) r (Some s) w ≡ Some verdict.Same
stop_same n s r w =
    ap (λ (b : Bool). Some (cond b verdict.Same (verdict.Stopped n s.op s.kind)))
    (both (s.op == s.op) (same_stop s.kind s.kind) (eq-eqb s.op s.op refl) (kind_same s.kind))

-- the verdict is Same, or there is none
abbrev SameOrNone : Option Verdict → Type 0
SameOrNone None = Unit {0}
SameOrNone (Some v) = v ≡ verdict.Same

judged_same : (n : ℕ) (s : Option Stop) (r : Option RefusedAt) (w : Option Difference) → r ≡ None → w ≡ None → SameOrNone (judged n s r s w)
judged_same n (Some s) r w e f = subst SameOrNone (sym (stop_same n s r w)) refl
judged_same n None None None e f = tt
judged_same n None None (Some w) e f = absurd cc
judged_same n None (Some r) w e f = absurd cc

read_same : (g : Lists) (t : Numbers) (n : ℕ) (other : List Answer) → refusal_in (end_of g t n other) ≡ None → SameOrNone (read_cycle g t n other other)
read_same g t n other none =
    judged_same n (stop_in (end_of g t n other)) (refusal_in (end_of g t n other)) (first_difference (outputs_of g other) (outputs_of g other) 0) none
    (row_same (outputs_of g other) 0)

-- ---- whole runs

no_more_then : (v : Option Verdict) (other left : List Answer) (next : List Answer → Again) → SameOrNone v → AsksNoMore (next left) left
    → AsksNoMore (unless_judged false v (done other left) next) left
no_more_then (Some v) other left next same later = record { none = refl; same_is = same; left_is = refl; enough = refl }
no_more_then None other left next same later =
    record { none = later.none; same_is = later.same_is; left_is = later.left_is; enough = later.enough }

pub asks_no_more : (t : Numbers) (g : Lists) (acts : Acts) (rows : List (List ℤ)) (others : List (List Answer)) (n : ℕ) (past : Words) (held : List ℤ)
    (cell_marks : List Bool) (left : List Answer) → ((i : ℕ) → mark cell_marks i ≡ false) → ((m k : ℕ) → n ≤ m → m < n + length others → acts m k ≡ None)
    → NoneRefused g t n others → AsksNoMore (runs_again t g acts n past held cell_marks rows others left) left
asks_no_more t g acts [] others n past held cell_marks left cells none ends = record { none = refl; same_is = refl; left_is = refl; enough = refl }
asks_no_more t g acts (row ∷ rows) [] n past held cell_marks left cells none ends = record { none = refl; same_is = refl; left_is = refl; enough = refl }
asks_no_more t g acts (row ∷ rows) (other ∷ others) n past held cell_marks left cells none ends =
    let u : NothingTouched (acts n) cell_marks = record { cells = cells; no_fault = λ k. none n k (omega arith) (omega arith) } in
    let marks = held_marks g (cycle_marks g other (acts n) cell_marks).given in
    let next : List Answer → List Answer → Again =
    λ own left. runs_again t g acts (suc n) (record { held = held; answers = own }) (stored_words g own) marks rows others left in
    let later = asks_no_more t g acts rows others (suc n) (record { held = held; answers = other }) (stored_words g other) marks left
    (none_held g other (acts n) cell_marks u) (λ m k above below. none m k (omega (arith, above)) (omega (arith, below))) ends.2 in
    subst (λ (part : Part). AsksNoMore (and_later (λ own. read_cycle g t n own other) next part) left)
    (sym (cycle_same t g acts n past held cell_marks row other left ends.0 u))
    (no_more_then (read_cycle g t n other other) other left (next other) (read_same g t n other ends.1) later)
