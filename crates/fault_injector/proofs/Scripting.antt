-- Scripting: a scripted unit keeps the words that its acts take, and so its answers are those that the run law speaks of.
use Rattle.std.proofs.Common.{◌≡◌, ℕ, zero, suc, ◌+◌, ◌<◌, ◌≤◌, ◌==◌, ◌&&◌, Bool, true, false, cond, nat_lt, List, [], ◌∷◌, ◌++◌, length, slice_get}
use Rattle.std.proofs.Common.{All, Option, Some, None, ℤ, pos, refl, sym, ap, subst, ◌∙◌, arith, eqb-true}
use Rattle.std.proofs.lemmas.Bool.{eq-eqb, false≢true}
use Rattle.std.proofs.lemmas.Bool.Decides.{nat_tests}
use Rattle.std.proofs.lemmas.List.{append_assoc, append-nil, get_or_append_left}
use Rattle.std.proofs.lemmas.List.Elements.{All-head, All-tail}
use Rattle.std.proofs.lemmas.Option.{slice_get_within}
use Rattle.vcp_base.specs.declared.kind.Kind.{Kind}
use Rattle.vcp_base.specs.declared.kind.Kind.TheVariants as kind
use Rattle.vcp_base.specs.Kinds.{operands}
use Rattle.coded_unit.specs.declared.call.Call.{Call}
use Rattle.coded_unit.specs.declared.call.Answer.{Answer}
use Rattle.coded_unit.specs.declared.call.Answer.TheVariants as answer
use Rattle.op_graph.specs.declared.op.Op.{Op}
use Rattle.op_graph.specs.Laws.{ReadLaws}
use Rattle.op_graph.specs.Lists.{Lists}
use Rattle.op_graph.specs.Reads.{named}
use Rattle.op_graph.specs.Rules.{IsGraph}
use Rattle.signature_table.specs.Signatures.{Numbers}
use Rattle.coded_machine.specs.Calls.{Setting, AllWords, Whole, call_of, is_word, word_at, read_word}
use Rattle.coded_machine.specs.Calls.{word_of as word_in}
use Rattle.coded_machine.specs.CycleEnds.{initial_words, stored_words}
use Rattle.coded_machine.specs.Runs.{setting_at}
use Rattle.fault_script.specs.declared.act.Act.{Act}
use Rattle.fault_script.specs.declared.act.Act.TheVariants as act
use Rattle.fault_script.specs.declared.act.Fault.{Fault}
use Rattle.fault_script.specs.Changes.{acts_of, act_at_call, act_with, operand_word, word_of, takes_word, is_call_of, is_call_before, kept_at_call, kept_by, kept_after, none_kept}
use Rattle.fault_script.specs.Fits.{Fits, is_sited, is_timely}
use Rattle.fault_injector.specs.Scripts.{right_by, right_under, word}
use Rattle.fault_injector.specs.RunLaw.{Words, taken, RightsUnder, RightRun, no_words}
use Rattle.fault_injector.specs.ScriptedRun.{ScriptedCycle, kept_through, ScriptedRun, ScriptedRunsAreRight}
use Rattle.fault_injector.proofs.AloneRun.{Behind, behind}
use Rattle.fault_injector.proofs.CycleRun.{and_second, one_longer}
use Rattle.fault_injector.proofs.EndsRead.{same_test}

-- ---- lists of answers

word_stays : (before : List Answer) (a : Answer) (i : ℕ) → i < length before → word_at (before ++ a ∷ []) i ≡ word_at before i
word_stays before a i below = ap word_in (get_or_append_left before (a ∷ []) answer.Operand i below)

word_last : (before : List Answer) (a : Answer) → word_at (before ++ a ∷ []) (length before) ≡ word_in a
word_last [] a = refl
word_last (b ∷ before) a = word_last before a

read_stays : (held : List ℤ) (before : List Answer) (a : Answer) (k : Kind) (imm : ℤ) (n q : ℕ) → Behind k n q → q ≤ length before
    → read_word held (before ++ a ∷ []) k imm n ≡ read_word held before k imm n
read_stays held before a kind.Load imm n q b few = refl
read_stays held before a _ imm n q b few = word_stays before a n (omega (arith, b, few))

given_word : (a : Answer) (kept : Option ℤ) → is_word a ≡ true → word_of a kept ≡ Some (word_in a)
given_word (answer.Word w) kept h = refl
given_word answer.Range kept h = absurd (false≢true h)
given_word answer.DivZero kept h = absurd (false≢true h)
given_word answer.Operand kept h = absurd (false≢true h)

-- ---- the words that are kept

-- Of the operation `op` of a fault: what has been kept for its act, in cycle n after these answers.
abbrev KeptIs : Fault → Op → ℕ → Words → List ℤ → List Answer → Option ℤ → Act → Type 0
KeptIs f op n past held before kept (act.OperandFrom j r) = f.cycle ≡ n → r < length before → kept ≡ Some (word_at before r)
KeptIs f op n past held before kept (act.OperandStale j) =
    (f.cycle ≡ n → kept ≡ Some (read_word past.held past.answers op.kind op.imm (named op j)))
    × (f.cycle ≡ suc n → f.op < length before → kept ≡ Some (read_word held before op.kind op.imm (named op j)))
KeptIs f op n past held before kept act.Skip =
    (f.cycle ≡ n → kept ≡ Some (word_at past.answers f.op)) × (f.cycle ≡ suc n → f.op < length before → kept ≡ Some (word_at before f.op))
KeptIs f op n past held before kept (act.OperandAdd j e) = Unit {0}
KeptIs f op n past held before kept (act.ResultAdd e) = Unit {0}
KeptIs f op n past held before kept (act.Operator other) = Unit {0}

-- the operand of a call that the operation reads
operand_read : (s : Setting) (op : Op) (before : List Answer) (j : ℕ) → nat_lt j (operands op.kind) ≡ true
    → operand_word (call_of s op before) j ≡ read_word s.held before op.kind op.imm (named op j)
operand_read s op before zero h = ap (λ (b : Bool). cond b (read_word s.held before op.kind op.imm op.a) (pos 0)) h
operand_read s op before (suc zero) h = ap (λ (b : Bool). cond b (read_word s.held before op.kind op.imm op.b) (pos 0)) h
operand_read s op before (suc (suc j)) h =
    let third : nat_lt 2 (operands op.kind) ≡ true = grind (arith, nat_tests) in
    ap (λ (b : Bool). cond b (read_word s.held before op.kind op.imm op.c) (pos 0)) third

pick : {X : Type 0} (b : Bool) (x y : X) → b ≡ true → cond b x y ≡ x
pick b x y e = ap (λ (b : Bool). cond b x y) e

leave : {X : Type 0} (b : Bool) (x y : X) → b ≡ false → cond b x y ≡ y
leave b x y e = ap (λ (b : Bool). cond b x y) e

both : (x y : Bool) → x ≡ true → y ≡ true → (x && y) ≡ true
both x y e h = ap (λ (b : Bool). b && y) e ∙ h

not_first : (x y : Bool) → x ≡ false → (x && y) ≡ false
not_first x y e = ap (λ (b : Bool). b && y) e

not_second : (x y : Bool) → y ≡ false → (x && y) ≡ false
not_second true y e = e
not_second false y e = refl

same_some : (a : Option Op) (x y : Op) → a ≡ Some x → a ≡ Some y → x ≡ y
same_some a x y e f = cc

-- the fault's operation, where it is this one
own_op : (g : Lists) (f : Fault) (fits : Fits g f) (k : ℕ) (op : Op) → slice_get g.operations k ≡ Some op → f.op ≡ k → fits.op ≡ op
own_op g f fits k op here e = same_some (slice_get g.operations f.op) fits.op op fits.there (ap (slice_get g.operations) e ∙ here)

-- ---- one call more

from_case : (g : Lists) (t : Numbers) (f : Fault) (n : ℕ) (held row : List ℤ) (before : List Answer) (kept : Option ℤ) (op : Op) (a : Answer) (r : ℕ)
    → is_word a ≡ true → f.cycle ≡ n → r < length (before ++ a ∷ [])
    → (r < length before → kept ≡ Some (word_at before r)) → (b : Bool) → (length before == r) ≡ b
    → cond (is_call_of f.cycle r (call_of (setting_at g t n held row) op before)) (word_of a kept) kept ≡ Some (word_at (before ++ a ∷ []) r)
from_case g t f n held row before kept op a r w e below is true h =
    pick _ (word_of a kept) kept (both (n == f.cycle) (length before == r) (eq-eqb n f.cycle (sym e)) h)
    ∙ (given_word a kept w ∙ ap Some (sym (word_last before a) ∙ ap (word_at (before ++ a ∷ [])) (eqb-true (length before) r h)))
from_case g t f n held row before kept op a r w e below is false h =
    let longer = one_longer before a in
    let inside : r < length before = grind (arith, nat_tests, longer) in
    leave _ (word_of a kept) kept (not_second (n == f.cycle) (length before == r) h) ∙ (is inside ∙ ap Some (sym (word_stays before a r inside)))

-- in the fault's own cycle nothing is kept for `stale` and `skip`
own_cycle : (g : Lists) (t : Numbers) (f : Fault) (n : ℕ) (held row : List ℤ) (before : List Answer) (kept new : Option ℤ) (op : Op) → f.cycle ≡ n
    → cond (is_call_before f.cycle f.op (call_of (setting_at g t n held row) op before)) new kept ≡ kept
own_cycle g t f n held row before kept new op e =
    let other : ((n + 1) == f.cycle) ≡ false = grind (arith, nat_tests) in
    leave _ new kept (not_first ((n + 1) == f.cycle) (length before == f.op) other)

-- in the cycle before, the word of the fault's own operation is kept, and stays
cycle_before : (g : Lists) (t : Numbers) (f : Fault) (n : ℕ) (held row : List ℤ) (before : List Answer) (a : Answer) (kept new : Option ℤ) (op : Op)
    (old whole : ℤ) → f.cycle ≡ suc n → f.op < length (before ++ a ∷ [])
    → (f.op < length before → kept ≡ Some old) → (f.op < length before → old ≡ whole) → (f.op ≡ length before → new ≡ Some whole) → (b : Bool)
    → (length before == f.op) ≡ b
    → cond (is_call_before f.cycle f.op (call_of (setting_at g t n held row) op before)) new kept ≡ Some whole
cycle_before g t f n held row before a kept new op old whole e below is stays made true h =
    pick _ new kept (both ((n + 1) == f.cycle) (length before == f.op) (eq-eqb (n + 1) f.cycle (omega (arith, e))) h)
    ∙ made (sym (eqb-true (length before) f.op h))
cycle_before g t f n held row before a kept new op old whole e below is stays made false h =
    let longer = one_longer before a in
    let inside : f.op < length before = grind (arith, nat_tests, longer) in
    leave _ new kept (not_second ((n + 1) == f.cycle) (length before == f.op) h) ∙ (is inside ∙ ap Some (stays inside))

goes_on : (reads : ReadLaws) (t : Numbers) (g : Lists) (f : Fault) (fits : Fits g f) (n : ℕ) (past : Words) (held row : List ℤ) (before : List Answer)
    (kept : Option ℤ) (op : Op) (a : Answer) → IsGraph g
    → slice_get g.operations (length before) ≡ Some op → is_word a ≡ true → (x : Act) → is_sited fits.op.kind f.op x ≡ true
    → KeptIs f fits.op n past held before kept x
    → KeptIs f fits.op n past held (before ++ a ∷ []) (kept_by f x kept (call_of (setting_at g t n held row) op before) a) x
goes_on reads t g f fits n past held row before kept op a graph here w (act.OperandFrom j r) sited is =
    λ e below. from_case g t f n held row before kept op a r w e below (is e) (length before == r) refl
goes_on reads t g f fits n past held row before kept op a graph here w (act.OperandStale j) sited is =
    let call = call_of (setting_at g t n held row) op before in
    let back = behind reads g f.op fits.op j graph fits.there sited in
    let stays : f.op ≤ length before → read_word held (before ++ a ∷ []) fits.op.kind fits.op.imm
    (named fits.op j) ≡ read_word held before fits.op.kind fits.op.imm (named fits.op j) =
    λ few. read_stays held before a fits.op.kind fits.op.imm (named fits.op j) f.op back few in (
      λ e. own_cycle g t f n held row before kept (Some (operand_word call j)) op e ∙ is.0 e,
      λ e below.
          cycle_before g t f n held row before a kept (Some (operand_word call j)) op (read_word held before fits.op.kind fits.op.imm (named fits.op j))
          (read_word held (before ++ a ∷ []) fits.op.kind fits.op.imm (named fits.op j)) e below (is.1 e) (λ inside. sym (stays (omega (arith, inside))))
          (λ same.
          let own : fits.op ≡ op = own_op g f fits (length before) op here same in
          ap Some
          (operand_read (setting_at g t n held row) op before j (ap (λ (o : Op). nat_lt j (operands o.kind)) (sym own) ∙ sited)
          ∙ (ap (λ (o : Op). read_word held before o.kind o.imm (named o j)) (sym own) ∙ sym (stays (omega (arith, same))))))
          (length before == f.op) refl,
    )
goes_on reads t g f fits n past held row before kept op a graph here w act.Skip sited is = (
  λ e. own_cycle g t f n held row before kept (word_of a kept) op e ∙ is.0 e,
  λ e below.
      cycle_before g t f n held row before a kept (word_of a kept) op (word_at before f.op) (word_at (before ++ a ∷ []) f.op) e below (is.1 e)
      (λ inside. sym (word_stays before a f.op inside))
      (λ same. given_word a kept w ∙ ap Some (sym (word_last before a) ∙ ap (word_at (before ++ a ∷ [])) (sym same))) (length before == f.op) refl,
)
goes_on reads t g f fits n past held row before kept op a graph here w (act.OperandAdd j e) sited is = tt
goes_on reads t g f fits n past held row before kept op a graph here w (act.ResultAdd e) sited is = tt
goes_on reads t g f fits n past held row before kept op a graph here w (act.Operator other) sited is = tt

-- ---- the answer to one call

kept_taken : (g : Lists) (f : Fault) (fits : Fits g f) (n : ℕ) (past : Words) (held : List ℤ) (before : List Answer) (kept : Option ℤ) (op : Op)
    → f.cycle ≡ n → f.op ≡ length before → fits.op ≡ op → (x : Act)
    → is_sited fits.op.kind f.op x ≡ true → KeptIs f fits.op n past held before kept x → takes_word x ≡ true → kept ≡ Some (taken past before op (Some x))
kept_taken g f fits n past held before kept op e place own (act.OperandFrom j r) sited is takes =
    let inside : nat_lt r f.op ≡ true = and_second (nat_lt j (operands fits.op.kind)) (nat_lt r f.op) sited in
    is e (grind (arith, nat_tests))
kept_taken g f fits n past held before kept op e place own (act.OperandStale j) sited is takes =
    is.0 e ∙ ap (λ (o : Op). Some (read_word past.held past.answers o.kind o.imm (named o j))) own
kept_taken g f fits n past held before kept op e place own act.Skip sited is takes = is.0 e ∙ ap (λ k. Some (word_at past.answers k)) place
kept_taken g f fits n past held before kept op e place own (act.OperandAdd j z) sited is takes = absurd (false≢true takes)
kept_taken g f fits n past held before kept op e place own (act.ResultAdd z) sited is takes = absurd (false≢true takes)
kept_taken g f fits n past held before kept op e place own (act.Operator other) sited is takes = absurd (false≢true takes)

-- an act that is carried out takes its word
carried : (kept : Option ℤ) (call : Call) (x : Act) (w : ℤ) → (takes_word x ≡ true → kept ≡ Some w)
    → right_by (act_with x kept) (word kept) call ≡ right_by (Some x) w call
carried kept call (act.OperandFrom j r) w h = ap (λ (k : Option ℤ). right_by (act_with (act.OperandFrom j r) k) (word k) call) (h refl)
carried kept call (act.OperandStale j) w h = ap (λ (k : Option ℤ). right_by (act_with (act.OperandStale j) k) (word k) call) (h refl)
carried kept call act.Skip w h = ap (λ (k : Option ℤ). right_by (act_with act.Skip k) (word k) call) (h refl)
carried kept call (act.OperandAdd j e) w h = refl
carried kept call (act.ResultAdd e) w h = refl
carried kept call (act.Operator other) w h = refl

flipped : (x y : ℕ) → (x == y) ≡ (y == x)
flipped x y = same_test x y y x (x == y) (y == x) refl refl sym sym

two_flipped : (x y u w : ℕ) → (x == y && u == w) ≡ (y == x && w == u)
two_flipped x y u w = ap (λ (b : Bool). b && u == w) (flipped x y) ∙ ap (λ (b : Bool). y == x && b) (flipped u w)

and_one : (x y : Bool) → (x && y) ≡ true → x ≡ true
and_one true y h = refl
and_one false y h = h

-- ---- the words that a group keeps

-- what has been kept for each fault of a group, in cycle n after these answers
abbrev AllKept : Lists → List Fault → ℕ → Words → List ℤ → List Answer → List (Option ℤ) → Type 0
AllKept g [] n past held before keeps = Unit {0}
AllKept g (f ∷ faults) n past held before [] = ⊥
AllKept g (f ∷ faults) n past held before (kept ∷ keeps) =
    ((fits : Fits g f) × KeptIs f fits.op n past held before kept f.act) × AllKept g faults n past held before keeps

all_go_on : (reads : ReadLaws) (t : Numbers) (g : Lists) (faults : List Fault) (n : ℕ) (past : Words) (held row : List ℤ) (before : List Answer)
    (keeps : List (Option ℤ)) (op : Op) (a : Answer) → IsGraph g
    → slice_get g.operations (length before) ≡ Some op → is_word a ≡ true → AllKept g faults n past held before keeps
    → AllKept g faults n past held (before ++ a ∷ []) (kept_after faults keeps (call_of (setting_at g t n held row) op before) a)
all_go_on reads t g [] n past held row before keeps op a graph here w is = tt
all_go_on reads t g (f ∷ faults) n past held row before [] op a graph here w is = absurd is
all_go_on reads t g (f ∷ faults) n past held row before (kept ∷ keeps) op a graph here w is =
    let fits = is.0.0 in (
      (fits, goes_on reads t g f fits n past held row before kept op a graph here w f.act fits.act.sited is.0.1),
      all_go_on reads t g faults n past held row before keeps op a graph here w is.1,
    )

-- at the fault's call its act is carried out, and at any other one that of a later fault
in_case : (g : Lists) (t : Numbers) (f : Fault) (fits : Fits g f) (n : ℕ) (past : Words) (held row : List ℤ) (before : List Answer) (kept : Option ℤ)
    (op : Op) (later_act act : Option Act) (later_kept : Option ℤ) → slice_get g.operations (length before) ≡ Some op
    → KeptIs f fits.op n past held before kept f.act
    → right_by later_act (word later_kept) (call_of (setting_at g t n held row) op before)
    ≡ right_by act (taken past before op act) (call_of (setting_at g t n held row) op before)
    → (b : Bool) → (n == f.cycle && length before == f.op) ≡ b
    → right_by (cond b (act_with f.act kept) later_act) (word (cond b kept later_kept)) (call_of (setting_at g t n held row) op before)
    ≡ right_by (cond b (Some f.act) act) (taken past before op (cond b (Some f.act) act)) (call_of (setting_at g t n held row) op before)
in_case g t f fits n past held row before kept op later_act act later_kept here is later true h =
    let cycle : n ≡ f.cycle = eqb-true n f.cycle (and_one (n == f.cycle) (length before == f.op) h) in
    let place : length before ≡ f.op = eqb-true (length before) f.op (and_second (n == f.cycle) (length before == f.op) h) in
    carried kept (call_of (setting_at g t n held row) op before) f.act (taken past before op (Some f.act))
    (kept_taken g f fits n past held before kept op (sym cycle) (sym place) (own_op g f fits (length before) op here (sym place)) f.act fits.act.sited is)
in_case g t f fits n past held row before kept op later_act act later_kept here is later false h = later

right_case : (g : Lists) (t : Numbers) (faults : List Fault) (n : ℕ) (past : Words) (held row : List ℤ) (before : List Answer) (keeps : List (Option ℤ))
    (op : Op) → slice_get g.operations (length before) ≡ Some op → AllKept g faults n past held before keeps
    → right_under faults keeps (call_of (setting_at g t n held row) op before)
    ≡ right_by (acts_of faults n (length before)) (taken past before op (acts_of faults n (length before))) (call_of (setting_at g t n held row) op before)
right_case g t [] n past held row before keeps op here is = refl
right_case g t (f ∷ faults) n past held row before [] op here is = absurd is
right_case g t (f ∷ faults) n past held row before (kept ∷ keeps) op here is =
    let call = call_of (setting_at g t n held row) op before in
    let acts = acts_of faults n (length before) in
    let b = n == f.cycle && length before == f.op in
    in_case g t f is.0.0 n past held row before kept op (act_at_call faults keeps call) acts (kept_at_call faults keeps call) here is.0.1
    (right_case g t faults n past held row before keeps op here is.1) b refl
    ∙ ap (λ (c : Bool). right_by (cond c (Some f.act) acts) (taken past before op (cond c (Some f.act) acts)) call)
    (two_flipped n f.cycle (length before) f.op)

-- ---- a whole cycle

-- what a cycle through the scripted unit comes to: the right answers with the changes, and what is kept after a cycle of words
record Through (g : Lists) (t : Numbers) (faults : List Fault) (n : ℕ) (past : Words) (held row : List ℤ) (keeps : List (Option ℤ))
    (before : List Answer) (ops : List Op) (answers : List Answer) : Type 0 where
  rights : RightsUnder (setting_at g t n held row) (acts_of faults n) past before ops answers
  later : AllWords answers → AllKept g faults n past held (before ++ answers) (kept_through faults (setting_at g t n held row) keeps before ops answers)

-- after one call more: the run of the cycle goes on where its answer is a word
turn : (g : Lists) (t : Numbers) (faults : List Fault) (n : ℕ) (past : Words) (held row : List ℤ) (op : Op) (ops : List Op) (keeps : List (Option ℤ))
    (before : List Answer) (a : Answer) (answers : List Answer)
    → a ≡ right_by (acts_of faults n (length before)) (taken past before op (acts_of faults n (length before)))
    (call_of (setting_at g t n held row) op before)
    → (is_word a ≡ true → Whole ops answers → Through g t faults n past held row (kept_after faults keeps (call_of (setting_at g t n held row) op before) a)
    (before ++ a ∷ []) ops answers)
    → (b : Bool) → is_word a ≡ b → cond b (Whole ops answers) (answers ≡ []) → Through g t faults n past held row keeps before (op ∷ ops) (a ∷ answers)
turn g t faults n past held row op ops keeps before a answers first more true w whole =
    let rest = more w whole in
    record {
      rights = (first, rest.rights);
      later = λ words.
          subst (λ (xs : List Answer). AllKept g faults n past held xs (kept_through faults (setting_at g t n held row) keeps before (op ∷ ops) (a ∷ answers)))
          (append_assoc before (a ∷ []) answers) (rest.later words.1);
    }
turn g t faults n past held row op ops keeps before a answers first more false w none =
    record {
      rights = (first, subst (λ (xs : List Answer). RightsUnder (setting_at g t n held row) (acts_of faults n) past (before ++ a ∷ []) ops xs) (sym none) tt);
      later = λ words. absurd (false≢true (sym w ∙ words.0));
    }

through : (reads : ReadLaws) (t : Numbers) (g : Lists) (faults : List Fault) (n : ℕ) (past : Words) (held row : List ℤ) (ops : List Op)
    (keeps : List (Option ℤ)) (before answers : List Answer) → IsGraph g
    → ((i : ℕ) (o : Op) → slice_get ops i ≡ Some o → slice_get g.operations (length before + i) ≡ Some o) → AllKept g faults n past held before keeps
    → Whole ops answers
    → ScriptedCycle faults (setting_at g t n held row) keeps before ops answers → Through g t faults n past held row keeps before ops answers
through reads t g faults n past held row [] keeps before [] graph there is whole scripted =
    record { rights = tt; later = λ words. subst (λ (xs : List Answer). AllKept g faults n past held xs keeps) (sym (append-nil before)) is }
through reads t g faults n past held row [] keeps before (a ∷ answers) graph there is whole scripted = absurd whole
through reads t g faults n past held row (op ∷ ops) keeps before [] graph there is whole scripted = absurd whole
through reads t g faults n past held row (op ∷ ops) keeps before (a ∷ answers) graph there is whole scripted =
    let here : slice_get g.operations (length before) ≡ Some op = ap (slice_get g.operations) (omega arith) ∙ there 0 op refl in
    let call = call_of (setting_at g t n held row) op before in
    turn g t faults n past held row op ops keeps before a answers (scripted.0 ∙ right_case g t faults n past held row before keeps op here is)
    (λ w rest.
    through reads t g faults n past held row ops (kept_after faults keeps call a) (before ++ a ∷ []) answers graph
    (λ i o e. let place : length (before ++ a ∷ []) + i ≡ length before + suc i = omega (arith, one_longer before a) in ap (slice_get g.operations) place
    ∙ there (suc i) o e)
    (all_go_on reads t g faults n past held row before keeps op a graph here w is) rest scripted.1)
    (is_word a) refl whole

-- ---- whole runs

whole_length : (ops : List Op) (answers : List Answer) → Whole ops answers → AllWords answers → length answers ≡ length ops
whole_length [] [] whole words = refl
whole_length [] (a ∷ answers) whole words = absurd whole
whole_length (op ∷ ops) [] whole words = absurd whole
whole_length (op ∷ ops) (a ∷ answers) whole words =
    ap suc (whole_length ops answers (subst (λ (b : Bool). cond b (Whole ops answers) (answers ≡ [])) words.0 whole) words.1)

-- what is kept when the next cycle begins
next_cycle : (f : Fault) (op : Op) (n : ℕ) (past : Words) (held next : List ℤ) (answers : List Answer) (kept : Option ℤ) → f.op < length answers → (x : Act)
    → KeptIs f op n past held answers kept x
    → KeptIs f op (suc n) (record { held = held; answers = answers }) next [] kept x
next_cycle f op n past held next answers kept inside (act.OperandFrom j r) is = λ e below. absurd (omega (arith, below))
next_cycle f op n past held next answers kept inside (act.OperandStale j) is = (λ e. is.1 e inside, λ e below. absurd (omega (arith, below)))
next_cycle f op n past held next answers kept inside act.Skip is = (λ e. is.1 e inside, λ e below. absurd (omega (arith, below)))
next_cycle f op n past held next answers kept inside (act.OperandAdd j e) is = tt
next_cycle f op n past held next answers kept inside (act.ResultAdd e) is = tt
next_cycle f op n past held next answers kept inside (act.Operator other) is = tt

all_next : (g : Lists) (faults : List Fault) (n : ℕ) (past : Words) (held next : List ℤ) (answers : List Answer) (keeps : List (Option ℤ))
    → length answers ≡ length g.operations → AllKept g faults n past held answers keeps
    → AllKept g faults (suc n) (record { held = held; answers = answers }) next [] keeps
all_next g [] n past held next answers keeps whole is = tt
all_next g (f ∷ faults) n past held next answers [] whole is = absurd is
all_next g (f ∷ faults) n past held next answers (kept ∷ keeps) whole is =
    let fits = is.0.0 in
    let inside : f.op < length answers = omega (arith, whole, slice_get_within g.operations f.op fits.op fits.there) in (
      (fits, next_cycle f fits.op n past held next answers kept inside f.act is.0.1),
      all_next g faults n past held next answers keeps whole is.1,
    )

-- before the first cycle nothing is kept, and no act of that cycle takes a word of one before
first_cycle : (f : Fault) (op : Op) (held : List ℤ) (x : Act) → is_timely f.cycle x ≡ true → KeptIs f op 0 no_words held [] None x
first_cycle f op held (act.OperandFrom j r) timely = λ e below. absurd (omega (arith, below))
first_cycle f op held (act.OperandStale j) timely =
    let later : 0 < f.cycle = grind (arith, nat_tests) in
    (λ e. absurd (omega (arith, later, e)), λ e below. absurd (omega (arith, below)))
first_cycle f op held act.Skip timely =
    let later : 0 < f.cycle = grind (arith, nat_tests) in
    (λ e. absurd (omega (arith, later, e)), λ e below. absurd (omega (arith, below)))
first_cycle f op held (act.OperandAdd j e) timely = tt
first_cycle f op held (act.ResultAdd e) timely = tt
first_cycle f op held (act.Operator other) timely = tt

all_first : (g : Lists) (faults : List Fault) (held : List ℤ) → All (Fits g) faults → AllKept g faults 0 no_words held [] (none_kept faults)
all_first g [] held fit = tt
all_first g (f ∷ faults) held fit =
    let fits : Fits g f = All-head (Fits g) f faults fit in
    ((fits, first_cycle f fits.op held f.act fits.act.timely), all_first g faults held (All-tail (Fits g) f faults fit))

run_right : (reads : ReadLaws) (t : Numbers) (g : Lists) (faults : List Fault) (n : ℕ) (past : Words) (keeps : List (Option ℤ)) (held : List ℤ)
    (rows : List (List ℤ)) (cycles : List (List Answer)) → IsGraph g
    → AllKept g faults n past held [] keeps → ScriptedRun t g faults n keeps held rows cycles → RightRun t g (acts_of faults) n past held rows cycles
run_right reads t g faults n past keeps held rows [] graph is scripted = tt
run_right reads t g faults n past keeps held [] (answers ∷ cycles) graph is scripted = tt
run_right reads t g faults n past keeps held (row ∷ rows) (answers ∷ cycles) graph is scripted =
    let cycle = through reads t g faults n past held row g.operations keeps [] answers graph
    (λ i o e. ap (slice_get g.operations) (omega arith) ∙ e) is scripted.0 scripted.1 in (
      scripted.0,
      cycle.rights,
      λ words.
          run_right reads t g faults (suc n) (record { held = held; answers = answers })
          (kept_through faults (setting_at g t n held row) keeps [] g.operations answers) (stored_words g answers) rows cycles graph
          (all_next g faults n past held (stored_words g answers) answers
          (kept_through faults (setting_at g t n held row) keeps [] g.operations answers) (whole_length g.operations answers scripted.0 words)
          (cycle.later words))
          (scripted.2 words),
    )

pub scripted_runs_are_right : ReadLaws → ScriptedRunsAreRight
scripted_runs_are_right reads t g faults rows cycles graph fits scripted =
    run_right reads t g faults 0 no_words (none_kept faults) (initial_words g t.seed) rows cycles graph
    (all_first g faults (initial_words g t.seed) fits) scripted
