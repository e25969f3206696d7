-- CycleRight: the rerun of a cycle whose calls were answered rightly has the answers of a whole run with the acts.
use Rattle.std.proofs.Common.{◌≡◌, ℕ, zero, suc, ◌-◌, ◌≤◌, Bool, true, false, cond, ◌&&◌, ◌||◌, nat_lt, List, [], ◌∷◌, ◌++◌, length, slice_get, Option, Some, None, ℤ, pos, unsigned_abs, refl, sym, ap, subst, ◌∙◌, arith}
use Rattle.std.specs.Option.{is_some}
use Rattle.std.proofs.lemmas.Bool.{false≢true, ltb-true}
use Rattle.std.proofs.lemmas.List.{append_assoc, append-nil}
use Rattle.vcp_base.specs.declared.kind.Kind.{Kind}
use Rattle.vcp_base.specs.declared.kind.Kind.TheVariants as kind
use Rattle.vcp_base.specs.Kinds.{operands}
use Rattle.vcp_base.specs.Values.{at}
use Rattle.coded_unit.specs.declared.call.Call.{Call}
use Rattle.coded_unit.specs.declared.call.Answer.{Answer}
use Rattle.coded_unit.specs.Right.{Right}
use Rattle.op_graph.specs.declared.op.Op.{Op}
use Rattle.op_graph.specs.Reads.{named}
use Rattle.coded_machine.specs.declared.calling.Operands.{Operands}
use Rattle.coded_machine.specs.Calls.{Setting, AllRight, AllWords, Whole, call_of, calls_from, is_word, operand_word, operands_of, operation_call, read_word, word_at, word_of}
use Rattle.fault_script.specs.declared.act.Act.{Act}
use Rattle.fault_script.specs.declared.act.Act.TheVariants as act
use Rattle.fault_injector.specs.RunLaw.{RightsUnder, taken}
use Rattle.fault_injector.specs.Scripts.{handed_by, passed_by, right_by}
use Rattle.fault_injector.specs.Reruns.{CycleAgain, Part, asks, source_of, source_touched, after_answer, go_on, again}
use Rattle.fault_injector.specs.Touched.{Marks, mark, reads_touched_as, operand_touched, past_touched_stop, touched_at}
use Rattle.fault_injector.proofs.Marking.{Spread}

-- ---- answers and words that are the same where nothing is marked

-- of each operation that passes the test, both lists have one word
abbrev pub Follow : (ℕ → Bool) → List Answer → List Answer → Type 0
Follow f own other = (p : ℕ) → f p ≡ false → word_at own p ≡ word_at other p

-- and of each cell that isn't marked
abbrev pub CellsFollow : List Bool → List ℤ → List ℤ → Type 0
CellsFollow cell_marks held others = (i : ℕ) → mark cell_marks i ≡ false → at held i ≡ at others i

pub follow_more : (f : ℕ → Bool) (own other : List Answer) (a x : Answer) → length own ≡ length other → Follow f own other
    → (f (length other) ≡ false → word_of a ≡ word_of x) → Follow f (own ++ a ∷ []) (other ++ x ∷ [])
follow_more f [] [] a x many follow last zero h = last h
follow_more f [] [] a x many follow last (suc p) h = refl
follow_more f [] (y ∷ other) a x many follow last p h = absurd (omega (arith, many))
follow_more f (b ∷ own) [] a x many follow last p h = absurd (omega (arith, many))
follow_more f (b ∷ own) (y ∷ other) a x many follow last zero h = follow zero h
follow_more f (b ∷ own) (y ∷ other) a x many follow last (suc p) h =
    follow_more (λ (q : ℕ). f (suc q)) own other a x (omega (arith, many)) (λ q. follow (suc q)) last p h

-- ---- the call of an operation that isn't touched

or_parts : (f a b c d : Bool) → f || a || b || c || d ≡ false → (f ≡ false) × (a ≡ false) × (b ≡ false) × (c ≡ false)
or_parts true a b c d h = absurd cc
or_parts false true b c d h = absurd cc
or_parts false false true c d h = absurd cc
or_parts false false false true d h = absurd cc
or_parts false false false false d h = (refl, refl, refl, refl)

or_last : (f a b c d : Bool) → d ≡ true → f || a || b || c || d ≡ true
or_last true a b c d h = refl
or_last false true b c d h = refl
or_last false false true c d h = refl
or_last false false false true d h = refl
or_last false false false false d h = h

and_second : (b x : Bool) → b && x ≡ false → b ≡ true → x ≡ false
and_second true x h e = h
and_second false x h e = absurd cc

choice : {X : Type 0} (b : Bool) (x y z : X) → (b ≡ true → x ≡ y) → cond b x z ≡ cond b y z
choice true x y z h = h refl
choice false x y z h = refl

read_same : (m : Marks) (held others : List ℤ) (before fore : List Answer) (op : Op) (j : ℕ) (k : Kind) → CellsFollow m.held held others
    → Follow (mark m.given) before fore → reads_touched_as m op j k ≡ false
    → read_word held before k op.imm (named op j) ≡ read_word others fore k op.imm (named op j)
read_same m held others before fore op j kind.Load cells given h = cells (unsigned_abs op.imm) h
read_same m held others before fore op j _ cells given h = given (named op j) h

operand_same : (m : Marks) (held others : List ℤ) (before fore : List Answer) (op : Op) (j : ℕ) → CellsFollow m.held held others
    → Follow (mark m.given) before fore → operand_touched m op j ≡ false
    → operand_word held before op j (named op j) ≡ operand_word others fore op j (named op j)
operand_same m held others before fore op j cells given h =
    choice (nat_lt j (operands op.kind)) _ _ (pos 0)
    (λ e. read_same m held others before fore op j op.kind cells given (and_second (nat_lt j (operands op.kind)) (reads_touched_as m op j op.kind) h e))

-- the setting of the run without the faults
abbrev pub beside : Setting → List ℤ → Setting
beside s others = record s { held = others }

abbrev reads_of : ℤ → ℤ → ℤ → ℤ → Operands
reads_of a b c x = record { a = a; b = b; c = c; input = x }

reads_same : (a b c d e f x : ℤ) → a ≡ d → b ≡ e → c ≡ f → reads_of a b c x ≡ reads_of d e f x
reads_same a b c d e f x p q r =
    ap (λ (z : ℤ). reads_of z b c x) p ∙ (ap (λ (z : ℤ). reads_of d z c x) q ∙ ap (λ (z : ℤ). reads_of d e z x) r)

call_same : (s : Setting) (others : List ℤ) (m : Marks) (before fore : List Answer) (op : Op) → CellsFollow m.held s.held others
    → Follow (mark m.given) before fore → length before ≡ length fore → operand_touched m op 0 ≡ false → operand_touched m op 1 ≡ false
    → operand_touched m op 2 ≡ false → call_of s op before ≡ call_of (beside s others) op fore
call_same s others m before fore op cells given many p q r =
    ap (λ (k : ℕ). operation_call s.graph s.table s.cycle k op (operands_of s op before)) many
    ∙ ap (λ (reads : Operands). operation_call s.graph s.table s.cycle (length fore) op reads)
    (reads_same _ _ _ _ _ _ _ (operand_same m s.held others before fore op 0 cells given p) (operand_same m s.held others before fore op 1 cells given q)
    (operand_same m s.held others before fore op 2 cells given r))

no_act : (a : Option Act) → is_some a ≡ false → a ≡ None
no_act None h = refl
no_act (Some a) h = absurd cc

-- the answer of the run without the faults is the right one to the rerun's call too
has_right : (c : CycleAgain) (others : List ℤ) (held : List Bool) (before fore : List Answer) (op : Op) (x : Answer) → CellsFollow held c.setting.held others
    → Follow (mark c.touched) before fore → length before ≡ length fore
    → touched_at c.other c.acts (record { held = held; given = c.touched }) (length fore) op ≡ false → x ≡ Right (call_of (beside c.setting others) op fore)
    → x ≡ right_by (c.acts (length before)) (taken c.past before op (c.acts (length before))) (call_of c.setting op before)
has_right c others held before fore op x cells given many h is =
    let m : Marks = record { held = held; given = c.touched } in
    let parts = or_parts (is_some (c.acts (length fore))) (operand_touched m op 0) (operand_touched m op 1) (operand_touched m op 2)
    (past_touched_stop c.other c.touched (length fore)) h in
    let none : c.acts (length before) ≡ None = ap (λ (k : ℕ). c.acts k) many ∙ no_act (c.acts (length fore)) parts.0 in
    is ∙ ap Right (sym (call_same c.setting others m before fore op cells given many parts.1 parts.2 parts.3))
    ∙ sym (ap (λ (a : Option Act). right_by a (taken c.past before op a) (call_of c.setting op before)) none)

-- ---- the answer at an operation that is touched

-- what comes of a step: the later ones, after this answer
record Next (part : Part) (next : Answer → List Answer → Part) (a : Answer) : Type 0 where
  left : List Answer
  own : part.own ≡ (next a left).own
  enough : (next a left).too_few ≡ false
  right : AllRight (next a left).calls

asked : (call : Call) (a : Option Act) (w : ℤ) (before : List Answer) (next : Answer → List Answer → Part) (left : List Answer)
    → (go_on before (asks call a w) next left).too_few ≡ false → AllRight (go_on before (asks call a w) next left).calls
    → Next (go_on before (asks call a w) next left) next (handed_by a w (Right call))
asked call a w before next [] enough right = absurd cc
asked call a w before next (x ∷ left) enough right =
    let is : handed_by a w x ≡ handed_by a w (Right call) = ap (handed_by a w) right.0 in
    record {
      left = left;
      own = ap (λ (y : Answer). (next y left).own) is;
      enough = subst (λ (y : Answer). (next y left).too_few ≡ false) is enough;
      right = subst (λ (y : Answer). AllRight (next y left).calls) is right.1;
    }

touched_next : (a : Option Act) (w : ℤ) (call : Call) (before : List Answer) (next : Answer → List Answer → Part) (left : List Answer)
    → (go_on before (source_touched a w call) next left).too_few ≡ false → AllRight (go_on before (source_touched a w call) next left).calls
    → Next (go_on before (source_touched a w call) next left) next (right_by a w call)
touched_next None w call before next left enough right = asked call None w before next left enough right
touched_next (Some (act.OperandAdd j e)) w call before next left enough right =
    asked (passed_by (Some (act.OperandAdd j e)) w call) (Some (act.OperandAdd j e)) w before next left enough right
touched_next (Some (act.OperandFrom j r)) w call before next left enough right =
    asked (passed_by (Some (act.OperandFrom j r)) w call) (Some (act.OperandFrom j r)) w before next left enough right
touched_next (Some (act.OperandStale j)) w call before next left enough right =
    asked (passed_by (Some (act.OperandStale j)) w call) (Some (act.OperandStale j)) w before next left enough right
touched_next (Some (act.ResultAdd e)) w call before next left enough right =
    asked (passed_by (Some (act.ResultAdd e)) w call) (Some (act.ResultAdd e)) w before next left enough right
touched_next (Some (act.Operator other)) w call before next left enough right =
    asked (passed_by (Some (act.Operator other)) w call) (Some (act.Operator other)) w before next left enough right
touched_next (Some act.Skip) w call before next left enough right = record { left = left; own = refl; enough = enough; right = right }

-- ---- what a cycle comes to

-- after `before` the rerun's answers are whole, and the right ones to the calls with the changes
pub record Rightly (c : CycleAgain) (before : List Answer) (ops : List Op) (own : List Answer) : Type 0 where
  pub later : List Answer
  pub own_is : own ≡ before ++ later
  pub whole : Whole ops later
  pub rights : RightsUnder c.setting c.acts c.past before ops later

pub whole_of : (c : CycleAgain) (ops : List Op) (own : List Answer) → Rightly c [] ops own → Whole ops own
whole_of c ops own r = subst (λ (xs : List Answer). Whole ops xs) (sym r.own_is) r.whole

pub rights_of : (c : CycleAgain) (ops : List Op) (own : List Answer) → Rightly c [] ops own → RightsUnder c.setting c.acts c.past [] ops own
rights_of c ops own r = subst (λ (xs : List Answer). RightsUnder c.setting c.acts c.past [] ops xs) (sym r.own_is) r.rights

abbrev right_at : CycleAgain → List Answer → Op → Answer
right_at c before op = right_by (c.acts (length before)) (taken c.past before op (c.acts (length before))) (call_of c.setting op before)

whole_word : (a : Answer) (ops : List Op) (later : List Answer) → is_word a ≡ true → Whole ops later → cond (is_word a) (Whole ops later) (later ≡ [])
whole_word a ops later e whole = subst (λ (b : Bool). cond b (Whole ops later) (later ≡ [])) (sym e) whole

whole_stop : (a : Answer) (ops : List Op) (later : List Answer) → is_word a ≡ false → later ≡ [] → cond (is_word a) (Whole ops later) (later ≡ [])
whole_stop a ops later e none = subst (λ (b : Bool). cond b (Whole ops later) (later ≡ [])) (sym e) none

rightly_more : (c : CycleAgain) (before : List Answer) (op : Op) (ops : List Op) (a : Answer) (own : List Answer) → is_word a ≡ true → a ≡ right_at c before op
    → Rightly c (before ++ a ∷ []) ops own → Rightly c before (op ∷ ops) own
rightly_more c before op ops a own word is r = record {
  later = a ∷ r.later;
  own_is = r.own_is ∙ append_assoc before (a ∷ []) r.later;
  whole = whole_word a ops r.later word r.whole;
  rights = (is, r.rights);
}

rightly_stop : (c : CycleAgain) (before : List Answer) (op : Op) (ops : List Op) (a : Answer) (own : List Answer) → is_word a ≡ false → a ≡ right_at c before op
    → own ≡ before ++ a ∷ [] → Rightly c before (op ∷ ops) own
rightly_stop c before op ops a own word is own_is = record { later = a ∷ []; own_is = own_is; whole = whole_stop a ops [] word refl; rights = (is, tt) }

abbrev pub next_of : CycleAgain → List Answer → List Op → Answer → List Answer → Part
next_of c before ops a left = after_answer (is_word a) (before ++ a ∷ []) (λ left. again c (before ++ a ∷ []) ops left) left

marked_next : (c : CycleAgain) (before : List Answer) (op : Op) (ops : List Op) (left : List Answer) → mark c.touched (length before) ≡ true
    → (again c before (op ∷ ops) left).too_few ≡ false → AllRight (again c before (op ∷ ops) left).calls
    → Next (again c before (op ∷ ops) left) (next_of c before ops) (right_at c before op)
marked_next c before op ops left e =
    let k = length before in
    let w = taken c.past before op (c.acts k) in
    let call = call_of c.setting op before in
    let part : Bool → Part = λ b. go_on before (cond b (source_touched (c.acts k) w call) (source_of (slice_get c.other k))) (next_of c before ops) left in
    subst (λ (b : Bool). (part b).too_few ≡ false → AllRight (part b).calls → Next (part b) (next_of c before ops) (right_at c before op)) (sym e)
    (touched_next (c.acts k) w call before (next_of c before ops) left)

step_right : (c : CycleAgain) (op : Op) (ops : List Op) (before : List Answer) (a : Answer) (rest : List Answer → Part) (left : List Answer) (b : Bool)
    → is_word a ≡ b → a ≡ right_at c before op → (after_answer b (before ++ a ∷ []) rest left).too_few ≡ false
    → AllRight (after_answer b (before ++ a ∷ []) rest left).calls
    → (is_word a ≡ true → (rest left).too_few ≡ false → AllRight (rest left).calls → Rightly c (before ++ a ∷ []) ops (rest left).own)
    → Rightly c before (op ∷ ops) (after_answer b (before ++ a ∷ []) rest left).own
step_right c op ops before a rest left true e is enough right more = rightly_more c before op ops a (rest left).own e is (more e enough right)
step_right c op ops before a rest left false e is enough right more = rightly_stop c before op ops a (before ++ a ∷ []) e is refl

-- ---- past a touched stop every operation is touched

abbrev AllMarked : List Bool → ℕ → List Op → Type 0
AllMarked touched k [] = Unit {0}
AllMarked touched k (op ∷ ops) = (mark touched k ≡ true) × AllMarked touched (suc k) ops

past_is : (given : List Bool) (k many : ℕ) (b : Bool) → nat_lt k many ≡ b → many ≤ k → mark given (many - 1) ≡ true →
    cond b false (mark given (many - 1)) ≡ true
past_is given k many true e past stop = absurd (omega (arith, past, ltb-true k many e))
past_is given k many false e past stop = stop

past_stop : (other : List Answer) (acts : ℕ → Option Act) (m : Marks) (k : ℕ) (ops : List Op) → length other ≤ k → mark m.given (length other - 1) ≡ true
    → Spread other acts m k ops → AllMarked m.given k ops
past_stop other acts m k [] past stop spread = tt
past_stop other acts m k (op ∷ ops) past stop spread = (
  spread.0
      ∙ or_last (is_some (acts k)) (operand_touched m op 0) (operand_touched m op 1) (operand_touched m op 2) (past_touched_stop other m.given k)
      (past_is m.given k (length other) (nat_lt k (length other)) refl past stop),
  past_stop other acts m (suc k) ops (omega (arith, past)) stop spread.1,
)

pub longer : {X : Type 0} (xs : List X) (x : X) → suc (length xs) ≡ length (xs ++ x ∷ [])
longer [] x = refl
longer (y ∷ xs) x = ap suc (longer xs x)

base : (c : CycleAgain) (before : List Answer) → Rightly c before [] before
base c before = record { later = []; own_is = sym (append-nil before); whole = tt; rights = tt }

marked_right : (c : CycleAgain) (ops : List Op) (before left : List Answer) → AllMarked c.touched (length before) ops
    → (again c before ops left).too_few ≡ false → AllRight (again c before ops left).calls → Rightly c before ops (again c before ops left).own
marked_right c [] before left marked enough right = base c before
marked_right c (op ∷ ops) before left marked enough right =
    let a = right_at c before op in
    let n = marked_next c before op ops left marked.0 enough right in
    let later : AllMarked c.touched (length (before ++ a ∷ [])) ops = subst (λ (k : ℕ). AllMarked c.touched k ops) (longer before a) marked.1 in
    subst (λ (own : List Answer). Rightly c before (op ∷ ops) own) (sym n.own)
    (step_right c op ops before a (λ left. again c (before ++ a ∷ []) ops left) n.left (is_word a) refl refl n.enough n.right
    (λ word enough right. marked_right c ops (before ++ a ∷ []) n.left later enough right))

-- ---- beside the run without the faults

-- Where the rerun of a cycle has come to: the answers so far of both runs, and the later ones of the run without the faults.
record Side (c : CycleAgain) (others : List ℤ) (held : List Bool) (before fore rest : List Answer) (ops : List Op) : Type 0 where
  other_is : c.other ≡ fore ++ rest
  many : length before ≡ length fore
  follow : Follow (mark c.touched) before fore
  spread : Spread c.other c.acts (record { held = held; given = c.touched }) (length fore) ops
  whole : Whole ops rest
  right : AllRight (calls_from (beside c.setting others) fore ops rest)

-- What the rerun of a cycle comes to; and where both runs go on after it, an operation that isn't touched has one word in both.
pub record CycleRight (c : CycleAgain) (before : List Answer) (ops : List Op) (own : List Answer) : Type 0 where
  pub rightly : Rightly c before ops own
  pub follows : AllWords c.other → AllWords own → Follow (mark c.touched) own c.other

abbrev Goes : CycleAgain → List ℤ → List Bool → List Op → Type 0
Goes c others held ops = (before fore rest left : List Answer) → Side c others held before fore rest ops → (again c before ops left).too_few ≡ false
    → AllRight (again c before ops left).calls → CycleRight c before ops (again c before ops left).own

pub words_at : (xs : List Answer) (a : Answer) (ys : List Answer) → AllWords (xs ++ a ∷ ys) → is_word a ≡ true
words_at [] a ys words = words.0
words_at (x ∷ xs) a ys words = words_at xs a ys words.1

pub get_seam : (xs : List Answer) (x : Answer) (ys : List Answer) → slice_get (xs ++ x ∷ ys) (length xs) ≡ Some x
get_seam [] x ys = refl
get_seam (y ∷ xs) x ys = get_seam xs x ys

whole_on : (x : Answer) (ops : List Op) (rest : List Answer) → is_word x ≡ true → cond (is_word x) (Whole ops rest) (rest ≡ []) → Whole ops rest
whole_on x ops rest e whole = subst (λ (b : Bool). cond b (Whole ops rest) (rest ≡ [])) e whole

whole_off : (x : Answer) (ops : List Op) (rest : List Answer) → is_word x ≡ false → cond (is_word x) (Whole ops rest) (rest ≡ []) → rest ≡ []
whole_off x ops rest e whole = subst (λ (b : Bool). cond b (Whole ops rest) (rest ≡ [])) e whole

-- both go on after a word
side_more : (c : CycleAgain) (others : List ℤ) (held : List Bool) (before fore : List Answer) (a x : Answer) (rest : List Answer) (op : Op) (ops : List Op)
    → Side c others held before fore (x ∷ rest) (op ∷ ops) → is_word x ≡ true → (mark c.touched (length fore) ≡ false → word_of a ≡ word_of x)
    → Side c others held (before ++ a ∷ []) (fore ++ x ∷ []) rest ops
side_more c others held before fore a x rest op ops s word last = record {
  other_is = s.other_is ∙ sym (append_assoc fore (x ∷ []) rest);
  many = sym (longer before a) ∙ (ap suc s.many ∙ longer fore x);
  follow = follow_more (mark c.touched) before fore a x s.many s.follow last;
  spread = subst (λ (k : ℕ). Spread c.other c.acts (record { held = held; given = c.touched }) k ops) (longer fore x) s.spread.1;
  whole = whole_on x ops rest word s.whole;
  right = s.right.1;
}

right_more : (c : CycleAgain) (before : List Answer) (op : Op) (ops : List Op) (a : Answer) (own : List Answer) → is_word a ≡ true → a ≡ right_at c before op
    → CycleRight c (before ++ a ∷ []) ops own → CycleRight c before (op ∷ ops) own
right_more c before op ops a own word is r = record { rightly = rightly_more c before op ops a own word is r.rightly; follows = r.follows }

right_stop : (c : CycleAgain) (before : List Answer) (op : Op) (ops : List Op) (a : Answer) → is_word a ≡ false → a ≡ right_at c before op
    → CycleRight c before (op ∷ ops) (before ++ a ∷ [])
right_stop c before op ops a word is = record {
  rightly = rightly_stop c before op ops a (before ++ a ∷ []) word is refl;
  follows = λ others words. absurd (false≢true (sym word ∙ words_at before a [] words));
}

-- a touched operation at which the run without the faults stopped gave a word
past_right : (c : CycleAgain) (others : List ℤ) (held : List Bool) (before fore : List Answer) (a x : Answer) (rest left : List Answer) (op : Op)
    (ops : List Op)
    → Side c others held before fore (x ∷ rest) (op ∷ ops) → mark c.touched (length before) ≡ true → is_word x ≡ false
    → (again c (before ++ a ∷ []) ops left).too_few ≡ false → AllRight (again c (before ++ a ∷ []) ops left).calls
    → CycleRight c (before ++ a ∷ []) ops (again c (before ++ a ∷ []) ops left).own
past_right c others held before fore a x rest left op ops s e stop enough right =
    let none : rest ≡ [] = whole_off x ops rest stop s.whole in
    let other_is : c.other ≡ fore ++ x ∷ [] = s.other_is ∙ ap (λ (xs : List Answer). fore ++ x ∷ xs) none in
    let count : length c.other ≡ suc (length fore) = ap length other_is ∙ sym (longer fore x) in
    let place : length before ≡ length c.other - 1 = omega (arith, count, s.many) in
    let marked : AllMarked c.touched (suc (length fore)) ops =
    past_stop c.other c.acts (record { held = held; given = c.touched }) (suc (length fore)) ops (omega (arith, count))
    (ap (mark c.touched) (sym place) ∙ e) s.spread.1 in
    record {
      rightly =
          marked_right c ops (before ++ a ∷ []) left
          (subst (λ (k : ℕ). AllMarked c.touched k ops) (ap suc (sym s.many) ∙ longer before a) marked) enough right;
      follows = λ others words. absurd (false≢true (sym stop ∙ words_at fore x [] (subst AllWords other_is others)));
    }

after_touched : (c : CycleAgain) (others : List ℤ) (held : List Bool) (before fore : List Answer) (a x : Answer) (rest left : List Answer) (op : Op)
    (ops : List Op)
    → Side c others held before fore (x ∷ rest) (op ∷ ops) → mark c.touched (length before) ≡ true → Goes c others held ops → a ≡ right_at c before op
    → (b : Bool) → is_word a ≡ b → (d : Bool) → is_word x ≡ d
    → (after_answer b (before ++ a ∷ []) (λ left. again c (before ++ a ∷ []) ops left) left).too_few ≡ false
    → AllRight (after_answer b (before ++ a ∷ []) (λ left. again c (before ++ a ∷ []) ops left) left).calls
    → CycleRight c before (op ∷ ops) (after_answer b (before ++ a ∷ []) (λ left. again c (before ++ a ∷ []) ops left) left).own
after_touched c others held before fore a x rest left op ops s e goes is false word d other enough right = right_stop c before op ops a word is
after_touched c others held before fore a x rest left op ops s e goes is true word true other enough right =
    right_more c before op ops a _ word is
    (goes (before ++ a ∷ []) (fore ++ x ∷ []) rest left
    (side_more c others held before fore a x rest op ops s other
    (λ h. absurd (false≢true (sym h ∙ (ap (mark c.touched) (sym s.many) ∙ e))))) enough right)
after_touched c others held before fore a x rest left op ops s e goes is true word false other enough right =
    right_more c before op ops a _ word is (past_right c others held before fore a x rest left op ops s e other enough right)

after_untouched : (c : CycleAgain) (others : List ℤ) (held : List Bool) (before fore : List Answer) (x : Answer) (rest left : List Answer) (op : Op)
    (ops : List Op)
    → Side c others held before fore (x ∷ rest) (op ∷ ops) → Goes c others held ops → x ≡ right_at c before op
    → (b : Bool) → is_word x ≡ b
    → (after_answer b (before ++ x ∷ []) (λ left. again c (before ++ x ∷ []) ops left) left).too_few ≡ false
    → AllRight (after_answer b (before ++ x ∷ []) (λ left. again c (before ++ x ∷ []) ops left) left).calls
    → CycleRight c before (op ∷ ops) (after_answer b (before ++ x ∷ []) (λ left. again c (before ++ x ∷ []) ops left) left).own
after_untouched c others held before fore x rest left op ops s goes is true word enough right =
    right_more c before op ops x _ word is
    (goes (before ++ x ∷ []) (fore ++ x ∷ []) rest left (side_more c others held before fore x x rest op ops s word (λ h. refl)) enough right)
after_untouched c others held before fore x rest left op ops s goes is false word enough right = right_stop c before op ops x word is

by_mark : (c : CycleAgain) (others : List ℤ) (held : List Bool) (before fore : List Answer) (x : Answer) (rest left : List Answer) (op : Op) (ops : List Op)
    → CellsFollow held c.setting.held others → Side c others held before fore (x ∷ rest) (op ∷ ops) → Goes c others held ops
    → (b : Bool) → mark c.touched (length before) ≡ b → (again c before (op ∷ ops) left).too_few ≡ false → AllRight (again c before (op ∷ ops) left).calls
    → CycleRight c before (op ∷ ops) (again c before (op ∷ ops) left).own
by_mark c others held before fore x rest left op ops cells s goes true e enough right =
    let a = right_at c before op in
    let n = marked_next c before op ops left e enough right in
    subst (λ (own : List Answer). CycleRight c before (op ∷ ops) own) (sym n.own)
    (after_touched c others held before fore a x rest n.left op ops s e goes refl (is_word a) refl (is_word x) refl n.enough n.right)
by_mark c others held before fore x rest left op ops cells s goes false e enough right =
    let k = length before in
    let next = next_of c before ops in
    let asks = source_touched (c.acts k) (taken c.past before op (c.acts k)) (call_of c.setting op before) in
    let there : slice_get c.other k ≡ Some x =
    ap (λ (xs : List Answer). slice_get xs k) s.other_is
    ∙ (ap (λ (i : ℕ). slice_get (fore ++ x ∷ rest) i) s.many ∙ get_seam fore x rest) in
    let part_is : again c before (op ∷ ops) left ≡ next x left =
    ap (λ (b : Bool). go_on before (cond b asks (source_of (slice_get c.other k))) next left) e
    ∙ ap (λ (y : Option Answer). go_on before (source_of y) next left) there in
    let touch = sym s.spread.0 ∙ (ap (mark c.touched) (sym s.many) ∙ e) in
    let is = has_right c others held before fore op x cells s.follow s.many touch s.right.0 in
    subst (λ (part : Part). CycleRight c before (op ∷ ops) part.own) (sym part_is)
    (after_untouched c others held before fore x rest left op ops s goes is (is_word x) refl
    (subst (λ (part : Part). part.too_few ≡ false) part_is enough) (subst (λ (part : Part). AllRight part.calls) part_is right))

again_right : (c : CycleAgain) (others : List ℤ) (held : List Bool) → CellsFollow held c.setting.held others → (ops : List Op) → Goes c others held ops
again_right c others held cells [] before fore [] left s enough right = record {
  rightly = base c before;
  follows = λ x y. subst (Follow (mark c.touched) before) (sym (s.other_is ∙ append-nil fore)) s.follow;
}
again_right c others held cells [] before fore (x ∷ rest) left s enough right = absurd s.whole
again_right c others held cells (op ∷ ops) before fore [] left s enough right = absurd s.whole
again_right c others held cells (op ∷ ops) before fore (x ∷ rest) left s enough right =
    by_mark c others held before fore x rest left op ops cells s (again_right c others held cells ops) (mark c.touched (length before)) refl enough right

-- the rerun of a whole cycle
pub cycle_right : (c : CycleAgain) (others : List ℤ) (held : List Bool) (left : List Answer) → CellsFollow held c.setting.held others
    → Spread c.other c.acts (record { held = held; given = c.touched }) 0 c.setting.graph.operations → Whole c.setting.graph.operations c.other
    → AllRight (calls_from (beside c.setting others) [] c.setting.graph.operations c.other)
    → (again c [] c.setting.graph.operations left).too_few ≡ false → AllRight (again c [] c.setting.graph.operations left).calls
    → CycleRight c [] c.setting.graph.operations (again c [] c.setting.graph.operations left).own
cycle_right c others held left cells spread whole right =
    again_right c others held cells c.setting.graph.operations [] [] c.other left
    (record { other_is = refl; many = refl; follow = λ p h. refl; spread = spread; whole = whole; right = right })
