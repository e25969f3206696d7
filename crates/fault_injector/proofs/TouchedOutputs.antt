-- TouchedOutputs: outputs whose OUTs aren't touched don't decide on the verdict of a cycle.
use Rattle.std.proofs.Common.{◌≡◌, ℕ, zero, suc, ◌==◌, Bool, true, false, cond, List, [], ◌∷◌, ◌++◌, length, slice_get, Option, Some, None, ℤ, refl, sym, ap, subst, ◌∙◌, eqb-true}
use Rattle.std.proofs.lemmas.Bool.{false≢true}
use Rattle.std.proofs.lemmas.List.{append_assoc, append-nil}
use Rattle.vcp_base.specs.declared.code.Profile.{Profile}
use Rattle.vcp_base.specs.Types.{fits}
use Rattle.coded_unit.specs.declared.call.Call.{Call}
use Rattle.coded_unit.specs.declared.call.Answer.{Answer}
use Rattle.coded_unit.specs.declared.call.Answer.TheVariants as answer
use Rattle.coded_unit.specs.Words.{modulo, value_part}
use Rattle.op_graph.specs.declared.op.Op.{Op}
use Rattle.op_graph.specs.declared.op.Outlet.{Outlet}
use Rattle.op_graph.specs.Lists.{Lists}
use Rattle.signature_table.specs.Signatures.{Numbers, expected}
use Rattle.coded_machine.specs.declared.cycle_end.CycleEnd.{CycleEnd}
use Rattle.coded_machine.specs.declared.cycle_end.CycleEnd.TheVariants as end
use Rattle.coded_machine.specs.Calls.{AllWords, Whole, call_of, is_word, word_at}
use Rattle.coded_machine.specs.CycleEnds.{end_of, end_or, first_outside, first_refused, first_stop}
use Rattle.fault_script.specs.declared.act.Act.{Act}
use Rattle.fault_injector.specs.RunLaw.{taken}
use Rattle.fault_injector.specs.Scripts.{handed_by, passed_by, skips_by}
use Rattle.fault_injector.specs.Laws.{SameOutput}
use Rattle.fault_injector.specs.Reruns.{CycleAgain, Part, again, after_answer, asks, go_on, has, source_of, source_touched}
use Rattle.fault_injector.specs.Touched.{mark}
use Rattle.fault_injector.proofs.CycleRight.{Follow, follow_more, get_seam, longer, next_of, words_at}
use Rattle.fault_injector.proofs.RunRight.{never_released, released_first}

-- ---- words, whatever the unit answers

record Goes (part : Part) (next : Answer → List Answer → Part) : Type 0 where
  answer : Answer
  left : List Answer
  own : part.own ≡ (next answer left).own
  enough : (next answer left).too_few ≡ false

asked_any : (call : Call) (a : Option Act) (w : ℤ) (before : List Answer) (next : Answer → List Answer → Part) (left : List Answer)
    → (go_on before (asks call a w) next left).too_few ≡ false → Goes (go_on before (asks call a w) next left) next
asked_any call a w before next [] enough = absurd cc
asked_any call a w before next (x ∷ left) enough = record { answer = handed_by a w x; left = left; own = refl; enough = enough }

touched_any : (skips : Bool) (given : Answer) (call : Call) (a : Option Act) (w : ℤ) (before : List Answer) (next : Answer → List Answer
    → Part) (left : List Answer)
    → (go_on before (cond skips (has given) (asks call a w)) next left).too_few ≡ false
    → Goes (go_on before (cond skips (has given) (asks call a w)) next left) next
touched_any true given call a w before next left enough = record { answer = given; left = left; own = refl; enough = enough }
touched_any false given call a w before next left enough = asked_any call a w before next left enough

all_words_at : (xs : List Answer) (a : Answer) → AllWords (xs ++ a ∷ []) → is_word a ≡ true
all_words_at xs a words = words_at xs a [] words

-- what is shown of the operations of a cycle that are left
abbrev Follows : CycleAgain → List Op → Type 0
Follows c ops = (before fore rest left : List Answer) → c.other ≡ fore ++ rest → length before ≡ length fore → Follow (mark c.touched) before fore
    → Whole ops rest → (again c before ops left).too_few ≡ false → AllWords (again c before ops left).own
    → Follow (mark c.touched) (again c before ops left).own c.other

after_any : (c : CycleAgain) (ops : List Op) (before fore : List Answer) (a x : Answer) (rest left : List Answer) → Follows c ops → AllWords c.other
    → c.other ≡ fore ++ x ∷ rest → length before ≡ length fore → Follow (mark c.touched) before fore → cond (is_word x) (Whole ops rest) (rest ≡ [])
    → (mark c.touched (length fore) ≡ false → a ≡ x) → (b : Bool) → is_word a ≡ b
    → (after_answer b (before ++ a ∷ []) (λ left. again c (before ++ a ∷ []) ops left) left).too_few ≡ false
    → AllWords (after_answer b (before ++ a ∷ []) (λ left. again c (before ++ a ∷ []) ops left) left).own
    → Follow (mark c.touched) (after_answer b (before ++ a ∷ []) (λ left. again c (before ++ a ∷ []) ops left) left).own c.other
after_any c ops before fore a x rest left goes others is many follow whole same false word enough words =
    absurd (false≢true (sym word ∙ all_words_at before a words))
after_any c ops before fore a x rest left goes others is many follow whole same true word enough words =
    let word_x : is_word x ≡ true = words_at fore x rest (subst AllWords is others) in
    goes (before ++ a ∷ []) (fore ++ x ∷ []) rest left (is ∙ sym (append_assoc fore (x ∷ []) rest)) (sym (longer before a) ∙ (ap suc many ∙ longer fore x))
    (follow_more (mark c.touched) before fore a x many follow (λ h. ap (λ (y : Answer). word_at (y ∷ []) 0) (same h)))
    (subst (λ (b : Bool). cond b (Whole ops rest) (rest ≡ [])) word_x whole) enough words

any_mark : (c : CycleAgain) (op : Op) (ops : List Op) (before fore : List Answer) (x : Answer) (rest left : List Answer) → Follows c ops → AllWords c.other
    → c.other ≡ fore ++ x ∷ rest → length before ≡ length fore → Follow (mark c.touched) before fore → cond (is_word x) (Whole ops rest) (rest ≡ [])
    → (b : Bool) → mark c.touched (length before) ≡ b → (again c before (op ∷ ops) left).too_few ≡ false → AllWords (again c before (op ∷ ops) left).own
    → Follow (mark c.touched) (again c before (op ∷ ops) left).own c.other
any_mark c op ops before fore x rest left goes others is many follow whole true e enough words =
    let k = length before in
    let next = next_of c before ops in
    let w = taken c.past before op (c.acts k) in
    let call = call_of c.setting op before in
    let part_is : again c before (op ∷ ops) left ≡ go_on before (source_touched (c.acts k) w call) next left =
    ap (λ (b : Bool). go_on before (cond b (source_touched (c.acts k) w call) (source_of (slice_get c.other k))) next left) e in
    let n =
    touched_any (skips_by (c.acts k)) (answer.Word w) (passed_by (c.acts k) w call) (c.acts k) w before next left
    (subst (λ (part : Part). part.too_few ≡ false) part_is enough) in
    let own_is : (again c before (op ∷ ops) left).own ≡ (next n.answer n.left).own = ap (λ (part : Part). part.own) part_is ∙ n.own in
    subst (λ (own : List Answer). Follow (mark c.touched) own c.other) (sym own_is)
    (after_any c ops before fore n.answer x rest n.left goes others is many follow whole
    (λ h. absurd (false≢true (sym h ∙ (ap (mark c.touched) (sym many) ∙ e)))) (is_word n.answer) refl n.enough (subst AllWords own_is words))
any_mark c op ops before fore x rest left goes others is many follow whole false e enough words =
    let k = length before in
    let next = next_of c before ops in
    let asking = source_touched (c.acts k) (taken c.past before op (c.acts k)) (call_of c.setting op before) in
    let there : slice_get c.other k ≡ Some x =
    ap (λ (xs : List Answer). slice_get xs k) is ∙ (ap (λ (i : ℕ). slice_get (fore ++ x ∷ rest) i) many ∙ get_seam fore x rest) in
    let part_is : again c before (op ∷ ops) left ≡ next x left =
    ap (λ (b : Bool). go_on before (cond b asking (source_of (slice_get c.other k))) next left) e
    ∙ ap (λ (y : Option Answer). go_on before (source_of y) next left) there in
    subst (λ (part : Part). Follow (mark c.touched) part.own c.other) (sym part_is)
    (after_any c ops before fore x x rest left goes others is many follow whole (λ h. refl) (is_word x) refl
    (subst (λ (part : Part). part.too_few ≡ false) part_is enough) (subst (λ (part : Part). AllWords part.own) part_is words))

any_follows : (c : CycleAgain) → AllWords c.other → (ops : List Op) → Follows c ops
any_follows c others [] before fore [] left is many follow whole enough words = subst (Follow (mark c.touched) before) (sym (is ∙ append-nil fore)) follow
any_follows c others [] before fore (x ∷ rest) left is many follow whole enough words = absurd whole
any_follows c others (op ∷ ops) before fore [] left is many follow whole enough words = absurd whole
any_follows c others (op ∷ ops) before fore (x ∷ rest) left is many follow whole enough words =
    any_mark c op ops before fore x rest left (any_follows c others ops) others is many follow whole (mark c.touched (length before)) refl enough words

pub words_follow : (c : CycleAgain) (left : List Answer) → Whole c.setting.graph.operations c.other → AllWords c.other
    → (again c [] c.setting.graph.operations left).too_few ≡ false → AllWords (again c [] c.setting.graph.operations left).own
    → Follow (mark c.touched) (again c [] c.setting.graph.operations left).own c.other
words_follow c left whole others enough words =
    any_follows c others c.setting.graph.operations [] [] c.other left refl refl (λ p h. refl) whole enough words

-- ---- outputs

no_end : (later : Option CycleEnd) (e : CycleEnd) (b : Bool) → (e ≡ end.Released → ⊥) → (later ≡ Some end.Released → ⊥)
    → cond b later (Some e) ≡ Some end.Released → ⊥
no_end later e true never h is = h is
no_end later e false never h is = never cc

outside_never : (p : Profile) (answers : List Answer) (outputs : List Outlet) → first_outside p answers outputs ≡ Some end.Released → ⊥
outside_never p answers [] is = absurd cc
outside_never p answers (o ∷ outputs) is =
    no_end (first_outside p answers outputs) _ (fits o.ty (value_part p (word_at answers o.op))) (λ e. absurd cc) (outside_never p answers outputs) is

first_true : (later : Option CycleEnd) (e : CycleEnd) (b : Bool) → cond b later (Some e) ≡ None → (b ≡ true) × (later ≡ None)
first_true later e true is = (refl, is)
first_true later e false is = absurd cc

inside_at : (p : Profile) (answers : List Answer) (outputs : List Outlet) (i : ℕ) (o : Outlet) → first_outside p answers outputs ≡ None
    → slice_get outputs i ≡ Some o → fits o.ty (value_part p (word_at answers o.op)) ≡ true
inside_at p answers [] i o none there = absurd cc
inside_at p answers (q ∷ outputs) zero o none there =
    let same : q ≡ o = cc in
    subst (λ (r : Outlet). fits r.ty (value_part p (word_at answers r.op)) ≡ true) same
    (first_true (first_outside p answers outputs) _ (fits q.ty (value_part p (word_at answers q.op))) none).0
inside_at p answers (q ∷ outputs) (suc i) o none there =
    inside_at p answers outputs i o (first_true (first_outside p answers outputs) _ (fits q.ty (value_part p (word_at answers q.op))) none).1 there

expected_at : (p : Profile) (t : Numbers) (n : ℕ) (answers : List Answer) (number : ℕ) (outputs : List Outlet) (i : ℕ) (o : Outlet)
    → first_refused p t n answers number outputs ≡ None → slice_get outputs i ≡ Some o
    → modulo p (word_at answers o.op) ≡ expected p t.seed t.step o.op n
expected_at p t n answers number [] i o none there = absurd cc
expected_at p t n answers number (q ∷ outputs) zero o none there =
    let same : q ≡ o = cc in
    let found = modulo p (word_at answers q.op) in
    let wanted = expected p t.seed t.step q.op n in
    subst (λ (r : Outlet). modulo p (word_at answers r.op) ≡ expected p t.seed t.step r.op n) same
    (eqb-true found wanted (first_true (first_refused p t n answers (suc number) outputs) _ (found == wanted) none).0)
expected_at p t n answers number (q ∷ outputs) (suc i) o none there =
    let found = modulo p (word_at answers q.op) in
    let wanted = expected p t.seed t.step q.op n in
    expected_at p t n answers (suc number) outputs i o (first_true (first_refused p t n answers (suc number) outputs) _ (found == wanted) none).1 there

refused_never : (p : Profile) (t : Numbers) (n : ℕ) (answers : List Answer) (number : ℕ) (outputs : List Outlet)
    → first_refused p t n answers number outputs ≡ Some end.Released → ⊥
refused_never p t n answers number [] is = absurd cc
refused_never p t n answers number (o ∷ outputs) is =
    no_end (first_refused p t n answers (suc number) outputs) _ (modulo p (word_at answers o.op) == expected p t.seed t.step o.op n) (λ e. absurd cc)
    (refused_never p t n answers (suc number) outputs) is

pub outputs_same : (g : Lists) (t : Numbers) (n : ℕ) (own other : List Answer) (touched : List Bool) → end_of g t n other ≡ end.Released
    → Follow (mark touched) own other → (i : ℕ) (o : Outlet) → slice_get g.outputs i ≡ Some o → mark touched o.op ≡ false → SameOutput g t n own other o
outputs_same g t n own other touched released follow i o there untouched =
    let p = g.profile in
    let last = end_or (first_refused p t n other 0 g.outputs) end.Released in
    let middle = end_or (first_outside p other g.outputs) last in
    let no_stop = released_first (first_stop 0 other) middle (never_released 0 other) released in
    let middle_is : middle ≡ end.Released = sym (ap (λ (x : Option CycleEnd). end_or x middle) no_stop) ∙ released in
    let none_outside = released_first (first_outside p other g.outputs) last (outside_never p other g.outputs) middle_is in
    let last_is : last ≡ end.Released = sym (ap (λ (x : Option CycleEnd). end_or x last) none_outside) ∙ middle_is in
    let none_refused = released_first (first_refused p t n other 0 g.outputs) end.Released (refused_never p t n other 0 g.outputs) last_is in
    let same = follow o.op untouched in
    record {
      inside = ap (λ (w : ℤ). fits o.ty (value_part p w)) same ∙ inside_at p other g.outputs i o none_outside there;
      expected_is = ap (λ (w : ℤ). modulo p w) same ∙ expected_at p t n other 0 g.outputs i o none_refused there;
      value = ap (λ (w : ℤ). value_part p w) same;
    }
