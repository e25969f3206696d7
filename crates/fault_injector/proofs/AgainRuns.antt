-- AgainRuns: the rerun of a cycle, call by call, and of a run, cycle by cycle.
use Rattle.std.proofs.Common.{◌≡◌, ℕ, zero, suc, ◌+◌, ◌<◌, ◌≤◌, Bool, true, false, cond, List, [], ◌∷◌, ◌++◌, length, drop, get_or, slice_get, Option, Some, None, ℤ, refl, sym, ap, subst, ◌∙◌, arith}
use Rattle.std.proofs.lemmas.List.{append_assoc, append-nil, length-append}
use Rattle.vcp_base.specs.declared.kind.StopKind.{StopKind}
use Rattle.vcp_base.specs.declared.kind.StopKind.TheVariants as why
use Rattle.coded_unit.specs.declared.call.Call.{Call}
use Rattle.coded_unit.specs.declared.call.Answer.{Answer}
use Rattle.coded_unit.specs.declared.call.Answer.TheVariants as answer
use Rattle.coded_unit.specs.Log.{Entry, GrowsBy}
use Rattle.op_graph.specs.declared.op.Op.{Op}
use Rattle.fault_script.specs.declared.act.Act.{Act}
use Rattle.coded_machine.specs.Calls.{AllRight, AllWords, Carried, call_of, is_word}
use Rattle.coded_machine.specs.Honest.{stop_answer}
use Rattle.fault_injector.specs.RunLaw.{taken}
use Rattle.fault_injector.specs.Scripts.{handed_by, passed_by, skips_by}
use Rattle.fault_injector.specs.Begun.{Comes, GoesOver, RanAgain}
use Rattle.fault_injector.specs.References.{words_answered}
use Rattle.fault_injector.specs.Reruns.{CycleAgain, Source, has, asks, ended, Part, source, source_of, source_touched, done, after_answer, go_on, again}
use Rattle.fault_injector.specs.Touched.{mark}
use Rattle.fault_injector.proofs.ListsOfReruns.{there_is}

-- ---- what was carried, one part after another

grows_more : (x y z : Option (List Entry)) (es fs : List Entry) → GrowsBy x y es → GrowsBy y z fs → GrowsBy x z (es ++ fs)
grows_more (Some a) (Some b) (Some c) es fs g h = h ∙ (ap (λ (xs : List Entry). xs ++ fs) g ∙ append_assoc a es fs)
grows_more (Some a) (Some b) None es fs g h = tt
grows_more (Some a) None (Some c) es fs g h = absurd h
grows_more (Some a) None None es fs g h = tt
grows_more None (Some b) z es fs g h = absurd g
grows_more None None (Some c) es fs g h = absurd h
grows_more None None None es fs g h = tt

right_more : (es fs : List Entry) → AllRight es → AllRight fs → AllRight (es ++ fs)
right_more [] fs r s = s
right_more (e ∷ es) fs r s = (r.0, right_more es fs r.1 s)

pub carried_on : (es fs : List Entry) (x y z : Option (List Entry)) (i j k : ℕ) → Carried es x y i j → Carried fs y z j k → Carried (es ++ fs) x z i k
carried_on es fs x y z i j k c d = record {
  told = grows_more x y z es fs c.told d.told;
  never_falls = omega (arith, c.never_falls, d.never_falls);
  honest = λ same below.
      let first : j ≡ i = omega (arith, c.never_falls, d.never_falls, same) in
      right_more es fs (c.honest first below) (d.honest (omega (arith, same, first)) (omega (arith, first, below)));
}

-- ---- one call

-- the unit was asked
pub comes_asked : (a : Option Act) (word : ℤ) (call : Call) (given r : Answer) (x y : Option (List Entry)) (i j : ℕ) → skips_by a ≡ false
    → r ≡ handed_by a word given → Carried ((passed_by a word call, given) ∷ []) x y i j → Comes (source_touched a word call) (Some r) x y i j
comes_asked a word call given r x y i j skip is carried =
    subst (λ (b : Bool). Comes (cond b (has (answer.Word word)) (asks (passed_by a word call) a word)) (Some r) x y i j) (sym skip)
    (given, ap (λ (z : Answer). Some z) is, carried)

-- it wasn't
pub comes_skipped : (a : Option Act) (word : ℤ) (call : Call) (x : Option (List Entry)) (i : ℕ) → skips_by a ≡ true → Carried [] x x i i
    → Comes (source_touched a word call) (Some (answer.Word word)) x x i i
comes_skipped a word call x i skip nothing =
    subst (λ (b : Bool). Comes (cond b (has (answer.Word word)) (asks (passed_by a word call) a word)) (Some (answer.Word word)) x x i i) (sym skip)
    (refl, nothing)

-- The next operation, of which a call tells how it gets its answer.
pub record Told (c : CycleAgain) (own : List Answer) (r : Option Answer) (x y : Option (List Entry)) (i j : ℕ) : Type 0 where
  pub op : Op
  pub there : slice_get c.setting.graph.operations (length own) ≡ Some op
  pub comes : Comes (source c own op) r x y i j

pub told : (c : CycleAgain) (own xs : List Answer) (r : Option Answer) (x y : Option (List Entry)) (i j : ℕ) → xs ≡ own
    → length own < length c.setting.graph.operations
    → ((op : Op) → slice_get c.setting.graph.operations (length xs) ≡ Some op → Comes (source c xs op) r x y i j) → Told c own r x y i j
told c own xs r x y i j is below tells =
    let ops = c.setting.graph.operations in
    let there = there_is ops (length own) below in
    record {
      op = there.0;
      there = there.1;
      comes =
          subst (λ (us : List Answer). Comes (source c us there.0) r x y i j) is
          (tells there.0 (ap (λ (us : List Answer). slice_get ops (length us)) is ∙ there.1));
    }

-- with its answer
pub answer_told : (c : CycleAgain) (own xs : List Answer) (r : Option Answer) (a : Answer) (x y : Option (List Entry)) (i j : ℕ) → xs ≡ own → r ≡ Some a
    → length own < length c.setting.graph.operations
    → ((op : Op) → slice_get c.setting.graph.operations (length xs) ≡ Some op → Comes (source c xs op) r x y i j) → Told c own (Some a) x y i j
answer_told c own xs r a x y i j is r_is below tells =
    subst (λ (o : Option Answer). Told c own o x y i j) r_is (told c own xs r x y i j is below tells)

-- or none
pub none_told : (c : CycleAgain) (own xs : List Answer) (r : Option Answer) (x y : Option (List Entry)) (i j : ℕ) → xs ≡ own → r ≡ None
    → length own < length c.setting.graph.operations
    → ((op : Op) → slice_get c.setting.graph.operations (length xs) ≡ Some op → Comes (source c xs op) r x y i j) → Told c own None x y i j
none_told c own xs r x y i j is r_is below tells =
    subst (λ (o : Option Answer). Told c own o x y i j) r_is (told c own xs r x y i j is below tells)

source_told : (o : Option Answer) (x : Option (List Entry)) (i : ℕ) → Carried [] x x i i → Comes (source_of o) o x x i i
source_told (Some a) x i nothing = (refl, nothing)
source_told None x i nothing = (refl, nothing)

-- the operation isn't touched
pub comes_untouched : (c : CycleAgain) (own : List Answer) (op : Op) (r : Option Answer) (x : Option (List Entry)) (i : ℕ) → mark c.touched (length own) ≡ false
    → r ≡ slice_get c.other (length own) → Carried [] x x i i → Comes (source c own op) r x x i i
comes_untouched c own op r x i untouched is nothing =
    let k = length own in
    let other = slice_get c.other k in
    let touched = source_touched (c.acts k) (taken c.past own op (c.acts k)) (call_of c.setting op own) in
    subst (λ (b : Bool). Comes (cond b touched (source_of other)) r x x i i) (sym untouched)
    (subst (λ (o : Option Answer). Comes (source_of other) o x x i i) (sym is) (source_told other x i nothing))

-- it is
pub comes_touched : (c : CycleAgain) (own : List Answer) (op : Op) (a : Option Act) (word : ℤ) (call : Call) (r : Answer) (x y : Option (List Entry)) (i j : ℕ)
    → mark c.touched (length own) ≡ true → a ≡ c.acts (length own) → word ≡ taken c.past own op a → call ≡ call_of c.setting op own
    → Comes (source_touched a word call) (Some r) x y i j → Comes (source c own op) (Some r) x y i j
comes_touched c own op a word call r x y i j touched act_is word_is call_is comes =
    let k = length own in
    let here = call_of c.setting op own in
    let asked : Comes (source_touched a word here) (Some r) x y i j =
    subst (λ (z : Call). Comes (source_touched a word z) (Some r) x y i j) call_is comes in
    let with_word : Comes (source_touched a (taken c.past own op a) here) (Some r) x y i j =
    subst (λ (w : ℤ). Comes (source_touched a w here) (Some r) x y i j) word_is asked in
    let with_act : Comes (source_touched (c.acts k) (taken c.past own op (c.acts k)) here) (Some r) x y i j =
    subst (λ (z : Option Act). Comes (source_touched z (taken c.past own op z) here) (Some r) x y i j) act_is with_word in
    subst (λ (b : Bool). Comes (cond b (source_touched (c.acts k) (taken c.past own op (c.acts k)) here) (source_of (slice_get c.other k))) (Some r) x y i j)
    (sym touched) with_act

-- ---- one cycle

-- these calls were made before
abbrev pub after_calls : List Entry → Part → Part
after_calls entries p = record p { calls = entries ++ p.calls }

after_more : (es fs : List Entry) (p : Part) → after_calls es (after_calls fs p) ≡ after_calls (es ++ fs) p
after_more es fs p = ap (λ (cs : List Entry). record p { calls = cs }) (sym (append_assoc es fs p.calls))

after_done : (es : List Entry) (own left : List Answer) → after_calls es (done own left) ≡ record { own = own; calls = es; left = left; too_few = false }
after_done es own left = ap (λ (cs : List Entry). record (done own left) { calls = cs }) (append-nil es)

-- A rerun in the midst of a cycle: so many operations have these answers, and whatever more the unit gives, the whole goes on from them.
pub record Midway (c : CycleAgain) (k : ℕ) (own : List Answer) (x y : Option (List Entry)) (i j : ℕ) : Type 0 where
  pub given : List Answer
  pub entries : List Entry
  pub so_far : (more : List Answer) → again c [] c.setting.graph.operations (given ++ more)
      ≡ after_calls entries (again c own (drop k c.setting.graph.operations) more)
  pub carried : Carried entries x y i j

pub begins : (c : CycleAgain) (x : Option (List Entry)) (i : ℕ) → Carried [] x x i i → Midway c 0 [] x x i i
begins c x i nothing = record { given = []; entries = []; so_far = λ more. refl; carried = nothing }

-- what the next operation adds
record Adds (c : CycleAgain) (own : List Answer) (op : Op) (rest : List Op) (onward : List Answer → Part) (x y : Option (List Entry)) (i j : ℕ) : Type 0 where
  given : List Answer
  entries : List Entry
  adds : (more : List Answer) → again c own (op ∷ rest) (given ++ more) ≡ after_calls entries (onward more)
  carried : Carried entries x y i j

abbrev next_by : CycleAgain → List Answer → List Op → Answer → List Answer → Part
next_by c own rest a left = after_answer (is_word a) (own ++ a ∷ []) (λ (more : List Answer). again c (own ++ a ∷ []) rest more) left

some_same : (a b : Answer) → Some a ≡ Some b → a ≡ b
some_same a b e = cc

adds_answer : (c : CycleAgain) (own : List Answer) (op : Op) (rest : List Op) (a : Answer) (s : Source) (x y : Option (List Entry)) (i j : ℕ)
    → source c own op ≡ s → Comes s (Some a) x y i j → Adds c own op rest (next_by c own rest a) x y i j
adds_answer c own op rest a (has b) x y i j is comes =
    let next = next_by c own rest in
    record {
      given = [];
      entries = [];
      adds = λ more. ap (λ (s : Source). go_on own s next more) is ∙ ap (λ (o : Answer). next o more) (sym (some_same a b comes.0));
      carried = comes.1;
    }
adds_answer c own op rest a (asks call act word) x y i j is comes =
    let next = next_by c own rest in
    let given = comes.0 in
    record {
      given = given ∷ [];
      entries = (call, given) ∷ [];
      adds = λ more.
          ap (λ (s : Source). go_on own s next (given ∷ more)) is
          ∙ ap (λ (o : Answer). after_calls ((call, given) ∷ []) (next o more)) (sym (some_same a (handed_by act word given) comes.1));
      carried = comes.2;
    }
adds_answer c own op rest a ended x y i j is comes = absurd (let e = comes.0 in cc)

adds_end : (c : CycleAgain) (own : List Answer) (op : Op) (rest : List Op) (s : Source) (x y : Option (List Entry)) (i j : ℕ)
    → source c own op ≡ s → Comes s None x y i j → Adds c own op rest (done own) x y i j
adds_end c own op rest (has b) x y i j is comes = absurd (let e = comes.0 in cc)
adds_end c own op rest (asks call act word) x y i j is comes = absurd (let e = comes.1 in cc)
adds_end c own op rest ended x y i j is comes =
    record {
      given = [];
      entries = [];
      adds = λ more. ap (λ (s : Source). go_on own s (next_by c own rest) more) is;
      carried = comes.1;
    }

drop_op : (ops : List Op) (k : ℕ) (op : Op) → slice_get ops k ≡ Some op → drop k ops ≡ op ∷ drop (k + 1) ops
drop_op [] k op there = absurd cc
drop_op (o ∷ ops) zero op there = let same : o ≡ op = cc in ap (λ (p : Op). p ∷ ops) same
drop_op (o ∷ ops) (suc k) op there =
    let on : suc k + 1 ≡ suc (k + 1) = omega arith in
    drop_op ops k op there ∙ ap (λ (n : ℕ). op ∷ drop n (o ∷ ops)) (sym on)

-- what a rerun has made so far, and then what the next operation adds
record Both (c : CycleAgain) (onward : List Answer → Part) (x y : Option (List Entry)) (i j : ℕ) : Type 0 where
  given : List Answer
  entries : List Entry
  both : (more : List Answer) → again c [] c.setting.graph.operations (given ++ more) ≡ after_calls entries (onward more)
  carried : Carried entries x y i j

joined : (c : CycleAgain) (k : ℕ) (own : List Answer) (op : Op) (onward : List Answer → Part) (x y z : Option (List Entry)) (i j l : ℕ)
    → slice_get c.setting.graph.operations k ≡ Some op → Midway c k own x y i j
    → Adds c own op (drop (k + 1) c.setting.graph.operations) onward y z j l → Both c onward x z i l
joined c k own op onward x y z i j l there m a =
    let ops = c.setting.graph.operations in
    record {
      given = m.given ++ a.given;
      entries = m.entries ++ a.entries;
      both = λ more.
          ap (λ (left : List Answer). again c [] ops left) (append_assoc m.given a.given more)
          ∙ (m.so_far (a.given ++ more)
          ∙ (ap (λ (rest : List Op). after_calls m.entries (again c own rest (a.given ++ more))) (drop_op ops k op there)
          ∙ (ap (after_calls m.entries) (a.adds more) ∙ after_more m.entries a.entries (onward more))));
      carried = carried_on m.entries a.entries x y z i j l m.carried a.carried;
    }

-- a word leads on
pub goes_on : (c : CycleAgain) (k : ℕ) (own : List Answer) (op : Op) (a : Answer) (x y z : Option (List Entry)) (i j l : ℕ)
    → slice_get c.setting.graph.operations k ≡ Some op → Midway c k own x y i j → Comes (source c own op) (Some a) y z j l → is_word a ≡ true
    → Midway c (k + 1) (own ++ a ∷ []) x z i l
goes_on c k own op a x y z i j l there m comes word =
    let rest = drop (k + 1) c.setting.graph.operations in
    let b = joined c k own op (next_by c own rest a) x y z i j l there m (adds_answer c own op rest a (source c own op) y z j l refl comes) in
    record {
      given = b.given;
      entries = b.entries;
      so_far = λ more.
          b.both more
          ∙ ap (λ (w : Bool). after_calls b.entries (after_answer w (own ++ a ∷ []) (λ (left : List Answer). again c (own ++ a ∷ []) rest left) more)) word;
      carried = b.carried;
    }

-- any other answer ends the cycle
pub stops : (c : CycleAgain) (k : ℕ) (own : List Answer) (op : Op) (a : Answer) (x y z : Option (List Entry)) (i j l : ℕ)
    → slice_get c.setting.graph.operations k ≡ Some op → Midway c k own x y i j → Comes (source c own op) (Some a) y z j l → is_word a ≡ false
    → RanAgain c (own ++ a ∷ []) x z i l
stops c k own op a x y z i j l there m comes word =
    let rest = drop (k + 1) c.setting.graph.operations in
    let b = joined c k own op (next_by c own rest a) x y z i j l there m (adds_answer c own op rest a (source c own op) y z j l refl comes) in
    record {
      given = b.given;
      entries = b.entries;
      comes = λ more.
          b.both more
          ∙ (ap (λ (w : Bool). after_calls b.entries (after_answer w (own ++ a ∷ []) (λ (left : List Answer). again c (own ++ a ∷ []) rest left) more)) word
          ∙ after_done b.entries (own ++ a ∷ []) more);
      carried = b.carried;
    }

-- no answer ends it before
pub ends : (c : CycleAgain) (k : ℕ) (own : List Answer) (op : Op) (x y z : Option (List Entry)) (i j l : ℕ)
    → slice_get c.setting.graph.operations k ≡ Some op → Midway c k own x y i j → Comes (source c own op) None y z j l → RanAgain c own x z i l
ends c k own op x y z i j l there m comes =
    let rest = drop (k + 1) c.setting.graph.operations in
    let b = joined c k own op (done own) x y z i j l there m (adds_end c own op rest (source c own op) y z j l refl comes) in
    record {
      given = b.given;
      entries = b.entries;
      comes = λ more. b.both more ∙ after_done b.entries own more;
      carried = b.carried;
    }

drop_past : (ops : List Op) (k : ℕ) → length ops ≤ k → drop k ops ≡ []
drop_past [] zero few = refl
drop_past [] (suc k) few = refl
drop_past (o ∷ ops) zero few = absurd (omega (arith, few))
drop_past (o ∷ ops) (suc k) few = drop_past ops k (omega (arith, few))

-- and so does the last operation
pub completes : (c : CycleAgain) (k : ℕ) (own : List Answer) (x y : Option (List Entry)) (i j : ℕ) → length c.setting.graph.operations ≤ k
    → Midway c k own x y i j → RanAgain c own x y i j
completes c k own x y i j all m = record {
  given = m.given;
  entries = m.entries;
  comes = λ more.
      m.so_far more
      ∙ (ap (λ (rest : List Op). after_calls m.entries (again c own rest more)) (drop_past c.setting.graph.operations k all) ∙ after_done m.entries own more);
  carried = m.carried;
}

pub words_more : (own : List Answer) (a : Answer) → AllWords own → is_word a ≡ true → AllWords (own ++ a ∷ [])
words_more [] a all word = (word, tt)
words_more (o ∷ own) a all word = (all.0, words_more own a all.1 word)

-- ---- operations that have an answer without a call

one_more : {X : Type 0} (xs : List X) (x : X) → length xs + 1 ≡ length (xs ++ x ∷ [])
one_more xs x = let more = length-append xs (x ∷ []) in omega (arith, more)

pub over_word : (c : CycleAgain) (before own : List Answer) (op : Op) (w : ℤ) → slice_get c.setting.graph.operations (length own) ≡ Some op
    → mark c.touched (length own) ≡ false → slice_get c.other (length own) ≡ Some (answer.Word w) → GoesOver c before own
    → GoesOver c before (own ++ answer.Word w ∷ [])
over_word c before own op w there untouched other over = λ more.
    let ops = c.setting.graph.operations in
    let k = length own in
    let rest = drop (k + 1) ops in
    let asked = source_touched (c.acts k) (taken c.past own op (c.acts k)) (call_of c.setting op own) in
    let is : source c own op ≡ has (answer.Word w) =
    ap (λ (b : Bool). cond b asked (source_of (slice_get c.other k))) untouched ∙ ap source_of other in
    over more
    ∙ (ap (λ (left : List Op). again c own left more) (drop_op ops k op there)
    ∙ (ap (λ (s : Source). go_on own s (next_by c own rest) more) is
    ∙ ap (λ (n : ℕ). again c (own ++ answer.Word w ∷ []) (drop n ops) more) (one_more own (answer.Word w))))

pub moves_over : (c : CycleAgain) (before own : List Answer) (x y : Option (List Entry)) (i j : ℕ) → Midway c (length before) before x y i j
    → GoesOver c before own → Midway c (length own) own x y i j
moves_over c before own x y i j m over = record {
  given = m.given;
  entries = m.entries;
  so_far = λ more. m.so_far more ∙ ap (after_calls m.entries) (over more);
  carried = m.carried;
}

pub word_there : (words : List ℤ) (stop : Option StopKind) (k : ℕ) (w : ℤ) → k < length words
    → slice_get (words_answered words ++ stop_answer stop) k ≡ Some (answer.Word (get_or words k w))
word_there [] stop k w within = absurd (omega (arith, within))
word_there (x ∷ words) stop zero w within = refl
word_there (x ∷ words) stop (suc k) w within = word_there words stop k w (omega (arith, within))

end_there : (words : List ℤ) (us : List Answer) → slice_get (words_answered words ++ us) (length words) ≡ slice_get us 0
end_there [] us = refl
end_there (x ∷ words) us = end_there words us

-- the stop stands behind the words
pub stop_there : (words : List ℤ) (stop : Option StopKind) (k : ℕ) (why : StopKind) (a : Answer) → k ≡ length words → stop ≡ Some why
    → stop_answer (Some why) ≡ a ∷ [] → Some a ≡ slice_get (words_answered words ++ stop_answer stop) k
stop_there words stop k why a here is told =
    sym (ap (slice_get (words_answered words ++ stop_answer stop)) here
    ∙ (end_there words (stop_answer stop) ∙ ap (λ (us : List Answer). slice_get us 0) (ap stop_answer is ∙ told)))

pub none_there : (words : List ℤ) (stop : Option StopKind) (k : ℕ) → k ≡ length words → stop ≡ None
    → None ≡ slice_get (words_answered words ++ stop_answer stop) k
none_there words stop k here is =
    sym (ap (slice_get (words_answered words ++ stop_answer stop)) here
    ∙ (end_there words (stop_answer stop) ∙ ap (λ (us : List Answer). slice_get us 0) (ap stop_answer is)))

-- and nothing behind that
pub past_there : (words : List ℤ) (stop : Option StopKind) (k : ℕ) → length words < k → None ≡ slice_get (words_answered words ++ stop_answer stop) k
past_there [] None k past = refl
past_there [] (Some why.Range) (suc k) past = refl
past_there [] (Some why.DivZero) (suc k) past = refl
past_there [] (Some why.Operand) (suc k) past = refl
past_there [] (Some w) zero past = absurd (omega (arith, past))
past_there (x ∷ words) stop zero past = absurd (omega (arith, past))
past_there (x ∷ words) stop (suc k) past = past_there words stop k (omega (arith, past))
