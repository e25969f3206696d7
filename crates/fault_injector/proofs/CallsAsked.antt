-- CallsAsked: a cycle of the first channel whose calls go one by one to a unit with a group of faults.
use Rattle.std.proofs.Common.{◌≡◌, ℕ, Some, None, Bool, true, false, cond, ◌+◌, ◌-◌, ◌<◌, List, [], ◌∷◌, ◌++◌, length, drop, slice_get, Option, ℤ, refl, sym, ap, subst, ◌∙◌, arith, inl, inr, append_assoc, append-nil, length-append}
use Rattle.coded_unit.specs.declared.call.Call.{Call}
use Rattle.coded_unit.specs.declared.call.Answer.{Answer}
use Rattle.coded_unit.specs.declared.call.Answer.TheVariants as answer
use Rattle.coded_unit.specs.Log.{Entry, GrowsBy, Counts}
use Rattle.coded_unit.specs.Right.{Right}
use Rattle.coded_unit.specs.Seen.{UnitSeen, StaysHonest}
use Rattle.op_graph.specs.declared.op.Op.{Op}
use Rattle.coded_machine.specs.Calls.{Carried, Setting, CallsOf, CallsNextOperation, Next, call_of}
use Rattle.coded_machine.specs.Laws.{ByHandLaws}
use Rattle.coded_machine.specs.State.{Finished, State, given, setting, with_answer}
use Rattle.fault_injector.proofs.Growing.{grows_on, grows_by_none}
use Rattle.fault_script.specs.declared.act.Act.{Act}
use Rattle.fault_script.specs.declared.act.Act.TheVariants as act
use Rattle.fault_script.specs.declared.act.Fault.{Fault}
use Rattle.fault_script.specs.Changes.{act_at_call, kept_after}
use Rattle.fault_injector.specs.Scripts.{Performed, handed, handed_by, passed, right_under, skips, skips_by, word_at_call}
use Rattle.fault_injector.proofs.CarriedByHand.{CallsDone, call_done, drop_at, get_there, kept_whole, none_done, performed_rises, right_whole}
use Rattle.pair_channel.specs.PairStates.{PairFinished, PairState, pair_with_answer}
use Rattle.fault_injector.specs.GroupCalls.{AskedFrom, AskedOne}
use Rattle.fault_injector.specs.GroupRuns.{CycleAsked}

-- ---- one call

-- what is asked for it
abbrev pub entries_of : List Fault → List (Option ℤ) → Call → Answer → List Entry
entries_of f kept call inner = cond (skips f kept call) [] ((passed f kept call, inner) ∷ [])

skip_word : (x : Option Act) (word : ℤ) (inner : Answer) → skips_by x ≡ true → handed_by x word inner ≡ answer.Word word
skip_word (Some act.Skip) word inner h = refl
skip_word _ word inner h = absurd cc

asked_one : (f : List Fault) (kept : List (Option ℤ)) (call : Call) (a inner : Answer) (b : Bool) (later : List Entry) (Later : List Entry → Type 0) →
    skips f kept call ≡ b → a ≡ handed f kept call inner → Later later →
    AskedOne f kept call a b (cond b [] ((passed f kept call, inner) ∷ []) ++ later) Later
asked_one f kept call a inner true later Later is gives k =
    (gives ∙ skip_word (act_at_call f kept call) (word_at_call f kept call) inner is, k)
asked_one f kept call a inner false later Later is gives k = (refl, gives, k)

-- What was asked for the first operations of a cycle: it goes on with what is asked for the later ones, whatever that is.
abbrev pub AskedSoFar : List Fault → Setting → List (Option ℤ) → List Answer → List (Option ℤ) → List Entry → Type 0
AskedSoFar f s first before now entries =
    (answers : List Answer) (later : List Entry) → AskedFrom f s now before (drop (length before) s.graph.operations) answers later →
    AskedFrom f s first [] s.graph.operations (before ++ answers) (entries ++ later)

left_after : (s : Setting) (before : List Answer) (a : Answer)
    → drop (length before + 1) s.graph.operations ≡ drop (length (before ++ a ∷ [])) s.graph.operations
left_after s before a =
    let many : length before + 1 ≡ length (before ++ a ∷ []) = omega (arith, length-append before (a ∷ [])) in
    ap (λ k. drop k s.graph.operations) many

asked_more : (f : List Fault) (s : Setting) (first now next : List (Option ℤ)) (before : List Answer) (op : Op) (call : Call) (a inner : Answer)
    (entries : List Entry) → slice_get s.graph.operations (length before) ≡ Some op → call ≡ call_of s op before → next ≡ kept_after f now call a →
    a ≡ handed f now call inner → AskedSoFar f s first before now entries →
    AskedSoFar f s first (before ++ a ∷ []) next (entries ++ entries_of f now call inner)
asked_more f s first now next before op call a inner entries there is_call is_next gives h answers later k =
    let ops = s.graph.operations in
    let rest = drop (length before + 1) ops in
    let here = call_of s op before in
    let kept_is : next ≡ kept_after f now here a = is_next ∙ ap (λ x. kept_after f now x a) is_call in
    let behind : AskedFrom f s (kept_after f now here a) (before ++ a ∷ []) rest answers later =
    subst (λ (x : List (Option ℤ)). AskedFrom f s x (before ++ a ∷ []) rest answers later) kept_is
    (subst (λ (xs : List Op). AskedFrom f s next (before ++ a ∷ []) xs answers later) (sym (left_after s before a)) k) in
    let one : AskedFrom f s now before (op ∷ rest) (a ∷ answers) (entries_of f now here inner ++ later) =
    asked_one f now here a inner (skips f now here) later (λ es. AskedFrom f s (kept_after f now here a) (before ++ a ∷ []) rest answers es) refl
    (gives ∙ ap (λ x. handed f now x inner) is_call) behind in
    let at : AskedFrom f s now before (drop (length before) ops) (a ∷ answers) (entries_of f now call inner ++ later) =
    subst (λ (xs : List Op). AskedFrom f s now before xs (a ∷ answers) (entries_of f now call inner ++ later)) (sym (drop_at ops (length before) op there))
    (subst (λ (x : Call). AskedFrom f s now before (op ∷ rest) (a ∷ answers) (entries_of f now x inner ++ later)) (sym is_call) one) in
    subst (λ (xs : List Answer). AskedFrom f s first [] ops xs ((entries ++ entries_of f now call inner) ++ later)) (sym (append_assoc before (a ∷ []) answers))
    (subst (λ (es : List Entry). AskedFrom f s first [] ops (before ++ (a ∷ answers)) es) (sym (append_assoc entries (entries_of f now call inner) later))
    (h (a ∷ answers) (entries_of f now call inner ++ later) at))

asked_first : (f : List Fault) (s : Setting) (kept : List (Option ℤ)) → AskedSoFar f s kept [] kept []
asked_first f s kept answers later h = h

asked_whole : (f : List Fault) (s : Setting) (first now : List (Option ℤ)) (answers : List Answer) (entries : List Entry) →
    AskedSoFar f s first answers now entries → AskedFrom f s first [] s.graph.operations answers entries
asked_whole f s first now answers entries h =
    subst (λ (xs : List Answer). AskedFrom f s first [] s.graph.operations xs entries) (append-nil answers)
    (subst (λ (es : List Entry). AskedFrom f s first [] s.graph.operations (answers ++ []) es) (append-nil entries) (h [] [] refl))

-- ---- a cycle between two of its calls

-- The machine is under way, the outer unit carried its calls, and the unit inside was asked these entries for them.
pub record CycleSoFar (first m : State) (row : List ℤ) (f : List Fault) (kept_first kept : List (Option ℤ)) (i j : ℕ) (before now : UnitSeen)
    : Type 0 where
  pub done : CallsDone first m row f kept_first kept before.wrong now.wrong
  pub carried : Carried (CallsOf (setting first row) (given m)) None None i j
  pub entries : List Entry
  pub asked : AskedSoFar f (setting first row) kept_first (given m) kept entries
  pub log : GrowsBy before.log now.log entries

pub nothing_asked : ByHandLaws → (m : State) (row : List ℤ) (f : List Fault) (kept : List (Option ℤ)) (i : ℕ) (before : UnitSeen) → m.ended ≡ None →
    m.under_way ≡ false → CycleSoFar m m row f kept kept i i before before
nothing_asked laws m row f kept i before going between =
    let nothing : given m ≡ [] = ap (λ b. cond b m.answers []) between in
    record {
      done = none_done laws m row f kept before.wrong going between;
      carried = subst (λ (es : List Entry). Carried es None None i i) (laws.begins m row going between).calls_are (laws.nothing_carried None i);
      entries = [];
      asked = subst (λ (xs : List Answer). AskedSoFar f (setting m row) kept xs kept []) (sym nothing) (asked_first f (setting m row) kept);
      log = grows_by_none before.log;
    }

pub one_asked : ByHandLaws → (first m n : State) (row : List ℤ) (f g : List Fault) (kept_first now next : List (Option ℤ)) (i j k : ℕ)
    (before here after : UnitSeen) (call : Call) (a : Answer) → CycleSoFar first m row f kept_first now i j before here →
    Next (setting m row) (given m) call → CallsNextOperation (setting m row) (given m) call → length (given m) < length m.graph.operations →
    n ≡ with_answer m a → g ≡ f → next ≡ kept_after g now call a → Counts a (Right call) j k →
    Performed g now call a here.log after.log here.wrong after.wrong → (StaysHonest here after → a ≡ right_under g now call) →
    CycleSoFar first n row f kept_first next i k before after
one_asked laws first m n row f g kept_first now next i j k before here after call a d is_next is_call left is_n is_f kept counts performed right =
    let s = setting first row in
    let under = d.done.under in
    let same : setting m row ≡ s = ap (λ (x : State). setting x row) under.same in
    let there = get_there m.graph.operations (length (given m)) left in
    let here_is : slice_get s.graph.operations (length (given m)) ≡ Some there.0 =
    ap (λ (x : Setting). slice_get x.graph.operations (length (given m))) (sym same) ∙ there.1 in
    let call_is : call ≡ call_of s there.0 (given m) = is_call there.0 there.1 ∙ ap (λ (x : Setting). call_of x there.0 (given m)) same in
    let kept_is : next ≡ kept_after f now call a = kept ∙ ap (λ (x : List Fault). kept_after x now call a) is_f in
    let p : Performed f now call a here.log after.log here.wrong after.wrong =
    subst (λ (x : List Fault). Performed x now call a here.log after.log here.wrong after.wrong) is_f performed in
    let more : given n ≡ given m ++ a ∷ [] = ap given is_n in
    let goes = laws.goes_on first m n row (CallsOf s (given m)) call a under is_next is_n in
    record {
      done = call_done laws first m n row f g kept_first now next before.wrong here.wrong after.wrong call a d.done is_next is_call left is_n is_f kept
          (performed_rises g now call a here.log after.log here.wrong after.wrong performed) right;
      carried = subst (λ (es : List Entry). Carried es None None i k) goes.calls_are
          (laws.one_carried (CallsOf s (given m)) call a None None None i j k d.carried tt counts);
      entries = d.entries ++ entries_of f now call p.inner;
      asked = subst (λ (xs : List Answer). AskedSoFar f s kept_first xs next (d.entries ++ entries_of f now call p.inner)) (sym more)
          (asked_more f s kept_first now next (given m) there.0 call a p.inner d.entries here_is call_is kept_is p.gives d.asked);
      log = grows_on before.log here.log after.log d.entries (entries_of f now call p.inner) d.log p.told;
    }

-- a whole cycle
pub cycle_asked : (first m : State) (row : List ℤ) (f : List Fault) (kept_first kept : List (Option ℤ)) (i j : ℕ) (before now : UnitSeen)
    (answers : List Answer) → answers ≡ given m → CycleSoFar first m row f kept_first kept i j before now →
    CycleAsked f (setting first row) kept_first answers kept before now
cycle_asked first m row f kept_first kept i j before now answers is d =
    let s = setting first row in
    subst (λ (xs : List Answer). CycleAsked f s kept_first xs kept before now) (sym is) (record {
      calls = d.entries;
      asked = asked_whole f s kept_first kept (given m) d.entries d.asked;
      log = d.log;
      later = d.done.never_falls;
      kept_is = kept_whole f s kept_first kept (given m) d.done.kept_so_far;
      right = λ h. right_whole f s kept_first kept (given m) (d.done.right_so_far h);
    })

-- a pair with no end before has no call to make where its first machine has none
pub first_finished : (p : PairState) → p.ended ≡ None → PairFinished p → Finished p.first
first_finished p going (inl ended) = absurd (ended going)
first_finished p going (inr finished) = finished

-- one call fewer is left after each answer
pub asked_smaller : (p n : PairState) (a : Answer) → n ≡ pair_with_answer p a → length (given p.first) < length p.first.graph.operations
    → length n.first.graph.operations - length (given n.first) < length p.first.graph.operations - length (given p.first)
asked_smaller p n a is left =
    let ops : length n.first.graph.operations ≡ length p.first.graph.operations = ap (λ (x : PairState). length x.first.graph.operations) is in
    let more : length (given n.first) ≡ length (given p.first ++ a ∷ []) = ap (λ (x : PairState). length (given x.first)) is in
    omega (arith, ops, more, length-append (given p.first) (a ∷ []), left)
