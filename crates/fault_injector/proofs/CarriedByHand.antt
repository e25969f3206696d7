-- CarriedByHand: a cycle whose calls go one by one to a unit with a group of scripted faults.
use Rattle.std.proofs.Common.{◌≡◌, ℕ, zero, suc, Some, None, Bool, true, false, cond, nat_lt, inl, inr, ◌+◌, ◌-◌, ◌^◌, ◌<◌, ◌≤◌, List, [], ◌∷◌, ◌++◌, length, drop, slice_get, Option, ℤ, refl, sym, ap, subst, ◌∙◌, arith, add-one, drop-cons}
use Rattle.std.proofs.lemmas.List.{append_assoc, append-nil}
use Rattle.std.proofs.lemmas.Option.{get_or_from_slice_get, slice_get_within}
use Rattle.coded_unit.specs.declared.call.Call.{Call}
use Rattle.coded_unit.specs.declared.call.Answer.{Answer}
use Rattle.coded_unit.specs.Log.{Entry, Counts}
use Rattle.coded_unit.specs.Right.{Right}
use Rattle.op_graph.specs.declared.op.Op.{Op}
use Rattle.coded_machine.specs.Calls.{Setting, CallsOf, CallsNextOperation, Next, call_of}
use Rattle.coded_machine.specs.Laws.{ByHandLaws}
use Rattle.coded_machine.specs.Runs.{UnderWay}
use Rattle.coded_machine.specs.State.{State, given, setting, with_answer}
use Rattle.fault_script.specs.declared.act.Fault.{Fault}
use Rattle.fault_script.specs.Changes.{kept_after}
use Rattle.coded_unit.specs.Seen.{StoodStill}
use Rattle.fault_injector.specs.Scripts.{right_under, passed, skips, Performed}
use Rattle.fault_injector.specs.ScriptedRun.{ScriptedCycle, kept_through}

-- what stands at a place, and after it
pub drop_at : {X : Type 0} (xs : List X) (k : ℕ) (x : X) → slice_get xs k ≡ Some x → drop k xs ≡ x ∷ drop (k + 1) xs
drop_at xs k x there =
    let within : k < length xs = slice_get_within xs k x there in
    rw add-one (drop-cons xs k x within ∙ ap (λ y. y ∷ drop (suc k) xs) (get_or_from_slice_get xs k x x there))

pub get_there : {X : Type 0} (xs : List X) (i : ℕ) → i < length xs → (x : X) × (slice_get xs i ≡ Some x)
get_there [] i lt = absurd (omega arith)
get_there (x ∷ xs) zero lt = (x, refl)
get_there (x ∷ xs) (suc i) lt = get_there xs i (omega arith)

-- The answers to the first operations of a cycle, whatever answers come later: with them the unit keeps what it then keeps of the later ones.
abbrev pub KeptSoFar : List Fault → Setting → List (Option ℤ) → List Answer → List (Option ℤ) → Type 0
KeptSoFar f s first before now =
    (more : List Answer) →
    kept_through f s first [] s.graph.operations (before ++ more) ≡ kept_through f s now before (drop (length before) s.graph.operations) more

-- and where the later ones are right, all are
abbrev pub RightSoFar : List Fault → Setting → List (Option ℤ) → List Answer → List (Option ℤ) → Type 0
RightSoFar f s first before now =
    (more : List Answer) → ScriptedCycle f s now before (drop (length before) s.graph.operations) more →
    ScriptedCycle f s first [] s.graph.operations (before ++ more)

one_longer : (before : List Answer) (a : Answer) → length (before ++ a ∷ []) ≡ length before + 1
one_longer [] a = refl
one_longer (b ∷ before) a = omega (arith, one_longer before a)

left_after : (s : Setting) (before : List Answer) (a : Answer)
    → drop (length before + 1) s.graph.operations ≡ drop (length (before ++ a ∷ [])) s.graph.operations
left_after s before a = ap (λ k. drop k s.graph.operations) (sym (one_longer before a))

pub kept_more : (f : List Fault) (s : Setting) (first now next : List (Option ℤ)) (before : List Answer) (op : Op) (call : Call) (a : Answer) →
    slice_get s.graph.operations (length before) ≡ Some op → call ≡ call_of s op before → next ≡ kept_after f now call a →
    KeptSoFar f s first before now → KeptSoFar f s first (before ++ a ∷ []) next
kept_more f s first now next before op call a there is_call is_next h more =
    let ops = s.graph.operations in
    let call_is : kept_after f now (call_of s op before) a ≡ next = ap (λ x. kept_after f now x a) (sym is_call) ∙ sym is_next in
    let here : kept_through f s now before (drop (length before) ops) (a ∷ more)
    ≡ kept_through f s (kept_after f now (call_of s op before) a) (before ++ a ∷ []) (drop (length before + 1) ops) more =
    ap (λ (xs : List Op). kept_through f s now before xs (a ∷ more)) (drop_at ops (length before) op there) in
    ap (λ (xs : List Answer). kept_through f s first [] ops xs) (append_assoc before (a ∷ []) more)
    ∙ (h (a ∷ more) ∙ (here
    ∙ (ap (λ (k : List (Option ℤ)). kept_through f s k (before ++ a ∷ []) (drop (length before + 1) ops) more) call_is
    ∙ ap (λ (xs : List Op). kept_through f s next (before ++ a ∷ []) xs more) (left_after s before a))))

pub right_more : (f : List Fault) (s : Setting) (first now next : List (Option ℤ)) (before : List Answer) (op : Op) (call : Call) (a : Answer) →
    slice_get s.graph.operations (length before) ≡ Some op → call ≡ call_of s op before → next ≡ kept_after f now call a →
    a ≡ right_under f now call → RightSoFar f s first before now → RightSoFar f s first (before ++ a ∷ []) next
right_more f s first now next before op call a there is_call is_next right h more later =
    let ops = s.graph.operations in
    let call_is : next ≡ kept_after f now (call_of s op before) a = is_next ∙ ap (λ x. kept_after f now x a) is_call in
    let later_there : ScriptedCycle f s (kept_after f now (call_of s op before) a) (before ++ a ∷ []) (drop (length before + 1) ops) more =
    subst (λ (k : List (Option ℤ)). ScriptedCycle f s k (before ++ a ∷ []) (drop (length before + 1) ops) more) call_is
    (subst (λ (xs : List Op). ScriptedCycle f s next (before ++ a ∷ []) xs more) (sym (left_after s before a)) later) in
    let all : ScriptedCycle f s now before (op ∷ drop (length before + 1) ops) (a ∷ more) =
    (right ∙ ap (right_under f now) is_call, later_there) in
    subst (λ (xs : List Answer). ScriptedCycle f s first [] ops xs) (sym (append_assoc before (a ∷ []) more))
    (h (a ∷ more) (subst (λ (xs : List Op). ScriptedCycle f s now before xs (a ∷ more)) (sym (drop_at ops (length before) op there)) all))

-- before the first call
pub kept_first : (f : List Fault) (s : Setting) (kept : List (Option ℤ)) → KeptSoFar f s kept [] kept
kept_first f s kept more = refl

pub right_first : (f : List Fault) (s : Setting) (kept : List (Option ℤ)) → RightSoFar f s kept [] kept
right_first f s kept more h = h

-- after the last
pub kept_whole : (f : List Fault) (s : Setting) (first now : List (Option ℤ)) (answers : List Answer) → KeptSoFar f s first answers now →
    now ≡ kept_through f s first [] s.graph.operations answers
kept_whole f s first now answers h = sym (h []) ∙ ap (λ (xs : List Answer). kept_through f s first [] s.graph.operations xs) (append-nil answers)

pub right_whole : (f : List Fault) (s : Setting) (first now : List (Option ℤ)) (answers : List Answer) → RightSoFar f s first answers now →
    ScriptedCycle f s first [] s.graph.operations answers
right_whole f s first now answers h = subst (λ (xs : List Answer). ScriptedCycle f s first [] s.graph.operations xs) (append-nil answers) (h [] tt)

-- ---- the unit

-- A unit that stayed honest through two parts did so in each.
pub honest_first : (i j k : ℕ) → i ≤ j → j ≤ k → StoodStill i k → StoodStill i j
honest_first i j k low high h = (omega (arith, low, high, h.0), h.1)

pub honest_second : (i j k : ℕ) → i ≤ j → j ≤ k → StoodStill i k → StoodStill j k
honest_second i j k low high h = (omega (arith, low, high, h.0), omega (arith, low, high, h.0, h.1))

one_more_rises : (i : ℕ) (b : Bool) → i ≤ cond b (i + 1) i
one_more_rises i true = omega arith
one_more_rises i false = omega arith

counts_rise : (a r : Answer) (i j : ℕ) → Counts a r i j → i ≤ j
counts_rise a r i j (inl h) = omega (arith, h.1)
counts_rise a r i j (inr h) = omega (arith, h.1, one_more_rises i (nat_lt i (2 ^ 64 - 1)))

counted_rises : (b : Bool) (a r : Answer) (i j : ℕ) → cond b (j ≡ i) (Counts a r i j) → i ≤ j
counted_rises true a r i j h = omega (arith, h)
counted_rises false a r i j h = counts_rise a r i j h

pub performed_rises : (f : List Fault) (kept : List (Option ℤ)) (call : Call) (a : Answer) (x y : Option (List Entry)) (i j : ℕ) → Performed f kept call a x y i j → i ≤ j
performed_rises f kept call a x y i j p = counted_rises (skips f kept call) p.inner (Right (passed f kept call)) i j p.counted

-- A cycle with a fault between two of its calls: the machine is under way, and the unit has kept its word, right where it was honest.
pub record CallsDone (first m : State) (row : List ℤ) (f : List Fault) (kept_first kept : List (Option ℤ)) (wrong_first wrong : ℕ) : Type 0 where
  pub under : UnderWay first m row (CallsOf (setting first row) (given m))
  pub never_falls : wrong_first ≤ wrong
  pub kept_so_far : KeptSoFar f (setting first row) kept_first (given m) kept
  pub right_so_far : StoodStill wrong_first wrong → RightSoFar f (setting first row) kept_first (given m) kept

given_after : (m n : State) (a : Answer) → n ≡ with_answer m a → given n ≡ given m ++ a ∷ []
given_after m n a e = ap given e

pub call_done : ByHandLaws → (first m n : State) (row : List ℤ) (f g : List Fault) (kept_first now next : List (Option ℤ)) (i j k : ℕ) (call : Call) (a : Answer) →
    CallsDone first m row f kept_first now i j → Next (setting m row) (given m) call → CallsNextOperation (setting m row) (given m) call →
    length (given m) < length m.graph.operations → n ≡ with_answer m a → g ≡ f → next ≡ kept_after g now call a → j ≤ k →
    (StoodStill j k → a ≡ right_under g now call) → CallsDone first n row f kept_first next i k
call_done laws first m n row f g kept_first now next i j k call a d is_next is_call left is_n is_f kept rises right =
    let s = setting first row in
    let same : setting m row ≡ s = ap (λ (x : State). setting x row) d.under.same in
    let there = get_there m.graph.operations (length (given m)) left in
    let here : slice_get s.graph.operations (length (given m)) ≡ Some there.0 =
    ap (λ (x : Setting). slice_get x.graph.operations (length (given m))) (sym same) ∙ there.1 in
    let call_is : call ≡ call_of s there.0 (given m) = is_call there.0 there.1 ∙ ap (λ (x : Setting). call_of x there.0 (given m)) same in
    let kept_is : next ≡ kept_after f now call a = kept ∙ ap (λ (x : List Fault). kept_after x now call a) is_f in
    let more = given_after m n a is_n in
    let under = laws.goes_on first m n row (CallsOf s (given m)) call a d.under is_next is_n in
    record {
      under = subst (UnderWay first n row) under.calls_are under;
      never_falls = omega (arith, d.never_falls, rises);
      kept_so_far = subst (λ (xs : List Answer). KeptSoFar f s kept_first xs next) (sym more)
          (kept_more f s kept_first now next (given m) there.0 call a here call_is kept_is d.kept_so_far);
      right_so_far = λ h. subst (λ (xs : List Answer). RightSoFar f s kept_first xs next) (sym more)
          (right_more f s kept_first now next (given m) there.0 call a here call_is kept_is
          (right (honest_second i j k d.never_falls rises h) ∙ ap (λ (x : List Fault). right_under x now call) is_f)
          (d.right_so_far (honest_first i j k d.never_falls rises h)));
    }

pub none_done : ByHandLaws → (m : State) (row : List ℤ) (f : List Fault) (kept : List (Option ℤ)) (i : ℕ) → m.ended ≡ None → m.under_way ≡ false →
    CallsDone m m row f kept kept i i
none_done laws m row f kept i going between =
    let begins = laws.begins m row going between in
    let nothing : given m ≡ [] = ap (λ b. cond b m.answers []) between in
    record {
      under = subst (UnderWay m m row) begins.calls_are begins;
      never_falls = omega arith;
      kept_so_far = subst (λ (xs : List Answer). KeptSoFar f (setting m row) kept xs kept) (sym nothing) (kept_first f (setting m row) kept);
      right_so_far = λ h. subst (λ (xs : List Answer). RightSoFar f (setting m row) kept xs kept) (sym nothing) (right_first f (setting m row) kept);
    }
