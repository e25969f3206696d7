-- RunRight: the answers of a rerun whose calls were answered rightly are those of a whole run under the acts.
use Rattle.std.proofs.Common.{◌≡◌, ℕ, zero, suc, Bool, true, false, List, [], ◌∷◌, ◌++◌, map, Option, Some, None, ℤ, refl, sym, ap, subst, ◌∙◌}
use Rattle.vcp_base.specs.Values.{at}
use Rattle.vcp_base.specs.declared.kind.StopKind.{StopKind}
use Rattle.coded_unit.specs.declared.call.Answer.{Answer}
use Rattle.coded_unit.specs.declared.call.Answer.TheVariants as answer
use Rattle.coded_unit.specs.Log.{Entry}
use Rattle.op_graph.specs.Laws.{ReadLaws}
use Rattle.op_graph.specs.Lists.{Lists}
use Rattle.op_graph.specs.Rules.{IsGraph}
use Rattle.signature_table.specs.Signatures.{Numbers}
use Rattle.coded_machine.specs.declared.cycle_end.CycleEnd.{CycleEnd}
use Rattle.coded_machine.specs.declared.cycle_end.CycleEnd.TheVariants as end
use Rattle.coded_machine.specs.Calls.{AllRight, AllWords, CallsOf, word_at}
use Rattle.coded_machine.specs.CycleEnds.{end_of, end_or, first_stop, initial_words, stop_of, stop_or, stored_words}
use Rattle.coded_machine.specs.Runs.{AllCycles, calls_over, setting_at, unless_ended}
use Rattle.fault_script.specs.declared.act.Fault.{Fault}
use Rattle.fault_script.specs.Changes.{Acts, acts_of}
use Rattle.fault_injector.specs.RunLaw.{Words, RightRun, no_words}
use Rattle.fault_injector.specs.declared.verdicts.Verdict.{Verdict}
use Rattle.fault_injector.specs.Reruns.{IsReference, Part, Again, again, cycle_again, read_cycle, rerun, runs_again, unless_judged}
use Rattle.fault_injector.specs.Touched.{held_marks, mark}
use Rattle.fault_injector.proofs.Marking.{cycle_spread}
use Rattle.fault_injector.proofs.CycleRight.{CellsFollow, CycleRight, Follow, cycle_right, rights_of, whole_of}

-- ---- entries

pub right_front : (xs ys : List Entry) → AllRight (xs ++ ys) → AllRight xs
right_front [] ys h = tt
right_front (x ∷ xs) ys h = (h.0, right_front xs ys h.1)

pub right_back : (xs ys : List Entry) → AllRight (xs ++ ys) → AllRight ys
right_back [] ys h = h
right_back (x ∷ xs) ys h = right_back xs ys h.1

-- ---- cycles of words

no_stop : (a : Answer) → stop_of a ≡ None → AllWords (a ∷ [])
no_stop (answer.Word w) h = (refl, tt)
no_stop _ h = absurd cc

none_first : (k : ℕ) (s : Option StopKind) (later : Option CycleEnd) → stop_or k s later ≡ None → (s ≡ None) × (later ≡ None)
none_first k None later h = (refl, h)
none_first k (Some why) later h = absurd cc

all_words : (k : ℕ) (answers : List Answer) → first_stop k answers ≡ None → AllWords answers
all_words k [] h = tt
all_words k (a ∷ answers) h =
    let both = none_first k (stop_of a) (first_stop (suc k) answers) h in
    ((no_stop a both.0).0, all_words (suc k) answers both.1)

stops_only : (k : ℕ) (s : Option StopKind) (later : Option CycleEnd) → (later ≡ Some end.Released → ⊥) → stop_or k s later ≡ Some end.Released → ⊥
stops_only k None later h e = h e
stops_only k (Some why) later h e = absurd cc

pub never_released : (k : ℕ) (answers : List Answer) → first_stop k answers ≡ Some end.Released → ⊥
never_released k [] e = absurd cc
never_released k (a ∷ answers) e = stops_only k (stop_of a) (first_stop (suc k) answers) (never_released (suc k) answers) e

pub released_first : (x : Option CycleEnd) (later : CycleEnd) → (x ≡ Some end.Released → ⊥) → end_or x later ≡ end.Released → x ≡ None
released_first None later h e = refl
released_first (Some y) later h e = absurd (h (ap (λ (z : CycleEnd). Some z) e))

-- a cycle that is released has words alone
pub released_words : (g : Lists) (t : Numbers) (n : ℕ) (answers : List Answer) → end_of g t n answers ≡ end.Released → AllWords answers
released_words g t n answers e = all_words 0 answers (released_first (first_stop 0 answers) _ (never_released 0 answers) e)

-- ---- the cells of the next cycle

pub stored_follow : (touched : List Bool) (own other : List Answer) (stores : List ℕ) (i : ℕ) → Follow (mark touched) own other
    → mark (map (λ n. mark touched n) stores) i ≡ false → at (map (λ n. word_at own n) stores) i ≡ at (map (λ n. word_at other n) stores) i
stored_follow touched own other [] i follow h = refl
stored_follow touched own other (m ∷ stores) zero follow h = follow m h
stored_follow touched own other (m ∷ stores) (suc i) follow h = stored_follow touched own other stores i follow h

-- ---- a cycle and the later ones

-- what is known of the run without the faults from cycle n on
pub record Other (t : Numbers) (g : Lists) (n : ℕ) (held : List ℤ) (rows : List (List ℤ)) (others : List (List Answer)) : Type 0 where
  pub all : AllCycles g t n rows others
  pub right : AllRight (calls_over g t n held rows others)

-- after a cycle of its that is released it goes on
pub other_later : (t : Numbers) (g : Lists) (n : ℕ) (held row : List ℤ) (rows : List (List ℤ)) (other : List Answer) (others : List (List Answer))
    → Other t g n held (row ∷ rows) (other ∷ others) → end_of g t n other ≡ end.Released → Other t g (suc n) (stored_words g other) rows others
other_later t g n held row rows other others o e = record {
  all = subst (λ (x : CycleEnd). unless_ended x (AllCycles g t (suc n) rows others) (others ≡ [])) e o.all.1;
  right = right_back (CallsOf (setting_at g t n held row) other) (calls_over g t (suc n) (stored_words g other) rows others) o.right;
}

-- and after any other it has ended
abbrev Ends : CycleEnd → Type 0
Ends end.Released = ⊥
Ends (end.Stopped k why) = Unit {0}
Ends (end.Refused number found wanted) = Unit {0}

none_after : (e : CycleEnd) (Goes Ended : Type 0) → Ends e → unless_ended e Goes Ended → Ended
none_after end.Released Goes Ended ends h = absurd ends
none_after (end.Stopped k why) Goes Ended ends h = h
none_after (end.Refused number found wanted) Goes Ended ends h = h

-- what a rerun knows of one cycle, and what is to be shown of the answers of the later ones
pub record Stepped (enough : Bool) (part : Part) (answers : List (List Answer)) (Later : List (List Answer) → Type 0) : Type 0 where
  pub enough_is : enough ≡ false
  pub right : AllRight part.calls
  pub tail : List (List Answer)
  pub answers_are : answers ≡ part.own ∷ tail
  pub later : Later tail

pub stepped : (b : Bool) (v : Option Verdict) (part : Part) (next : List Answer → Again) (Later : List (List Answer) → Type 0) → Later []
    → (b ≡ false → AllRight part.calls → v ≡ None → (next part.left).too_few ≡ false → AllRight (next part.left).calls → Later (next part.left).answers)
    → (unless_judged b v part next).too_few ≡ false → AllRight (unless_judged b v part next).calls
    → Stepped b part (unless_judged b v part next).answers Later
stepped true v part next Later none goes enough right = absurd cc
stepped false (Some w) part next Later none goes enough right =
    record { enough_is = refl; right = right; tail = []; answers_are = refl; later = none }
stepped false None part next Later none goes enough right =
    let front = right_front part.calls (next part.left).calls right in
    record {
      enough_is = refl;
      right = front;
      tail = (next part.left).answers;
      answers_are = refl;
      later = goes refl front refl enough (right_back part.calls (next part.left).calls right);
    }

-- ---- whole runs

abbrev Right : Numbers → Lists → Acts → List (List ℤ) → Type 0
Right t g acts rows = (others : List (List Answer)) (n : ℕ) (past : Words) (held : List ℤ) (cell_marks : List Bool) (beside : List ℤ) (left : List Answer) →
    CellsFollow cell_marks held beside → Other t g n beside rows others → (runs_again t g acts n past held cell_marks rows others left).too_few ≡ false →
    AllRight (runs_again t g acts n past held cell_marks rows others left).calls →
    RightRun t g acts n past held rows (runs_again t g acts n past held cell_marks rows others left).answers

without_others : (t : Numbers) (g : Lists) (acts : Acts) (n : ℕ) (past : Words) (held : List ℤ) (cell_marks : List Bool) (rows : List (List ℤ))
    (left : List Answer) → RightRun t g acts n past held rows (runs_again t g acts n past held cell_marks rows [] left).answers
without_others t g acts n past held cell_marks [] left = tt
without_others t g acts n past held cell_marks (row ∷ rows) left = tt

-- the cycle of a row
pub one_cycle : (reads : ReadLaws) (t : Numbers) (g : Lists) (acts : Acts) (n : ℕ) (past : Words) (held : List ℤ) (cell_marks : List Bool) (beside row : List ℤ)
    (rows : List (List ℤ)) (other : List Answer) (others : List (List Answer)) (left : List Answer) → IsGraph g → CellsFollow cell_marks held beside
    → Other t g n beside (row ∷ rows) (other ∷ others)
    → (again (cycle_again t g acts n past held cell_marks row other) [] g.operations left).too_few ≡ false
    → AllRight (again (cycle_again t g acts n past held cell_marks row other) [] g.operations left).calls
    → CycleRight (cycle_again t g acts n past held cell_marks row other) [] g.operations
    (again (cycle_again t g acts n past held cell_marks row other) [] g.operations left).own
one_cycle reads t g acts n past held cell_marks beside row rows other others left graph cells o enough right =
    cycle_right (cycle_again t g acts n past held cell_marks row other) beside cell_marks left cells
    (cycle_spread reads g other (acts n) cell_marks graph o.all.0)
    o.all.0 (right_front (CallsOf (setting_at g t n beside row) other) (calls_over g t (suc n) (stored_words g other) rows others) o.right) enough right

later_right : (t : Numbers) (g : Lists) (acts : Acts) (n : ℕ) (past : Words) (held : List ℤ) (cell_marks touched : List Bool) (beside row : List ℤ)
    (rows : List (List ℤ)) (own other : List Answer) (others : List (List Answer)) (left : List Answer) → Right t g acts rows
    → Other t g n beside (row ∷ rows) (other ∷ others) → (AllWords other → Follow (mark touched) own other) → (e : CycleEnd) → end_of g t n other ≡ e
    → (runs_again t g acts (suc n) past held (held_marks g touched) rows others left).too_few ≡ false
    → AllRight (runs_again t g acts (suc n) past held (held_marks g touched) rows others left).calls → held ≡ stored_words g own
    → RightRun t g acts (suc n) past held rows (runs_again t g acts (suc n) past held (held_marks g touched) rows others left).answers
later_right t g acts n past held cell_marks touched beside row rows own other others left goes o follows end.Released e enough right is =
    goes others (suc n) past held (held_marks g touched) (stored_words g other) left
    (λ i h. ap (λ (xs : List ℤ). at xs i) is ∙ stored_follow touched own other g.stores i (follows (released_words g t n other e)) h)
    (other_later t g n beside row rows other others o e) enough right
later_right t g acts n past held cell_marks touched beside row rows own other others left goes o follows (end.Stopped k why) e enough right is =
    let none : others ≡ [] = none_after (end.Stopped k why) (AllCycles g t (suc n) rows others) (others ≡ []) tt
    (subst (λ (x : CycleEnd). unless_ended x (AllCycles g t (suc n) rows others) (others ≡ [])) e o.all.1) in
    subst (λ (xs : List (List Answer)). RightRun t g acts (suc n) past held rows (runs_again t g acts (suc n) past held (held_marks g touched) rows xs
    left).answers)
    (sym none) (without_others t g acts (suc n) past held (held_marks g touched) rows left)
later_right t g acts n past held cell_marks touched beside row rows own other others left goes o follows (end.Refused number found wanted) e enough right is =
    let none : others ≡ [] = none_after (end.Refused number found wanted) (AllCycles g t (suc n) rows others) (others ≡ []) tt
    (subst (λ (x : CycleEnd). unless_ended x (AllCycles g t (suc n) rows others) (others ≡ [])) e o.all.1) in
    subst (λ (xs : List (List Answer)). RightRun t g acts (suc n) past held rows (runs_again t g acts (suc n) past held (held_marks g touched) rows xs
    left).answers)
    (sym none) (without_others t g acts (suc n) past held (held_marks g touched) rows left)

pub runs_right : (reads : ReadLaws) (t : Numbers) (g : Lists) (acts : Acts) → IsGraph g → (rows : List (List ℤ)) → Right t g acts rows
runs_right reads t g acts graph [] others n past held cell_marks beside left cells o enough right = tt
runs_right reads t g acts graph (row ∷ rows) [] n past held cell_marks beside left cells o enough right = tt
runs_right reads t g acts graph (row ∷ rows) (other ∷ others) n past held cell_marks beside left cells o enough right =
    let c = cycle_again t g acts n past held cell_marks row other in
    let part = again c [] g.operations left in
    let words : Words = record { held = held; answers = part.own } in
    let next : List Answer → Again = λ left. runs_again t g acts (suc n) words (stored_words g part.own) (held_marks g c.touched) rows others left in
    let Later : List (List Answer) → Type 0 = λ tail. AllWords part.own → RightRun t g acts (suc n) words (stored_words g part.own) rows tail in
    let step =
    stepped part.too_few (read_cycle g t n part.own other) part next Later (λ all. tt)
    (λ too_few calls none enough_later right_later all.
    later_right t g acts n words (stored_words g part.own) cell_marks c.touched beside row rows part.own other others part.left (runs_right reads t g acts graph
    rows) o
    (λ all_other. (one_cycle reads t g acts n past held cell_marks beside row rows other others left graph cells o too_few calls).follows all_other all)
    (end_of g t n other) refl enough_later right_later refl) enough right in
    let r = (one_cycle reads t g acts n past held cell_marks beside row rows other others left graph cells o step.enough_is step.right).rightly in
    subst (λ (xs : List (List Answer)). RightRun t g acts n past held (row ∷ rows) xs) (sym step.answers_are) (
      whole_of c g.operations part.own r,
      rights_of c g.operations part.own r,
      step.later,
    )

pub reruns_are_right : ReadLaws → (t : Numbers) (g : Lists) (faults : List Fault) (rows : List (List ℤ)) (others : List (List Answer)) (given : List Answer)
    → IsGraph g → IsReference t g rows others → (rerun t g faults rows others given).too_few ≡ false → AllRight (rerun t g faults rows others given).calls
    → RightRun t g (acts_of faults) 0 no_words (initial_words g t.seed) rows (rerun t g faults rows others given).answers
reruns_are_right reads t g faults rows others given graph reference enough right =
    runs_right reads t g (acts_of faults) graph rows others 0 no_words (initial_words g t.seed) [] (initial_words g t.seed) given (λ i h. refl)
    (record { all = reference.all; right = reference.right }) enough right
