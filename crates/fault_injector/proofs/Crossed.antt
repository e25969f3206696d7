-- Crossed: a rerun from cycle to cycle, by what it works on.
use Rattle.std.proofs.Common.{◌≡◌, ℕ, ◌+◌, Bool, List, [], Option, Some, None, ℤ, sym, subst, slice_get, length}
use Rattle.std.proofs.lemmas.List.{length-map}
use Rattle.coded_unit.specs.declared.call.Answer.{Answer}
use Rattle.coded_unit.specs.Log.{Entry}
use Rattle.op_graph.specs.Lists.{Lists}
use Rattle.coded_machine.specs.Calls.{Carried, word_at}
use Rattle.coded_machine.specs.CycleEnds.{initial_words, stored_words}
use Rattle.fault_script.specs.declared.act.Fault.{Fault}
use Rattle.fault_script.specs.Changes.{acts_of}
use Rattle.fault_injector.specs.RunLaw.{Words, no_words}
use Rattle.fault_injector.specs.declared.verdicts.Verdict.{Verdict}
use Rattle.fault_injector.specs.Crossing.{CycleRan, past_of}
use Rattle.fault_injector.specs.References.{KeptRun}
use Rattle.fault_injector.specs.Reruns.{Reran}
use Rattle.fault_injector.specs.Touched.{cycle_marks, held_marks}
use Rattle.fault_injector.specs.declared.campaign.reruns.rerun.Work.{Work}
use Rattle.fault_injector.proofs.RerunRuns.{Between, seen, starts, goes_on, judges}

abbrev words_of : List ℤ → List Answer → Words
words_of held answers = record { held = held; answers = answers }

-- each cell has a word
pub stored_length : (g : Lists) (answers : List Answer) → length (stored_words g answers) ≡ length g.stores
stored_length g answers = length-map g.stores (λ n. word_at answers n)

-- before the first cycle
pub started : (r : KeptRun) (faults : List Fault) (w : Work) (x : Option (List Entry)) (i : ℕ) → Carried [] x x i i → w.past_held.items ≡ []
    → w.past.items ≡ [] → w.held.items ≡ initial_words r.graph r.table.seed → w.cell_marks.items ≡ []
    → Between r faults 0 (past_of w) w.held.items w.cell_marks.items x x i i
started r faults w x i nothing past_held past held cell_marks =
    subst (λ (h : List ℤ). Between r faults 0 (words_of h w.past.items) w.held.items w.cell_marks.items x x i i) (sym past_held)
    (subst (λ (us : List Answer). Between r faults 0 (words_of [] us) w.held.items w.cell_marks.items x x i i) (sym past)
    (subst (λ (h : List ℤ). Between r faults 0 no_words h w.cell_marks.items x x i i) (sym held)
    (subst (λ (d : List Bool). Between r faults 0 no_words (initial_words r.graph r.table.seed) d x x i i) (sym cell_marks) (starts r faults x i nothing))))

-- after a cycle without a verdict
pub crossed : (r : KeptRun) (faults : List Fault) (n : ℕ) (row : List ℤ) (other : List Answer) (w u : Work) (x y z : Option (List Entry)) (i j k : ℕ)
    → slice_get r.rows n ≡ Some row → slice_get r.answers n ≡ Some other → Between r faults n (past_of w) w.held.items w.cell_marks.items x y i j
    → CycleRan r faults n row other w u None y z j k → Between r faults (n + 1) (past_of u) u.held.items u.cell_marks.items x z i k
crossed r faults n row other w u x y z i j k there answered b ran =
    let own : List Answer = u.past.items in
    let g = r.graph in
    let cell_marks = held_marks g (cycle_marks g other (acts_of faults n) w.cell_marks.items).given in
    let next = goes_on r faults n (past_of w) w.held.items w.cell_marks.items row other own x y z i j k there answered b ran.ran ran.verdict in
    subst (λ (h : List ℤ). Between r faults (n + 1) (words_of h own) u.held.items u.cell_marks.items x z i k) (sym ran.past_held)
    (subst (λ (h : List ℤ). Between r faults (n + 1) (words_of w.held.items own) h u.cell_marks.items x z i k) (sym ran.held)
    (subst (λ (d : List Bool). Between r faults (n + 1) (words_of w.held.items own) (stored_words g own) d x z i k) (sym ran.cell_marks) next))

-- after one with a verdict
pub judged_there : (r : KeptRun) (faults : List Fault) (n : ℕ) (row : List ℤ) (other : List Answer) (w u : Work) (v : Verdict)
    (x y z : Option (List Entry)) (i j k : ℕ) → slice_get r.rows n ≡ Some row → slice_get r.answers n ≡ Some other
    → Between r faults n (past_of w) w.held.items w.cell_marks.items x y i j → CycleRan r faults n row other w u (Some v) y z j k
    → Reran r.table r.graph faults r.rows r.answers (seen x i) (seen z k) v
judged_there r faults n row other w u v x y z i j k there answered b ran =
    judges r faults n (past_of w) w.held.items w.cell_marks.items row other u.past.items v x y z i j k there answered b ran.ran ran.verdict
