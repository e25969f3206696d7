-- RerunRuns: the rerun of a group, cycle by cycle.
use Rattle.std.proofs.Common.{◌≡◌, ℕ, zero, suc, ◌+◌, ◌≤◌, Bool, false, List, [], ◌∷◌, ◌++◌, length, drop, slice_get, Option, Some, None, ℤ, refl, sym, ap, subst, ◌∙◌, arith}
use Rattle.std.proofs.lemmas.List.{append_assoc, append-nil}
use Rattle.coded_unit.specs.declared.call.Answer.{Answer}
use Rattle.coded_unit.specs.Log.{Entry}
use Rattle.coded_unit.specs.Seen.{UnitSeen}
use Rattle.op_graph.specs.Lists.{Lists}
use Rattle.signature_table.specs.Signatures.{Numbers}
use Rattle.coded_machine.specs.Calls.{Carried}
use Rattle.coded_machine.specs.CycleEnds.{initial_words, stored_words}
use Rattle.fault_script.specs.declared.act.Fault.{Fault}
use Rattle.fault_script.specs.Changes.{Acts, acts_of}
use Rattle.fault_injector.specs.RunLaw.{Words, no_words}
use Rattle.fault_injector.specs.declared.verdicts.Verdict.{Verdict}
use Rattle.fault_injector.specs.declared.verdicts.Verdict.TheVariants as verdict
use Rattle.fault_injector.specs.Begun.{RanAgain}
use Rattle.fault_injector.specs.References.{KeptRun}
use Rattle.fault_injector.specs.Reruns.{Again, Part, Reran, and_later, cycle_again, read_cycle, rerun, runs_again, same_then, unless_judged}
use Rattle.fault_injector.specs.Touched.{cycle_marks, held_marks}
use Rattle.fault_injector.proofs.AgainRuns.{carried_on}

abbrev pub seen : Option (List Entry) → ℕ → UnitSeen
seen log wrong = record { log = log; wrong = wrong }

-- these cycles, with these calls, were rerun before
abbrev pub after_cycles : List (List Answer) → List Entry → Again → Again
after_cycles owns entries later = record later { answers = owns ++ later.answers; calls = entries ++ later.calls }

after_more : (os ps : List (List Answer)) (es fs : List Entry) (a : Again)
    → after_cycles os es (after_cycles ps fs a) ≡ after_cycles (os ++ ps) (es ++ fs) a
after_more os ps es fs a =
    ap (λ (xs : List (List Answer)). record a { answers = xs; calls = es ++ (fs ++ a.calls) }) (sym (append_assoc os ps a.answers))
    ∙ ap (λ (cs : List Entry). record a { answers = (os ++ ps) ++ a.answers; calls = cs }) (sym (append_assoc es fs a.calls))

-- A rerun between two cycles: whatever more the unit gives, the whole goes on from cycle n.
pub record Between (r : KeptRun) (faults : List Fault) (n : ℕ) (past : Words) (held : List ℤ) (cell_marks : List Bool)
    (x y : Option (List Entry)) (i j : ℕ) : Type 0 where
  pub given : List Answer
  pub entries : List Entry
  pub owns : List (List Answer)
  pub so_far : (more : List Answer) → rerun r.table r.graph faults r.rows r.answers (given ++ more)
      ≡ after_cycles owns entries (runs_again r.table r.graph (acts_of faults) n past held cell_marks (drop n r.rows) (drop n r.answers) more)
  pub carried : Carried entries x y i j

pub starts : (r : KeptRun) (faults : List Fault) (x : Option (List Entry)) (i : ℕ) → Carried [] x x i i
    → Between r faults 0 no_words (initial_words r.graph r.table.seed) [] x x i i
starts r faults x i nothing = record { given = []; entries = []; owns = []; so_far = λ more. refl; carried = nothing }

pub drop_at : {X : Type 0} (xs : List X) (k : ℕ) (x : X) → slice_get xs k ≡ Some x → drop k xs ≡ x ∷ drop (suc k) xs
drop_at [] k x there = absurd cc
drop_at (y ∷ xs) zero x there = let same : y ≡ x = cc in ap (λ z. z ∷ xs) same
drop_at (y ∷ xs) (suc k) x there = drop_at xs k x there

-- the next cycle, whose answers come so
abbrev then_again : Numbers → Lists → Acts → ℕ → Words → List ℤ → List Bool → List (List ℤ) → List Answer → List (List Answer) → Part → Again
then_again t g acts n past held cell_marks rows other others part =
    and_later (λ own. read_cycle g t n own other)
    (λ own left. runs_again t g acts (suc n) (record { held = held; answers = own }) (stored_words g own)
    (held_marks g (cycle_marks g other (acts n) cell_marks).given) rows others left) part

next_cycle : (r : KeptRun) (faults : List Fault) (n : ℕ) (past : Words) (held : List ℤ) (cell_marks : List Bool) (row : List ℤ) (other : List Answer)
    (own : List Answer) (x y z : Option (List Entry)) (i j k : ℕ) → slice_get r.rows n ≡ Some row → slice_get r.answers n ≡ Some other
    → (b : Between r faults n past held cell_marks x y i j)
    → (c : RanAgain (cycle_again r.table r.graph (acts_of faults) n past held cell_marks row other) own y z j k) → (more : List Answer)
    → rerun r.table r.graph faults r.rows r.answers ((b.given ++ c.given) ++ more)
    ≡ after_cycles b.owns b.entries
    (then_again r.table r.graph (acts_of faults) n past held cell_marks (drop (suc n) r.rows) other (drop (suc n) r.answers)
    (record { own = own; calls = c.entries; left = more; too_few = false }))
next_cycle r faults n past held cell_marks row other own x y z i j k there answered b c more =
    let t = r.table in
    let g = r.graph in
    let acts = acts_of faults in
    let left = c.given ++ more in
    let whole : Again → Again = after_cycles b.owns b.entries in
    ap (λ (us : List Answer). rerun t g faults r.rows r.answers us) (append_assoc b.given c.given more)
    ∙ (b.so_far left
    ∙ (ap (λ (rows : List (List ℤ)). whole (runs_again t g acts n past held cell_marks rows (drop n r.answers) left)) (drop_at r.rows n row there)
    ∙ (ap (λ (others : List (List Answer)). whole (runs_again t g acts n past held cell_marks (row ∷ drop (suc n) r.rows) others left))
    (drop_at r.answers n other answered)
    ∙ ap (λ (part : Part). whole (then_again t g acts n past held cell_marks (drop (suc n) r.rows) other (drop (suc n) r.answers) part)) (c.comes more))))

-- a cycle without a verdict leads on
pub goes_on : (r : KeptRun) (faults : List Fault) (n : ℕ) (past : Words) (held : List ℤ) (cell_marks : List Bool) (row : List ℤ) (other : List Answer)
    (own : List Answer) (x y z : Option (List Entry)) (i j k : ℕ) → slice_get r.rows n ≡ Some row → slice_get r.answers n ≡ Some other
    → Between r faults n past held cell_marks x y i j → RanAgain (cycle_again r.table r.graph (acts_of faults) n past held cell_marks row other) own y z j k
    → None ≡ read_cycle r.graph r.table n own other
    → Between r faults (n + 1) (record { held = held; answers = own }) (stored_words r.graph own)
    (held_marks r.graph (cycle_marks r.graph other (acts_of faults n) cell_marks).given) x z i k
goes_on r faults n past held cell_marks row other own x y z i j k there answered b c none =
    let t = r.table in
    let g = r.graph in
    let acts = acts_of faults in
    let on : suc n ≡ n + 1 = omega arith in
    let next : ℕ → List Answer → Again = λ m left.
    runs_again t g acts m (record { held = held; answers = own }) (stored_words g own)
    (held_marks g (cycle_marks g other (acts n) cell_marks).given) (drop m r.rows) (drop m r.answers) left in
    record {
      given = b.given ++ c.given;
      entries = b.entries ++ c.entries;
      owns = b.owns ++ own ∷ [];
      so_far = λ more.
          let part : Part = record { own = own; calls = c.entries; left = more; too_few = false } in
          next_cycle r faults n past held cell_marks row other own x y z i j k there answered b c more
          ∙ (ap (λ (v : Option Verdict). after_cycles b.owns b.entries (unless_judged false v part (next (suc n)))) (sym none)
          ∙ (after_more b.owns (own ∷ []) b.entries c.entries (next (suc n) more)
          ∙ ap (λ (m : ℕ). after_cycles (b.owns ++ own ∷ []) (b.entries ++ c.entries) (next m more)) on));
      carried = carried_on b.entries c.entries x y z i j k b.carried c.carried;
    }

-- a verdict ends the rerun
pub judges : (r : KeptRun) (faults : List Fault) (n : ℕ) (past : Words) (held : List ℤ) (cell_marks : List Bool) (row : List ℤ) (other : List Answer)
    (own : List Answer) (v : Verdict) (x y z : Option (List Entry)) (i j k : ℕ) → slice_get r.rows n ≡ Some row → slice_get r.answers n ≡ Some other
    → Between r faults n past held cell_marks x y i j → RanAgain (cycle_again r.table r.graph (acts_of faults) n past held cell_marks row other) own y z j k
    → Some v ≡ read_cycle r.graph r.table n own other → Reran r.table r.graph faults r.rows r.answers (seen x i) (seen z k) v
judges r faults n past held cell_marks row other own v x y z i j k there answered b c some =
    let t = r.table in
    let g = r.graph in
    let acts = acts_of faults in
    let next : List Answer → Again = λ left.
    runs_again t g acts (suc n) (record { held = held; answers = own }) (stored_words g own)
    (held_marks g (cycle_marks g other (acts n) cell_marks).given) (drop (suc n) r.rows) (drop (suc n) r.answers) left in
    let part : Part = record { own = own; calls = c.entries; left = []; too_few = false } in
    let given = b.given ++ c.given in
    let is =
    ap (λ (us : List Answer). rerun t g faults r.rows r.answers us) (sym (append-nil given))
    ∙ (next_cycle r faults n past held cell_marks row other own x y z i j k there answered b c []
    ∙ ap (λ (w : Option Verdict). after_cycles b.owns b.entries (unless_judged false w part next)) (sym some)) in
    record {
      given = given;
      exact = record { none_left = ap (λ (a : Again). a.left) is; enough = ap (λ (a : Again). a.too_few) is };
      carried =
          subst (λ (es : List Entry). Carried es x z i k) (sym (ap (λ (a : Again). a.calls) is))
          (carried_on b.entries c.entries x y z i j k b.carried c.carried);
      verdict_is = sym (ap (λ (a : Again). a.verdict) is);
    }

-- and so do the rows, or the run without the faults
nothing_left : (t : Numbers) (g : Lists) (acts : Acts) (n : ℕ) (past : Words) (held : List ℤ) (cell_marks : List Bool) (rows : List (List ℤ))
    (left : List Answer) → runs_again t g acts n past held cell_marks rows [] left ≡ same_then left
nothing_left t g acts n past held cell_marks [] left = refl
nothing_left t g acts n past held cell_marks (row ∷ rows) left = refl

drop_past : (xs : List (List Answer)) (k : ℕ) → length xs ≤ k → drop k xs ≡ []
drop_past [] zero few = refl
drop_past [] (suc k) few = refl
drop_past (x ∷ xs) zero few = absurd (omega (arith, few))
drop_past (x ∷ xs) (suc k) few = drop_past xs k (omega (arith, few))

pub ends : (r : KeptRun) (faults : List Fault) (n : ℕ) (past : Words) (held : List ℤ) (cell_marks : List Bool) (x y : Option (List Entry)) (i j : ℕ)
    → length r.answers ≤ n → Between r faults n past held cell_marks x y i j → Reran r.table r.graph faults r.rows r.answers (seen x i) (seen y j) verdict.Same
ends r faults n past held cell_marks x y i j all b =
    let t = r.table in
    let g = r.graph in
    let acts = acts_of faults in
    let is =
    ap (λ (us : List Answer). rerun t g faults r.rows r.answers us) (sym (append-nil b.given))
    ∙ (b.so_far []
    ∙ (ap (λ (others : List (List Answer)). after_cycles b.owns b.entries (runs_again t g acts n past held cell_marks (drop n r.rows) others []))
    (drop_past r.answers n all)
    ∙ ap (after_cycles b.owns b.entries) (nothing_left t g acts n past held cell_marks (drop n r.rows) []))) in
    record {
      given = b.given;
      exact = record { none_left = ap (λ (a : Again). a.left) is; enough = ap (λ (a : Again). a.too_few) is };
      carried = subst (λ (es : List Entry). Carried es x y i j) (sym (ap (λ (a : Again). a.calls) is ∙ append-nil b.entries)) b.carried;
      verdict_is = sym (ap (λ (a : Again). a.verdict) is);
    }
