-- PassedOver: a rerun passes over cycles in which nothing is touched.
use Rattle.std.proofs.Common.{◌≡◌, ℕ, zero, suc, ◌+◌, ◌-◌, ◌<◌, ◌≤◌, Bool, false, List, [], ◌∷◌, ◌++◌, length, map, drop, slice_get, slice_index_or, Option, Some, None, ℤ, min, refl, sym, ap, subst, ◌∙◌, arith}
use Rattle.std.proofs.lemmas.List.{append-nil, length-drop}
use Rattle.std.proofs.lemmas.Option.{get_or_from_slice_get}
use Rattle.coded_unit.specs.declared.call.Answer.{Answer}
use Rattle.coded_unit.specs.Log.{Entry}
use Rattle.op_graph.specs.Lists.{Lists}
use Rattle.signature_table.specs.Signatures.{Numbers}
use Rattle.coded_machine.specs.declared.cycle_end.CycleEnd.{CycleEnd}
use Rattle.coded_machine.specs.declared.cycle_end.CycleEnd.TheVariants as end
use Rattle.coded_machine.specs.Calls.{Carried, Whole}
use Rattle.coded_machine.specs.CycleEnds.{end_of, outputs_of, stored_words}
use Rattle.coded_machine.specs.Runs.{AllCycles}
use Rattle.fault_script.specs.declared.act.Fault.{Fault}
use Rattle.fault_script.specs.Changes.{acts_of}
use Rattle.fault_injector.specs.RunLaw.{Words}
use Rattle.fault_injector.specs.declared.verdicts.Verdict.TheVariants as verdict
use Rattle.fault_injector.specs.Verdicts.{judged}
use Rattle.vcp_base.specs.Differences.{first_difference}
use Rattle.fault_injector.specs.Begun.{RanAgain}
use Rattle.fault_injector.specs.Crossing.{past_of}
use Rattle.fault_injector.specs.Laws.{NoneRefused, AsksNoMore, NothingTouched}
use Rattle.fault_injector.specs.References.{KeptRun}
use Rattle.fault_injector.specs.Reruns.{Again, Reran, cycle_again, read_cycle, refusal_in, rerun, runs_again, stop_in}
use Rattle.fault_injector.specs.PassedOver.{Advanced, LastStands, held_at, last_answers, passes, past_at, stays}
use Rattle.fault_injector.specs.Touched.{cycle_marks, held_marks, mark}
use Rattle.fault_injector.specs.declared.campaign.reruns.rerun.Work.{Work}
use Rattle.fault_injector.proofs.KeptAnswers.{not_released}
use Rattle.fault_injector.proofs.KeptParts.{ended_early}
use Rattle.fault_injector.proofs.ListsOfReruns.{drop_behind, there_is}
use Rattle.fault_injector.proofs.RerunRuns.{Between, seen, after_cycles, drop_at, goes_on}
use Rattle.fault_injector.proofs.Untouched.{cycle_same, none_touched, row_same, asks_no_more}

abbrev pub NoMark : List Bool → Type 0
NoMark marks = (i : ℕ) → mark marks i ≡ false

-- each cycle of a run is whole
pub whole_there : (g : Lists) (t : Numbers) (n : ℕ) (rows : List (List ℤ)) (cycles : List (List Answer)) (i : ℕ) (other : List Answer)
    → AllCycles g t n rows cycles → slice_get cycles i ≡ Some other → Whole g.operations other
whole_there g t n rows [] i other all there = absurd cc
whole_there g t n [] (answers ∷ cycles) i other all there = absurd all
whole_there g t n (row ∷ rows) (answers ∷ cycles) zero other all there =
    let same : answers ≡ other = cc in subst (λ (x : List Answer). Whole g.operations x) same all.0
whole_there g t n (row ∷ rows) (answers ∷ []) (suc i) other all there = absurd cc
whole_there g t n (row ∷ rows) (answers ∷ next ∷ cycles) (suc i) other all there =
    whole_there g t (suc n) rows (next ∷ cycles) i other (not_released (end_of g t n answers) _ _ all.1 (λ none. absurd cc)).1 there

-- where nothing is marked, no cell is
unmarked : (given : List Bool) (stores : List ℕ) → NoMark given → map (λ n. mark given n) stores ≡ map (λ n. mark [] n) stores
unmarked given [] none = refl
unmarked given (n ∷ stores) none =
    ap (λ (b : Bool). b ∷ map (λ n. mark given n) stores) (none n) ∙ ap (λ (bs : List Bool). false ∷ bs) (unmarked given stores none)

none_marked : (stores : List ℕ) → NoMark (map (λ n. mark [] n) stores)
none_marked [] i = refl
none_marked (n ∷ stores) zero = refl
none_marked (n ∷ stores) (suc i) = none_marked stores i

-- a released cycle has no verdict beside itself
read_none : (g : Lists) (t : Numbers) (n : ℕ) (other : List Answer) → end_of g t n other ≡ end.Released → read_cycle g t n other other ≡ None
read_none g t n other released =
    ap (λ (e : CycleEnd). judged n (stop_in e) (refusal_in e) (stop_in e) (first_difference (outputs_of g other) (outputs_of g other) 0)) released
    ∙ ap (judged n None None None) (row_same (outputs_of g other) 0)

-- the rerun of a cycle in which nothing is touched makes no call
untouched_again : (r : KeptRun) (faults : List Fault) (n : ℕ) (past : Words) (held : List ℤ) (cell_marks : List Bool) (row : List ℤ) (other : List Answer)
    (x : Option (List Entry)) (i : ℕ) → Whole r.graph.operations other → NothingTouched (acts_of faults n) cell_marks → Carried [] x x i i
    → RanAgain (cycle_again r.table r.graph (acts_of faults) n past held cell_marks row other) other x x i i
untouched_again r faults n past held cell_marks row other x i whole u nothing = record {
  given = [];
  entries = [];
  comes = λ more. cycle_same r.table r.graph (acts_of faults) n past held cell_marks row other more whole u;
  carried = nothing;
}

-- the answers of a cycle are the last ones before the next
last_is : (r : KeptRun) (n : ℕ) (other : List Answer) → slice_get r.answers n ≡ Some other → other ≡ last_answers r (n + 1)
last_is r n other answered =
    let back : n + 1 - 1 ≡ n = omega arith in
    sym (get_or_from_slice_get r.answers n other [] answered) ∙ ap (λ (k : ℕ). slice_index_or r.answers k []) (sym back)

-- no fault stands in the cycles from n up to m, which is a cycle of the run
pub record Free (r : KeptRun) (faults : List Fault) (n m : ℕ) : Type 0 where
  pub none : (p k : ℕ) → n ≤ p → p < m → acts_of faults p k ≡ None
  pub there : m < length r.answers
  pub rows : length r.answers ≤ length r.rows
  pub all : AllCycles r.graph r.table 0 r.rows r.answers

-- ---- from a cycle in which nothing is touched to a later one

module _ (r : KeptRun) (faults : List Fault) (n m : ℕ) (free : Free r faults n m) (x y : Option (List Entry)) (i j : ℕ) (nothing : Carried [] y y j j) where
  -- the next cycle begins with the words and the answers of the run without the faults
  hop : (p : ℕ) (past : Words) (held : List ℤ) (cell_marks : List Bool) → n ≤ p → p < m → NoMark cell_marks → Between r faults p past held cell_marks x y i j
      → Between r faults (p + 1) (record { held = held; answers = last_answers r (p + 1) }) (held_at r (p + 1)) (held_marks r.graph []) x y i j
  hop p past held cell_marks above below cells b =
      let g = r.graph in
      let there = there_is r.rows p (omega (arith, below, free.there, free.rows)) in
      let answered = there_is r.answers p (omega (arith, below, free.there)) in
      let other : List Answer = answered.0 in
      let whole = whole_there g r.table 0 r.rows r.answers p other free.all answered.1 in
      let u : NothingTouched (acts_of faults p) cell_marks = record { cells = cells; no_fault = λ k. free.none p k above below } in
      let released : end_of g r.table p other ≡ end.Released =
      ap (end_of g r.table p) (sym (get_or_from_slice_get r.answers p other [] answered.1))
      ∙ ended_early g r.table r.rows r.answers p free.all (omega (arith, below, free.there)) in
      let next = goes_on r faults p past held cell_marks there.0 other other x y y i j j there.1 answered.1 b
      (untouched_again r faults p past held cell_marks there.0 other y j whole u nothing) (sym (read_none g r.table p other released)) in
      subst (λ (xs : List Answer). Between r faults (p + 1) (record { held = held; answers = xs }) (stored_words g xs) (held_marks g []) x y i j)
      (last_is r p other answered.1)
      (subst (λ (d : List Bool). Between r faults (p + 1) (record { held = held; answers = other }) (stored_words g other) d x y i j)
      (unmarked (cycle_marks g other (acts_of faults p) cell_marks).given g.stores (none_touched g other (acts_of faults p) cell_marks u)) next)

  -- and so does the one behind it, whose cycle before began with the words of that run too
  abbrev Passing : ℕ → Type 0
  Passing p = Between r faults p (past_at r p) (held_at r p) (held_marks r.graph []) x y i j

  passes_on : (p : ℕ) (past : Words) (cell_marks : List Bool) → n ≤ p → p < m → NoMark cell_marks → Between r faults p past (held_at r p) cell_marks x y i j
      → Passing (p + 1)
  passes_on p past cell_marks above below cells b =
      let back : p + 1 - 1 ≡ p = omega arith in
      let now : held_at r p ≡ held_at r (p + 1 - 1) = ap (held_at r) (sym back) in
      subst (λ (h : List ℤ). Between r faults (p + 1) (record { held = h; answers = last_answers r (p + 1) }) (held_at r (p + 1)) (held_marks r.graph [])
      x y i j) now (hop p past (held_at r p) cell_marks above below cells b)

  pass_on : (d p : ℕ) → n ≤ p → p + d ≡ m → Passing p → Passing m
  pass_on zero p above is b = let same : p ≡ m = omega (arith, is) in subst Passing same b
  pass_on (suc d) p above is b =
      pass_on d (p + 1) (omega (arith, above)) (omega (arith, is))
      (passes_on p (past_at r p) (held_marks r.graph []) above (omega (arith, is)) (none_marked r.graph.stores) b)

  passed_until : (past : Words) (held : List ℤ) (cell_marks : List Bool) → n + 2 ≤ m → NoMark cell_marks → Between r faults n past held cell_marks x y i j
      → Passing m
  passed_until past held cell_marks far cells b =
      pass_on (m - (n + 1 + 1)) (n + 1 + 1) (omega arith) (omega (arith, far))
      (passes_on (n + 1) (record { held = held; answers = last_answers r (n + 1) }) (held_marks r.graph []) (omega arith) (omega (arith, far))
      (none_marked r.graph.stores) (hop n past held cell_marks (omega arith) (omega (arith, far)) cells b))

-- a rerun comes to a cycle so
pub comes_to : (r : KeptRun) (faults : List Fault) (n to : ℕ) (v w : Work) (m : ℕ) (x y : Option (List Entry)) (i j : ℕ) → Free r faults n to → n ≤ to
    → (n < to → NoMark v.cell_marks.items) → Carried [] y y j j → Between r faults n (past_of v) v.held.items v.cell_marks.items x y i j → Advanced r n to v w m
    → Between r faults m (past_of w) w.held.items w.cell_marks.items x y i j × (n ≤ m) × (m ≤ to)
comes_to r faults n to v w m x y i j free above cells nothing b (stays here same) = (
  subst (λ (k : ℕ). Between r faults k (past_of w) w.held.items w.cell_marks.items x y i j) (sym here)
      (subst (λ (u : Work). Between r faults n (past_of u) u.held.items u.cell_marks.items x y i j) (sym same) b),
  omega (arith, here),
  omega (arith, here, above),
)
comes_to r faults n to v w m x y i j free above cells nothing b (passes far there rest) = (
  subst (λ (k : ℕ). Between r faults k (past_of w) w.held.items w.cell_marks.items x y i j) (sym there)
      (subst (λ (p : Words). Between r faults to p w.held.items w.cell_marks.items x y i j) (sym rest.past)
      (subst (λ (h : List ℤ). Between r faults to (past_at r to) h w.cell_marks.items x y i j) (sym rest.held)
      (subst (λ (d : List Bool). Between r faults to (past_at r to) (held_at r to) d x y i j) (sym rest.cell_marks)
      (passed_until r faults n to free x y i j nothing (past_of v) v.held.items v.cell_marks.items far (cells (omega (arith, far))) b)))),
  omega (arith, there, above),
  omega (arith, there),
)

-- The next cycle that is rerun, from cycle n on: it is there, and this is what a rerun stands with before it.
pub record Reached (r : KeptRun) (faults : List Fault) (n m : ℕ) (w : Work) (x y : Option (List Entry)) (i j : ℕ) : Type 0 where
  pub between : Between r faults m (past_of w) w.held.items w.cell_marks.items x y i j
  pub from : n ≤ m
  pub there : m < length r.answers
  pub row : (row : List ℤ) × (slice_get r.rows m ≡ Some row)
  pub other : (other : List Answer) × (slice_get r.answers m ≡ Some other)

pub between : (n next to count many : ℕ) → n < count → n ≤ next → to ≡ min next (count - 1) → count ≡ many → (n ≤ to) × (to < many)
between n next to count many below above is_to counted = (omega (arith, is_to, above, below), omega (arith, is_to, below, counted))

pub reached : (r : KeptRun) (faults : List Fault) (n next to count : ℕ) (v w : Work) (m : ℕ) (x y : Option (List Entry)) (i j : ℕ) → count ≡ length r.answers
    → count ≤ length r.rows → AllCycles r.graph r.table 0 r.rows r.answers → n < count → n ≤ next → to ≡ min next (count - 1)
    → ((p k : ℕ) → n ≤ p → p < next → acts_of faults p k ≡ None) → (n < next → NoMark v.cell_marks.items) → Carried [] y y j j
    → Between r faults n (past_of v) v.held.items v.cell_marks.items x y i j → Advanced r n to v w m → Reached r faults n m w x y i j
reached r faults n next to count v w m x y i j all_counted few all below above is_to none cells nothing b advanced =
    let free : Free r faults n to = record {
      none = λ p k from before. none p k from (omega (arith, before, is_to));
      there = omega (arith, is_to, below, all_counted);
      rows = omega (arith, few, all_counted);
      all = all;
    } in
    let came = comes_to r faults n to v w m x y i j free (omega (arith, is_to, above, below)) (λ before. cells (omega (arith, before, is_to))) nothing b advanced in
    record {
      between = came.0;
      from = came.1;
      there = omega (arith, came.2, free.there);
      row = there_is r.rows m (omega (arith, came.2, free.there, free.rows));
      other = there_is r.answers m (omega (arith, came.2, free.there));
    }

-- ---- to the end

none_refused : (r : KeptRun) → AllCycles r.graph r.table 0 r.rows r.answers → LastStands r → (d n : ℕ) → n + d ≡ length r.answers
    → NoneRefused r.graph r.table n (drop n r.answers)
none_refused r all stands zero n is = subst (NoneRefused r.graph r.table n) (sym (drop_behind r.answers n (omega (arith, is)))) tt
none_refused r all stands (suc zero) n is =
    let g = r.graph in
    let answered = there_is r.answers n (omega (arith, is)) in
    let other : List Answer = answered.0 in
    let last : length r.answers - 1 ≡ n = omega (arith, is) in
    let here = ap (λ (k : ℕ). refusal_in (end_of g r.table k (slice_index_or r.answers k []))) (sym last) ∙ stands in
    let ends = ap (λ (xs : List Answer). refusal_in (end_of g r.table n xs)) (sym (get_or_from_slice_get r.answers n other [] answered.1)) ∙ here in
    subst (NoneRefused g r.table n) (sym (drop_at r.answers n other answered.1))
    (whole_there g r.table 0 r.rows r.answers n other all answered.1, ends, none_refused r all stands zero (suc n) (omega (arith, is)))
none_refused r all stands (suc (suc d)) n is =
    let g = r.graph in
    let answered = there_is r.answers n (omega (arith, is)) in
    let other : List Answer = answered.0 in
    let ends =
    ap (λ (xs : List Answer). refusal_in (end_of g r.table n xs)) (sym (get_or_from_slice_get r.answers n other [] answered.1))
    ∙ ap refusal_in (ended_early g r.table r.rows r.answers n all (omega (arith, is))) in
    subst (NoneRefused g r.table n) (sym (drop_at r.answers n other answered.1))
    (whole_there g r.table 0 r.rows r.answers n other all answered.1, ends, none_refused r all stands (suc d) (suc n) (omega (arith, is)))

-- where nothing is touched any more the verdict is Same
pub ends_same : (r : KeptRun) (faults : List Fault) (n : ℕ) (past : Words) (held : List ℤ) (cell_marks : List Bool) (x y : Option (List Entry)) (i j : ℕ)
    → n ≤ length r.answers → AllCycles r.graph r.table 0 r.rows r.answers → LastStands r → NoMark cell_marks
    → ((m k : ℕ) → n ≤ m → m < length r.answers → acts_of faults m k ≡ None) → Between r faults n past held cell_marks x y i j
    → Reran r.table r.graph faults r.rows r.answers (seen x i) (seen y j) verdict.Same
ends_same r faults n past held cell_marks x y i j within all stands cells none b =
    let t = r.table in
    let g = r.graph in
    let few : length (drop n r.answers) ≡ length r.answers - n = length-drop n r.answers in
    let later = runs_again t g (acts_of faults) n past held cell_marks (drop n r.rows) (drop n r.answers) [] in
    let rest : AsksNoMore later [] = asks_no_more t g (acts_of faults) (drop n r.rows) (drop n r.answers) n past held cell_marks [] cells
    (λ m k above below. none m k above (omega (arith, below, few, within)))
    (none_refused r all stands (length r.answers - n) n (omega (arith, within))) in
    let is : rerun t g faults r.rows r.answers b.given ≡ after_cycles b.owns b.entries later =
    ap (λ (us : List Answer). rerun t g faults r.rows r.answers us) (sym (append-nil b.given)) ∙ b.so_far [] in
    record {
      given = b.given;
      exact = record { none_left = ap (λ (a : Again). a.left) is ∙ rest.left_is; enough = ap (λ (a : Again). a.too_few) is ∙ rest.enough };
      carried =
          subst (λ (es : List Entry). Carried es x y i j)
          (sym (ap (λ (a : Again). a.calls) is ∙ (ap (λ (es : List Entry). b.entries ++ es) rest.none ∙ append-nil b.entries))) b.carried;
      verdict_is = sym (ap (λ (a : Again). a.verdict) is ∙ rest.same_is);
    }
