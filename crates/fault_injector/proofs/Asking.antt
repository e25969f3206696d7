-- Asking: where a rerun asks the unit, and that every other operation has the answer of the run without the faults.
use Rattle.std.proofs.Common.{◌≡◌, ℕ, zero, suc, ◌+◌, ◌<◌, Bool, true, false, cond, ◌&&◌, not, List, [], ◌∷◌, ◌++◌, length, map, slice_get, slice_index_or, Option, Some, None, ℤ, refl, sym, ap, subst, ◌∙◌, arith}
use Rattle.std.proofs.lemmas.List.{append_assoc, append-nil, length-append, map-append}
use Rattle.coded_unit.specs.declared.call.Call.{Call}
use Rattle.coded_unit.specs.declared.call.Answer.{Answer}
use Rattle.coded_unit.specs.declared.call.Answer.TheVariants as answer
use Rattle.coded_unit.specs.Log.{Entry}
use Rattle.op_graph.specs.declared.op.Op.{Op}
use Rattle.op_graph.specs.Lists.{Lists}
use Rattle.signature_table.specs.Signatures.{Numbers}
use Rattle.coded_machine.specs.Calls.{call_of, is_word}
use Rattle.coded_machine.specs.CycleEnds.{initial_words, stored_words}
use Rattle.fault_script.specs.declared.act.Act.{Act}
use Rattle.fault_script.specs.declared.act.Act.TheVariants as act
use Rattle.fault_script.specs.declared.act.Fault.{Fault}
use Rattle.fault_script.specs.Changes.{Acts, acts_of, with_operand}
use Rattle.fault_injector.specs.RunLaw.{Words, no_words, taken}
use Rattle.fault_injector.specs.Scripts.{handed_by, passed_by, skips_by}
use Rattle.fault_injector.specs.declared.verdicts.Verdict.{Verdict}
use Rattle.fault_injector.specs.Laws.{asked_over, asks_at, places_where}
use Rattle.fault_injector.specs.Reruns.{Again, CycleAgain, Part, Source, has, asks, ended, after_answer, again, cycle_again, done, go_on, read_cycle, rerun, runs_again, source, source_of, source_touched, unless_judged, with_call}
use Rattle.fault_injector.specs.Touched.{Marks, cycle_marks, held_marks, mark, marks_at, touched}

abbrev spot : Call → ℕ × ℕ
spot call = (call.cycle, call.op)

abbrev place : Entry → ℕ × ℕ
place e = (e.0.cycle, e.0.op)

-- a change of a call leaves its place

operand_spot : (call : Call) (j : ℕ) (w : ℤ) → spot (with_operand call j w) ≡ spot call
operand_spot call zero w = refl
operand_spot call (suc zero) w = refl
operand_spot call (suc (suc j)) w = refl

passed_spot : (a : Option Act) (w : ℤ) (call : Call) → spot (passed_by a w call) ≡ spot call
passed_spot (Some (act.OperandAdd j e)) w call = operand_spot call j _
passed_spot (Some (act.OperandFrom j r)) w call = operand_spot call j w
passed_spot (Some (act.OperandStale j)) w call = operand_spot call j w
passed_spot _ w call = refl

-- ---- one cycle

module _ (c : CycleAgain) where
  abbrev test : ℕ → Bool
  test k = mark c.touched k && not (skips_by (c.acts k))

  -- what is said of a cycle's rerun behind these answers, from operation k on
  record Told (k : ℕ) (before : List Answer) (p : Part) : Type 0 where
    more : List Answer
    own_is : p.own ≡ before ++ more
    calls_are : map place p.calls ≡ places_where test c.setting.cycle k more
    kept : (j : ℕ) → mark c.touched (k + j) ≡ false → j < length more → slice_get more j ≡ slice_get c.other (k + j)

  nothing_more : (k : ℕ) (before : List Answer) (p : Part) → p.own ≡ before → p.calls ≡ [] → Told k before p
  nothing_more k before p own calls = record {
    more = [];
    own_is = own ∙ sym (append-nil before);
    calls_are = ap (map place) calls;
    kept = λ j not_touched within. absurd (omega (arith, within));
  }

  -- where the first of more answers is kept, or isn't said to be, so are all
  kept_on : (k : ℕ) (a : Answer) (more : List Answer) → (mark c.touched k ≡ false → Some a ≡ slice_get c.other k)
      → ((j : ℕ) → mark c.touched (suc k + j) ≡ false → j < length more → slice_get more j ≡ slice_get c.other (suc k + j))
      → (j : ℕ) → mark c.touched (k + j) ≡ false → j < length (a ∷ more) → slice_get (a ∷ more) j ≡ slice_get c.other (k + j)
  kept_on k a more first later zero untouched within =
      let here : k + 0 ≡ k = omega arith in
      subst (λ (i : ℕ). Some a ≡ slice_get c.other i) (sym here) (first (subst (λ (i : ℕ). mark c.touched i ≡ false) here untouched))
  kept_on k a more first later (suc j) untouched within =
      let on : k + suc j ≡ suc k + j = omega arith in
      subst (λ (i : ℕ). slice_get more j ≡ slice_get c.other i) (sym on)
      (later j (subst (λ (i : ℕ). mark c.touched i ≡ false) on untouched) (omega (arith, within)))

  has_told : (k : ℕ) (before : List Answer) (a : Answer) (p : Part) → test k ≡ false → (mark c.touched k ≡ false → Some a ≡ slice_get c.other k)
      → Told (suc k) (before ++ a ∷ []) p → Told k before p
  has_told k before a p off first t = record {
    more = a ∷ t.more;
    own_is = t.own_is ∙ append_assoc before (a ∷ []) t.more;
    calls_are = t.calls_are
        ∙ ap (λ (b : Bool). cond b ((c.setting.cycle, k) ∷ []) [] ++ places_where test c.setting.cycle (suc k) t.more) (sym off);
    kept = kept_on k a t.more first t.kept;
  }

  call_told : (k : ℕ) (before : List Answer) (a : Answer) (entry : Entry) (p : Part) → place entry ≡ (c.setting.cycle, k) → test k ≡ true
      → mark c.touched k ≡ true → Told (suc k) (before ++ a ∷ []) p → Told k before (with_call entry p)
  call_told k before a entry p there on marked t = record {
    more = a ∷ t.more;
    own_is = t.own_is ∙ append_assoc before (a ∷ []) t.more;
    calls_are =
        ap (λ (x : ℕ × ℕ). x ∷ map place p.calls) there
        ∙ (ap (λ (xs : List (ℕ × ℕ)). (c.setting.cycle, k) ∷ xs) t.calls_are
        ∙ ap (λ (b : Bool). cond b ((c.setting.cycle, k) ∷ []) [] ++ places_where test c.setting.cycle (suc k) t.more) (sym on));
    kept = kept_on k a t.more (λ untouched. let never : true ≡ false = sym marked ∙ untouched in absurd cc) t.kept;
  }

  -- what holds of how operation k gets its answer
  abbrev Comes : ℕ → Source → Type 0
  Comes k (has a) = (test k ≡ false) × (mark c.touched k ≡ false → Some a ≡ slice_get c.other k)
  Comes k (asks call act word) = (spot call ≡ (c.setting.cycle, k)) × (test k ≡ true) × (mark c.touched k ≡ true)
  Comes k ended = Unit {0}

  touched_comes : (k : ℕ) (a : Option Act) (w : ℤ) (call : Call) (b : Bool) → skips_by a ≡ b → c.acts k ≡ a → mark c.touched k ≡ true
      → spot call ≡ (c.setting.cycle, k) → Comes k (cond b (has (answer.Word w)) (asks (passed_by a w call) a w))
  touched_comes k a w call true skips is marked there = (
    ap (λ (m : Bool). m && not (skips_by (c.acts k))) marked ∙ ap not (ap skips_by is ∙ skips),
    λ untouched. let never : true ≡ false = sym marked ∙ untouched in absurd cc,
  )
  touched_comes k a w call false skips is marked there = (
    passed_spot a w call ∙ there,
    ap (λ (m : Bool). m && not (skips_by (c.acts k))) marked ∙ ap not (ap skips_by is ∙ skips),
    marked,
  )

  source_comes : (k : ℕ) (m : Bool) (w : ℤ) (call : Call) (x : Option Answer) → mark c.touched k ≡ m → slice_get c.other k ≡ x
      → spot call ≡ (c.setting.cycle, k) → Comes k (cond m (source_touched (c.acts k) w call) (source_of x))
  source_comes k true w call x marked there at = touched_comes k (c.acts k) w call (skips_by (c.acts k)) refl refl marked at
  source_comes k false w call (Some a) marked there at =
      (ap (λ (m : Bool). m && not (skips_by (c.acts k))) marked, λ untouched. sym there)
  source_comes k false w call None marked there at = tt

  told_by : (k : ℕ) (before : List Answer) (s : Source) (next : Answer → List Answer → Part) (left : List Answer) → Comes k s
      → ((a : Answer) (rest : List Answer) → Told (suc k) (before ++ a ∷ []) (next a rest)) → Told k before (go_on before s next left)
  told_by k before (has a) next left comes later = has_told k before a (next a left) comes.0 comes.1 (later a left)
  told_by k before (asks call act word) next [] comes later = nothing_more k before (record { own = before; calls = []; left = []; too_few = true }) refl refl
  told_by k before (asks call act word) next (given ∷ left) comes later =
      let a = handed_by act word given in
      call_told k before a (call, given) (next a left) comes.0 comes.1 comes.2 (later a left)
  told_by k before ended next left comes later = nothing_more k before (done before left) refl refl

  told_next : (k : ℕ) (b : Bool) (own : List Answer) (next : List Answer → Part) (left : List Answer)
      → ((rest : List Answer) → Told k own (next rest)) → Told k own (after_answer b own next left)
  told_next k true own next left later = later left
  told_next k false own next left later = nothing_more k own (done own left) refl refl

  cycle_told : (ops : List Op) (before left : List Answer) → Told (length before) before (again c before ops left)
  cycle_told [] before left = nothing_more (length before) before (done before left) refl refl
  cycle_told (op ∷ ops) before left =
      let k = length before in
      told_by k before (source c before op)
      (λ a rest. after_answer (is_word a) (before ++ a ∷ []) (λ more. again c (before ++ a ∷ []) ops more) rest) left
      (source_comes k (mark c.touched k) (taken c.past before op (c.acts k)) (call_of c.setting op before) (slice_get c.other k) refl refl refl)
      (λ a rest.
      let one_more : length (before ++ a ∷ []) ≡ suc k = length-append before (a ∷ []) ∙ omega arith in
      told_next (suc k) (is_word a) (before ++ a ∷ []) (λ more. again c (before ++ a ∷ []) ops more) rest
      (λ more. subst (λ (i : ℕ). Told i (before ++ a ∷ []) (again c (before ++ a ∷ []) ops more)) one_more (cycle_told ops (before ++ a ∷ []) more)))

-- ---- whole runs

nothing_there : (xs : List (List Answer)) (i k : ℕ) → xs ≡ [] → k < length (slice_index_or xs i []) → ⊥
nothing_there [] i k none within = omega (arith, within)
nothing_there (x ∷ xs) i k none within = absurd cc

marks_here : (g : Lists) (acts : Acts) (all : List (List Answer)) (n : ℕ)
    → cycle_marks g (slice_index_or all n []) (acts n) (marks_at g acts all n).held ≡ marks_at g acts all n
marks_here g acts all zero = refl
marks_here g acts all (suc n) = refl

module _ (t : Numbers) (g : Lists) (acts : Acts) (all : List (List Answer)) where
  -- what is said of one cycle, whose marks are those of the whole run
  record CycleAsks (n : ℕ) (part : Part) : Type 0 where
    calls_are : map place part.calls ≡ places_where (asks_at g acts all n) n 0 part.own
    kept : (k : ℕ) → touched g acts all n k ≡ false → k < length part.own → slice_get part.own k ≡ slice_get (slice_index_or all n []) k

  cycle_asks : (n : ℕ) (past : Words) (held : List ℤ) (cell_marks : List Bool) (row : List ℤ) (other left : List Answer)
      → cycle_marks g other (acts n) cell_marks ≡ marks_at g acts all n → other ≡ slice_index_or all n []
      → CycleAsks n (again (cycle_again t g acts n past held cell_marks row other) [] g.operations left)
  cycle_asks n past held cell_marks row other left marks is =
      let c = cycle_again t g acts n past held cell_marks row other in
      let part = again c [] g.operations left in
      let told = cycle_told c g.operations [] left in
      record {
        calls_are =
            told.calls_are
            ∙ (ap (λ (m : Marks). places_where (λ k. mark m.given k && not (skips_by (acts n k))) n 0 told.more) marks
            ∙ ap (places_where (asks_at g acts all n) n 0) (sym told.own_is));
        kept = λ k untouched within.
            let here : 0 + k ≡ k = omega arith in
            let at : mark c.touched k ≡ false = ap (λ (m : Marks). mark m.given k) marks ∙ untouched in
            let kept = told.kept k (subst (λ (i : ℕ). mark c.touched i ≡ false) (sym here) at)
            (subst (λ (xs : List Answer). k < length xs) told.own_is within) in
            ap (λ (xs : List Answer). slice_get xs k) told.own_is
            ∙ (kept ∙ (ap (λ (i : ℕ). slice_get other i) here ∙ ap (λ (xs : List Answer). slice_get xs k) is));
      }

  -- what is said of a whole run from cycle n on
  record RunAsks (n : ℕ) (a : Again) : Type 0 where
    calls_are : map place a.calls ≡ asked_over g acts all n a.answers
    kept : (i k : ℕ) → touched g acts all (n + i) k ≡ false → k < length (slice_index_or a.answers i [])
        → slice_get (slice_index_or a.answers i []) k ≡ slice_get (slice_index_or all (n + i) []) k

  one_cycle : (n : ℕ) (part : Part) (v : Verdict) (left : List Answer) (too_few : Bool) → CycleAsks n part
      → RunAsks n (record { answers = part.own ∷ []; calls = part.calls; verdict = v; left = left; too_few = too_few })
  one_cycle n part v left too_few c = record {
    calls_are = c.calls_are ∙ sym (append-nil (places_where (asks_at g acts all n) n 0 part.own));
    kept = one_kept n part c;
  } where
    one_kept : (n : ℕ) (part : Part) → CycleAsks n part → (i k : ℕ) → touched g acts all (n + i) k ≡ false → k < length (slice_index_or (part.own ∷ []) i [])
        → slice_get (slice_index_or (part.own ∷ []) i []) k ≡ slice_get (slice_index_or all (n + i) []) k
    one_kept n part c zero k untouched within =
        let here : n + 0 ≡ n = omega arith in
        subst (λ (m : ℕ). slice_get part.own k ≡ slice_get (slice_index_or all m []) k) (sym here)
        (c.kept k (subst (λ (m : ℕ). touched g acts all m k ≡ false) here untouched) within)
    one_kept n part c (suc i) k untouched within = absurd (omega (arith, within))

  more_cycles : (n : ℕ) (part : Part) (later : Again) → CycleAsks n part → RunAsks (suc n) later
      → RunAsks n (record later { answers = part.own ∷ later.answers; calls = part.calls ++ later.calls })
  more_cycles n part later c r = record {
    calls_are =
        map-append place part.calls later.calls
        ∙ (ap (λ (xs : List (ℕ × ℕ)). xs ++ map place later.calls) c.calls_are
        ∙ ap (λ (xs : List (ℕ × ℕ)). places_where (asks_at g acts all n) n 0 part.own ++ xs) r.calls_are);
    kept = more_kept n part later c r;
  } where
    more_kept : (n : ℕ) (part : Part) (later : Again) → CycleAsks n part → RunAsks (suc n) later → (i k : ℕ) → touched g acts all (n + i) k ≡ false
        → k < length (slice_index_or (part.own ∷ later.answers) i [])
        → slice_get (slice_index_or (part.own ∷ later.answers) i []) k ≡ slice_get (slice_index_or all (n + i) []) k
    more_kept n part later c r zero k untouched within =
        let here : n + 0 ≡ n = omega arith in
        subst (λ (m : ℕ). slice_get part.own k ≡ slice_get (slice_index_or all m []) k) (sym here)
        (c.kept k (subst (λ (m : ℕ). touched g acts all m k ≡ false) here untouched) within)
    more_kept n part later c r (suc i) k untouched within =
        let on : n + suc i ≡ suc n + i = omega arith in
        subst (λ (m : ℕ). slice_get (slice_index_or later.answers i []) k ≡ slice_get (slice_index_or all m []) k) (sym on)
        (r.kept i k (subst (λ (m : ℕ). touched g acts all m k ≡ false) on untouched) within)

  unless_asks : (n : ℕ) (b : Bool) (v : Option Verdict) (part : Part) (next : List Answer → Again) → CycleAsks n part
      → RunAsks (suc n) (next part.left) → RunAsks n (unless_judged b v part next)
  unless_asks n true v part next c r = one_cycle n part _ [] true c
  unless_asks n false (Some v) part next c r = one_cycle n part v part.left false c
  unless_asks n false None part next c r = more_cycles n part (next part.left) c r

  no_cycles : (n : ℕ) (a : Again) → a.answers ≡ [] → a.calls ≡ [] → RunAsks n a
  no_cycles n a answers calls = record {
    calls_are = ap (map place) calls ∙ ap (asked_over g acts all n) (sym answers);
    kept = λ i k untouched within. absurd (nothing_there a.answers i k answers within);
  }

  run_asks : (rows : List (List ℤ)) (others : List (List Answer)) (n : ℕ) (past : Words) (held : List ℤ) (cell_marks : List Bool) (left : List Answer)
      → cell_marks ≡ (marks_at g acts all n).held → ((k : ℕ) → slice_index_or others k [] ≡ slice_index_or all (n + k) [])
      → RunAsks n (runs_again t g acts n past held cell_marks rows others left)
  run_asks [] others n past held cell_marks left cells same = no_cycles n _ refl refl
  run_asks (row ∷ rows) [] n past held cell_marks left cells same = no_cycles n _ refl refl
  run_asks (row ∷ rows) (other ∷ others) n past held cell_marks left cells same =
      let c = cycle_again t g acts n past held cell_marks row other in
      let part = again c [] g.operations left in
      let here : n + 0 ≡ n = omega arith in
      let is : other ≡ slice_index_or all n [] = same 0 ∙ ap (λ (m : ℕ). slice_index_or all m []) here in
      let marks : cycle_marks g other (acts n) cell_marks ≡ marks_at g acts all n =
      ap (λ (xs : List Answer). cycle_marks g xs (acts n) cell_marks) is
      ∙ (ap (cycle_marks g (slice_index_or all n []) (acts n)) cells ∙ marks_here g acts all n) in
      let words : Words = record { held = held; answers = part.own } in
      let next : List Answer → Again = λ rest. runs_again t g acts (suc n) words (stored_words g part.own) (held_marks g c.touched) rows others rest in
      unless_asks n part.too_few (read_cycle g t n part.own other) part next
      (cycle_asks n past held cell_marks row other left marks is)
      (run_asks rows others (suc n) words (stored_words g part.own) (held_marks g c.touched) part.left
      (ap (λ (m : Marks). held_marks g m.given) marks)
      (λ k. same (suc k) ∙ ap (λ (m : ℕ). slice_index_or all m []) (omega arith)))

same : (others : List (List Answer)) (k : ℕ) → slice_index_or others k [] ≡ slice_index_or others (0 + k) []
same others k = ap (λ (m : ℕ). slice_index_or others m []) (omega arith)

pub asks_at_touched : (t : Numbers) (g : Lists) (faults : List Fault) (rows : List (List ℤ)) (others : List (List Answer)) (given : List Answer)
    → map place (rerun t g faults rows others given).calls ≡ asked_over g (acts_of faults) others 0 (rerun t g faults rows others given).answers
asks_at_touched t g faults rows others given =
    (run_asks t g (acts_of faults) others rows others 0 no_words (initial_words g t.seed) [] given refl (same others)).calls_are

pub keeps_untouched : (t : Numbers) (g : Lists) (faults : List Fault) (rows : List (List ℤ)) (others : List (List Answer)) (given : List Answer) (n k : ℕ)
    → touched g (acts_of faults) others n k ≡ false → k < length (slice_index_or (rerun t g faults rows others given).answers n [])
    → slice_get (slice_index_or (rerun t g faults rows others given).answers n []) k ≡ slice_get (slice_index_or others n []) k
keeps_untouched t g faults rows others given n k untouched within =
    let here : 0 + n ≡ n = omega arith in
    let own = slice_index_or (rerun t g faults rows others given).answers n [] in
    subst (λ (m : ℕ). slice_get own k ≡ slice_get (slice_index_or others m []) k) here
    ((run_asks t g (acts_of faults) others rows others 0 no_words (initial_words g t.seed) [] given refl (same others)).kept n k
    (subst (λ (m : ℕ). touched g (acts_of faults) others m k ≡ false) (sym here) untouched) within)
