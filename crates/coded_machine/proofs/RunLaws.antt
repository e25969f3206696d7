-- RunLaws: runs over rows, one cycle after another.
use Rattle.std.proofs.Common.{ℕ, suc, ◌+◌, ◌-◌, ◌^◌, ◌<◌, ◌≤◌, ◌≡◌, refl, sym, ap, subst, ◌∙◌, List, [], ◌∷◌, ◌++◌, length, length-append, append_assoc}
use Rattle.std.proofs.Common.{append-nil, map, arith, ℤ, Option, Some, None}
use Rattle.vcp_base.specs.declared.kind.StopKind.{StopKind}
use Rattle.vcp_base.specs.Limits.{most_cycles}
use Rattle.coded_unit.specs.declared.call.Answer.{Answer}
use Rattle.coded_unit.specs.Log.{Entry}
use Rattle.op_graph.specs.Lists.{Lists}
use Rattle.op_graph.specs.Rules.{IsGraph}
use Rattle.op_graph.specs.GraphRun.{Cycle, cycle, initial, outputs, stored, Run, after_cycle, run_from, graph_run, cells_after, unless_stopped}
use Rattle.signature_table.specs.Signatures.{Numbers, IsTable, stamp_before}
use Rattle.coded_machine.specs.declared.cycle_end.CycleEnd.{CycleEnd}
use Rattle.coded_machine.specs.declared.cycle_end.CycleEnd.TheVariants as end
use Rattle.coded_machine.specs.Calls.{Setting, CallsOf, Whole, AllRight, Carried}
use Rattle.coded_machine.specs.CycleEnds.{end_of, outputs_of, stored_words, initial_words}
use Rattle.coded_machine.specs.Honest.{CellsHold, StandsFor, HonestCycles, HonestCells, end_at}
use Rattle.coded_machine.specs.Runs.{setting_at, calls_over, Outcome, followed_by, outcome_over, unless_ended, AllCycles, AllReleased, held_after, RunSoFar}
use Rattle.coded_machine.specs.Runs.{RunOver, FollowsSoFar, Turn, row_if, outcome_for}
use Rattle.coded_machine.specs.State.{State, fresh, setting}
use Rattle.coded_machine.proofs.Growth.{carried_on, nothing_carried, right_front}

-- ---- one more cycle

calls_more : (g : Lists) (t : Numbers) (n : ℕ) (held : List ℤ) (rows : List (List ℤ)) (cycles : List (List Answer)) (row : List ℤ) (answers : List Answer)
    → length rows ≡ length cycles →
    calls_over g t n held (rows ++ row ∷ []) (cycles ++ answers ∷ []) ≡ calls_over g t n held rows cycles ++ CallsOf
    (setting_at g t (n + length cycles) (held_after g held cycles) row) answers
calls_more g t n held [] [] row answers e = append-nil (CallsOf (setting_at g t n held row) answers)
    ∙ ap (λ j. CallsOf (setting_at g t j held row) answers) (omega arith)
calls_more g t n held [] (a ∷ cycles) row answers e = absurd (omega arith)
calls_more g t n held (r ∷ rows) [] row answers e = absurd (omega arith)
calls_more g t n held (r ∷ rows) (a ∷ cycles) row answers e =
    let first : List Entry = CallsOf (setting_at g t n held r) a in
    let next : List ℤ = stored_words g a in
    ap (λ es. first ++ es) (calls_more g t (suc n) next rows cycles row answers (omega arith))
    ∙ ap (λ j. first ++ (calls_over g t (suc n) next rows cycles ++ CallsOf (setting_at g t j (held_after g next cycles) row) answers)) (omega arith)
    ∙ sym (append_assoc first (calls_over g t (suc n) next rows cycles)
    (CallsOf (setting_at g t (n + length (a ∷ cycles)) (held_after g next cycles) row) answers))

released_more : (g : Lists) (t : Numbers) (n : ℕ) (cycles : List (List Answer)) (answers : List Answer) → AllReleased g t n cycles → Whole g.operations answers
    → end_of g t (n + length cycles) answers ≡ end.Released →
    AllReleased g t n (cycles ++ answers ∷ [])
released_more g t n [] answers h whole e = (whole, ap (λ j. end_of g t j answers) (omega arith) ∙ e, tt)
released_more g t n (a ∷ cycles) answers h whole e =
    (h.0, h.1, released_more g t (suc n) cycles answers h.2 whole (ap (λ j. end_of g t j answers) (omega arith) ∙ e))

held_more : (g : Lists) (held : List ℤ) (cycles : List (List Answer)) (answers : List Answer)
    → held_after g held (cycles ++ answers ∷ []) ≡ stored_words g answers
held_more g held [] answers = refl
held_more g held (a ∷ cycles) answers = held_more g (stored_words g a) cycles answers

unless_both : (e : CycleEnd) (P Q : Type 0) → P → Q → unless_ended e P Q
unless_both end.Released P Q p q = p
unless_both (end.Stopped k why) P Q p q = q
unless_both (end.Refused k found wanted) P Q p q = q

unless_released : (e : CycleEnd) (P Q : Type 0) → e ≡ end.Released → P → unless_ended e P Q
unless_released end.Released P Q is p = p
unless_released (end.Stopped k why) P Q is p = absurd cc
unless_released (end.Refused k found wanted) P Q is p = absurd cc

all_to_end : (g : Lists) (t : Numbers) (n : ℕ) (rows : List (List ℤ)) (cycles : List (List Answer)) (row : List ℤ) (answers : List Answer)
    → length rows ≡ length cycles → AllReleased g t n cycles → Whole g.operations answers →
    AllCycles g t n (rows ++ row ∷ []) (cycles ++ answers ∷ [])
all_to_end g t n [] [] row answers e h whole = (whole, unless_both (end_of g t n answers) (Unit {0}) ([] ≡ []) tt refl)
all_to_end g t n [] (a ∷ cycles) row answers e h whole = absurd (omega arith)
all_to_end g t n (r ∷ rows) [] row answers e h whole = absurd (omega arith)
all_to_end g t n (r ∷ rows) (a ∷ cycles) row answers e h whole =
    (h.0, unless_released (end_of g t n a) _ _ h.1 (all_to_end g t (suc n) rows cycles row answers (omega arith) h.2 whole))

all_so_far : (g : Lists) (t : Numbers) (n : ℕ) (rows : List (List ℤ)) (cycles : List (List Answer)) → length rows ≡ length cycles → AllReleased g t n cycles
    → AllCycles g t n rows cycles
all_so_far g t n [] [] e h = tt
all_so_far g t n [] (a ∷ cycles) e h = absurd (omega arith)
all_so_far g t n (r ∷ rows) [] e h = absurd (omega arith)
all_so_far g t n (r ∷ rows) (a ∷ cycles) e h = (h.0, unless_released (end_of g t n a) _ _ h.1 (all_so_far g t (suc n) rows cycles (omega arith) h.2))

-- ---- outcomes

last_outcome : (e : CycleEnd) (row : List ℤ) → followed_by e row (record { rows = []; end = end.Released }) ≡ record { rows = row_if e row; end = e }
last_outcome end.Released row = refl
last_outcome (end.Stopped k why) row = refl
last_outcome (end.Refused k found wanted) row = refl

outcome_to_end : (g : Lists) (t : Numbers) (n : ℕ) (cycles : List (List Answer)) (answers : List Answer) → AllReleased g t n cycles →
    outcome_over g t n
    (cycles ++ answers ∷ [])
    ≡ record {
      rows = map (outputs_of g) cycles ++ row_if (end_of g t (n + length cycles) answers) (outputs_of g answers);
      end =
          end_of g t (n + length cycles) answers;
    }
outcome_to_end g t n [] answers h = let same : end_of g t n answers ≡ end_of g t (n + 0) answers = ap (λ j. end_of g t j answers) (omega arith) in
    last_outcome (end_of g t n answers) (outputs_of g answers) ∙ ap (λ e. record { rows = row_if e (outputs_of g answers); end = e }) same
outcome_to_end g t n (a ∷ cycles) answers h =
    ap (λ e. followed_by e (outputs_of g a) (outcome_over g t (suc n) (cycles ++ answers ∷ []))) h.1
    ∙ ap (followed_by end.Released (outputs_of g a)) (outcome_to_end g t (suc n) cycles answers h.2)
    ∙ ap (λ j. followed_by end.Released (outputs_of g a)
    (record { rows = map (outputs_of g) cycles ++ row_if (end_of g t j answers) (outputs_of g answers); end = end_of g t j answers })) (omega arith)

outcome_so_far : (g : Lists) (t : Numbers) (n : ℕ) (cycles : List (List Answer)) → AllReleased g t n cycles
    → outcome_over g t n cycles ≡ record { rows = map (outputs_of g) cycles; end = end.Released }
outcome_so_far g t n [] h = refl
outcome_so_far g t n (a ∷ cycles) h =
    ap (λ e. followed_by e (outputs_of g a) (outcome_over g t (suc n) cycles)) h.1
    ∙ ap (followed_by end.Released (outputs_of g a)) (outcome_so_far g t (suc n) cycles h.2)

-- ---- runs for every unit

pub run_starts : (g : Lists) (t : Numbers) (told : Option (List Entry)) (wrong : ℕ) → RunSoFar g t [] [] (fresh g t) told told wrong wrong
run_starts g t told wrong = record {
  carried = nothing_carried told wrong;
  released = tt;
  many_rows = refl;
  many_cycles = refl;
  graph = refl;
  table = refl;
  held = refl;
  going = refl;
}

setting_is : (g : Lists) (t : Numbers) (rows : List (List ℤ)) (cycles : List (List Answer)) (m : State) (row : List ℤ) (x y : Option (List Entry)) (i j : ℕ)
    → RunSoFar g t rows cycles m x y i j →
    setting m row ≡ setting_at g t (0 + length cycles) (held_after g (initial_words g t.seed) cycles) row
setting_is g t rows cycles m row x y i j r =
    let count : m.cycles ≡ 0 + length cycles = omega (arith, r.many_cycles) in rw (r.graph, r.table, r.held, count) refl

carried_more : (g : Lists) (t : Numbers) (rows : List (List ℤ)) (cycles : List (List Answer)) (m n : State) (row : List ℤ) (e : CycleEnd)
    (x y z : Option (List Entry)) (i j k : ℕ) → RunSoFar g t rows cycles m x y i j → Turn m n row e y z j k →
    Carried (calls_over g t 0 (initial_words g t.seed) (rows ++ row ∷ []) (cycles ++ n.answers ∷ [])) x z i k
carried_more g t rows cycles m n row e x y z i j k r turn =
    let first : List Entry = calls_over g t 0 (initial_words g t.seed) rows cycles in
    let here : Carried (CallsOf (setting_at g t (0 + length cycles) (held_after g (initial_words g t.seed) cycles) row) n.answers) y z j k =
    subst (λ s. Carried (CallsOf s n.answers) y z j k) (setting_is g t rows cycles m row x y i j r) turn.carried in
    subst (λ es. Carried es x z i k) (sym (calls_more g t 0 (initial_words g t.seed) rows cycles row n.answers r.many_rows))
    (carried_on first _ x y z i j k r.carried here)

end_here : (g : Lists) (t : Numbers) (rows : List (List ℤ)) (cycles : List (List Answer)) (m n : State) (row : List ℤ) (e : CycleEnd)
    (x y z : Option (List Entry)) (i j k : ℕ) → RunSoFar g t rows cycles m x y i j → Turn m n row e y z j k →
    e ≡ end_of g t (0 + length cycles) n.answers
end_here g t rows cycles m n row e x y z i j k r turn =
    let count : m.cycles ≡ 0 + length cycles = omega (arith, r.many_cycles) in
    turn.end_is ∙ ap (λ (h : Lists). end_of h m.table m.cycles n.answers) r.graph ∙ ap (λ (u : Numbers). end_of g u m.cycles n.answers) r.table
    ∙ ap (λ c. end_of g t c n.answers) count

whole_here : (g : Lists) (t : Numbers) (rows : List (List ℤ)) (cycles : List (List Answer)) (m n : State) (row : List ℤ) (e : CycleEnd)
    (x y z : Option (List Entry)) (i j k : ℕ) → RunSoFar g t rows cycles m x y i j → Turn m n row e y z j k → Whole g.operations n.answers
whole_here g t rows cycles m n row e x y z i j k r turn = subst (λ (h : Lists). Whole h.operations n.answers) r.graph turn.whole

pub run_goes_on : (g : Lists) (t : Numbers) (rows : List (List ℤ)) (cycles : List (List Answer)) (m n : State) (row : List ℤ) (x y z : Option (List Entry))
    (i j k : ℕ) → RunSoFar g t rows cycles m x y i j → Turn m n row end.Released y z j k →
    RunSoFar g t (rows ++ row ∷ []) (cycles ++ n.answers ∷ []) n x z i k
run_goes_on g t rows cycles m n row x y z i j k r turn = record {
  carried = carried_more g t rows cycles m n row end.Released x y z i j k r turn;
  released = released_more g t 0 cycles n.answers r.released (whole_here g t rows cycles m n row end.Released x y z i j k r turn)
      (sym (end_here g t rows cycles m n row end.Released x y z i j k r turn));
  many_rows = simp length-append (omega (arith, r.many_rows));
  many_cycles = ap (λ (s : State). s.cycles) turn.machine ∙ simp length-append (omega (arith, r.many_cycles));
  graph = ap (λ (s : State). s.graph) turn.machine ∙ r.graph;
  table = ap (λ (s : State). s.table) turn.machine ∙ r.table;
  held = ap (λ (s : State). s.held) turn.machine ∙ ap (λ (h : Lists). stored_words h n.answers) r.graph
      ∙ sym (held_more g (initial_words g t.seed) cycles n.answers);
  going = ap (λ (s : State). s.ended) turn.machine ∙ turn.going;
}

pub run_stands : (g : Lists) (t : Numbers) (rows : List (List ℤ)) (cycles : List (List Answer)) (m : State) (x y : Option (List Entry)) (i j : ℕ)
    → RunSoFar g t rows cycles m x y i j →
    RunOver g t rows cycles (map (outputs_of g) cycles) end.Released x y i j
run_stands g t rows cycles m x y i j r = record {
  carried = r.carried;
  all = all_so_far g t 0 rows cycles r.many_rows r.released;
  outcome = outcome_so_far g t 0 cycles r.released;
}

pub run_ends : (g : Lists) (t : Numbers) (rows : List (List ℤ)) (cycles : List (List Answer)) (m n : State) (row : List ℤ) (e : CycleEnd)
    (x y z : Option (List Entry)) (i j k : ℕ) → RunSoFar g t rows cycles m x y i j → Turn m n row e y z j k →
    RunOver g t (rows ++ row ∷ []) (cycles ++ n.answers ∷ []) (map (outputs_of g) cycles ++ row_if e (outputs_of g n.answers)) e x z i k
run_ends g t rows cycles m n row e x y z i j k r turn = record {
  carried = carried_more g t rows cycles m n row e x y z i j k r turn;
  all = all_to_end g t 0 rows cycles row n.answers r.many_rows r.released (whole_here g t rows cycles m n row e x y z i j k r turn);
  outcome = outcome_to_end g t 0 cycles n.answers r.released
      ∙ ap (λ f. record { rows = map (outputs_of g) cycles ++ row_if f (outputs_of g n.answers); end = f })
      (sym (end_here g t rows cycles m n row e x y z i j k r turn));
}

-- ---- honest runs

turn_follows : (g : Lists) (t : Numbers) (n : ℕ) (answers : List Answer) (c : Cycle) (s : Option StopKind) (next : List ℤ → Run) (later : Outcome) → c.stop ≡ s
    →
    end_of g t n answers ≡ end_at
    (length c.values) s → (s ≡ None → outputs_of g answers ≡ outputs g c.values) → (s ≡ None → later ≡ outcome_for (next (stored g c.values))) →
    followed_by (end_of g t n answers) (outputs_of g answers) later ≡ outcome_for (after_cycle g c.values next s)
turn_follows g t n answers c None next later stops is row rest = rw (is, row refl, rest refl) refl
turn_follows g t n answers c (Some why) next later stops is row rest = rw is refl

unless_here : (e : CycleEnd) (P Q : Type 0) → e ≡ end.Released → unless_ended e P Q → P
unless_here end.Released P Q is h = h
unless_here (end.Stopped k why) P Q is h = absurd cc
unless_here (end.Refused k found wanted) P Q is h = absurd cc

honest_over : HonestCycles → (g : Lists) (t : Numbers) (n : ℕ) (rows : List (List ℤ)) (cycles : List (List Answer)) (held values : List ℤ) → IsGraph g
    → IsTable t → CellsHold g t.seed (stamp_before t.step n) held values → n + length rows ≤ most_cycles →
    AllCycles g t n rows cycles → AllRight (calls_over g t n held rows cycles) → outcome_over g t n cycles ≡ outcome_for (run_from g values rows)
honest_over law g t n [] [] held values graph table hold many all right = refl
honest_over law g t n (row ∷ rows) [] held values graph table hold many all right = absurd all
honest_over law g t n [] (answers ∷ cycles) held values graph table hold many all right = absurd all
honest_over law g t n (row ∷ rows) (answers ∷ cycles) held values graph table hold many all right =
    let s : Setting = setting_at g t n held row in
    let parts = right_front (CallsOf s answers) (calls_over g t (suc n) (stored_words g answers) rows cycles) right in
    let c : Cycle = cycle g values row in
    let stands : StandsFor s values answers = law s values answers graph table (omega arith) hold parts.0 all.0 in
    turn_follows g t n answers c c.stop (λ h. run_from g h rows) (outcome_over g t (suc n) cycles) refl stands.end_is stands.row_is
    (λ stops.
    let released : end_of g t n answers ≡ end.Released = stands.end_is ∙ ap (end_at (length c.values)) stops in
    let next : CellsHold g t.seed (stamp_before t.step (suc n)) (stored_words g answers) (stored g c.values) =
    subst (λ j. CellsHold g t.seed (stamp_before t.step j) (stored_words g answers) (stored g c.values)) (omega arith) (stands.cells_are stops) in
    honest_over law g t (suc n) rows cycles (stored_words g answers) (stored g c.values) graph table next (omega arith)
    (unless_here (end_of g t n answers) _ _ released all.1) parts.1)

pub honest_run : HonestCycles → HonestCells → (g : Lists) (t : Numbers) (rows : List (List ℤ)) (cycles : List (List Answer)) → IsGraph g → IsTable t
    → length rows ≤ most_cycles → AllCycles g t 0 rows cycles →
    AllRight (calls_over g t 0 (initial_words g t.seed) rows cycles) → outcome_over g t 0 cycles ≡ outcome_for (graph_run g rows)
honest_run law first g t rows cycles graph table many all right =
    honest_over law g t 0 rows cycles (initial_words g t.seed) (initial g) graph table (first g t.seed t.step graph) (omega arith) all right

-- ---- honest runs between two cycles

-- the graph's run goes on from values that the cells hold
pub record GoesOn (g : Lists) (t : Numbers) (n : ℕ) (rows : List (List ℤ)) (cycles : List (List Answer)) (held values : List ℤ) : Type 0 where
  pub later : List ℤ
  pub later_is : later ≡ cells_after g values rows
  pub hold : CellsHold g t.seed (stamp_before t.step (n + length cycles)) (held_after g held cycles) later
  pub run : (more : List (List ℤ)) →
      run_from g values (rows ++ more) ≡ record { rows = map (outputs_of g) cycles ++ (run_from g later more).rows; end = (run_from g later more).end }

released_stop : (k : ℕ) (s : Option StopKind) → end_at k s ≡ end.Released → s ≡ None
released_stop k None e = refl
released_stop k (Some why) e = absurd cc

goes_on : HonestCycles → (g : Lists) (t : Numbers) (n : ℕ) (rows : List (List ℤ)) (cycles : List (List Answer)) (held values : List ℤ) → IsGraph g → IsTable t
    → CellsHold g t.seed (stamp_before t.step n) held values → n + length rows ≤ most_cycles → length rows ≡ length cycles →
    AllReleased g t n cycles → AllRight (calls_over g t n held rows cycles) → GoesOn g t n rows cycles held values
goes_on law g t n [] [] held values graph table hold many count all right = record {
  later = values;
  later_is = refl;
  hold = subst (λ j. CellsHold g t.seed (stamp_before t.step j) held values) (omega arith) hold;
  run = λ more. refl;
}
goes_on law g t n (row ∷ rows) [] held values graph table hold many count all right = absurd (omega arith)
goes_on law g t n [] (answers ∷ cycles) held values graph table hold many count all right = absurd (omega arith)
goes_on law g t n (row ∷ rows) (answers ∷ cycles) held values graph table hold many count all right =
    let s : Setting = setting_at g t n held row in
    let parts = right_front (CallsOf s answers) (calls_over g t (suc n) (stored_words g answers) rows cycles) right in
    let c : Cycle = cycle g values row in
    let stands : StandsFor s values answers = law s values answers graph table (omega arith) hold parts.0 all.0 in
    let stops : c.stop ≡ None = released_stop (length c.values) c.stop (sym stands.end_is ∙ all.1) in
    let next : CellsHold g t.seed (stamp_before t.step (suc n)) (stored_words g answers) (stored g c.values) =
    subst (λ j. CellsHold g t.seed (stamp_before t.step j) (stored_words g answers) (stored g c.values)) (omega arith) (stands.cells_are stops) in
    let rest : GoesOn g t (suc n) rows cycles (stored_words g answers) (stored g c.values) =
    goes_on law g t (suc n) rows cycles (stored_words g answers) (stored g c.values) graph table next (omega arith) (omega arith) all.2 parts.1 in
    record {
      later = rest.later;
      later_is = rest.later_is ∙ ap (λ s. unless_stopped values (stored g c.values) (λ next. cells_after g next rows) s) (sym stops);
      hold = subst (λ j. CellsHold g t.seed (stamp_before t.step j) (held_after g (stored_words g answers) cycles) rest.later) (omega arith) rest.hold;
      run = λ more.
          ap (λ x. after_cycle g c.values (λ h. run_from g h (rows ++ more)) x) stops
          ∙ ap (λ (r : Run). record { rows = outputs g c.values ∷ r.rows; end = r.end }) (rest.run more)
          ∙ ap (λ x. record { rows = x ∷ (map (outputs_of g) cycles ++ (run_from g rest.later more).rows); end = (run_from g rest.later more).end })
          (sym (stands.row_is stops));
    }

pub follows_so_far : HonestCycles → HonestCells
    → (g : Lists) (t : Numbers) (rows : List (List ℤ)) (cycles : List (List Answer)) (m : State) (x y : Option (List Entry)) (i j : ℕ) → IsGraph g → IsTable t
    → length rows ≤ most_cycles → RunSoFar g t rows cycles m x y i j → j ≡ i → i < 2 ^ 64 - 1 → FollowsSoFar g rows cycles m
follows_so_far law first g t rows cycles m x y i j graph table many r same small =
    let on : GoesOn g t 0 rows cycles (initial_words g t.seed) (initial g) =
    goes_on law g t 0 rows cycles (initial_words g t.seed) (initial g) graph table (first g t.seed t.step graph) (omega arith) r.many_rows r.released
    (r.carried.honest same small) in
    let count : m.cycles ≡ 0 + length cycles = omega (arith, r.many_cycles) in
    record {
      values = on.later;
      values_are = on.later_is;
      hold = rw (r.graph, r.table, r.held, count) on.hold;
      run = on.run;
    }
