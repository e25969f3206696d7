-- UpTo: a run between two of its cycles.
use Rattle.std.proofs.Common.{ℕ, ◌+◌, ◌<◌, ◌≤◌, ◌≡◌, false, refl, ap, subst, sym, ◌∙◌, ℤ, List, [], ◌∷◌, ◌++◌, append-nil, append_assoc, length, length-append, map, arith}
use Rattle.std.proofs.lemmas.List.{length-map}
use Rattle.std.specs.Io.KnownBytes.{Appends}
use Rattle.vcp_base.specs.Limits.{most_cycles}
use Rattle.input_rows.specs.RowsOf.{RowsLeft}
use Rattle.coded_unit.specs.declared.call.Answer.{Answer}
use Rattle.op_graph.specs.Lists.{Lists}
use Rattle.signature_table.specs.Signatures.{Numbers}
use Rattle.coded_machine.specs.declared.cycle_end.CycleEnd.{CycleEnd}
use Rattle.coded_machine.specs.declared.cycle_end.CycleEnd.TheVariants as end
use Rattle.coded_machine.specs.CycleEnds.{outputs_of}
use Rattle.coded_machine.specs.Runs.{Outcome, outcome_over, RunSoFar, Turn, row_if}
use Rattle.coded_machine.specs.State.{State, fresh}
use Rattle.coded_machine.specs.Leaves.{MachineAfter, last_answers}
use Rattle.coded_machine.specs.Moments.{Moment}
use Rattle.coded_machine.specs.RowRuns.{texts_from}
use Rattle.coded_machine.proofs.Writing.{appends_nothing, rows_written}
use Rattle.coded_machine.specs.Laws.{RunLaws}

-- What stands between two cycles of a run over the rows `left`, of which `rest` are left: a cycle was carried and released for each
-- of the rows taken, all is written and kept for them, and the machine is the one after them.
pub record UpTo (g : Lists) (t : Numbers) (left rest : RowsLeft) (text : ℕ → List ℤ → List ℕ) (before now : Moment)
    (kept_before kept_now : List (List ℤ) → Type 0) (m : State) : Type 0 where
  pub taken : List (List ℤ)
  pub cycles : List (List Answer)
  pub rows : left ≡ record rest { rows = taken ++ rest.rows }
  pub run : RunSoFar g t taken cycles m before.unit.log now.unit.log before.unit.wrong now.unit.wrong
  pub answers : m.answers ≡ last_answers cycles
  pub between : m.under_way ≡ false
  pub written : Appends before.out.written now.out.written (texts_from text 0 (map (outputs_of g) cycles))
  pub faults : now.out.faults ≡ before.out.faults
  pub kept : (rows : List (List ℤ)) → kept_before rows → kept_now (rows ++ map (outputs_of g) cycles)

-- before the first cycle
pub up_to_first : RunLaws → (left : RowsLeft) (text : ℕ → List ℤ → List ℕ) (b : Moment) (kept : List (List ℤ) → Type 0) (m : State) → m ≡ fresh m.graph m.table
    → UpTo m.graph m.table left left text b b kept kept m
up_to_first laws left text b kept m is = record {
  taken = [];
  cycles = [];
  rows = refl;
  run = subst (λ (s : State). RunSoFar m.graph m.table [] [] s b.unit.log b.unit.log b.unit.wrong b.unit.wrong) (sym is) (laws.starts m.graph m.table b.unit.log b.unit.wrong);
  answers = ap (λ (s : State). s.answers) is;
  between = ap (λ (s : State). s.under_way) is;
  written = appends_nothing b.out.written;
  faults = refl;
  kept = λ rows h. subst kept (sym (append-nil rows)) h;
}

-- ---- one more cycle

pub last_is : (cycles : List (List Answer)) (answers : List Answer) → last_answers (cycles ++ answers ∷ []) ≡ answers
last_is [] answers = refl
last_is (a ∷ []) answers = refl
last_is (a ∷ b ∷ cycles) answers = last_is (b ∷ cycles) answers

pub map_more : {X Y : Type 0} (f : X → Y) (xs : List X) (x : X) → map f (xs ++ x ∷ []) ≡ map f xs ++ f x ∷ []
map_more f [] x = refl
map_more f (y ∷ xs) x = ap (λ ys. f y ∷ ys) (map_more f xs x)

-- the machine between two cycles
pub machine_stands : (g : Lists) (t : Numbers) (left rest : RowsLeft) (text : ℕ → List ℤ → List ℕ) (b n : Moment) (kept_before kept_now : List (List ℤ)
    → Type 0) (m : State) → (u : UpTo g t left rest text b n kept_before kept_now m) →
    outcome_over g t 0 u.cycles ≡ record { rows = map (outputs_of g) u.cycles; end = end.Released } → MachineAfter g t u.cycles m
machine_stands g t left rest text b n kept_before kept_now m u outcome = record {
  graph = u.run.graph;
  table = u.run.table;
  answers = u.answers;
  cycles = u.run.many_cycles ∙ sym (length-map u.cycles (outputs_of g)) ∙ ap (λ (o : Outcome). length o.rows) (sym outcome);
  between = u.between;
}

-- what a turn leaves of the graph, the table and the count of cycles
turn_graph : (m n : State) (row : List ℤ) (e : CycleEnd) (b a : Moment) → Turn m n row e b.unit.log a.unit.log b.unit.wrong a.unit.wrong → n.graph ≡ m.graph
turn_graph m n row end.Released b a h = ap (λ (s : State). s.graph) h.machine
turn_graph m n row (end.Stopped op why) b a h = ap (λ (s : State). s.graph) h.machine
turn_graph m n row (end.Refused i found wanted) b a h = ap (λ (s : State). s.graph) h.machine

turn_table : (m n : State) (row : List ℤ) (e : CycleEnd) (b a : Moment) → Turn m n row e b.unit.log a.unit.log b.unit.wrong a.unit.wrong → n.table ≡ m.table
turn_table m n row end.Released b a h = ap (λ (s : State). s.table) h.machine
turn_table m n row (end.Stopped op why) b a h = ap (λ (s : State). s.table) h.machine
turn_table m n row (end.Refused i found wanted) b a h = ap (λ (s : State). s.table) h.machine

turn_cycles : (m n : State) (row outs : List ℤ) (e : CycleEnd) (b a : Moment) → Turn m n row e b.unit.log a.unit.log b.unit.wrong a.unit.wrong
    → n.cycles ≡ m.cycles + length (row_if e outs)
turn_cycles m n row outs end.Released b a h = ap (λ (s : State). s.cycles) h.machine
turn_cycles m n row outs (end.Stopped op why) b a h = omega (arith, ap (λ (s : State). s.cycles) h.machine)
turn_cycles m n row outs (end.Refused i found wanted) b a h = omega (arith, ap (λ (s : State). s.cycles) h.machine)

-- the machine after one more cycle, whatever its end
pub machine_on : (g : Lists) (t : Numbers) (left rest : RowsLeft) (text : ℕ → List ℤ → List ℕ) (b n a : Moment) (kept_before kept_now : List (List ℤ) → Type 0) (m o : State) (row : List ℤ) (e : CycleEnd) → (u : UpTo g t left rest text b n kept_before kept_now m) → Turn m o row e n.unit.log a.unit.log n.unit.wrong a.unit.wrong → o.under_way ≡ false →
    outcome_over g t 0
    (u.cycles ++ o.answers ∷ []) ≡ record { rows = map (outputs_of g) u.cycles ++ row_if e (outputs_of g o.answers); end = e } → MachineAfter g t
    (u.cycles ++ o.answers ∷ []) o
machine_on g t left rest text b n a kept_before kept_now m o row e u turn between outcome =
    let last = row_if e (outputs_of g o.answers) in
    let count : length (outcome_over g t 0 (u.cycles ++ o.answers ∷ [])).rows ≡ length (map (outputs_of g) u.cycles) + length last =
    ap (λ (x : Outcome). length x.rows) outcome ∙ length-append (map (outputs_of g) u.cycles) last in
    record {
      graph = turn_graph m o row e n a turn ∙ u.run.graph;
      table = turn_table m o row e n a turn ∙ u.run.table;
      answers = sym (last_is u.cycles o.answers);
      cycles = omega (arith, turn_cycles m o row (outputs_of g o.answers) e n a turn, u.run.many_cycles, length-map u.cycles (outputs_of g), count);
      between = between;
    }

-- the rows taken, with one more
pub rows_on : (left rest now : RowsLeft) (taken : List (List ℤ)) (row : List ℤ) → left ≡ record rest { rows = taken ++ rest.rows }
    → rest ≡ record now { rows = row ∷ now.rows } → left ≡ record now { rows = (taken ++ row ∷ []) ++ now.rows }
rows_on left rest now taken row all one =
    all ∙ ap (λ (r : RowsLeft). record r { rows = taken ++ r.rows }) one
    ∙ ap (λ rows. record now { rows = rows }) (sym (append_assoc taken (row ∷ []) now.rows))

-- the text of a cycle's row, by the rows before it
pub text_here : (g : Lists) (t : Numbers) (text : ℕ → List ℤ
    → List ℕ) (cycles : List (List Answer)) (taken : List
    (List ℤ)) (m : State) (answers : List Answer) (e : CycleEnd) (b n : Moment) → RunSoFar g t taken cycles m b.unit.log n.unit.log b.unit.wrong n.unit.wrong →
    texts_from text m.cycles (row_if e (outputs_of m.graph answers)) ≡ texts_from text (0 + length (map (outputs_of g) cycles))
    (row_if e (outputs_of g answers))
text_here g t text cycles taken m answers e b n run =
    let count : m.cycles ≡ 0 + length (map (outputs_of g) cycles) = omega (arith, run.many_cycles, length-map cycles (outputs_of g)) in
    ap (λ (x : Lists). texts_from text m.cycles (row_if e (outputs_of x answers))) run.graph
    ∙ ap (λ i. texts_from text i (row_if e (outputs_of g answers))) count

-- what is written after a cycle
pub written_on : (g : Lists) (t : Numbers) (text : ℕ → List ℤ
    → List ℕ) (cycles : List (List Answer)) (taken : List
    (List ℤ)) (m : State) (answers : List Answer) (e : CycleEnd) (b n a : Moment) → RunSoFar g t taken cycles m b.unit.log n.unit.log b.unit.wrong n.unit.wrong →
    Appends b.out.written n.out.written (texts_from text 0 (map (outputs_of g) cycles)) → Appends n.out.written a.out.written
    (texts_from text m.cycles (row_if e (outputs_of m.graph answers))) → Appends b.out.written a.out.written
    (texts_from text 0 (map (outputs_of g) cycles ++ row_if e (outputs_of g answers)))
written_on g t text cycles taken m answers e b n a run h k =
    rows_written text b.out.written n.out.written a.out.written (map (outputs_of g) cycles) (row_if e (outputs_of g answers)) h
    (subst (Appends n.out.written a.out.written) (text_here g t text cycles taken m answers e b n run) k)

-- what is kept after it
pub kept_on : (g : Lists) (cycles : List (List Answer)) (m : State) (answers : List Answer) (e : CycleEnd) (kept_before kept_now kept_after : List (List ℤ)
    → Type 0) → m.graph ≡ g →
    ((rows : List (List ℤ)) → kept_before rows → kept_now (rows ++ map (outputs_of g) cycles))
    → ((rows : List (List ℤ)) → kept_now rows → kept_after (rows ++ row_if e (outputs_of m.graph answers))) →
    (rows : List (List ℤ)) → kept_before rows → kept_after (rows ++ (map (outputs_of g) cycles ++ row_if e (outputs_of g answers)))
kept_on g cycles m answers e kept_before kept_now kept_after graph h k rows b =
    subst kept_after (append_assoc rows (map (outputs_of g) cycles) (row_if e (outputs_of g answers)))
    (subst (λ (x : Lists). kept_after ((rows ++ map (outputs_of g) cycles) ++ row_if e (outputs_of x answers))) graph
    (k (rows ++ map (outputs_of g) cycles) (h rows b)))

-- after a cycle that was released
pub up_to_next : RunLaws
    → (g : Lists) (t : Numbers) (left rest now : RowsLeft) (text : ℕ → List ℤ → List ℕ) (b n a : Moment) (kept_before kept_now kept_after : List (List ℤ)
    → Type 0) (m o : State) (row : List ℤ) (e : CycleEnd) → UpTo g t left rest text b n kept_before kept_now m → e ≡ end.Released →
    rest ≡ record now { rows = row ∷ now.rows } → Turn m o row e n.unit.log a.unit.log n.unit.wrong a.unit.wrong → o.under_way ≡ false → Appends n.out.written a.out.written
    (texts_from text m.cycles (row_if e (outputs_of m.graph o.answers))) → a.out.faults ≡ n.out.faults →
    ((rows : List (List ℤ)) → kept_now rows → kept_after (rows ++ row_if e (outputs_of m.graph o.answers)))
    → UpTo g t left now text b a kept_before kept_after o
up_to_next laws g t left rest now text b n a kept_before kept_now kept_after m o row end.Released u is one turn between written faults kept = record {
  taken = u.taken ++ row ∷ [];
  cycles = u.cycles ++ o.answers ∷ [];
  rows = rows_on left rest now u.taken row u.rows one;
  run = laws.goes_on g t u.taken u.cycles m o row b.unit.log n.unit.log a.unit.log b.unit.wrong n.unit.wrong a.unit.wrong u.run turn;
  answers = sym (last_is u.cycles o.answers);
  between = between;
  written =
      subst (λ outs. Appends b.out.written a.out.written (texts_from text 0 outs)) (sym (map_more (outputs_of g) u.cycles o.answers))
      (written_on g t text u.cycles u.taken m o.answers end.Released b n a u.run u.written written);
  faults = faults ∙ u.faults;
  kept = λ rows h.
      subst (λ outs. kept_after (rows ++ outs)) (sym (map_more (outputs_of g) u.cycles o.answers))
      (kept_on g u.cycles m o.answers end.Released kept_before kept_now kept_after u.run.graph u.kept kept rows h);
}
up_to_next laws g t left rest now text b n a kept_before kept_now kept_after m o row (end.Stopped op why) u is one turn between written faults kept = absurd cc
up_to_next laws g t left rest now text b n a kept_before kept_now kept_after m o row (end.Refused i found wanted) u is one turn between written faults kept =
    absurd cc

-- before a row the cycles are fewer than a run may have
pub cycles_left : (g : Lists) (t : Numbers) (left rest now : RowsLeft) (text : ℕ → List ℤ → List ℕ) (b n : Moment) (kept_before kept_now : List (List ℤ)
    → Type 0) (m : State) (row : List ℤ) → UpTo g t left rest text b n kept_before kept_now m → length left.rows ≤ most_cycles → rest ≡ record now {
      rows =
          row ∷ now.rows;
    } → m.cycles < most_cycles
cycles_left g t left rest now text b n kept_before kept_now m row u few one =
    let all = ap (λ (r : RowsLeft). length r.rows) u.rows in
    let one_more = ap (λ (r : RowsLeft). length r.rows) one in
    omega (arith, u.run.many_rows, u.run.many_cycles, simp length-append at all, one_more)
