-- Exits: what a run leaves at each of its ends.
use Rattle.std.proofs.Common.{ℕ, ◌-◌, ◌^◌, ◌+◌, ◌≡◌, ◌≢◌, false, refl, ap, subst, sym, ◌∙◌, ℤ, List, [], ◌∷◌, ◌++◌, length, length-append, map, arith, inl, inr, Option, Some, None, Result, Ok, Err}
use Rattle.std.proofs.lemmas.Bool.{cases_lt}
use Rattle.std.specs.Io.KnownBytes.{Appends}
use Rattle.vcp_outside.specs.Counts.{Rose}
use Rattle.vcp_outside.specs.Written.{AppendsPart}
use Rattle.input_rows.specs.declared.fault.RowFault.{RowFault}
use Rattle.input_rows.specs.declared.fault.RowFault.TheVariants as row
use Rattle.input_rows.specs.RowsOf.{RowsLeft}
use Rattle.coded_unit.specs.declared.call.Answer.{Answer}
use Rattle.op_graph.specs.Lists.{Lists}
use Rattle.op_graph.specs.GraphRun.{Stop, graph_run}
use Rattle.signature_table.specs.Signatures.{Numbers}
use Rattle.coded_machine.specs.declared.cycle_end.CycleEnd.{CycleEnd}
use Rattle.coded_machine.specs.declared.cycle_end.CycleEnd.TheVariants as end
use Rattle.coded_machine.specs.CycleEnds.{outputs_of}
use Rattle.coded_machine.specs.Runs.{Outcome, outcome_over, end_of_run, RunOver, RunSoFar, Turn, row_if}
use Rattle.coded_machine.specs.State.{State}
use Rattle.coded_machine.specs.declared.rows.fault.RunFault.{RunFault}
use Rattle.coded_machine.specs.declared.rows.fault.RunFault.TheVariants as fault
use Rattle.coded_machine.specs.Leaves.{Leaves}
use Rattle.coded_machine.specs.Moments.{Moment}
use Rattle.coded_machine.specs.Refusals.{given_up_by}
use Rattle.coded_machine.specs.RowRuns.{RunsRows, CameToEnd, EarlierWritten, texts_from}
use Rattle.coded_machine.proofs.Overall.{Fair, Over, over_all, came_to_end, whole_follows, front_follows}
use Rattle.coded_machine.proofs.UpTo.{UpTo, machine_stands, machine_on, rows_on, text_here, written_on, kept_on, map_more}
use Rattle.coded_machine.proofs.Writing.{appends_on, part_written}
use Rattle.coded_machine.specs.Laws.{RunLaws, HonestLaws}

-- ---- between two cycles

all_rows : (left rest : RowsLeft) (taken : List (List ℤ)) → left ≡ record rest { rows = taken ++ rest.rows } → left.rows ≡ taken ++ rest.rows
all_rows left rest taken is = ap (λ (r : RowsLeft). r.rows) is

stands : RunLaws
    → (g : Lists) (t : Numbers) (left rest : RowsLeft) (text : ℕ → List ℤ → List ℕ) (b n : Moment) (kept_before kept_now : List (List ℤ) → Type 0) (m : State)
    → (u : UpTo g t left rest text b n kept_before kept_now m) →
    RunOver g t u.taken u.cycles (map (outputs_of g) u.cycles) end.Released b.unit.log n.unit.log b.unit.wrong n.unit.wrong
stands laws g t left rest text b n kept_before kept_now m u = laws.stands g t u.taken u.cycles m b.unit.log n.unit.log b.unit.wrong n.unit.wrong u.run

-- want of memory
pub memory_exit : RunLaws → HonestLaws
    → (g : Lists) (t : Numbers) (left rest : RowsLeft) (text : ℕ → List ℤ → List ℕ) (b n : Moment) (kept_before kept_now : List (List ℤ) → Type 0) (m : State)
    → Fair g t left.rows → UpTo g t left rest text b n kept_before kept_now m →
    Leaves g t left text b n kept_before kept_now m (Err fault.Memory)
memory_exit laws honest g t left rest text b n kept_before kept_now m fair u =
    let is = all_rows left rest u.taken u.rows in
    let run = stands laws g t left rest text b n kept_before kept_now m u in
    let over : Over g t left.rows u.cycles (map (outputs_of g) u.cycles) end.Released b n =
    over_all g t left.rows u.taken rest.rows u.cycles (map (outputs_of g) u.cycles) end.Released b n is run in
    let outs = ap (λ (o : Outcome). o.rows) over.outcome in
    record {
      run = record {
        cycles = u.cycles;
        carried = over.carried;
        some = over.some;
        ends = subst (λ rows. Appends b.out.written n.out.written (texts_from text 0 rows)) (sym outs) u.written;
        given_up = ap (λ (o : Outcome). o.end) over.outcome;
        follows = front_follows honest g t left.rows u.taken rest.rows u.cycles m b n fair is u.run over.outcome;
      };
      machine = machine_stands g t left rest text b n kept_before kept_now m u over.outcome;
      kept = λ rows h. subst (λ xs. kept_now (rows ++ xs)) (sym outs) (u.kept rows h);
    }

-- the last row
pub last_exit : RunLaws → HonestLaws
    → (g : Lists) (t : Numbers) (left rest : RowsLeft) (text : ℕ → List ℤ → List ℕ) (b n : Moment) (kept_before kept_now : List (List ℤ) → Type 0) (m : State)
    → Fair g t left.rows → UpTo g t left rest text b n kept_before kept_now m →
    rest.rows ≡ [] → rest.refusal ≡ None → Leaves g t left text b n kept_before kept_now m (Ok end.Released)
last_exit laws honest g t left rest text b n kept_before kept_now m fair u none behind =
    let is = all_rows left rest u.taken u.rows in
    let run = stands laws g t left rest text b n kept_before kept_now m u in
    let over : Over g t left.rows u.cycles (map (outputs_of g) u.cycles) end.Released b n =
    over_all g t left.rows u.taken rest.rows u.cycles (map (outputs_of g) u.cycles) end.Released b n is run in
    let came : CameToEnd g t left.rows u.cycles end.Released =
    came_to_end g t left.rows u.taken rest.rows u.cycles (map (outputs_of g) u.cycles) end.Released b n is (inr none) run in
    let outs = ap (λ (o : Outcome). o.rows) over.outcome in
    record {
      run = record {
        cycles = u.cycles;
        carried = over.carried;
        some = over.some;
        ends = (
          came,
          (λ _. ap (λ (r : RowsLeft). r.refusal) u.rows ∙ behind),
          subst (λ rows. Appends b.out.written n.out.written (texts_from text 0 rows))
              (sym outs) u.written,
        );
        given_up = tt;
        follows = whole_follows honest g t left.rows u.cycles (map (outputs_of g) u.cycles) end.Released b n fair over came;
      };
      machine = machine_stands g t left rest text b n kept_before kept_now m u over.outcome;
      kept = λ rows h. subst (λ xs. kept_now (rows ++ xs)) (sym outs) (u.kept rows h);
    }

-- a row that is refused
refused_exit : RunLaws → HonestLaws
    → (g : Lists) (t : Numbers) (left rest : RowsLeft) (text : ℕ → List ℤ → List ℕ) (b n : Moment) (kept_before kept_now : List (List ℤ)
    → Type 0) (m : State) (why : RowFault) → Fair g t left.rows → UpTo g t left rest text b n kept_before kept_now m →
    rest.rows ≡ [] → rest.refusal ≡ Some why → Leaves g t left text b n kept_before kept_now m (Err (fault.Rows why))
refused_exit laws honest g t left rest text b n kept_before kept_now m why fair u none behind =
    let is = all_rows left rest u.taken u.rows in
    let run = stands laws g t left rest text b n kept_before kept_now m u in
    let over : Over g t left.rows u.cycles (map (outputs_of g) u.cycles) end.Released b n =
    over_all g t left.rows u.taken rest.rows u.cycles (map (outputs_of g) u.cycles) end.Released b n is run in
    let came : CameToEnd g t left.rows u.cycles end.Released =
    came_to_end g t left.rows u.taken rest.rows u.cycles (map (outputs_of g) u.cycles) end.Released b n is (inr none) run in
    let outs = ap (λ (o : Outcome). o.rows) over.outcome in
    record {
      run = record {
        cycles = u.cycles;
        carried = over.carried;
        some = over.some;
        ends = (came, ap (λ (r : RowsLeft). r.refusal) u.rows ∙ behind, subst (λ rows. Appends b.out.written n.out.written (texts_from text 0 rows)) (sym outs) u.written);
        given_up = ap (λ (o : Outcome). o.end) over.outcome;
        follows = whole_follows honest g t left.rows u.cycles (map (outputs_of g) u.cycles) end.Released b n fair over came;
      };
      machine = machine_stands g t left rest text b n kept_before kept_now m u over.outcome;
      kept = λ rows h. subst (λ xs. kept_now (rows ++ xs)) (sym outs) (u.kept rows h);
    }

-- a row that is refused, or want of memory for it
pub row_exit : RunLaws → HonestLaws
    → (g : Lists) (t : Numbers) (left rest : RowsLeft) (text : ℕ → List ℤ → List ℕ) (b n : Moment) (kept_before kept_now : List (List ℤ)
    → Type 0) (m : State) (why : RowFault) → Fair g t left.rows → UpTo g t left rest text b n kept_before kept_now m →
    (why ≢ row.Memory → (rest.rows ≡ []) × (rest.refusal ≡ Some why)) → Leaves g t left text b n kept_before kept_now m (Err (given_up_by why))
row_exit laws honest g t left rest text b n kept_before kept_now m row.Memory fair u h =
    memory_exit laws honest g t left rest text b n kept_before kept_now m fair u
row_exit laws honest g t left rest text b n kept_before kept_now m row.Header fair u h = let x = h (λ e. cc) in
    refused_exit laws honest g t left rest text b n kept_before kept_now m row.Header fair u x.0 x.1
row_exit laws honest g t left rest text b n kept_before kept_now m (row.Width number) fair u h = let x = h (λ e. cc) in
    refused_exit laws honest g t left rest text b n kept_before kept_now m (row.Width number) fair u x.0 x.1
row_exit laws honest g t left rest text b n kept_before kept_now m (row.Cell number column) fair u h = let x = h (λ e. cc) in
    refused_exit laws honest g t left rest text b n kept_before kept_now m (row.Cell number column) fair u x.0 x.1
row_exit laws honest g t left rest text b n kept_before kept_now m row.Form fair u h = let x = h (λ e. cc) in
    refused_exit laws honest g t left rest text b n kept_before kept_now m row.Form fair u x.0 x.1
row_exit laws honest g t left rest text b n kept_before kept_now m row.Cycles fair u h = let x = h (λ e. cc) in
    refused_exit laws honest g t left rest text b n kept_before kept_now m row.Cycles fair u x.0 x.1
row_exit laws honest g t left rest text b n kept_before kept_now m row.Cycle fair u h = let x = h (λ e. cc) in
    refused_exit laws honest g t left rest text b n kept_before kept_now m row.Cycle fair u x.0 x.1

-- ---- a cycle that isn't released

pub cycle_exit : RunLaws → HonestLaws
    → (g : Lists) (t : Numbers) (left rest now : RowsLeft) (text : ℕ → List ℤ → List ℕ) (b n a : Moment) (kept_before kept_now kept_after : List (List ℤ)
    → Type 0) (m o : State) (row : List ℤ) (e : CycleEnd) → Fair g t left.rows →
    UpTo g t left rest text b n kept_before kept_now m → e ≢ end.Released → rest ≡ record now { rows = row ∷ now.rows }
    → Turn m o row e n.unit.log a.unit.log n.unit.wrong a.unit.wrong → o.under_way ≡ false →
    Appends n.out.written a.out.written
    (texts_from text m.cycles (row_if e (outputs_of m.graph o.answers)))
    → ((rows : List (List ℤ)) → kept_now rows → kept_after (rows ++ row_if e (outputs_of m.graph o.answers))) →
    Leaves g t left text b a kept_before kept_after o (Ok e)
cycle_exit laws honest g t left rest now text b n a kept_before kept_now kept_after m o row e fair u not one turn between written kept =
    let cycles = u.cycles ++ o.answers ∷ [] in
    let released = map (outputs_of g) u.cycles ++ row_if e (outputs_of g o.answers) in
    let is = all_rows left now (u.taken ++ row ∷ []) (rows_on left rest now u.taken row u.rows one) in
    let run : RunOver g t (u.taken ++ row ∷ []) cycles released e b.unit.log a.unit.log b.unit.wrong a.unit.wrong =
    laws.ends g t u.taken u.cycles m o row e b.unit.log n.unit.log a.unit.log b.unit.wrong n.unit.wrong a.unit.wrong u.run turn in
    let over : Over g t left.rows cycles released e b a = over_all g t left.rows (u.taken ++ row ∷ []) now.rows cycles released e b a is run in
    let came : CameToEnd g t left.rows cycles e = came_to_end g t left.rows (u.taken ++ row ∷ []) now.rows cycles released e b a is (inl not) run in
    let outs = ap (λ (x : Outcome). x.rows) over.outcome in
    record {
      run = record {
        cycles = cycles;
        carried = over.carried;
        some = over.some;
        ends = (
          came,
          (λ is_released. absurd (not is_released)),
          subst (λ rows. Appends b.out.written a.out.written (texts_from text 0 rows)) (sym outs)
              (written_on g t text u.cycles u.taken m o.answers e b n a u.run u.written written),
        );
        given_up = tt;
        follows = whole_follows honest g t left.rows cycles released e b a fair over came;
      };
      machine = machine_on g t left rest text b n a kept_before kept_now m o row e u turn between over.outcome;
      kept = λ rows h. subst (λ xs. kept_after (rows ++ xs)) (sym outs)
          (kept_on g u.cycles m o.answers e kept_before kept_now kept_after u.run.graph u.kept kept rows h);
    }

-- ---- a write that failed

snoc_front : {X : Type 0} (xs ys : List X) (x y : X) → xs ++ x ∷ [] ≡ ys ++ y ∷ [] → xs ≡ ys
snoc_front [] [] x y e = refl
snoc_front [] (b ∷ ys) x y e = absurd (omega (arith, simp length-append at (ap length e)))
snoc_front (a ∷ xs) [] x y e = absurd (omega (arith, simp length-append at (ap length e)))
snoc_front (a ∷ xs) (b ∷ ys) x y e =
    let same : a ≡ b = cc in
    let rest : xs ++ x ∷ [] ≡ ys ++ y ∷ [] = cc in
    ap (λ z. z ∷ xs) same ∙ ap (λ zs. b ∷ zs) (snoc_front xs ys x y rest)

-- all is written for the rows before the last one
earlier_written : (g : Lists) (text : ℕ → List ℤ → List ℕ) (cycles : List (List Answer)) (answers : List Answer) (b n a : Moment) (more : List ℕ)
    → Appends b.out.written a.out.written (texts_from text 0 (map (outputs_of g) cycles) ++ more) → EarlierWritten g text (cycles ++ answers ∷ []) b a
earlier_written g text cycles answers b n a more h earlier last is =
    (more, subst (λ xs. Appends b.out.written a.out.written (texts_from text 0 (map (outputs_of g) xs) ++ more)) (snoc_front cycles earlier answers last is) h)

pub write_exit : RunLaws → HonestLaws
    → (g : Lists) (t : Numbers) (left rest now : RowsLeft) (text : ℕ → List ℤ → List ℕ) (b n a : Moment) (kept_before kept_now kept_after : List (List ℤ)
    → Type 0) (m o : State) (row : List ℤ) → Fair g t left.rows →
    UpTo g t left rest text b n kept_before kept_now m → rest ≡ record now { rows = row ∷ now.rows } → Turn m o row end.Released n.unit.log a.unit.log n.unit.wrong a.unit.wrong
    → o.under_way ≡ false →
    AppendsPart n.out.written a.out.written (texts_from text m.cycles (row_if end.Released (outputs_of m.graph o.answers))) → Rose n.out.faults a.out.faults →
    Leaves g t left text b a kept_before kept_after o (Err fault.Write)
write_exit laws honest g t left rest now text b n a kept_before kept_now kept_after m o row fair u one turn between part rose =
    let cycles = u.cycles ++ o.answers ∷ [] in
    let taken = u.taken ++ row ∷ [] in
    let released = map (outputs_of g) u.cycles in
    let last = outputs_of g o.answers ∷ [] in
    let is = all_rows left now taken (rows_on left rest now u.taken row u.rows one) in
    let so_far : RunSoFar g t taken cycles o b.unit.log a.unit.log b.unit.wrong a.unit.wrong =
    laws.goes_on g t u.taken u.cycles m o row b.unit.log n.unit.log a.unit.log b.unit.wrong n.unit.wrong a.unit.wrong u.run turn in
    let run : RunOver g t taken cycles (map (outputs_of g) cycles) end.Released b.unit.log a.unit.log b.unit.wrong a.unit.wrong =
    laws.stands g t taken cycles o b.unit.log a.unit.log b.unit.wrong a.unit.wrong so_far in
    let over : Over g t left.rows cycles (map (outputs_of g) cycles) end.Released b a =
    over_all g t left.rows taken now.rows cycles (map (outputs_of g) cycles) end.Released b a is run in
    let outs : (outcome_over g t 0 cycles).rows ≡ released ++ last = ap (λ (x : Outcome). x.rows) over.outcome ∙ map_more (outputs_of g) u.cycles o.answers in
    let part_here : AppendsPart n.out.written a.out.written (texts_from text (0 + length released) last) =
    subst (AppendsPart n.out.written a.out.written) (text_here g t text u.cycles u.taken m o.answers end.Released b n u.run) part in
    let all_part : AppendsPart b.out.written a.out.written (texts_from text 0 (released ++ last)) = part_written text b.out.written n.out.written a.out.written released last u.written part_here in
    let earlier : Appends b.out.written a.out.written (texts_from text 0 released ++ part_here.0) =
    appends_on b.out.written n.out.written a.out.written (texts_from text 0 released) part_here.0 u.written part_here.4 in
    record {
      run = record {
        cycles = cycles;
        carried = over.carried;
        some = over.some;
        ends = (
          omega (arith, u.faults, rose),
          subst (λ rows. AppendsPart b.out.written a.out.written (texts_from text 0 rows))
              (sym outs) all_part,
          earlier_written g text u.cycles o.answers b n a part_here.0 earlier,
        );
        given_up = ap (λ (x : Outcome). x.end) over.outcome;
        follows = front_follows honest g t left.rows taken now.rows cycles o b a fair is so_far over.outcome;
      };
      machine = machine_on g t left rest text b n a kept_before kept_now m o row end.Released u turn between
          (over.outcome ∙ ap (λ rows. record { rows = rows; end = end.Released }) (map_more (outputs_of g) u.cycles o.answers));
      kept = tt;
    }

-- ---- a refusal

ends_so : (s : Option Stop) (i found wanted : ℕ) → end_of_run s ≡ end.Refused i found wanted → ⊥
ends_so None i found wanted e = cc
ends_so (Some stop) i found wanted e = cc

-- where a run is refused, an answer was wrong
pub refused_rose : (g : Lists) (t : Numbers) (left : RowsLeft) (text : ℕ → List ℤ → List ℕ) (b a : Moment) (result : Result CycleEnd RunFault) (i found wanted : ℕ) → result ≡ Ok (end.Refused i found wanted) → RunsRows g t left text b a result → Rose b.unit.wrong a.unit.wrong
refused_rose g t left text b a result i found wanted is run =
    let h : RunsRows g t left text b a (Ok (end.Refused i found wanted)) = subst (RunsRows g t left text b a) is run in
    elim (cases_lt b.unit.wrong (2 ^ 64 - 1)) [
      | inl small ↦ elim (cases_lt b.unit.wrong a.unit.wrong) [
        | inl more ↦ omega (arith, more)
        | inr less ↦
            let same : a.unit.wrong ≡ b.unit.wrong = omega (arith, less, h.carried.never_falls) in
            absurd (ends_so (graph_run g left.rows).end i found wanted (ap (λ (o : Outcome). o.end) (sym (h.follows same small)) ∙ h.ends.0.end_is))
      ]
      | inr large ↦ omega (arith, large, h.carried.never_falls)
    ]
