-- Exits: what a pair's run leaves at each of its ends.
use Rattle.std.proofs.Common.{ℕ, ◌+◌, ◌≤◌, ◌≡◌, ◌≢◌, refl, ap, subst, sym, ◌∙◌, ℤ, List, [], ◌∷◌, ◌++◌, append-nil, append_assoc, length, length-append, map, arith, Some, None, Ok, Err}
use Rattle.std.proofs.lemmas.List.{length-map}
use Rattle.std.specs.Io.KnownBytes.{Appends}
use Rattle.vcp_outside.specs.Counts.{Rose}
use Rattle.vcp_outside.specs.Written.{AppendsPart}
use Rattle.input_rows.specs.declared.fault.RowFault.{RowFault}
use Rattle.input_rows.specs.declared.fault.RowFault.TheVariants as row
use Rattle.input_rows.specs.RowsOf.{RowsLeft}
use Rattle.op_graph.specs.Lists.{Lists}
use Rattle.signature_table.specs.Signatures.{Numbers}
use Rattle.coded_machine.specs.CycleEnds.{outputs_of}
use Rattle.run_report.specs.Lines.{row_text}
use Rattle.coded_machine.specs.Refusals.{given_up_by}
use Rattle.coded_machine.specs.RowRuns.{texts_from}
use Rattle.coded_machine.specs.declared.rows.fault.RunFault.TheVariants as fault
use Rattle.coded_machine.proofs.UpTo.{map_more}
use Rattle.coded_machine.proofs.Writing.{appends_on, part_written}
use Rattle.pair_channel.specs.declared.pair_end.PairEnd.{PairEnd}
use Rattle.pair_channel.specs.declared.pair_end.PairEnd.TheVariants as pair
use Rattle.pair_channel.specs.PairLaws.{PairRunLaws}
use Rattle.pair_channel.specs.PairRuns.{PairSoFar, PairOver, pair_row_if}
use Rattle.pair_channel.specs.PairStates.{PairState, cycles_after}
use Rattle.pair_channel.specs.PairTurns.{PairTurn}
use Rattle.pair_channel.specs.PairMoments.{PairMoment}
use Rattle.pair_channel.specs.PairRows.{PairRows}
use Rattle.pair_channel.proofs.UpTo.{UpTo, text_here, written_on}

all_rows : (left rest : RowsLeft) (taken : List (List ℤ)) → left ≡ record rest { rows = taken ++ rest.rows } → left.rows ≡ taken ++ rest.rows
all_rows left rest taken is = ap (λ (r : RowsLeft). r.rows) is

-- ---- between two cycles

so_many : (g : Lists) (t u : Numbers) (left rest : RowsLeft) (b n : PairMoment) (p : PairState) → (h : UpTo g t u left rest b n p) →
    p.cycles ≡ length (map (outputs_of g) h.ours)
so_many g t u left rest b n p h = h.run.cycles ∙ sym (length-map h.ours (outputs_of g))

stands : PairRunLaws → (g : Lists) (t u : Numbers) (left rest : RowsLeft) (b n : PairMoment) (p : PairState) → (h : UpTo g t u left rest b n p) →
    PairOver g t u h.taken h.ours h.theirs (map (outputs_of g) h.ours) pair.Released b.first n.first b.second n.second
stands laws g t u left rest b n p h = laws.stands g t u h.taken h.ours h.theirs p b.first n.first b.second n.second h.run

-- want of memory
pub memory_exit : PairRunLaws → (g : Lists) (t u : Numbers) (left rest : RowsLeft) (b n : PairMoment) (p : PairState) → UpTo g t u left rest b n p →
    PairRows g t u left b n p.cycles (Err fault.Memory)
memory_exit laws g t u left rest b n p h = record {
  taken = h.taken;
  more = rest.rows;
  rows_are = all_rows left rest h.taken h.rows;
  ours = h.ours;
  theirs = h.theirs;
  outputs = map (outputs_of g) h.ours;
  end = pair.Released;
  over = stands laws g t u left rest b n p h;
  count = so_many g t u left rest b n p h;
  ends = (refl, h.written);
  faults = omega (arith, h.faults);
  stayed = λ other. h.faults;
}

-- the last row
pub last_exit : PairRunLaws → (g : Lists) (t u : Numbers) (left rest : RowsLeft) (b n : PairMoment) (p : PairState) → UpTo g t u left rest b n p →
    rest.rows ≡ [] → rest.refusal ≡ None → PairRows g t u left b n p.cycles (Ok pair.Released)
last_exit laws g t u left rest b n p h none behind = record {
  taken = h.taken;
  more = rest.rows;
  rows_are = all_rows left rest h.taken h.rows;
  ours = h.ours;
  theirs = h.theirs;
  outputs = map (outputs_of g) h.ours;
  end = pair.Released;
  over = stands laws g t u left rest b n p h;
  count = so_many g t u left rest b n p h;
  ends = (none, refl, λ _. ap (λ (r : RowsLeft). r.refusal) h.rows ∙ behind, h.written);
  faults = omega (arith, h.faults);
  stayed = λ other. h.faults;
}

-- a row that is refused
refused_exit : PairRunLaws → (g : Lists) (t u : Numbers) (left rest : RowsLeft) (b n : PairMoment) (p : PairState) (why : RowFault) →
    UpTo g t u left rest b n p → (rest.rows ≡ []) × (rest.refusal ≡ Some why) → PairRows g t u left b n p.cycles (Err (fault.Rows why))
refused_exit laws g t u left rest b n p why h k = record {
  taken = h.taken;
  more = rest.rows;
  rows_are = all_rows left rest h.taken h.rows;
  ours = h.ours;
  theirs = h.theirs;
  outputs = map (outputs_of g) h.ours;
  end = pair.Released;
  over = stands laws g t u left rest b n p h;
  count = so_many g t u left rest b n p h;
  ends = (k.0, refl, ap (λ (r : RowsLeft). r.refusal) h.rows ∙ k.1, h.written);
  faults = omega (arith, h.faults);
  stayed = λ other. h.faults;
}

-- a row that is refused, or want of memory for it
pub row_exit : PairRunLaws → (g : Lists) (t u : Numbers) (left rest : RowsLeft) (b n : PairMoment) (p : PairState) (why : RowFault) →
    UpTo g t u left rest b n p → (why ≢ row.Memory → (rest.rows ≡ []) × (rest.refusal ≡ Some why)) →
    PairRows g t u left b n p.cycles (Err (given_up_by why))
row_exit laws g t u left rest b n p row.Memory h k = memory_exit laws g t u left rest b n p h
row_exit laws g t u left rest b n p row.Header h k = refused_exit laws g t u left rest b n p row.Header h (k (λ e. cc))
row_exit laws g t u left rest b n p (row.Width number) h k = refused_exit laws g t u left rest b n p (row.Width number) h (k (λ e. cc))
row_exit laws g t u left rest b n p (row.Cell number column) h k = refused_exit laws g t u left rest b n p (row.Cell number column) h (k (λ e. cc))
row_exit laws g t u left rest b n p row.Form h k = refused_exit laws g t u left rest b n p row.Form h (k (λ e. cc))
row_exit laws g t u left rest b n p row.Cycles h k = refused_exit laws g t u left rest b n p row.Cycles h (k (λ e. cc))
row_exit laws g t u left rest b n p row.Cycle h k = refused_exit laws g t u left rest b n p row.Cycle h (k (λ e. cc))

-- ---- a cycle that isn't released

one_counted : (e : PairEnd) (n : ℕ) (row : List ℤ) → cycles_after e n ≡ n + length (pair_row_if e row)
one_counted pair.Released n row = refl
one_counted (pair.Stopped op why) n row = omega arith
one_counted (pair.Parted x y) n row = omega arith
one_counted (pair.Differ i x y) n row = omega arith

pub cycle_exit : PairRunLaws → (g : Lists) (t u : Numbers) (left rest now : RowsLeft) (b n a : PairMoment) (p q : PairState)
    (row out_before out_now : List ℤ) (e : PairEnd) → UpTo g t u left rest b n p → e ≢ pair.Released → rest ≡ record now { rows = row ∷ now.rows } →
    PairTurn p q row e out_before out_now n.first a.first n.second a.second →
    Appends n.out.written a.out.written (texts_from row_text p.cycles (pair_row_if e (outputs_of p.first.graph q.first.answers))) →
    a.out.faults ≡ n.out.faults → PairRows g t u left b a q.cycles (Ok e)
cycle_exit laws g t u left rest now b n a p q row out_before out_now e h not one turn written faults =
    let mine = map (outputs_of g) h.ours in
    let last = pair_row_if e (outputs_of g q.first.answers) in
    let rows : left.rows ≡ h.taken ++ row ∷ now.rows =
    all_rows left rest h.taken h.rows ∙ ap (λ (r : RowsLeft). h.taken ++ r.rows) one in
    record {
      taken = h.taken ++ row ∷ now.rows;
      more = [];
      rows_are = rows ∙ sym (append-nil (h.taken ++ row ∷ now.rows));
      ours = h.ours ++ q.first.answers ∷ [];
      theirs = h.theirs ++ q.second.answers ∷ [];
      outputs = mine ++ last;
      end = e;
      over = laws.ends g t u h.taken now.rows h.ours h.theirs p q row e out_before out_now b.first n.first b.second n.second a.first a.second h.run turn
          (λ is. absurd (not is));
      count = ap (λ (s : PairState). s.cycles) turn.pair_is
          ∙ (one_counted e p.cycles (outputs_of g q.first.answers)
          ∙ (ap (λ k. k + length last) (so_many g t u left rest b n p h) ∙ sym (length-append mine last)));
      ends = (refl, refl, (λ is. absurd (not is)), written_on g t u left rest b n a p q.first.answers e h written);
      faults = omega (arith, h.faults, faults);
      stayed = λ other. faults ∙ h.faults;
    }

-- ---- a write that failed

snoc_front : {X : Type 0} (xs ys : List X) (x y : X) → xs ++ x ∷ [] ≡ ys ++ y ∷ [] → xs ≡ ys
snoc_front [] [] x y e = refl
snoc_front [] (b ∷ ys) x y e = absurd (omega (arith, simp length-append at (ap length e)))
snoc_front (a ∷ xs) [] x y e = absurd (omega (arith, simp length-append at (ap length e)))
snoc_front (a ∷ xs) (b ∷ ys) x y e =
    let same : a ≡ b = cc in
    let rest : xs ++ x ∷ [] ≡ ys ++ y ∷ [] = cc in
    ap (λ z. z ∷ xs) same ∙ ap (λ zs. b ∷ zs) (snoc_front xs ys x y rest)

pub write_exit : PairRunLaws → (g : Lists) (t u : Numbers) (left rest now : RowsLeft) (b n a : PairMoment) (p q : PairState)
    (row out_before out_now : List ℤ) → UpTo g t u left rest b n p → rest ≡ record now { rows = row ∷ now.rows } →
    PairTurn p q row pair.Released out_before out_now n.first a.first n.second a.second →
    AppendsPart n.out.written a.out.written (texts_from row_text p.cycles (pair_row_if pair.Released (outputs_of p.first.graph q.first.answers))) →
    Rose n.out.faults a.out.faults → n.out.faults ≤ a.out.faults → PairRows g t u left b a q.cycles (Err fault.Write)
write_exit laws g t u left rest now b n a p q row out_before out_now h one turn part rose later =
    let mine = map (outputs_of g) h.ours in
    let last = outputs_of g q.first.answers ∷ [] in
    let taken = h.taken ++ row ∷ [] in
    let ours = h.ours ++ q.first.answers ∷ [] in
    let theirs = h.theirs ++ q.second.answers ∷ [] in
    let outs : map (outputs_of g) ours ≡ mine ++ last = map_more (outputs_of g) h.ours q.first.answers in
    let so_far : PairSoFar g t u taken ours theirs q b.first a.first b.second a.second =
    laws.goes_on g t u h.taken h.ours h.theirs p q row out_before out_now b.first n.first b.second n.second a.first a.second h.run turn in
    let rows : left.rows ≡ h.taken ++ row ∷ now.rows =
    all_rows left rest h.taken h.rows ∙ ap (λ (r : RowsLeft). h.taken ++ r.rows) one in
    let part_here : AppendsPart n.out.written a.out.written (texts_from row_text (0 + length mine) last) =
    subst (AppendsPart n.out.written a.out.written)
    (text_here g t u h.taken h.ours h.theirs p q.first.answers pair.Released b.first n.first b.second n.second h.run) part in
    let earlier : Appends b.out.written a.out.written (texts_from row_text 0 mine ++ part_here.0) =
    appends_on b.out.written n.out.written a.out.written (texts_from row_text 0 mine) part_here.0 h.written part_here.4 in
    record {
      taken = taken;
      more = now.rows;
      rows_are = rows ∙ sym (append_assoc h.taken (row ∷ []) now.rows);
      ours = ours;
      theirs = theirs;
      outputs = map (outputs_of g) ours;
      end = pair.Released;
      over = laws.stands g t u taken ours theirs q b.first a.first b.second a.second so_far;
      count = so_far.cycles ∙ sym (length-map ours (outputs_of g));
      ends = (
        refl,
        omega (arith, h.faults, rose),
        subst (λ rs. AppendsPart b.out.written a.out.written (texts_from row_text 0 rs)) (sym outs)
            (part_written row_text b.out.written n.out.written a.out.written mine last h.written part_here),
        λ before final is. (
          part_here.0,
          subst (λ xs. Appends b.out.written a.out.written (texts_from row_text 0 (map (outputs_of g) xs) ++ part_here.0))
              (snoc_front h.ours before q.first.answers final is) earlier,
        ),
      );
      faults = omega (arith, h.faults, later);
      stayed = λ other. absurd (other refl);
    }
