-- UpTo: a pair's run between two of its cycles.
use Rattle.std.proofs.Common.{ℕ, ◌+◌, ◌<◌, ◌≤◌, ◌≡◌, ◌≢◌, false, refl, ap, subst, sym, ◌∙◌, ℤ, List, [], ◌∷◌, ◌++◌, append-nil, length, length-append, map, arith, Option, Ok, Err}
use Rattle.std.proofs.Math.Nat.{le_refl}
use Rattle.std.proofs.lemmas.List.{length-map}
use Rattle.std.specs.Io.KnownBytes.{Appends}
use Rattle.vcp_base.specs.Limits.{most_cycles}
use Rattle.vcp_outside.specs.Written.{Writes}
use Rattle.vcp_outside.specs.declared.failed.Failed.{Failed}
use Rattle.input_rows.specs.RowsOf.{RowsLeft}
use Rattle.coded_unit.specs.Seen.{UnitSeen}
use Rattle.coded_unit.specs.declared.call.Answer.{Answer}
use Rattle.op_graph.specs.Lists.{Lists}
use Rattle.signature_table.specs.Signatures.{Numbers}
use Rattle.coded_machine.specs.CycleEnds.{outputs_of}
use Rattle.run_report.specs.Lines.{row_text}
use Rattle.coded_machine.specs.RowRuns.{texts_from}
use Rattle.coded_machine.proofs.UpTo.{map_more, rows_on}
use Rattle.coded_machine.proofs.Writing.{appends_nothing, rows_written}
use Rattle.pair_channel.specs.declared.pair_end.PairEnd.{PairEnd}
use Rattle.pair_channel.specs.declared.pair_end.PairEnd.TheVariants as pair
use Rattle.pair_channel.specs.PairLaws.{PairRunLaws}
use Rattle.pair_channel.specs.PairRuns.{PairSoFar, pair_row_if}
use Rattle.pair_channel.specs.PairStates.{PairState, fresh_pair}
use Rattle.pair_channel.specs.PairTurns.{PairTurn}
use Rattle.pair_channel.specs.PairMoments.{PairMoment}

-- What stands between two cycles of a pair's run over the rows `left`, of which `rest` are left: a cycle was carried and released for each of
-- the rows taken, and its row of outputs is written.
pub record UpTo (g : Lists) (t u : Numbers) (left rest : RowsLeft) (before now : PairMoment) (p : PairState) : Type 0 where
  pub taken : List (List ℤ)
  pub ours : List (List Answer)
  pub theirs : List (List Answer)
  pub rows : left ≡ record rest { rows = taken ++ rest.rows }
  pub run : PairSoFar g t u taken ours theirs p before.first now.first before.second now.second
  pub between : p.first.under_way ≡ false
  pub written : Appends before.out.written now.out.written (texts_from row_text 0 (map (outputs_of g) ours))
  pub faults : now.out.faults ≡ before.out.faults

-- before the first cycle
pub up_to_first : PairRunLaws → (g : Lists) (t u : Numbers) (left : RowsLeft) (b : PairMoment) (p : PairState) → p ≡ fresh_pair g t u →
    UpTo g t u left left b b p
up_to_first laws g t u left b p is = record {
  taken = [];
  ours = [];
  theirs = [];
  rows = refl;
  run = subst (λ (q : PairState). PairSoFar g t u [] [] [] q b.first b.first b.second b.second) (sym is) (laws.starts g t u b.first b.second);
  between = ap (λ (q : PairState). q.first.under_way) is;
  written = appends_nothing b.out.written;
  faults = refl;
}

-- ---- one more cycle

-- the text of a cycle's row, by the rows before it
pub text_here : (g : Lists) (t u : Numbers) (taken : List (List ℤ)) (ours theirs : List (List Answer)) (p : PairState) (answers : List Answer) (e : PairEnd)
    (x y z w : UnitSeen) → PairSoFar g t u taken ours theirs p x y z w →
    texts_from row_text p.cycles (pair_row_if e (outputs_of p.first.graph answers))
    ≡ texts_from row_text (0 + length (map (outputs_of g) ours)) (pair_row_if e (outputs_of g answers))
text_here g t u taken ours theirs p answers e x y z w run =
    let count : p.cycles ≡ 0 + length (map (outputs_of g) ours) = omega (arith, run.cycles, length-map ours (outputs_of g)) in
    ap (λ (h : Lists). texts_from row_text p.cycles (pair_row_if e (outputs_of h answers))) run.first.graph
    ∙ ap (λ i. texts_from row_text i (pair_row_if e (outputs_of g answers))) count

-- what is written after a cycle
pub written_on : (g : Lists) (t u : Numbers) (left rest : RowsLeft) (b n a : PairMoment) (p : PairState) (answers : List Answer) (e : PairEnd) →
    (h : UpTo g t u left rest b n p) →
    Appends n.out.written a.out.written (texts_from row_text p.cycles (pair_row_if e (outputs_of p.first.graph answers))) →
    Appends b.out.written a.out.written (texts_from row_text 0 (map (outputs_of g) h.ours ++ pair_row_if e (outputs_of g answers)))
written_on g t u left rest b n a p answers e h k =
    rows_written row_text b.out.written n.out.written a.out.written (map (outputs_of g) h.ours) (pair_row_if e (outputs_of g answers)) h.written
    (subst (Appends n.out.written a.out.written)
    (text_here g t u h.taken h.ours h.theirs p answers e b.first n.first b.second n.second h.run) k)

-- after a cycle that was released
pub up_to_next : PairRunLaws → (g : Lists) (t u : Numbers) (left rest now : RowsLeft) (b n a : PairMoment) (p q : PairState)
    (row out_before out_now : List ℤ) (e : PairEnd) → UpTo g t u left rest b n p → e ≡ pair.Released → rest ≡ record now { rows = row ∷ now.rows } →
    PairTurn p q row e out_before out_now n.first a.first n.second a.second → q.first.under_way ≡ false →
    Appends n.out.written a.out.written (texts_from row_text p.cycles (pair_row_if e (outputs_of p.first.graph q.first.answers))) →
    a.out.faults ≡ n.out.faults → UpTo g t u left now b a q
up_to_next laws g t u left rest now b n a p q row out_before out_now e h is one turn between written faults =
    let released = subst (λ (z : PairEnd). PairTurn p q row z out_before out_now n.first a.first n.second a.second) is turn in
    let bytes = subst (λ (z : PairEnd).
    Appends n.out.written a.out.written (texts_from row_text p.cycles (pair_row_if z (outputs_of p.first.graph q.first.answers)))) is written in
    record {
      taken = h.taken ++ row ∷ [];
      ours = h.ours ++ q.first.answers ∷ [];
      theirs = h.theirs ++ q.second.answers ∷ [];
      rows = rows_on left rest now h.taken row h.rows one;
      run = laws.goes_on g t u h.taken h.ours h.theirs p q row out_before out_now b.first n.first b.second n.second a.first a.second h.run released;
      between = between;
      written = subst (λ outs. Appends b.out.written a.out.written (texts_from row_text 0 outs)) (sym (map_more (outputs_of g) h.ours q.first.answers))
          (written_on g t u left rest b n a p q.first.answers pair.Released h bytes);
      faults = faults ∙ h.faults;
    }

-- before a row the cycles are fewer than a run may have
pub cycles_left : (g : Lists) (t u : Numbers) (left rest now : RowsLeft) (b n : PairMoment) (p : PairState) (row : List ℤ) → UpTo g t u left rest b n p →
    length left.rows ≤ most_cycles → rest ≡ record now { rows = row ∷ now.rows } → p.cycles < most_cycles
cycles_left g t u left rest now b n p row h few one =
    let all = ap (λ (r : RowsLeft). length r.rows) h.rows in
    let one_more = ap (λ (r : RowsLeft). length r.rows) one in
    omega (arith, h.run.first.many_rows, h.run.cycles, simp length-append at all, one_more)

-- ---- a row that couldn't all be written

pub failed_row : (n : ℕ) (row : List ℤ) (old new : Option (List ℕ)) (before now : ℕ) (bytes : List ℕ) (e : Failed) → bytes ≡ row_text n row →
    Writes {T = Unit {0}} old new before now bytes (Err e) →
    Writes {T = PairEnd} old new before now (texts_from row_text n (row ∷ [])) (Err e)
failed_row n row old new before now bytes e is h =
    let k : Writes {T = Unit {0}} {E = Failed} old new before now (texts_from row_text n (row ∷ [])) (Err e) =
    subst (λ b. Writes {T = Unit {0}} {E = Failed} old new before now b (Err e)) (is ∙ sym (append-nil (row_text n row))) h in
    record { whole = tt; part = k.part; cause = record { later = k.cause.later; capped = k.cause.capped; stayed = tt; failed = k.cause.failed } }

-- ---- a row that was written, and an end without one

pub released_row : (n : ℕ) (row : List ℤ) (old new : Option (List ℕ)) (before now : ℕ) (bytes : List ℕ) (v : Unit {0}) → bytes ≡ row_text n row →
    Writes {T = Unit {0}} {E = Failed} old new before now bytes (Ok v) →
    Writes {T = PairEnd} {E = Failed} old new before now (texts_from row_text n (row ∷ [])) (Ok pair.Released)
released_row n row old new before now bytes v is h =
    let k : Writes {T = Unit {0}} {E = Failed} old new before now (texts_from row_text n (row ∷ [])) (Ok v) =
    subst (λ b. Writes {T = Unit {0}} {E = Failed} old new before now b (Ok v)) (is ∙ sym (append-nil (row_text n row))) h in
    record { whole = k.whole; part = tt; cause = record { later = k.cause.later; capped = k.cause.capped; stayed = k.cause.stayed; failed = tt } }

pub no_row : (n : ℕ) (row : List ℤ) (old : Option (List ℕ)) (before : ℕ) (e : PairEnd) → e ≢ pair.Released →
    Writes {T = PairEnd} {E = Failed} old old before before (texts_from row_text n (pair_row_if e row)) (Ok e)
no_row n row old before e not =
    let none : pair_row_if e row ≡ [] = none_if e not in
    record {
      whole = subst (λ rows. Appends old old (texts_from row_text n rows)) (sym none) (appends_nothing old);
      part = tt;
      cause = record { later = le_refl before; capped = λ h. h; stayed = refl; failed = tt };
    }
  where
    none_if : (e : PairEnd) → e ≢ pair.Released → pair_row_if e row ≡ []
    none_if pair.Released not = absurd (not refl)
    none_if (pair.Stopped op why) not = refl
    none_if (pair.Parted one two) not = refl
    none_if (pair.Differ output one two) not = refl
