-- Done: what a whole run of a pair leaves, and one that was cut off, from what its rows left.
use Rattle.std.proofs.Common.{ℕ, ◌+◌, ◌≤◌, ◌≡◌, refl, ap, subst, sym, ◌∙◌, ℤ, List, [], ◌∷◌, ◌++◌, append-nil, append_assoc, length, length-append, map, arith, Option, Some, None, Ok, Err}
use Rattle.std.specs.Io.KnownBytes.{Appends}
use Rattle.vcp_base.specs.Limits.{most_cycles}
use Rattle.vcp_base.specs.declared.kind.StopKind.{StopKind}
use Rattle.vcp_outside.specs.Counts.{Rose}
use Rattle.vcp_outside.specs.Seen.{SinkSeen}
use Rattle.vcp_outside.specs.Written.{AppendsFront, AppendsPart}
use Rattle.input_rows.specs.declared.fault.RowFault.{RowFault}
use Rattle.input_rows.specs.RowsOf.{RowsLeft}
use Rattle.coded_unit.specs.declared.call.Answer.{Answer}
use Rattle.op_graph.specs.Lists.{Lists}
use Rattle.op_graph.specs.Rules.{IsGraph}
use Rattle.op_graph.specs.GraphRun.{Run, after_cycle, cycle, graph_run, initial, outputs, run_from, stored}
use Rattle.signature_table.specs.Signatures.{Numbers, IsTable}
use Rattle.run_report.specs.Lines.{row_text}
use Rattle.coded_machine.specs.CycleEnds.{outputs_of}
use Rattle.coded_machine.specs.RowRuns.{EarlierPrinted, texts_from}
use Rattle.coded_machine.specs.declared.rows.fault.RunFault.{RunFault}
use Rattle.coded_machine.specs.declared.rows.fault.RunFault.TheVariants as fault
use Rattle.coded_machine.proofs.Writing.{appends_nothing, appends_on, texts_on}
use Rattle.pair_channel.specs.declared.pair_end.PairEnd.{PairEnd}
use Rattle.pair_channel.specs.declared.pair_end.PairEnd.TheVariants as pair
use Rattle.pair_channel.specs.PairLaws.{PairCounts, PairRunLaws}
use Rattle.pair_channel.specs.PairRuns.{AllPairs, PairOutcome, PairOver, pair_over, FrontOfRun, pair_end_of_run, pair_outcome_for}
use Rattle.pair_channel.specs.PairStates.{fresh_pair}
use Rattle.pair_channel.specs.PairDone.{AreFirst, OneStaysHonest, PairDone, PairRunsTo, nothing_later, outcome_then}
use Rattle.pair_channel.specs.PairLines.{pair_header, pair_last, pair_text}
use Rattle.pair_channel.specs.PairMoments.{PairMoment}
use Rattle.pair_channel.specs.PairRows.{PairRows}
use Rattle.pair_channel.proofs.Earlier.{front_rows, no_last}

-- ---- bytes

part_on : (x y z : Option (List ℕ)) (front bytes : List ℕ) → Appends x y front → AppendsPart y z bytes → AppendsPart x z (front ++ bytes)
part_on x y z front bytes h k = (
  front ++ k.0,
  k.1,
  ap (λ bs. front ++ bs) k.2 ∙ sym (append_assoc front k.0 k.1),
  k.3,
  appends_on x y z front k.0 h k.4,
)

part_then : (x y : Option (List ℕ)) (bytes more : List ℕ) → AppendsPart x y bytes → AppendsPart x y (bytes ++ more)
part_then x y bytes more k = (
  k.0,
  k.1 ++ more,
  ap (λ bs. bs ++ more) k.2 ∙ append_assoc k.0 k.1 more,
  simp length-append (omega (arith, k.3)),
  k.4,
)

-- ---- the graph's run over the first of some rows

longer_step : (g : Lists) (values : List ℤ) (next wide : List ℤ → Run) (s : Option StopKind) →
    ((held : List ℤ) → (later : List (List ℤ)) × ((wide held).rows ≡ (next held).rows ++ later)) →
    (later : List (List ℤ)) × ((after_cycle g values wide s).rows ≡ (after_cycle g values next s).rows ++ later)
longer_step g values next wide None f = let p = f (stored g values) in (p.0, ap (λ rows. outputs g values ∷ rows) p.1)
longer_step g values next wide (Some why) f = ([], refl)

run_longer : (g : Lists) (held : List ℤ) (rows more : List (List ℤ)) →
    (later : List (List ℤ)) × ((run_from g held (rows ++ more)).rows ≡ (run_from g held rows).rows ++ later)
run_longer g held [] more = ((run_from g held more).rows, refl)
run_longer g held (row ∷ rows) more =
    longer_step g (cycle g held row).values (λ h. run_from g h rows) (λ h. run_from g h (rows ++ more)) (cycle g held row).stop
    (λ h. run_longer g h rows more)

are_first : (g : Lists) (all rows more : List (List ℤ)) (o : PairOutcome) → all ≡ rows ++ more → FrontOfRun o (graph_run g rows) → AreFirst g all o.rows
are_first g all rows more o is f =
    let p = run_longer g (initial g) rows more in (
      f.later ++ p.0,
      ap (λ rs. (graph_run g rs).rows) is ∙ (p.1 ∙ (ap (λ rs. rs ++ p.0) f.front ∙ append_assoc o.rows f.later p.0)),
    )

-- the outcome that stands for the graph's run over all rows goes on from that over the first of them
abbrev with_row : List ℤ → PairOutcome → PairOutcome
with_row row o = record { rows = row ∷ o.rows; end = o.end }

row_then : (row : List ℤ) (rows : List (List ℤ)) (e : PairEnd) (later : PairOutcome) →
    with_row row (outcome_then (record { rows = rows; end = e }) later) ≡ outcome_then (record { rows = row ∷ rows; end = e }) later
row_then row rows pair.Released later = refl
row_then row rows (pair.Stopped op why) later = refl
row_then row rows (pair.Parted x y) later = refl
row_then row rows (pair.Differ i x y) later = refl

-- what comes later, and nothing where no row is left
abbrev GoesOn : Run → Run → List (List ℤ) → Type 0
GoesOn first all more = (later : PairOutcome) × (pair_outcome_for all ≡ outcome_then (pair_outcome_for first) later) × (more ≡ [] → later ≡ nothing_later)

goes_on_step : (g : Lists) (values : List ℤ) (next wide : List ℤ → Run) (more : List (List ℤ)) (s : Option StopKind) →
    ((held : List ℤ) → GoesOn (next held) (wide held) more) → GoesOn (after_cycle g values next s) (after_cycle g values wide s) more
goes_on_step g values next wide more None f =
    let p = f (stored g values) in
    let row = outputs g values in
    let first = next (stored g values) in
    (p.0, ap (with_row row) p.1 ∙ row_then row first.rows (pair_end_of_run first.end) p.0, p.2)
goes_on_step g values next wide more (Some why) f = (nothing_later, refl, λ none. refl)

pub run_goes_on : (g : Lists) (held : List ℤ) (rows more : List (List ℤ)) → GoesOn (run_from g held rows) (run_from g held (rows ++ more)) more
run_goes_on g held [] more = (pair_outcome_for (run_from g held more), refl, λ none. ap (λ rs. pair_outcome_for (run_from g held rs)) none)
run_goes_on g held (row ∷ rows) more =
    goes_on_step g (cycle g held row).values (λ h. run_from g h rows) (λ h. run_from g h (rows ++ more)) more (cycle g held row).stop
    (λ h. run_goes_on g h rows more)

-- ---- texts

-- what is printed first and of these rows
abbrev pub front_text : Lists → List (List ℤ) → List ℕ
front_text g outputs = pair_header g ++ texts_from row_text 0 outputs

text_last : (g : Lists) (outputs : List (List ℤ)) (e : PairEnd) (behind : Option RowFault) →
    pair_text g (record { rows = outputs; end = e }) behind ≡ front_text g outputs ++ pair_last g (length outputs) e behind
text_last g outputs e behind = sym (append_assoc (pair_header g) (texts_from row_text 0 outputs) (pair_last g (length outputs) e behind))

-- whatever comes later
abbrev later_bytes : Lists → List (List ℤ) → PairOutcome → Option RowFault → List ℕ
later_bytes g outputs later behind =
    texts_from row_text (0 + length outputs) later.rows ++ pair_last g (length (outputs ++ later.rows)) later.end behind

text_later : (g : Lists) (outputs : List (List ℤ)) (later : PairOutcome) (behind : Option RowFault) →
    pair_text g (outcome_then (record { rows = outputs; end = pair.Released }) later) behind ≡ front_text g outputs ++ later_bytes g outputs later behind
text_later g outputs later behind =
    let last = pair_last g (length (outputs ++ later.rows)) later.end behind in
    let mine = texts_from row_text 0 outputs in
    let more = texts_from row_text (0 + length outputs) later.rows in
    ap (λ bs. pair_header g ++ (bs ++ last)) (texts_on row_text 0 outputs later.rows)
    ∙ (ap (λ bs. pair_header g ++ bs) (append_assoc mine more last) ∙ sym (append_assoc (pair_header g) mine (more ++ last)))

last_same : (g : Lists) (n : ℕ) (e : PairEnd) (behind : Option RowFault) → (e ≡ pair.Released → behind ≡ None) → pair_last g n e None ≡ pair_last g n e behind
last_same g n pair.Released behind h = ap (λ b. pair_last g n pair.Released b) (sym (h refl))
last_same g n (pair.Stopped op why) behind h = refl
last_same g n (pair.Parted x y) behind h = refl
last_same g n (pair.Differ i x y) behind h = refl

-- where all rows were taken, nothing comes later
outcome_stays : (outputs : List (List ℤ)) (e : PairEnd) (later : PairOutcome) → later ≡ nothing_later →
    outcome_then (record { rows = outputs; end = e }) later ≡ record { rows = outputs; end = e }
outcome_stays outputs pair.Released later is =
    ap (λ (o : PairOutcome). record { rows = outputs ++ o.rows; end = o.end }) is
    ∙ ap (λ rs. record { rows = rs; end = pair.Released }) (append-nil outputs)
outcome_stays outputs (pair.Stopped op why) later is = refl
outcome_stays outputs (pair.Parted x y) later is = refl
outcome_stays outputs (pair.Differ i x y) later is = refl

-- the header and all rows were written, and maybe more
earlier_all : (g : Lists) (t u : Numbers) (rows : List (List ℤ)) (ours theirs : List (List Answer)) (outputs : List (List ℤ)) (e : PairEnd)
    (old new : Option (List ℕ)) (more : List ℕ) → AllPairs g t u 0 rows ours theirs → pair_over g t u 0 ours theirs ≡ record { rows = outputs; end = e } →
    Appends old new (front_text g outputs ++ more) → EarlierPrinted g (pair_header g) row_text ours old new
earlier_all g t u rows ours theirs outputs e old new more all outcome h earlier last is =
    let p = front_rows g t u 0 rows ours theirs earlier last all is in
    let mine = map (outputs_of g) earlier in
    let outputs_are : outputs ≡ mine ++ p.0 = sym (ap (λ (o : PairOutcome). o.rows) outcome) ∙ p.1 in
    let first = texts_from row_text 0 mine in
    let rest = texts_from row_text (0 + length mine) p.0 in
    let texts : texts_from row_text 0 outputs ≡ first ++ rest = ap (texts_from row_text 0) outputs_are ∙ texts_on row_text 0 mine p.0 in
    let same : front_text g outputs ++ more ≡ (pair_header g ++ first) ++ (rest ++ more) =
    ap (λ bs. (pair_header g ++ bs) ++ more) texts
    ∙ (ap (λ bs. bs ++ more) (sym (append_assoc (pair_header g) first rest)) ∙ append_assoc (pair_header g ++ first) rest more) in
    (rest ++ more, subst (Appends old new) same h)

earlier_on : (g : Lists) (ours : List (List Answer)) (old mid new : Option (List ℕ)) → Appends old mid (pair_header g) →
    EarlierPrinted g [] row_text ours mid new → EarlierPrinted g (pair_header g) row_text ours old new
earlier_on g ours old mid new header rows earlier last is =
    let p = rows earlier last is in
    let first = texts_from row_text 0 (map (outputs_of g) earlier) in (
      p.0,
      subst (Appends old new) (sym (append_assoc (pair_header g) first p.0)) (appends_on old mid new (pair_header g) (first ++ p.0) header p.1),
    )

-- ---- a pair on the machine

-- what the graph and the tables keep, and how many rows there are
pub record Fair (g : Lists) (t u : Numbers) (left : RowsLeft) : Type 0 where
  pub graph : IsGraph g
  pub first : IsTable t
  pub second : IsTable u
  pub few : length left.rows ≤ most_cycles

pub taken_few : (all rows more : List (List ℤ)) → all ≡ rows ++ more → length all ≤ most_cycles → length rows ≤ most_cycles
taken_few all rows more is few = let sizes = ap length is in omega (arith, simp length-append at sizes, few)

over_front : PairCounts → (g : Lists) (t u : Numbers) (left : RowsLeft) → Fair g t u left → (taken more : List (List ℤ)) → left.rows ≡ taken ++ more →
    (ours theirs : List (List Answer)) (outputs : List (List ℤ)) (e : PairEnd) (b a : PairMoment) →
    PairOver g t u taken ours theirs outputs e b.first a.first b.second a.second → OneStaysHonest b a →
    FrontOfRun (record { rows = outputs; end = e }) (graph_run g taken)
over_front counts g t u left fair taken more is ours theirs outputs e b a over still =
    counts.front g t u taken ours theirs outputs e b.first a.first b.second a.second fair.graph fair.first fair.second
    (taken_few left.rows taken more is fair.few) over still

-- a whole run, where all of it was written
pub done : PairCounts → (g : Lists) (t u : Numbers) (left : RowsLeft) → Fair g t u left → (taken more : List (List ℤ)) → left.rows ≡ taken ++ more → more ≡ [] →
    (ours theirs : List (List Answer)) (outputs : List (List ℤ)) (e : PairEnd) (b a : PairMoment) →
    PairOver g t u taken ours theirs outputs e b.first a.first b.second a.second →
    Appends b.out.written a.out.written (front_text g outputs ++ pair_last g (length outputs) e left.refusal) → PairDone g t u left b a e
done counts g t u left fair taken more is none ours theirs outputs e b a over written =
    let all : taken ≡ left.rows = sym (append-nil taken) ∙ (ap (λ rs. taken ++ rs) (sym none) ∙ sym is) in
    let whole : PairOver g t u left.rows ours theirs outputs e b.first a.first b.second a.second =
    subst (λ rs. PairOver g t u rs ours theirs outputs e b.first a.first b.second a.second) all over in
    record {
      ours = ours;
      theirs = theirs;
      outputs = outputs;
      over = whole;
      written = subst (Appends b.out.written a.out.written) (sym (text_last g outputs e left.refusal)) written;
      front = λ still. counts.front g t u left.rows ours theirs outputs e b.first a.first b.second a.second fair.graph fair.first fair.second fair.few whole
          still;
      rose = counts.rose g t u left.rows ours theirs outputs e b.first a.first b.second a.second fair.graph fair.first fair.second fair.few whole;
    }

-- ---- before the first cycle

over_nothing : PairRunLaws → (g : Lists) (t u : Numbers) (b a : PairMoment) → a.first ≡ b.first → a.second ≡ b.second →
    PairOver g t u [] [] [] [] pair.Released b.first a.first b.second a.second
over_nothing laws g t u b a one two =
    subst (λ s. PairOver g t u [] [] [] [] pair.Released b.first s b.second a.second) (sym one)
    (subst (λ s. PairOver g t u [] [] [] [] pair.Released b.first b.first b.second s) (sym two)
    (laws.stands g t u [] [] [] (fresh_pair g t u) b.first b.first b.second b.second (laws.starts g t u b.first b.second)))

-- want of memory
pub nothing_done : PairRunLaws → (g : Lists) (t u : Numbers) (left : RowsLeft) (b : PairMoment) → PairRunsTo g t u left b b (Err fault.Memory)
nothing_done laws g t u left b = record {
  taken = [];
  more = left.rows;
  rows_are = refl;
  ours = [];
  theirs = [];
  outputs = [];
  end = pair.Released;
  over = over_nothing laws g t u b b refl refl;
  text = λ later whole. ([], pair_text g (outcome_then (record { rows = []; end = pair.Released }) later) left.refusal, refl, appends_nothing b.out.written);
  earlier = λ earlier last is. absurd (no_last earlier last is);
  front = λ still. ((graph_run g left.rows).rows, refl);
}

-- the header couldn't be written
pub header_cut : PairRunLaws → (g : Lists) (t u : Numbers) (left : RowsLeft) (b a : PairMoment) → a.first ≡ b.first → a.second ≡ b.second →
    AppendsPart b.out.written a.out.written (pair_header g) → Rose b.out.faults a.out.faults → PairRunsTo g t u left b a (Err fault.Write)
header_cut laws g t u left b a one two part rose = (
  record {
    taken = [];
    more = left.rows;
    rows_are = refl;
    ours = [];
    theirs = [];
    outputs = [];
    end = pair.Released;
    over = over_nothing laws g t u b a one two;
    text = λ later whole. part_then b.out.written a.out.written (pair_header g)
        (texts_from row_text 0 later.rows ++ pair_last g (length later.rows) later.end left.refusal) part;
    earlier = λ earlier last is. absurd (no_last earlier last is);
    front = λ still. ((graph_run g left.rows).rows, refl);
  },
  rose,
)

-- ---- after the header

module _ (counts : PairCounts) (g : Lists) (t u : Numbers) (left : RowsLeft) (fair : Fair g t u left) (b h a : PairMoment) (n : ℕ) (first : h.first ≡ b.first)
    (second : h.second ≡ b.second) (header : Appends b.out.written h.out.written (pair_header g)) (later_faults : b.out.faults ≤ h.out.faults) where
  -- the units' logs are those before the header
  over_from : (taken : List (List ℤ)) (ours theirs : List (List Answer)) (outputs : List (List ℤ)) (e : PairEnd) →
      PairOver g t u taken ours theirs outputs e h.first a.first h.second a.second →
      PairOver g t u taken ours theirs outputs e b.first a.first b.second a.second
  over_from taken ours theirs outputs e over =
      subst (λ s. PairOver g t u taken ours theirs outputs e s a.first b.second a.second) first
      (subst (λ s. PairOver g t u taken ours theirs outputs e h.first a.first s a.second) second over)

  rows_written : (outputs : List (List ℤ)) → Appends h.out.written a.out.written (texts_from row_text 0 outputs) →
      Appends b.out.written a.out.written (front_text g outputs)
  rows_written outputs k = appends_on b.out.written h.out.written a.out.written (pair_header g) (texts_from row_text 0 outputs) header k

  -- the run was given up in its rows
  pub rows_cut : (f : RunFault) → PairRows g t u left h a n (Err f) → PairRunsTo g t u left b a (Err f)
  rows_cut (fault.Rows why) r = (
    done counts g t u left fair r.taken r.more r.rows_are r.ends.0 r.ours r.theirs r.outputs pair.Released b a
        (subst (λ e. PairOver g t u r.taken r.ours r.theirs r.outputs e b.first a.first b.second a.second) r.ends.1
        (over_from r.taken r.ours r.theirs r.outputs r.end r.over))
        (subst (λ behind. Appends b.out.written a.out.written (front_text g r.outputs ++ pair_last g (length r.outputs) pair.Released behind)) (sym r.ends.2)
        (subst (Appends b.out.written a.out.written) (sym (append-nil (front_text g r.outputs))) (rows_written r.outputs r.ends.3))),
    r.ends.2,
  )
  rows_cut fault.Write r = (
    record {
      taken = r.taken;
      more = r.more;
      rows_are = r.rows_are;
      ours = r.ours;
      theirs = r.theirs;
      outputs = r.outputs;
      end = r.end;
      over = over_from r.taken r.ours r.theirs r.outputs r.end r.over;
      text = λ later whole. subst (λ e. AppendsPart b.out.written a.out.written (pair_text g (outcome_then (record { rows = r.outputs; end = e }) later)
          left.refusal)) (sym r.ends.0)
          (subst (AppendsPart b.out.written a.out.written) (sym (text_later g r.outputs later left.refusal))
          (part_then b.out.written a.out.written (front_text g r.outputs) (later_bytes g r.outputs later left.refusal)
          (part_on b.out.written h.out.written a.out.written (pair_header g) (texts_from row_text 0 r.outputs) header r.ends.2)));
      earlier = earlier_on g r.ours b.out.written h.out.written a.out.written header r.ends.3;
      front = λ still. are_first g left.rows r.taken r.more (record { rows = r.outputs; end = r.end }) r.rows_are
          (over_front counts g t u left fair r.taken r.more r.rows_are r.ours r.theirs r.outputs r.end b a
          (over_from r.taken r.ours r.theirs r.outputs r.end r.over) still);
    },
    omega (arith, later_faults, r.ends.1),
  )
  rows_cut fault.Memory r =
      let written : Appends b.out.written a.out.written (front_text g r.outputs) = rows_written r.outputs r.ends.1 in
      record {
        taken = r.taken;
        more = r.more;
        rows_are = r.rows_are;
        ours = r.ours;
        theirs = r.theirs;
        outputs = r.outputs;
        end = r.end;
        over = over_from r.taken r.ours r.theirs r.outputs r.end r.over;
        text = λ later whole. subst (λ e. AppendsFront b.out.written a.out.written (pair_text g (outcome_then (record { rows = r.outputs; end = e }) later)
            left.refusal)) (sym r.ends.0)
            (front_text g r.outputs, later_bytes g r.outputs later left.refusal, text_later g r.outputs later left.refusal, written);
        earlier = earlier_all g t u r.taken r.ours r.theirs r.outputs r.end b.out.written a.out.written [] r.over.all r.over.outcome
            (subst (Appends b.out.written a.out.written) (sym (append-nil (front_text g r.outputs))) written);
        front = λ still. are_first g left.rows r.taken r.more (record { rows = r.outputs; end = r.end }) r.rows_are
            (over_front counts g t u left fair r.taken r.more r.rows_are r.ours r.theirs r.outputs r.end b a
            (over_from r.taken r.ours r.theirs r.outputs r.end r.over) still);
      }

  module _ (e : PairEnd) (r : PairRows g t u left h a n (Ok e)) (z : SinkSeen) where
    abbrev last : PairMoment
    last = record { first = a.first; second = a.second; out = z }

    over_here : PairOver g t u r.taken r.ours r.theirs r.outputs e b.first a.first b.second a.second
    over_here =
        subst (λ x. PairOver g t u r.taken r.ours r.theirs r.outputs x b.first a.first b.second a.second) r.ends.1
        (over_from r.taken r.ours r.theirs r.outputs r.end r.over)

    last_is : pair_last g n e None ≡ pair_last g (length r.outputs) e left.refusal
    last_is = ap (λ k. pair_last g k e None) r.count ∙ last_same g (length r.outputs) e left.refusal r.ends.2

    -- all was written
    pub ended : Appends a.out.written z.written (pair_last g n e None) → PairRunsTo g t u left b last (Ok e)
    ended k = (
      done counts g t u left fair r.taken r.more r.rows_are r.ends.0 r.ours r.theirs r.outputs e b last over_here
          (appends_on b.out.written a.out.written z.written (front_text g r.outputs) (pair_last g (length r.outputs) e left.refusal)
          (rows_written r.outputs r.ends.3) (subst (Appends a.out.written z.written) last_is k)),
      r.ends.2,
    )

    -- the last line couldn't be written
    pub last_cut : AppendsPart a.out.written z.written (pair_last g n e None) → Rose a.out.faults z.faults → PairRunsTo g t u left b last (Err fault.Write)
    last_cut k rose =
        let written : Appends b.out.written a.out.written (front_text g r.outputs) = rows_written r.outputs r.ends.3 in
        let part : AppendsPart b.out.written z.written (front_text g r.outputs ++ pair_last g (length r.outputs) e left.refusal) =
        part_on b.out.written a.out.written z.written (front_text g r.outputs) (pair_last g (length r.outputs) e left.refusal) written
        (subst (AppendsPart a.out.written z.written) last_is k) in (
          record {
            taken = r.taken;
            more = r.more;
            rows_are = r.rows_are;
            ours = r.ours;
            theirs = r.theirs;
            outputs = r.outputs;
            end = e;
            over = over_here;
            text = λ later whole.
                subst (λ (o : PairOutcome). AppendsPart b.out.written z.written (pair_text g o left.refusal))
                (sym (outcome_stays r.outputs e later (whole r.ends.0)))
                (subst (AppendsPart b.out.written z.written) (sym (text_last g r.outputs e left.refusal)) part);
            earlier = earlier_all g t u r.taken r.ours r.theirs r.outputs r.end b.out.written z.written k.0 r.over.all r.over.outcome
                (appends_on b.out.written a.out.written z.written (front_text g r.outputs) k.0 written k.4);
            front = λ still. are_first g left.rows r.taken r.more (record { rows = r.outputs; end = e }) r.rows_are
                (over_front counts g t u left fair r.taken r.more r.rows_are r.ours r.theirs r.outputs e b last over_here still);
          },
          omega (arith, later_faults, r.faults, rose),
        )
