-- Processor: a pair's run whose second channel is on a unit that is told to answer right.
use Rattle.std.proofs.Common.{ℕ, ◌≤◌, ◌≡◌, ◌⊎◌, inl, inr, refl, sym, ap, subst, ◌∙◌, List, length, arith, ℤ, Option, None, Result, Ok, Err}
use Rattle.vcp_base.specs.Limits.{most_cycles}
use Rattle.vcp_outside.specs.Counts.{Rose}
use Rattle.vcp_outside.specs.Seen.{SinkSeen}
use Rattle.vcp_outside.specs.Written.{AppendsFront, AppendsPart}
use Rattle.std.specs.Io.KnownBytes.{Appends}
use Rattle.input_rows.specs.RowsOf.{RowsLeft}
use Rattle.coded_unit.specs.Seen.{UnitSeen, StaysHonest}
use Rattle.coded_unit.specs.declared.call.Answer.{Answer}
use Rattle.op_graph.specs.Lists.{Lists}
use Rattle.op_graph.specs.GraphRun.{graph_run, initial}
use Rattle.signature_table.specs.Signatures.{Numbers}
use Rattle.coded_machine.specs.Moments.{Moment}
use Rattle.coded_machine.specs.declared.rows.fault.RunFault.{RunFault}
use Rattle.coded_machine.specs.declared.rows.fault.RunFault.TheVariants as fault
use Rattle.pair_channel.specs.declared.pair_end.PairEnd.{PairEnd}
use Rattle.pair_channel.specs.declared.pair_end.PairEnd.TheVariants as pair
use Rattle.pair_channel.specs.Beside.{AllBeside}
use Rattle.pair_channel.specs.PairLaws.{OneChannelHonest}
use Rattle.pair_channel.specs.PairRuns.{PairOutcome, PairOver, FrontOfRun, pair_outcome_for}
use Rattle.pair_channel.specs.BesideDone.{BesideDone, BesideLeft, BesideRunsTo, beside_read}
use Rattle.pair_channel.specs.PairDone.{AreFirst, PairDone, PairLeft, PairRunsTo, outcome_then}
use Rattle.pair_channel.specs.PairLines.{pair_text}
use Rattle.pair_channel.specs.PairMoments.{PairMoment}
use Rattle.pair_channel.proofs.Done.{Fair, run_goes_on, taken_few}

-- the processor, at every moment
abbrev pub processor : UnitSeen
processor = record { log = None; wrong = 0 }

never_rose : Rose 0 0 → ⊥
never_rose h = omega (arith, h)

only_first : (x y : ℕ) → Rose x y ⊎ Rose 0 0 → Rose x y
only_first x y (inl h) = h
only_first x y (inr h) = absurd (never_rose h)

module _ (honest : OneChannelHonest) (g : Lists) (t u : Numbers) (left : RowsLeft) (fair : Fair g t u left) (first now : UnitSeen) (out after : SinkSeen) where
  abbrev before_pair : PairMoment
  before_pair = record { first = first; second = processor; out = out }

  abbrev after_pair : PairMoment
  after_pair = record { first = now; second = processor; out = after }

  abbrev before_unit : Moment
  before_unit = record { unit = first; out = out }

  abbrev after_unit : Moment
  after_unit = record { unit = now; out = after }

  still : StaysHonest processor processor
  still = (refl, omega arith)

  -- what is read off the first channel's answers is the outcome
  read_is : (rows : List (List ℤ)) (ours theirs : List (List Answer)) (outputs : List (List ℤ)) (e : PairEnd) → length rows ≤ most_cycles →
      PairOver g t u rows ours theirs outputs e first now processor processor → record { rows = outputs; end = e } ≡ beside_read g t rows ours
  read_is rows ours theirs outputs e few over =
      sym over.outcome ∙ honest.beside_graph g t u rows ours theirs fair.graph fair.second few over.all (over.second.honest still.0 still.1)

  all_is : (rows : List (List ℤ)) (ours theirs : List (List Answer)) (outputs : List (List ℤ)) (e : PairEnd) → length rows ≤ most_cycles →
      PairOver g t u rows ours theirs outputs e first now processor processor → AllBeside g t 0 (initial g) rows ours
  all_is rows ours theirs outputs e few over =
      honest.all_beside g t u rows ours theirs fair.graph fair.second few over.all (over.second.honest still.0 still.1)

  beside_done : (e : PairEnd) → PairDone g t u left before_pair after_pair e → BesideDone g t left before_unit after_unit e
  beside_done e d =
      let is = read_is left.rows d.ours d.theirs d.outputs e fair.few d.over in
      record {
        cycles = d.ours;
        all = all_is left.rows d.ours d.theirs d.outputs e fair.few d.over;
        log = d.over.first.told;
        end_is = ap (λ (o : PairOutcome). o.end) is;
        written = subst (λ (o : PairOutcome). Appends out.written after.written (pair_text g o left.refusal)) is d.written;
        front = subst (λ (o : PairOutcome). FrontOfRun o (graph_run g left.rows)) is (d.front (inr still));
        rose = λ apart. only_first first.wrong now.wrong (d.rose apart);
        honest = λ right. sym is
            ∙ (sym d.over.outcome
            ∙ honest.both_honest g t u left.rows d.ours d.theirs fair.graph fair.first fair.second fair.few d.over.all (d.over.first.honest right.0 right.1)
            (d.over.second.honest still.0 still.1));
      }

  beside_left : (Writes : Option (List ℕ) → Option (List ℕ) → List ℕ → Type 0) → PairLeft g t u left Writes before_pair after_pair →
      BesideLeft g t left Writes before_unit after_unit
  beside_left Writes d =
      let few = taken_few left.rows d.taken d.more d.rows_are fair.few in
      let is = read_is d.taken d.ours d.theirs d.outputs d.end few d.over in
      record {
        taken = d.taken;
        more = d.more;
        rows_are = d.rows_are;
        cycles = d.ours;
        all = all_is d.taken d.ours d.theirs d.outputs d.end few d.over;
        log = d.over.first.told;
        text = λ later whole. subst (λ (o : PairOutcome). Writes out.written after.written (pair_text g (outcome_then o later) left.refusal)) is
            (d.text later whole);
        earlier = d.earlier;
        front = subst (λ (o : PairOutcome). AreFirst g left.rows o.rows) is (d.front (inr still));
        honest = λ right.
            let p = run_goes_on g (initial g) d.taken d.more in
            let agreed : record { rows = d.outputs; end = d.end } ≡ pair_outcome_for (graph_run g d.taken) =
            sym d.over.outcome
            ∙ honest.both_honest g t u d.taken d.ours d.theirs fair.graph fair.first fair.second few d.over.all (d.over.first.honest right.0 right.1)
            (d.over.second.honest still.0 still.1) in
            let meant : pair_outcome_for (graph_run g left.rows) ≡ outcome_then (record { rows = d.outputs; end = d.end }) p.0 =
            ap (λ rs. pair_outcome_for (graph_run g rs)) d.rows_are ∙ (p.1 ∙ ap (λ (o : PairOutcome). outcome_then o p.0) (sym agreed)) in
            subst (λ (o : PairOutcome). Writes out.written after.written (pair_text g o left.refusal)) (sym meant) (d.text p.0 p.2);
      }

  pub runs_beside : (r : Result PairEnd RunFault) → PairRunsTo g t u left before_pair after_pair r → BesideRunsTo g t left before_unit after_unit r
  runs_beside (Ok e) h = (beside_done e h.0, h.1)
  runs_beside (Err (fault.Rows why)) h = (beside_done pair.Released h.0, h.1)
  runs_beside (Err fault.Write) h = (beside_left AppendsPart h.0, h.1)
  runs_beside (Err fault.Memory) h = beside_left AppendsFront h
