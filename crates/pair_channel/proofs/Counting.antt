-- Counting: a pair's run by the counts of wrong answers of its two units.
use Rattle.std.proofs.Common.{◌-◌, ◌^◌, ◌≤◌, ◌≡◌, ◌⊎◌, inl, inr, refl, sym, ap, subst, ◌∙◌, List, length, arith, ℤ, Option, Some, None}
use Rattle.std.proofs.lemmas.Bool.{cases_lt}
use Rattle.vcp_base.specs.Limits.{most_cycles}
use Rattle.vcp_outside.specs.Counts.{Rose}
use Rattle.coded_unit.specs.declared.call.Answer.{Answer}
use Rattle.op_graph.specs.Lists.{Lists}
use Rattle.op_graph.specs.Rules.{IsGraph}
use Rattle.op_graph.specs.GraphRun.{graph_run, Stop}
use Rattle.signature_table.specs.Signatures.{Numbers, IsTable}
use Rattle.pair_channel.specs.declared.pair_end.PairEnd.{PairEnd}
use Rattle.pair_channel.specs.PairLaws.{OneChannelHonest}
use Rattle.pair_channel.specs.PairRuns.{PairOutcome, PairOver, FrontOfRun, Disagrees, pair_outcome_for, pair_end_of_run}
use Rattle.coded_unit.specs.Seen.{UnitSeen, StaysHonest}

pub front : OneChannelHonest → (g : Lists) (t u : Numbers) (rows : List (List ℤ)) (ours theirs : List (List Answer)) (outputs : List (List ℤ)) (e : PairEnd)
    (x y z w : UnitSeen) → IsGraph g → IsTable t → IsTable u → length rows ≤ most_cycles → PairOver g t u rows ours theirs outputs e x y z w →
    StaysHonest x y ⊎ StaysHonest z w → FrontOfRun (record { rows = outputs; end = e }) (graph_run g rows)
front honest g t u rows ours theirs outputs e x y z w graph one two many o (inl still) =
    subst (λ (r : PairOutcome). FrontOfRun r (graph_run g rows)) o.outcome
    (honest.first g t u rows ours theirs graph one many o.all (o.first.honest still.0 still.1))
front honest g t u rows ours theirs outputs e x y z w graph one two many o (inr still) =
    subst (λ (r : PairOutcome). FrontOfRun r (graph_run g rows)) o.outcome
    (honest.second g t u rows ours theirs graph two many o.all (o.second.honest still.0 still.1))

-- a count that never falls rose, or stood still below its last value
rose_or_still : (x y : UnitSeen) → x.wrong ≤ y.wrong → Rose x.wrong y.wrong ⊎ StaysHonest x y
rose_or_still x y later =
    elim (cases_lt x.wrong (2 ^ 64 - 1)) [
      | inl small ↦ elim (cases_lt x.wrong y.wrong) [
        | inl more ↦ inl (omega (arith, more))
        | inr less ↦ inr (omega (arith, less, later), small)
      ]
      | inr large ↦ inl (omega (arith, large, later))
    ]

run_agrees : (s : Option Stop) → Disagrees (pair_end_of_run s) → ⊥
run_agrees None h = h
run_agrees (Some s) h = h

rose_case : (g : Lists) (rows : List (List ℤ)) (o : PairOutcome) (e : PairEnd) (x y z w : UnitSeen) →
    (StaysHonest x y → StaysHonest z w → o ≡ pair_outcome_for (graph_run g rows)) → o.end ≡ e → Disagrees e → Rose x.wrong y.wrong ⊎ StaysHonest x y →
    Rose z.wrong w.wrong ⊎ StaysHonest z w → Rose x.wrong y.wrong ⊎ Rose z.wrong w.wrong
rose_case g rows o e x y z w honest is apart (inl rose) other = inl rose
rose_case g rows o e x y z w honest is apart (inr still) (inl rose) = inr rose
rose_case g rows o e x y z w honest is apart (inr still) (inr too) =
    absurd (run_agrees (graph_run g rows).end (subst Disagrees (sym is ∙ ap (λ (r : PairOutcome). r.end) (honest still too)) apart))

pub rose : OneChannelHonest → (g : Lists) (t u : Numbers) (rows : List (List ℤ)) (ours theirs : List (List Answer)) (outputs : List (List ℤ)) (e : PairEnd)
    (x y z w : UnitSeen) → IsGraph g → IsTable t → IsTable u → length rows ≤ most_cycles → PairOver g t u rows ours theirs outputs e x y z w → Disagrees e →
    Rose x.wrong y.wrong ⊎ Rose z.wrong w.wrong
rose honest g t u rows ours theirs outputs e x y z w graph one two many o apart =
    rose_case g rows (record { rows = outputs; end = e }) e x y z w
    (λ still too. sym o.outcome ∙ honest.both_honest g t u rows ours theirs graph one two many o.all (o.first.honest still.0 still.1)
    (o.second.honest too.0 too.1))
    refl apart (rose_or_still x y o.first.never_falls) (rose_or_still z w o.second.never_falls)
