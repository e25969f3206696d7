-- Ended: all that a pair's run over its rows is known to leave, at each of its ends.
use Rattle.std.proofs.Common.{ℕ, ◌≡◌, refl, subst, sym, ◌∙◌, ℤ, List, Result, Ok, Err}
use Rattle.vcp_base.specs.declared.kind.StopKind.{StopKind}
use Rattle.input_rows.specs.RowsOf.{RowsLeft}
use Rattle.op_graph.specs.Laws.{EntryLaws}
use Rattle.op_graph.specs.Lists.{Lists}
use Rattle.op_graph.specs.Rules.{IsGraph}
use Rattle.signature_table.specs.Signatures.{Numbers}
use Rattle.coded_machine.specs.Stops.{GrowsToStop}
use Rattle.coded_machine.specs.declared.rows.fault.RunFault.{RunFault}
use Rattle.pair_channel.specs.declared.pair_end.PairEnd.{PairEnd}
use Rattle.pair_channel.specs.declared.pair_end.PairEnd.TheVariants as pair
use Rattle.pair_channel.specs.PairDone.{PairIsThere}
use Rattle.pair_channel.specs.PairMoments.{PairMoment}
use Rattle.pair_channel.specs.PairRows.{PairRows}
use Rattle.pair_channel.specs.PairStates.{PairState}
use Rattle.pair_channel.specs.PairTurns.{PairTurn}
use Rattle.pair_channel.proofs.There.{is_there, stops_log}
use Rattle.pair_channel.proofs.UpTo.{UpTo}

pub same_end : (result : Result PairEnd RunFault) (e f : PairEnd) → result ≡ Ok e → result ≡ Ok f → e ≡ f
same_end result e f is h = cc

pub no_end : (result : Result PairEnd RunFault) (f : RunFault) (e : PairEnd) → result ≡ Err f → result ≡ Ok e → ⊥
no_end result f e is h = cc

-- what a run leaves, and what is known of its end
pub record Ended (g : Lists) (t u : Numbers) (left : RowsLeft) (b a : PairMoment) (n : ℕ) (result : Result PairEnd RunFault) : Type 0 where
  pub rows : PairRows g t u left b a n result
  pub there : (e : PairEnd) → result ≡ Ok e → PairIsThere g e
  pub stopped : (op : ℕ) (why : StopKind) → result ≡ Ok (pair.Stopped op why) → GrowsToStop b.first.log a.first.log n op why

-- a run that was given up
pub given_up : (g : Lists) (t u : Numbers) (left : RowsLeft) (b a : PairMoment) (n : ℕ) (f : RunFault) (result : Result PairEnd RunFault) → result ≡ Err f →
    PairRows g t u left b a n (Err f) → Ended g t u left b a n result
given_up g t u left b a n f result is rows = record {
  rows = subst (PairRows g t u left b a n) (sym is) rows;
  there = λ e h. absurd (no_end result f e is h);
  stopped = λ op why h. absurd (no_end result f (pair.Stopped op why) is h);
}

-- a run that came to its last row
pub at_last_row : (g : Lists) (t u : Numbers) (left : RowsLeft) (b a : PairMoment) (n : ℕ) → PairRows g t u left b a n (Ok pair.Released) →
    Ended g t u left b a n (Ok pair.Released)
at_last_row g t u left b a n rows =
    let same : (e : PairEnd) → Ok pair.Released ≡ Ok e → pair.Released ≡ e = λ e h. same_end (Ok pair.Released) pair.Released e refl h in
    record {
      rows = rows;
      there = λ e h. subst (PairIsThere g) (same e h) tt;
      stopped = λ op why h. let is : pair.Released ≡ pair.Stopped op why = same (pair.Stopped op why) h in absurd (cc is);
    }

-- a run that came to a cycle that isn't released
pub at_cycle : EntryLaws → (g : Lists) (t u : Numbers) (left rest : RowsLeft) (b n a : PairMoment) (p q : PairState) (row out_before out_now : List ℤ)
    (e : PairEnd) → IsGraph g → UpTo g t u left rest b n p → PairTurn p q row e out_before out_now n.first a.first n.second a.second →
    PairRows g t u left b a q.cycles (Ok e) → Ended g t u left b a q.cycles (Ok e)
at_cycle laws g t u left rest b n a p q row out_before out_now e graph h turn rows =
    let run = h.run in
    let same : (f : PairEnd) → Ok e ≡ Ok f → e ≡ f = λ f k. same_end (Ok e) e f refl k in
    record {
      rows = rows;
      there = λ f k. subst (PairIsThere g) (same f k)
          (is_there laws g p q row out_before out_now e _ _ _ _ graph run.first.graph run.second.graph turn);
      stopped = λ op why k. stops_log laws g p q row out_before out_now e op why _ _ _ _ _ _ graph run.first.graph
          (run.first.many_cycles ∙ sym run.cycles) turn (same (pair.Stopped op why) k) run.first.carried.told;
    }
