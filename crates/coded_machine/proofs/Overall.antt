-- Overall: what the cycles of a run over the first of the rows are on all of them.
use Rattle.std.proofs.Common.{◌<◌, ◌≤◌, ◌-◌, ◌^◌, ◌≡◌, ◌≢◌, ap, subst, sym, ◌∙◌, ℤ, List, [], ◌++◌, length, length-append, map, arith, ◌⊎◌, inl, inr}
use Rattle.vcp_base.specs.Limits.{most_cycles}
use Rattle.coded_unit.specs.declared.call.Answer.{Answer}
use Rattle.op_graph.specs.Lists.{Lists}
use Rattle.op_graph.specs.Rules.{IsGraph}
use Rattle.op_graph.specs.GraphRun.{Run, graph_run, run_from}
use Rattle.signature_table.specs.Signatures.{Numbers, IsTable}
use Rattle.coded_machine.specs.declared.cycle_end.CycleEnd.{CycleEnd}
use Rattle.coded_machine.specs.declared.cycle_end.CycleEnd.TheVariants as end
use Rattle.coded_machine.specs.Calls.{Carried}
use Rattle.coded_machine.specs.CycleEnds.{initial_words, outputs_of}
use Rattle.coded_machine.specs.Runs.{Outcome, calls_over, outcome_over, outcome_for, AllCycles, RunSoFar, RunOver, FollowsSoFar}
use Rattle.coded_machine.specs.State.{State}
use Rattle.coded_machine.specs.Moments.{Moment}
use Rattle.coded_machine.specs.RowRuns.{SomeCycles, CameToEnd, IsFront}
use Rattle.coded_machine.proofs.Longer.{cycles_within, calls_longer, some_of_all, all_cycles}
use Rattle.coded_machine.specs.Laws.{HonestLaws}

-- what the run's graph and table keep, and how many rows there are
pub record Fair (g : Lists) (t : Numbers) (rows : List (List ℤ)) : Type 0 where
  pub graph : IsGraph g
  pub table : IsTable t
  pub few : length rows ≤ most_cycles

-- the cycles on all rows: their calls, that they are some of the run's, and the outcome that is read off their answers
pub record Over (g : Lists) (t : Numbers) (rows : List (List ℤ)) (cycles : List (List Answer)) (outs : List (List ℤ)) (e : CycleEnd)
    (b a : Moment) : Type 0 where
  pub carried : Carried (calls_over g t 0 (initial_words g t.seed) rows cycles) b.unit.log a.unit.log b.unit.wrong a.unit.wrong
  pub some : SomeCycles g t 0 rows cycles
  pub outcome : outcome_over g t 0 cycles ≡ record { rows = outs; end = e }

pub over_all : (g : Lists) (t : Numbers) (all rows more : List (List ℤ)) (cycles : List (List Answer)) (outs : List (List ℤ)) (e : CycleEnd) (b a : Moment)
    → all ≡ rows ++ more → RunOver g t rows cycles outs e b.unit.log a.unit.log b.unit.wrong a.unit.wrong → Over g t all cycles outs e b a
over_all g t all rows more cycles outs e b a is h =
    let calls = ap (λ xs. calls_over g t 0 (initial_words g t.seed) xs cycles) is
    ∙ calls_longer g t 0 (initial_words g t.seed) rows more cycles (cycles_within g t 0 rows cycles h.all) in
    record {
      carried = subst (λ es. Carried es b.unit.log a.unit.log b.unit.wrong a.unit.wrong) (sym calls) h.carried;
      some = subst (λ xs. SomeCycles g t 0 xs cycles) (sym is) (some_of_all g t 0 rows more cycles h.all);
      outcome = h.outcome;
    }

-- the run came to its end with these cycles
pub came_to_end : (g : Lists) (t : Numbers) (all rows more : List (List ℤ)) (cycles : List (List Answer)) (outs : List (List ℤ)) (e : CycleEnd) (b a : Moment)
    → all ≡ rows ++ more → (e ≢ end.Released) ⊎ (more ≡ []) → RunOver g t rows cycles outs e b.unit.log a.unit.log b.unit.wrong a.unit.wrong →
    CameToEnd g t all cycles e
came_to_end g t all rows more cycles outs e b a is ends h =
    let same : (outcome_over g t 0 cycles).end ≡ e = ap (λ (o : Outcome). o.end) h.outcome in
    let ended : ((outcome_over g t 0 cycles).end ≢ end.Released) ⊎ (more ≡ []) =
    elim ends [ inl not ↦ inl (λ is_released. not (sym same ∙ is_released)) | inr none ↦ inr none ] in
    record {
      all = subst (λ xs. AllCycles g t 0 xs cycles) (sym is) (all_cycles g t rows more cycles ended h.all);
      end_is = same;
    }

-- where no answer was wrong, it is then the graph's run
pub whole_follows : HonestLaws
    → (g : Lists) (t : Numbers) (rows : List (List ℤ)) (cycles : List (List Answer)) (outs : List (List ℤ)) (e : CycleEnd) (b a : Moment) → Fair g t rows
    → Over g t rows cycles outs e b a → CameToEnd g t rows cycles e →
    a.unit.wrong ≡ b.unit.wrong → b.unit.wrong < 2 ^ 64 - 1 → outcome_over g t 0 cycles ≡ outcome_for (graph_run g rows)
whole_follows laws g t rows cycles outs e b a fair over came same small =
    laws.whole g t rows cycles fair.graph fair.table fair.few came.all (over.carried.honest same small)

-- and before it came to its end, a front of that
pub front_follows : HonestLaws → (g : Lists) (t : Numbers) (all rows more : List (List ℤ)) (cycles : List (List Answer)) (m : State) (b a : Moment)
    → Fair g t all → all ≡ rows ++ more → RunSoFar g t rows cycles m b.unit.log a.unit.log b.unit.wrong a.unit.wrong →
    outcome_over g t 0 cycles ≡ record { rows = map (outputs_of g) cycles; end = end.Released } → a.unit.wrong ≡ b.unit.wrong → b.unit.wrong < 2 ^ 64 - 1 → IsFront g all
    (outcome_over g t 0 cycles)
front_follows laws g t all rows more cycles m b a fair is run outcome same small =
    let sizes = simp length-append at (ap length is) in
    let follows : FollowsSoFar g rows cycles m =
    laws.so_far g t rows cycles m b.unit.log a.unit.log b.unit.wrong a.unit.wrong fair.graph fair.table (omega (arith, fair.few, sizes)) run same small in
    let later = (run_from g follows.values more).rows in
    record {
      released = ap (λ (o : Outcome). o.end) outcome;
      more = later;
      rows_are = ap (λ (r : Run). r.rows) (ap (graph_run g) is ∙ follows.run more) ∙ ap (λ (o : Outcome). o.rows ++ later) (sym outcome);
    }
