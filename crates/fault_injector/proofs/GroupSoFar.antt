-- GroupSoFar: a pair's run with a group of faults, between two of its cycles and where it ended.
use Rattle.std.proofs.Common.{◌≡◌, ◌≢◌, ℕ, suc, ◌+◌, ◌≤◌, false, List, [], ◌∷◌, ◌++◌, length, map, Option, ℤ, refl, sym, ap, subst, ◌∙◌, arith, append_assoc, append-nil, length-append}
use Rattle.std.proofs.lemmas.List.{length-map}
use Rattle.std.proofs.lemmas.List.Concat.{flat_map-append}
use Rattle.vcp_base.specs.Limits.{most_cycles}
use Rattle.coded_unit.specs.declared.call.Answer.{Answer}
use Rattle.coded_unit.specs.Log.{Entry, GrowsBy}
use Rattle.coded_unit.specs.Seen.{UnitSeen, StaysHonest}
use Rattle.op_graph.specs.GraphRun.{initial}
use Rattle.op_graph.specs.Lists.{Lists}
use Rattle.signature_table.specs.Signatures.{Numbers, IsTable}
use Rattle.coded_machine.specs.Calls.{AllRight, AllWords, Setting, Whole}
use Rattle.coded_machine.specs.CycleEnds.{initial_words, outputs_of, stored_words}
use Rattle.coded_machine.specs.declared.cycle_end.CycleEnd.TheVariants as end
use Rattle.coded_machine.specs.Runs.{calls_over, setting_at}
use Rattle.coded_machine.specs.State.{State, after_end, setting, with_answers}
use Rattle.fault_injector.proofs.Growing.{grows_on, grows_by_none}
use Rattle.fault_script.specs.declared.act.Fault.{Fault}
use Rattle.fault_script.specs.Changes.{acts_of, none_kept}
use Rattle.fault_script.specs.Differences.{no_frame}
use Rattle.fault_injector.specs.Accepted.{EndsAreRead, OutputsAreRead}
use Rattle.fault_injector.specs.RunLaw.{GroupStands, RunsKept}
use Rattle.fault_injector.specs.ScriptedRun.{ScriptedRun, ScriptedRunsAreRight, kept_through}
use Rattle.fault_injector.proofs.CarriedByHand.{honest_first, honest_second}
use Rattle.pair_channel.specs.declared.pair_end.PairEnd.{PairEnd}
use Rattle.pair_channel.specs.declared.pair_end.PairEnd.TheVariants as pair
use Rattle.pair_channel.specs.Beside.{beside}
use Rattle.pair_channel.specs.PairEnds.{PairCause}
use Rattle.pair_channel.specs.PairLaws.{OneChannelHonest, PairRunLaws}
use Rattle.pair_channel.specs.PairRuns.{PairOver, PairSoFar, pair_row_if}
use Rattle.pair_channel.specs.PairStates.{PairState, cycles_after, fresh_pair}
use Rattle.pair_channel.specs.PairTurns.{PairTurn}
use Rattle.fault_injector.specs.declared.campaign.pairs.verdict.PairVerdict.{PairVerdict}
use Rattle.fault_injector.specs.GroupCalls.{AskedOver, joined}
use Rattle.fault_injector.specs.GroupRuns.{CycleAsked, GroupRan, outer_seen, processor_seen}
use Rattle.fault_injector.specs.PairVerdicts.{verdict_at, verdict_read}
use Rattle.fault_injector.proofs.HonestVerdicts.{Known, read_is_told}

-- ---- whole runs

-- what is known of every run
pub record Laws : Type 0 where
  pub pairs : PairRunLaws
  pub honest : OneChannelHonest
  pub runs : RunsKept
  pub stands : GroupStands
  pub scripted : ScriptedRunsAreRight
  pub ends : EndsAreRead
  pub outputs : OutputsAreRead

-- and of the tables and the rows of this one
pub record Fair (t u : Numbers) (g : Lists) (faults : List Fault) (rows : List (List ℤ)) : Type 0 where
  pub known : Known t g faults
  pub second : IsTable u
  pub few : length rows ≤ most_cycles

module _ (laws : Laws) (t u : Numbers) (g : Lists) (faults : List Fault) (rows : List (List ℤ)) (fair : Fair t u g faults rows) where
  -- a whole run, off which a verdict is read
  concluded : (ours theirs : List (List Answer)) (outputs : List (List ℤ)) (e : PairEnd) (calls : List (List Entry)) (i k : ℕ) (before after : UnitSeen)
      (v : PairVerdict) → PairOver g t u rows ours theirs outputs e (outer_seen i) (outer_seen k) processor_seen processor_seen →
      AskedOver t g faults 0 (none_kept faults) (initial_words g t.seed) rows ours calls → GrowsBy before.log after.log (joined calls) →
      before.wrong ≤ after.wrong → (StaysHonest before after → ScriptedRun t g faults 0 (none_kept faults) (initial_words g t.seed) rows ours) →
      v ≡ verdict_at (length outputs) e → GroupRan t g faults rows before after v
  concluded ours theirs outputs e calls i k before after v over asked log later right is =
      let known = fair.known in
      let second : AllRight (calls_over g u 0 (initial_words g u.seed) rows theirs) = over.second.honest refl (omega arith) in
      let all = laws.honest.all_beside g t u rows ours theirs known.graph fair.second fair.few over.all second in
      let read : beside g t 0 (initial g) rows ours ≡ record { rows = outputs; end = e } =
      sym (laws.honest.beside_graph g t u rows ours theirs known.graph fair.second fair.few over.all second) ∙ over.outcome in
      let verdict_is : v ≡ verdict_read (beside g t 0 (initial g) rows ours) = is ∙ ap verdict_read (sym read) in
      let many : length (beside g t 0 (initial g) rows ours).rows ≡ 0 + length (beside g t 0 (initial g) rows ours).rows = omega arith in
      record {
        cycles = ours;
        calls = calls;
        all = all;
        asked = asked;
        log = log;
        later = later;
        verdict_is = verdict_is;
        honest = λ h.
            let kept = laws.runs t g (acts_of faults) rows ours known.graph known.table known.profile (λ n. laws.stands g faults n known.fits)
            (laws.scripted t g faults rows ours known.graph known.fits (right h)) in
            verdict_is ∙ ap (λ n. verdict_at n (beside g t 0 (initial g) rows ours).end) many
            ∙ read_is_told laws.ends laws.outputs t g faults known 0 no_frame (initial g) (initial g) (initial_words g t.seed) rows ours
            (omega (arith, fair.few)) kept all;
      }

-- ---- between two cycles

-- A cycle was carried and released for each of the rows taken. Whatever the later cycles are, what was asked for all is what was asked for these, and
-- then what is asked for the later ones.
pub record GroupSoFar (t u : Numbers) (g : Lists) (faults : List Fault) (rows rest : List (List ℤ)) (p : PairState) (keeps : List (Option ℤ)) (i j : ℕ)
    (before now : UnitSeen) : Type 0 where
  pub taken : List (List ℤ)
  pub ours : List (List Answer)
  pub theirs : List (List Answer)
  pub calls : List (List Entry)
  pub rows_are : rows ≡ taken ++ rest
  pub run : PairSoFar g t u taken ours theirs p (outer_seen i) (outer_seen j) processor_seen processor_seen
  pub between : p.first.under_way ≡ false
  pub asked : (cycles : List (List Answer)) (later : List (List Entry)) → AskedOver t g faults p.first.cycles keeps p.first.held rest cycles later →
      AskedOver t g faults 0 (none_kept faults) (initial_words g t.seed) rows (ours ++ cycles) (calls ++ later)
  pub log : GrowsBy before.log now.log (joined calls)
  pub later : before.wrong ≤ now.wrong
  pub right : StaysHonest before now → (cycles : List (List Answer)) → ScriptedRun t g faults p.first.cycles keeps p.first.held rest cycles →
      ScriptedRun t g faults 0 (none_kept faults) (initial_words g t.seed) rows (ours ++ cycles)

pub group_first : PairRunLaws → (t u : Numbers) (g : Lists) (faults : List Fault) (rows : List (List ℤ)) (p : PairState) (keeps : List (Option ℤ)) (i : ℕ)
    (before : UnitSeen) → p ≡ fresh_pair g t u → keeps ≡ none_kept faults → GroupSoFar t u g faults rows rows p keeps i i before before
group_first laws t u g faults rows p keeps i before is kept =
    subst (λ (x : List (Option ℤ)). GroupSoFar t u g faults rows rows p x i i before before) (sym kept)
    (subst (λ (x : PairState). GroupSoFar t u g faults rows rows x (none_kept faults) i i before before) (sym is) (record {
      taken = [];
      ours = [];
      theirs = [];
      calls = [];
      rows_are = refl;
      run = laws.starts g t u (outer_seen i) processor_seen;
      between = refl;
      asked = λ cycles later h. h;
      log = grows_by_none before.log;
      later = omega arith;
      right = λ h cycles run. run;
    }))

joined_more : (calls : List (List Entry)) (entries : List Entry) → joined (calls ++ entries ∷ []) ≡ joined calls ++ entries
joined_more calls entries =
    flat_map-append (λ (es : List Entry). es) calls (entries ∷ []) ∙ ap (λ l. joined calls ++ l) (append-nil entries)

no_row_if : (e : PairEnd) (row : List ℤ) → e ≢ pair.Released → pair_row_if e row ≡ []
no_row_if pair.Released row other = absurd (other refl)
no_row_if _ row other = refl

module _ (t u : Numbers) (g : Lists) (faults : List Fault) (rows rest : List (List ℤ)) (p q : PairState) (keeps next : List (Option ℤ))
    (row out_before out_now : List ℤ) (e : PairEnd) (i j k : ℕ) (before now after : UnitSeen)
    (h : GroupSoFar t u g faults rows (row ∷ rest) p keeps i j before now)
    (turn : PairTurn p q row e out_before out_now (outer_seen j) (outer_seen k) processor_seen processor_seen)
    (one : CycleAsked faults (setting p.first row) keeps q.first.answers next now after) where
  abbrev here : Setting
  here = setting_at g t p.first.cycles p.first.held row

  abbrev kept_here : List (Option ℤ)
  kept_here = kept_through faults here keeps [] g.operations q.first.answers

  here_is : setting p.first row ≡ here
  here_is =
      let of_graph : Lists → Setting = λ x. record { graph = x; table = p.first.table; held = p.first.held; row = row; cycle = p.first.cycles } in
      let of_table : Numbers → Setting = λ x. record { graph = g; table = x; held = p.first.held; row = row; cycle = p.first.cycles } in
      ap of_graph h.run.first.graph ∙ ap of_table h.run.first.table

  asked_here : CycleAsked faults here keeps q.first.answers next now after
  asked_here = subst (λ (s : Setting). CycleAsked faults s keeps q.first.answers next now after) here_is one

  whole_here : Whole g.operations q.first.answers
  whole_here = subst (λ (x : Lists). Whole x.operations q.first.answers) h.run.first.graph turn.first.whole

  -- with this cycle, whatever comes later
  asked_on : (cycles : List (List Answer)) (later : List (List Entry)) →
      AskedOver t g faults (suc p.first.cycles) kept_here (stored_words g q.first.answers) rest cycles later →
      AskedOver t g faults 0 (none_kept faults) (initial_words g t.seed) rows ((h.ours ++ q.first.answers ∷ []) ++ cycles) ((h.calls ++ asked_here.calls ∷ []) ++ later)
  asked_on cycles later behind =
      let All : List (List Answer) → List (List Entry) → Type 0 = λ cs es. AskedOver t g faults 0 (none_kept faults) (initial_words g t.seed) rows cs es in
      subst (λ cs. All cs ((h.calls ++ asked_here.calls ∷ []) ++ later)) (sym (append_assoc h.ours (q.first.answers ∷ []) cycles))
      (subst (λ es. All (h.ours ++ (q.first.answers ∷ cycles)) es) (sym (append_assoc h.calls (asked_here.calls ∷ []) later))
      (h.asked (q.first.answers ∷ cycles) (asked_here.calls ∷ later) (asked_here.asked, behind)))

  log_on : GrowsBy before.log after.log (joined (h.calls ++ asked_here.calls ∷ []))
  log_on = subst (GrowsBy before.log after.log) (sym (joined_more h.calls asked_here.calls))
      (grows_on before.log now.log after.log (joined h.calls) asked_here.calls h.log asked_here.log)

  later_on : before.wrong ≤ after.wrong
  later_on = omega (arith, h.later, asked_here.later)

  right_on : StaysHonest before after → (cycles : List (List Answer)) →
      (AllWords q.first.answers → ScriptedRun t g faults (suc p.first.cycles) kept_here (stored_words g q.first.answers) rest cycles) →
      ScriptedRun t g faults 0 (none_kept faults) (initial_words g t.seed) rows ((h.ours ++ q.first.answers ∷ []) ++ cycles)
  right_on honest cycles behind =
      let first = honest_first before.wrong now.wrong after.wrong h.later asked_here.later honest in
      let second = honest_second before.wrong now.wrong after.wrong h.later asked_here.later honest in
      subst (λ cs. ScriptedRun t g faults 0 (none_kept faults) (initial_words g t.seed) rows cs) (sym (append_assoc h.ours (q.first.answers ∷ []) cycles))
      (h.right first (q.first.answers ∷ cycles) (whole_here, asked_here.right second, behind))

  -- ---- after a release
  module _ (is : e ≡ pair.Released) where
    machine_is : q.first ≡ after_end (with_answers p.first q.first.answers) end.Released
    machine_is =
        let cause = subst (PairCause turn.first_end turn.second_end (outputs_of p.first.graph q.first.answers) (outputs_of p.second.graph q.second.answers)) is
        turn.cause in
        turn.first.machine ∙ ap (after_end (with_answers p.first q.first.answers)) cause.0

    held_is : q.first.held ≡ stored_words g q.first.answers
    held_is = ap (λ (m : State). m.held) machine_is ∙ ap (λ (x : Lists). stored_words x q.first.answers) h.run.first.graph

    cycle_is : q.first.cycles ≡ suc p.first.cycles
    cycle_is = let one_more : p.first.cycles + 1 ≡ suc p.first.cycles = omega arith in ap (λ (m : State). m.cycles) machine_is ∙ one_more

    pub pair_cycles : q.cycles ≡ p.cycles + 1
    pair_cycles = ap (λ (x : PairState). x.cycles) turn.pair_is ∙ ap (λ (x : PairEnd). cycles_after x p.cycles) is

    pub group_next : PairRunLaws → q.first.under_way ≡ false → GroupSoFar t u g faults rows rest q next i k before after
    group_next laws between = record {
      taken = h.taken ++ row ∷ [];
      ours = h.ours ++ q.first.answers ∷ [];
      theirs = h.theirs ++ q.second.answers ∷ [];
      calls = h.calls ++ asked_here.calls ∷ [];
      rows_are = h.rows_are ∙ sym (append_assoc h.taken (row ∷ []) rest);
      run = laws.goes_on g t u h.taken h.ours h.theirs p q row out_before out_now (outer_seen i) (outer_seen j) processor_seen processor_seen (outer_seen k)
          processor_seen h.run
          (subst (λ (x : PairEnd). PairTurn p q row x out_before out_now (outer_seen j) (outer_seen k) processor_seen processor_seen) is turn);
      between = between;
      asked = λ cycles later behind.
          asked_on cycles later
          (subst (λ (x : List (Option ℤ)). AskedOver t g faults (suc p.first.cycles) x (stored_words g q.first.answers) rest cycles later) asked_here.kept_is
          (subst (λ (x : List ℤ). AskedOver t g faults (suc p.first.cycles) next x rest cycles later) held_is
          (subst (λ (n : ℕ). AskedOver t g faults n next q.first.held rest cycles later) cycle_is behind)));
      log = log_on;
      later = later_on;
      right = λ honest cycles behind.
          right_on honest cycles
          (λ words.
          subst (λ (x : List (Option ℤ)). ScriptedRun t g faults (suc p.first.cycles) x (stored_words g q.first.answers) rest cycles) asked_here.kept_is
          (subst (λ (x : List ℤ). ScriptedRun t g faults (suc p.first.cycles) next x rest cycles) held_is
          (subst (λ (n : ℕ). ScriptedRun t g faults n next q.first.held rest cycles) cycle_is behind)));
    }

  -- after any other end
  pub group_ended : (laws : Laws) → Fair t u g faults rows → e ≢ pair.Released → (v : PairVerdict) → v ≡ verdict_at p.cycles e →
      GroupRan t g faults rows before after v
  group_ended laws fair other v is =
      let ours = h.ours ++ q.first.answers ∷ [] in
      let theirs = h.theirs ++ q.second.answers ∷ [] in
      let calls = h.calls ++ asked_here.calls ∷ [] in
      let mine = outputs_of g q.first.answers in
      let outputs = map (outputs_of g) h.ours ++ pair_row_if e mine in
      let over = laws.pairs.ends g t u h.taken rest h.ours h.theirs p q row e out_before out_now (outer_seen i) (outer_seen j) processor_seen processor_seen
      (outer_seen k) processor_seen h.run turn (λ released. absurd (other released)) in
      let many : p.cycles ≡ length outputs =
      omega (arith, h.run.cycles, length-map h.ours (outputs_of g), length-append (map (outputs_of g) h.ours) (pair_row_if e mine), ap length (no_row_if e mine other)) in
      concluded laws t u g faults rows fair ours theirs outputs e calls i k before after v
      (subst (λ rs. PairOver g t u rs ours theirs outputs e (outer_seen i) (outer_seen k) processor_seen processor_seen) (sym h.rows_are) over)
      (subst (λ cs. AskedOver t g faults 0 (none_kept faults) (initial_words g t.seed) rows cs calls) (append-nil ours)
      (subst (λ es. AskedOver t g faults 0 (none_kept faults) (initial_words g t.seed) rows (ours ++ []) es) (append-nil calls) (asked_on [] [] refl)))
      log_on later_on
      (λ honest. subst (λ cs. ScriptedRun t g faults 0 (none_kept faults) (initial_words g t.seed) rows cs) (append-nil ours) (right_on honest [] (λ words. tt)))
      (is ∙ ap (λ n. verdict_at n e) many)

-- where no row is left
pub group_over : (laws : Laws) (t u : Numbers) (g : Lists) (faults : List Fault) (rows : List (List ℤ)) (p : PairState) (keeps : List (Option ℤ)) (i j : ℕ)
    (before now : UnitSeen) → Fair t u g faults rows → GroupSoFar t u g faults rows [] p keeps i j before now →
    GroupRan t g faults rows before now (verdict_at p.cycles pair.Released)
group_over laws t u g faults rows p keeps i j before now fair h =
    let all : h.taken ≡ rows = sym (append-nil h.taken) ∙ sym h.rows_are in
    let outputs = map (outputs_of g) h.ours in
    let over = laws.pairs.stands g t u h.taken h.ours h.theirs p (outer_seen i) (outer_seen j) processor_seen processor_seen h.run in
    concluded laws t u g faults rows fair h.ours h.theirs outputs pair.Released h.calls i j before now (verdict_at p.cycles pair.Released)
    (subst (λ rs. PairOver g t u rs h.ours h.theirs outputs pair.Released (outer_seen i) (outer_seen j) processor_seen processor_seen) all over)
    (subst (λ cs. AskedOver t g faults 0 (none_kept faults) (initial_words g t.seed) rows cs h.calls) (append-nil h.ours)
    (subst (λ es. AskedOver t g faults 0 (none_kept faults) (initial_words g t.seed) rows (h.ours ++ []) es) (append-nil h.calls) (h.asked [] [] refl)))
    h.log h.later
    (λ honest. subst (λ cs. ScriptedRun t g faults 0 (none_kept faults) (initial_words g t.seed) rows cs) (append-nil h.ours) (h.right honest [] tt))
    refl
