-- VerdictRead: the verdict that is read off the answers of a rerun is the defined one, where these are right.
use Rattle.std.proofs.Common.{◌≡◌, ℕ, suc, ◌+◌, ◌<◌, ◌≤◌, Bool, true, false, List, [], ◌∷◌, length, Option, Some, None, ℤ, refl, sym, ap, subst, ◌∙◌, arith}
use Rattle.vcp_base.specs.Differences.{Difference, first_difference}
use Rattle.vcp_base.specs.Limits.{most_cycles}
use Rattle.vcp_base.specs.declared.kind.StopKind.{StopKind}
use Rattle.coded_unit.specs.declared.call.Answer.{Answer}
use Rattle.op_graph.specs.GraphRun.{Cycle, Stop, cycle, initial, outputs, stored}
use Rattle.op_graph.specs.Laws.{ReadLaws}
use Rattle.op_graph.specs.Lists.{Lists}
use Rattle.op_graph.specs.Rules.{IsGraph}
use Rattle.signature_table.specs.Signatures.{Numbers, IsTable, stamp_before}
use Rattle.coded_machine.specs.declared.cycle_end.CycleEnd.{CycleEnd}
use Rattle.coded_machine.specs.declared.cycle_end.CycleEnd.TheVariants as end
use Rattle.coded_machine.specs.Calls.{AllRight, AllWords, CallsOf, Whole}
use Rattle.coded_machine.specs.CycleEnds.{end_of, initial_words, outputs_of, stored_words}
use Rattle.coded_machine.specs.Honest.{CellsHold, HonestCells, HonestCycles, StandsFor, end_at}
use Rattle.coded_machine.specs.Runs.{calls_over, setting_at}
use Rattle.fault_script.specs.declared.act.Fault.{Fault}
use Rattle.fault_script.specs.Changes.{acts_of}
use Rattle.fault_script.specs.Differences.{Frame, no_frame}
use Rattle.fault_script.specs.Groups.{GroupFits}
use Rattle.fault_injector.specs.Accepted.{EndsAreRead, OutputsAreRead, RefusedAt, ending, first_unaccepted}
use Rattle.fault_injector.specs.FaultRun.{begun, cycle_under, cycles_from, operation_stop, outside, stop_or, stop_under, unless_stopped}
use Rattle.fault_injector.specs.RunLaw.{CycleKept, GroupStands, RightRun, RightsUnder, RunKept, RunsKept, Words, no_words}
use Rattle.fault_injector.specs.declared.verdicts.Verdict.{Verdict}
use Rattle.fault_injector.specs.Verdicts.{compared, judged, judged_cycle, plain_cycles, verdict_of, verdict_or}
use Rattle.fault_injector.specs.Reruns.{Again, IsReference, Part, again, cycle_again, read_cycle, refusal_in, rerun, runs_again, stop_in, unless_judged}
use Rattle.fault_injector.specs.Touched.{held_marks}
use Rattle.fault_injector.proofs.CycleRight.{CellsFollow, CycleRight, rights_of, whole_of}
use Rattle.fault_injector.proofs.RunRight.{Other, one_cycle, other_later, released_words, right_back, right_front, stored_follow}

-- what the laws below promise
pub record Laws : Type 0 where
  pub reads : ReadLaws
  pub runs : RunsKept
  pub groups : GroupStands
  pub ends : EndsAreRead
  pub outputs : OutputsAreRead
  pub cycles : HonestCycles
  pub first : HonestCells

-- ---- the verdict of one cycle

judged_ending : (n : ℕ) (s : Option Stop) (r : Option RefusedAt) (o : Option Stop) (w v : Option Difference)
    → (s ≡ None → r ≡ None → o ≡ None → w ≡ v) → judged n (stop_in (ending s r)) (refusal_in (ending s r)) o w ≡ judged n s r o v
judged_ending n (Some s) r o w v h = refl
judged_ending n None (Some r) o w v h = refl
judged_ending n None None (Some o) w v h = refl
judged_ending n None None None w v h = ap (judged n None None None) (h refl refl refl)

stop_at : (values : List ℤ) (x : Option StopKind) → stop_in (end_at (length values) x) ≡ operation_stop (record { values = values; stop = x })
stop_at values None = refl
stop_at values (Some why) = refl

none_judged : (n : ℕ) (s : Option Stop) (r : Option RefusedAt) (o : Option Stop) (w : Option Difference) → judged n s r o w ≡ None
    → (s ≡ None) × (r ≡ None) × (o ≡ None)
none_judged n (Some s) r o w h = absurd cc
none_judged n None (Some r) o w h = absurd cc
none_judged n None None (Some o) w h = absurd cc
none_judged n None None None (Some w) h = absurd cc
none_judged n None None None None h = (refl, refl, refl)

no_kind : (values : List ℤ) (x : Option StopKind) → operation_stop (record { values = values; stop = x }) ≡ None → x ≡ None
no_kind values None h = refl
no_kind values (Some why) h = absurd cc

no_stop_first : (s o : Option Stop) → stop_or s o ≡ None → s ≡ None
no_stop_first None o e = refl
no_stop_first (Some s) o e = absurd cc

verdict_some : (w v : Verdict) (x : Option Verdict) (later : Verdict) → w ≡ verdict_or x later → x ≡ Some v → w ≡ v
verdict_some w v None later is e = absurd cc
verdict_some w v (Some u) later is e = let same : u ≡ v = cc in is ∙ same

verdict_none : (w : Verdict) (x : Option Verdict) (later : Verdict) → w ≡ verdict_or x later → x ≡ None → w ≡ later
verdict_none w None later is e = is
verdict_none w (Some u) later is e = absurd cc

-- ---- both runs between two cycles

-- The run law holds of whatever answers the run with the faults goes on by, the cells of the other run hold honest words, and the verdict is that of the
-- cycles from here on.
pub record Stand (t : Numbers) (g : Lists) (faults : List Fault) (all : List (List ℤ)) (n : ℕ) (past : Words) (held beside : List ℤ)
    (rest : List (List ℤ)) : Type 0 where
  pub before : Frame
  pub values : List ℤ
  pub plain : List ℤ
  pub law : (cycles : List (List Answer)) → RightRun t g (acts_of faults) n past held rest cycles →
      RunKept t g (acts_of faults) n before values held rest cycles
  pub hold : CellsHold g t.seed (stamp_before t.step n) beside plain
  pub verdict : verdict_of t g faults all ≡ compared t g (acts_of faults) n (cycles_from t g (acts_of faults) n before values rest) (plain_cycles g plain rest)

-- what is known of the graph, the numbers of its code and the faults
pub record Known (t : Numbers) (g : Lists) : Type 0 where
  pub graph : IsGraph g
  pub table : IsTable t
  pub profile : t.profile ≡ g.profile

-- what one cycle of both comes to
record CycleRead (t : Numbers) (g : Lists) (faults : List Fault) (all : List (List ℤ)) (n : ℕ) (held : List ℤ) (rows : List (List ℤ))
    (own other : List Answer) : Type 0 where
  ends : (v : Verdict) → read_cycle g t n own other ≡ Some v → verdict_of t g faults all ≡ v
  goes_on : read_cycle g t n own other ≡ None → (end_of g t n other ≡ end.Released) × AllWords own
      × Stand t g faults all (suc n) (record { held = held; answers = own }) (stored_words g own) (stored_words g other) rows

plus_one : (n : ℕ) → n + 1 ≡ suc n
plus_one n = omega arith

cycle_read : (laws : Laws) (t : Numbers) (g : Lists) (faults : List Fault) (all : List (List ℤ)) (n : ℕ) (past : Words) (held beside row : List ℤ)
    (rows : List (List ℤ)) (own other : List Answer) → Known t g → n < most_cycles → Stand t g faults all n past held beside (row ∷ rows)
    → Whole g.operations own → RightsUnder (setting_at g t n held row) (acts_of faults n) past [] g.operations own
    → Whole g.operations other → AllRight (CallsOf (setting_at g t n beside row) other)
    → CycleRead t g faults all n held rows own other
cycle_read laws t g faults all n past held beside row rows own other k below s whole rights other_whole other_right =
    let acts = acts_of faults in
    let b = begun t g acts n s.before s.values row in
    let c : Cycle = cycle_under b in
    let o : Cycle = cycle g s.plain row in
    let law : CycleKept b held own = (s.law (own ∷ []) (whole, rights, λ words. tt)).0 in
    let honest : StandsFor (setting_at g t n beside row) s.plain other =
    laws.cycles (setting_at g t n beside row) s.plain other k.graph k.table below s.hold other_right other_whole in
    let stops = stop_under g c in
    let refusal = first_unaccepted t g acts n 0 g.outputs in
    let end_is : end_of g t n own ≡ ending stops refusal =
    laws.ends t g acts n s.before s.values row own k.graph k.table k.profile below law.answers_are in
    let other_stop : stop_in (end_of g t n other) ≡ operation_stop o = ap stop_in honest.end_is ∙ stop_at o.values o.stop in
    let wrong : stops ≡ None → refusal ≡ None → operation_stop o ≡ None
    → first_difference (outputs_of g own) (outputs_of g other) 0 ≡ first_difference (outputs g c.values) (outputs g o.values) 0 =
    λ no_stop no_refusal plain_on.
    ap (λ (xs : List ℤ). first_difference xs (outputs_of g other) 0)
    (laws.outputs t g acts n s.before s.values row own k.graph k.table k.profile below law.answers_are no_stop)
    ∙ ap (λ (xs : List ℤ). first_difference (outputs g c.values) xs 0) (honest.row_is (no_kind o.values o.stop plain_on)) in
    let read_is : read_cycle g t n own other ≡ judged_cycle t g acts n c o =
    ap (λ (e : CycleEnd). judged n (stop_in e) (refusal_in e) (stop_in (end_of g t n other)) (first_difference (outputs_of g own) (outputs_of g other) 0))
    end_is
    ∙ (ap (λ (x : Option Stop). judged n (stop_in (ending stops refusal)) (refusal_in (ending stops refusal)) x (first_difference (outputs_of g own)
    (outputs_of g other) 0)) other_stop
    ∙ judged_ending n stops refusal (operation_stop o) (first_difference (outputs_of g own) (outputs_of g other) 0)
    (first_difference (outputs g c.values) (outputs g o.values) 0) wrong) in
    let later = cycles_from t g acts (suc n) (record { held = s.values; given = c.values }) (stored g c.values) rows in
    let plain_later = plain_cycles g (stored g o.values) rows in
    let after : List Cycle → List Cycle → Verdict = λ xs ys. compared t g acts (suc n) xs ys in
    record {
      ends = λ v h.
          verdict_some (verdict_of t g faults all) v (judged_cycle t g acts n c o)
          (after (unless_stopped stops later) (unless_stopped (operation_stop o) plain_later)) s.verdict (sym read_is ∙ h);
      goes_on = λ h.
          let none = sym read_is ∙ h in
          let nones = none_judged n stops refusal (operation_stop o) (first_difference (outputs g c.values) (outputs g o.values) 0) none in
          let no_stop : c.stop ≡ None = no_kind c.values c.stop (no_stop_first (operation_stop c) (outside c.values g.outputs) nones.0) in
          let plain_on : o.stop ≡ None = no_kind o.values o.stop nones.2 in
          let released : end_of g t n own ≡ end.Released =
          end_is ∙ (ap (λ (x : Option Stop). ending x refusal) nones.0 ∙ ap (λ (x : Option RefusedAt). ending None x) nones.1) in (
            honest.end_is ∙ ap (end_at (length o.values)) plain_on,
            released_words g t n own released,
            record {
              before = record { held = s.values; given = c.values };
              values = stored g c.values;
              plain = stored g o.values;
              law = λ cycles run. (s.law (own ∷ cycles) (whole, rights, λ words. run)).1 no_stop;
              hold = subst (λ (j : ℕ). CellsHold g t.seed (stamp_before t.step j) (stored_words g other) (stored g o.values)) (plus_one n)
                  (honest.cells_are plain_on);
              verdict =
                  verdict_none (verdict_of t g faults all) (judged_cycle t g acts n c o)
                  (after (unless_stopped stops later) (unless_stopped (operation_stop o) plain_later)) s.verdict none
                  ∙ (ap (λ (x : Option Stop). after (unless_stopped x later) (unless_stopped (operation_stop o) plain_later)) nones.0
                  ∙ ap (λ (x : Option Stop). after later (unless_stopped x plain_later)) nones.2);
            },
          );
    }

-- ---- whole runs

-- the verdict of a cycle, or else the one that the later cycles come to
verdict_step : (b : Bool) (v : Option Verdict) (part : Part) (next : List Answer → Again) (w : Verdict)
    → (b ≡ false → AllRight part.calls → (u : Verdict) → v ≡ Some u → w ≡ u)
    → (b ≡ false → AllRight part.calls → v ≡ None → (next part.left).too_few ≡ false → AllRight (next part.left).calls → w ≡ (next part.left).verdict)
    → (unless_judged b v part next).too_few ≡ false → AllRight (unless_judged b v part next).calls → w ≡ (unless_judged b v part next).verdict
verdict_step true v part next w ends goes enough right = absurd cc
verdict_step false (Some u) part next w ends goes enough right = ends refl right u refl
verdict_step false None part next w ends goes enough right =
    goes refl (right_front part.calls (next part.left).calls right) refl enough (right_back part.calls (next part.left).calls right)

runs_read : (laws : Laws) (t : Numbers) (g : Lists) (faults : List Fault) (all : List (List ℤ)) → Known t g →
    (rows : List (List ℤ)) (others : List (List Answer)) (n : ℕ)
    (past : Words) (held : List ℤ) (cell_marks : List Bool) (beside : List ℤ) (left : List Answer) → CellsFollow cell_marks held beside
    → Other t g n beside rows others → n + length rows ≤ most_cycles → Stand t g faults all n past held beside rows
    → (runs_again t g (acts_of faults) n past held cell_marks rows others left).too_few ≡ false
    → AllRight (runs_again t g (acts_of faults) n past held cell_marks rows others left).calls
    → verdict_of t g faults all ≡ (runs_again t g (acts_of faults) n past held cell_marks rows others left).verdict
runs_read laws t g faults all k [] others n past held cell_marks beside left cells o few s enough right = s.verdict
runs_read laws t g faults all k (row ∷ rows) [] n past held cell_marks beside left cells o few s enough right = absurd o.all
runs_read laws t g faults all k (row ∷ rows) (other ∷ others) n past held cell_marks beside left cells o few s enough right =
    let acts = acts_of faults in
    let c = cycle_again t g acts n past held cell_marks row other in
    let part = again c [] g.operations left in
    let words : Words = record { held = held; answers = part.own } in
    let next : List Answer → Again = λ left. runs_again t g acts (suc n) words (stored_words g part.own) (held_marks g c.touched) rows others left in
    let here : part.too_few ≡ false → AllRight part.calls → CycleRight c [] g.operations part.own =
    λ too_few calls. one_cycle laws.reads t g acts n past held cell_marks beside row rows other others left k.graph cells o too_few calls in
    let other_right : AllRight (CallsOf (setting_at g t n beside row) other) =
    right_front (CallsOf (setting_at g t n beside row) other) (calls_over g t (suc n) (stored_words g other) rows others) o.right in
    let read : part.too_few ≡ false → AllRight part.calls → CycleRead t g faults all n held rows part.own other =
    λ too_few calls.
    let r = (here too_few calls).rightly in
    cycle_read laws t g faults all n past held beside row rows part.own other k (omega (arith, few)) s
    (whole_of c g.operations part.own r) (rights_of c g.operations part.own r) o.all.0 other_right in
    verdict_step part.too_few (read_cycle g t n part.own other) part next (verdict_of t g faults all)
    (λ too_few calls u h. (read too_few calls).ends u h)
    (λ too_few calls none enough_later right_later.
    let on = (read too_few calls).goes_on none in
    let follows = (here too_few calls).follows (released_words g t n other on.0) on.1 in
    runs_read laws t g faults all k rows others (suc n) words (stored_words g part.own) (held_marks g c.touched) (stored_words g other) part.left
    (λ i h. stored_follow c.touched part.own other g.stores i follows h) (other_later t g n beside row rows other others o on.0) (omega (arith, few)) on.2
    enough_later right_later)
    enough right

pub verdicts_are_read : (laws : Laws) (t : Numbers) (g : Lists) (faults : List Fault) (rows : List (List ℤ)) (others : List (List Answer)) (given : List Answer)
    → IsGraph g → IsTable t → t.profile ≡ g.profile → GroupFits g faults → length rows ≤ most_cycles → IsReference t g rows others
    → (rerun t g faults rows others given).too_few ≡ false → AllRight (rerun t g faults rows others given).calls
    → (rerun t g faults rows others given).verdict ≡ verdict_of t g faults rows
verdicts_are_read laws t g faults rows others given graph table profile fits few reference enough right =
    sym
    (runs_read laws t g faults rows (record { graph = graph; table = table; profile = profile }) rows others 0 no_words (initial_words g t.seed) []
    (initial_words g t.seed) given (λ i h. refl) (record { all = reference.all; right = reference.right }) (omega (arith, few))
    (record {
      before = no_frame;
      values = initial g;
      plain = initial g;
      law = λ cycles run. laws.runs t g (acts_of faults) rows cycles graph table profile (λ n. laws.groups g faults n fits.fits) run;
      hold = laws.first g t.seed t.step graph;
      verdict = refl;
    })
    enough right)
