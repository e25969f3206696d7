-- HonestVerdicts: the verdict of a pair whose first channel's answers keep the run law is the defined one, as a pair tells it.
use Rattle.std.proofs.Common.{◌≡◌, ◌≢◌, ℕ, suc, ◌+◌, ◌≤◌, ◌==◌, ◌&&◌, Bool, true, false, cond, List, [], ◌∷◌, length, Option, Some, None, option_map, All, ℤ, refl, sym, ap, subst, ◌∙◌, arith}
use Rattle.vcp_base.specs.declared.kind.StopKind.{StopKind}
use Rattle.vcp_base.specs.Differences.{Difference, first_difference}
use Rattle.vcp_base.specs.Kinds.{same_stop}
use Rattle.vcp_base.specs.Limits.{most_cycles}
use Rattle.coded_unit.specs.declared.call.Answer.{Answer}
use Rattle.op_graph.specs.GraphRun.{Cycle, Stop, cycle, outputs, stored}
use Rattle.op_graph.specs.Lists.{Lists}
use Rattle.op_graph.specs.Rules.{IsGraph}
use Rattle.signature_table.specs.Signatures.{Numbers, IsTable}
use Rattle.coded_machine.specs.declared.cycle_end.CycleEnd.{CycleEnd}
use Rattle.coded_machine.specs.CycleEnds.{outputs_of, stored_words}
use Rattle.coded_machine.specs.Honest.{end_at, end_for}
use Rattle.fault_script.specs.declared.act.Fault.{Fault}
use Rattle.fault_script.specs.Changes.{acts_of}
use Rattle.fault_script.specs.Differences.{Frame}
use Rattle.fault_script.specs.Fits.{Fits}
use Rattle.fault_injector.specs.Accepted.{RefusedAt, first_unaccepted, ending, EndsAreRead, OutputsAreRead}
use Rattle.fault_injector.specs.FaultRun.{begun, cycle_under, cycles_from, operation_stop, outside, stop_or, stop_under, unless_stopped}
use Rattle.fault_injector.specs.RunLaw.{CycleKept, RunKept}
use Rattle.fault_injector.specs.declared.verdicts.Verdict.{Verdict}
use Rattle.fault_injector.specs.declared.verdicts.Verdict.TheVariants as verdict
use Rattle.fault_injector.specs.Verdicts.{judged, judged_cycle, verdict_or, compared, plain_cycles}
use Rattle.pair_channel.specs.declared.pair_end.PairEnd.{PairEnd}
use Rattle.pair_channel.specs.declared.pair_end.PairEnd.TheVariants as pair
use Rattle.pair_channel.specs.Beside.{AllBeside, beside, beside_end}
use Rattle.pair_channel.specs.PairEnds.{both, released_unless}
use Rattle.pair_channel.specs.PairRuns.{PairOutcome, pair_then, unless_over}
use Rattle.fault_injector.specs.PairVerdicts.{told_verdict, verdict_at}

-- what is known of the graph, the numbers of its code and the faults
pub record Known (t : Numbers) (g : Lists) (faults : List Fault) : Type 0 where
  pub graph : IsGraph g
  pub table : IsTable t
  pub profile : t.profile ≡ g.profile
  pub fits : All (Fits g) faults

-- ---- one cycle

-- what the pair's end of cycle n is beside the verdict of that cycle: a release where there is none, and else an end with that verdict
abbrev pub Tells : ℕ → PairEnd → Option Verdict → Type 0
Tells n e None = e ≡ pair.Released
Tells n e (Some v) = (e ≢ pair.Released) × (verdict_at n e ≡ told_verdict v)

stop_tells : (n k : ℕ) (why : StopKind) (x y : CycleEnd) (b c : Bool) → b ≡ c →
    Tells n (cond b (pair.Stopped k why) (pair.Parted x y)) (Some (cond c verdict.Same (verdict.Stopped n k why)))
stop_tells n k why x y true true is = (λ e. cc, refl)
stop_tells n k why x y false false is = (λ e. cc, refl)
stop_tells n k why x y true false is = absurd cc
stop_tells n k why x y false true is = absurd cc

release_tells : (n : ℕ) (x : Option Difference) → Tells n (released_unless x) (judged n None None None x)
release_tells n None = refl
release_tells n (Some d) = (λ e. cc, refl)

-- the stop that a cycle of so many values has
abbrev stop_there : ℕ → Option StopKind → Option Stop
stop_there k x = option_map (λ why. record { op = k; kind = why }) x

ends_tell : (n : ℕ) (s : Option Stop) (r : Option RefusedAt) (k : ℕ) (x : Option StopKind) (row other : List ℤ) (w : Option Difference) →
    (s ≡ None → first_difference row other 0 ≡ w) → Tells n (both (ending s r) (end_at k x) row other) (judged n s r (stop_there k x) w)
ends_tell n (Some s) r k None row other w h = (λ e. cc, refl)
ends_tell n (Some s) r k (Some why) row other w h =
    stop_tells n s.op s.kind _ _ (s.op == k && same_stop s.kind why) (s.op == k && same_stop s.kind why) refl
ends_tell n None (Some r) k None row other w h = (λ e. cc, refl)
ends_tell n None (Some r) k (Some why) row other w h = (λ e. cc, refl)
ends_tell n None None k (Some why) row other w h = (λ e. cc, refl)
ends_tell n None None k None row other w h =
    subst (λ (x : Option Difference). Tells n (released_unless (first_difference row other 0)) (judged n None None None x)) (h refl)
    (release_tells n (first_difference row other 0))

-- so of a cycle whose answers keep the run law, beside the graph's
cycle_tells : EndsAreRead → OutputsAreRead → (t : Numbers) (g : Lists) (faults : List Fault) → Known t g faults → (n : ℕ) (past : Frame)
    (values held row : List ℤ) (answers : List Answer) (o : Cycle) → suc n ≤ most_cycles →
    CycleKept (begun t g (acts_of faults) n past values row) held answers →
    Tells n (beside_end g t n answers o) (judged_cycle t g (acts_of faults) n (cycle_under (begun t g (acts_of faults) n past values row)) o)
cycle_tells ends_read outputs_read t g faults k n past values held row answers o few kept =
    let acts = acts_of faults in
    let b = begun t g acts n past values row in
    let c : Cycle = cycle_under b in
    let s = stop_under g c in
    let r = first_unaccepted t g acts n 0 g.outputs in
    let other = outputs g o.values in
    let w = first_difference (outputs g c.values) other 0 in
    let end_is = ends_read t g acts n past values row answers k.graph k.table k.profile (omega (arith, few)) kept.answers_are in
    let row_is = outputs_read t g acts n past values row answers k.graph k.table k.profile (omega (arith, few)) kept.answers_are in
    let found : s ≡ None → first_difference (outputs_of g answers) other 0 ≡ w =
    λ none. ap (λ (xs : List ℤ). first_difference xs other 0) (row_is none) in
    subst (λ (x : CycleEnd). Tells n (both x (end_for o) (outputs_of g answers) other) (judged n s r (operation_stop o) w)) (sym end_is)
    (ends_tell n s r (length o.values) o.stop (outputs_of g answers) other w found)

-- ---- whole runs

none_judged : (n : ℕ) (s : Option Stop) (r : Option RefusedAt) (o : Option Stop) (w : Option Difference) → judged n s r o w ≡ None → (s ≡ None) × (o ≡ None)
none_judged n (Some s) r o w h = absurd cc
none_judged n None (Some r) o w h = absurd cc
none_judged n None None (Some o) w h = absurd cc
none_judged n None None None (Some w) h = absurd cc
none_judged n None None None None h = (refl, refl)

no_stop_first : (s o : Option Stop) → stop_or s o ≡ None → s ≡ None
no_stop_first (Some s) o e = absurd cc
no_stop_first None o e = refl

no_kind : (k : ℕ) (x : Option StopKind) → stop_there k x ≡ None → x ≡ None
no_kind k None e = refl
no_kind k (Some why) e = absurd cc

-- after a cycle with this verdict, or none
ended_tells : (n : ℕ) (e : PairEnd) (v : Verdict) (row : List ℤ) (later : PairOutcome) → e ≢ pair.Released → verdict_at n e ≡ told_verdict v →
    verdict_at (n + length (pair_then e row later).rows) (pair_then e row later).end ≡ told_verdict v
ended_tells n pair.Released v row later other is = absurd (other refl)
ended_tells n (pair.Stopped op why) v row later other is = is
ended_tells n (pair.Parted x y) v row later other is =
    let here : n + 0 ≡ n = omega arith in ap (λ k. verdict_at k (pair.Parted x y)) here ∙ is
ended_tells n (pair.Differ i x y) v row later other is =
    let here : n + 0 ≡ n = omega arith in ap (λ k. verdict_at k (pair.Differ i x y)) here ∙ is

next_tells : (n : ℕ) (e : PairEnd) (j : Option Verdict) (row : List ℤ) (later : PairOutcome) (next : Verdict) → Tells n e j →
    (e ≡ pair.Released → j ≡ None → verdict_at (suc n + length later.rows) later.end ≡ told_verdict next) →
    verdict_at (n + length (pair_then e row later).rows) (pair_then e row later).end ≡ told_verdict (verdict_or j next)
next_tells n e (Some v) row later next h goes_on = ended_tells n e v row later h.0 h.1
next_tells n e None row later next h goes_on =
    let many : n + length (row ∷ later.rows) ≡ suc n + length later.rows = omega arith in
    ap (λ (x : PairEnd). verdict_at (n + length (pair_then x row later).rows) (pair_then x row later).end) h
    ∙ (ap (λ k. verdict_at k later.end) many ∙ goes_on h refl)

-- The verdict that is read off the first channel's answers beside the graph's run is the defined one, as a pair tells it, where these answers keep
-- the run law.
pub read_is_told : EndsAreRead → OutputsAreRead → (t : Numbers) (g : Lists) (faults : List Fault) → Known t g faults → (n : ℕ) (past : Frame)
    (values plain held : List ℤ) (rows : List (List ℤ)) (cycles : List (List Answer)) → n + length rows ≤ most_cycles →
    RunKept t g (acts_of faults) n past values held rows cycles → AllBeside g t n plain rows cycles →
    verdict_at (n + length (beside g t n plain rows cycles).rows) (beside g t n plain rows cycles).end
    ≡ told_verdict (compared t g (acts_of faults) n (cycles_from t g (acts_of faults) n past values rows) (plain_cycles g plain rows))
read_is_told ends_read outputs_read t g faults k n past values plain held [] [] few kept all = refl
read_is_told ends_read outputs_read t g faults k n past values plain held [] (answers ∷ cycles) few kept all = absurd all
read_is_told ends_read outputs_read t g faults k n past values plain held (row ∷ rows) [] few kept all = absurd all
read_is_told ends_read outputs_read t g faults k n past values plain held (row ∷ rows) (answers ∷ cycles) few kept all =
    let acts = acts_of faults in
    let c : Cycle = cycle_under (begun t g acts n past values row) in
    let o : Cycle = cycle g plain row in
    let e = beside_end g t n answers o in
    let s = stop_under g c in
    let j = judged_cycle t g acts n c o in
    let later = beside g t (suc n) (stored g o.values) rows cycles in
    let under = cycles_from t g acts (suc n) (record { held = values; given = c.values }) (stored g c.values) rows in
    let beside_it = plain_cycles g (stored g o.values) rows in
    let after : List Cycle → List Cycle → Verdict = λ xs ys. compared t g acts (suc n) xs ys in
    next_tells n e j (outputs_of g answers) later (after (unless_stopped s under) (unless_stopped (operation_stop o) beside_it))
    (cycle_tells ends_read outputs_read t g faults k n past values held row answers o (omega (arith, few)) kept.0)
    (λ released none.
    let nones = none_judged n s (first_unaccepted t g acts n 0 g.outputs) (operation_stop o) (first_difference (outputs g c.values) (outputs g o.values) 0) none in
    let going : c.stop ≡ None = no_kind (length c.values) c.stop (no_stop_first (operation_stop c) (outside c.values g.outputs) nones.0) in
    let rest = subst (λ (x : PairEnd). unless_over x (AllBeside g t (suc n) (stored g o.values) rows cycles) (cycles ≡ [])) released all.1 in
    read_is_told ends_read outputs_read t g faults k (suc n) (record { held = values; given = c.values }) (stored g c.values) (stored g o.values)
    (stored_words g answers) rows cycles (omega (arith, few)) (kept.1 going) rest
    ∙ ap told_verdict
    (ap (λ (x : Option Stop). after (unless_stopped x under) beside_it) (sym nones.0)
    ∙ ap (λ (x : Option Stop). after (unless_stopped s under) (unless_stopped x beside_it)) (sym nones.1)))
