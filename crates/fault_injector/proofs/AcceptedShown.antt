-- AcceptedShown: the machine's end of each cycle of a run under a group of faults goes by which outputs are accepted.
use Rattle.std.proofs.Common.{ℕ, ℤ, zero, suc, ◌≡◌, ◌<◌, ◌+◌, ◌==◌, Bool, true, false, cond, refl, sym, ap, subst, ◌∙◌, List, [], ◌∷◌, length, slice_get}
use Rattle.std.proofs.Common.{Option, Some, None, option_map, arith}
use Rattle.std.proofs.lemmas.Bool.Decides.{nat_tests}
use Rattle.vcp_base.specs.Limits.{most_cycles}
use Rattle.vcp_base.specs.declared.kind.StopKind.{StopKind}
use Rattle.coded_unit.specs.Words.{modulo}
use Rattle.coded_unit.specs.declared.call.Answer.{Answer}
use Rattle.op_graph.specs.declared.op.Outlet.{Outlet}
use Rattle.op_graph.specs.GraphRun.{Cycle, Stop, initial, stored}
use Rattle.op_graph.specs.Lists.{Lists}
use Rattle.signature_table.specs.Signatures.{Numbers, expected}
use Rattle.coded_machine.specs.CycleEnds.{end_of, initial_words, stored_words}
use Rattle.coded_machine.specs.declared.cycle_end.CycleEnd.TheVariants as end
use Rattle.fault_script.specs.Changes.{Acts, acts_of}
use Rattle.fault_script.specs.Differences.{Frame, difference_at, no_frame}
use Rattle.fault_injector.specs.Accepted.{RefusedAt, first_unaccepted, residue_under}
use Rattle.fault_injector.specs.FaultRun.{begun, cycle_under, cycles_from, outside, stop_or, stop_under, unless_stopped}
use Rattle.fault_injector.specs.RunLaw.{GroupStands, RunKept, RunsKept, answers_under}
use Rattle.fault_injector.specs.ScriptedRun.{ScriptedRunsAreRight}
use Rattle.fault_injector.specs.Accepted.{EndsAreRead, ending}
use Rattle.fault_injector.specs.AcceptedRuns.{AcceptedIsReleased, AllAccepted}

-- ---- which outputs are accepted

is_zero : (m : ℕ) → (m == 0) ≡ true → m ≡ 0
is_zero zero h = refl
is_zero (suc m) h = grind (arith, nat_tests)

-- a test that holds, and nothing later
both_hold : (b : Bool) (r : RefusedAt) (later : Option RefusedAt) → cond b later (Some r) ≡ None → (b ≡ true) × (later ≡ None)
both_hold true r later h = (refl, h)
both_hold false r later h = absurd cc

module _ (t : Numbers) (g : Lists) (acts : Acts) (n : ℕ) where
  none_unaccepted : (count : ℕ) (outputs : List Outlet) → first_unaccepted t g acts n count outputs ≡ None → AllAccepted t g acts n outputs
  none_unaccepted count [] h = tt
  none_unaccepted count (o ∷ outputs) h =
      let b = both_hold (modulo t.profile (difference_at t g acts n o.op) == 0)
      (record { output = count; found = residue_under t g acts n o.op; expected = expected t.profile t.seed t.step o.op n })
      (first_unaccepted t g acts n (suc count) outputs) h in
      (is_zero (modulo t.profile (difference_at t g acts n o.op)) b.0, none_unaccepted (suc count) outputs b.1)

  all_accepted : (count : ℕ) (outputs : List Outlet) → AllAccepted t g acts n outputs → first_unaccepted t g acts n count outputs ≡ None
  all_accepted count [] h = refl
  all_accepted count (o ∷ outputs) h = rw h.0 (all_accepted (suc count) outputs h.1)

-- ---- an end that is read

ending_none : (r : Option RefusedAt) → ending None r ≡ end.Released → r ≡ None
ending_none None h = refl
ending_none (Some r) h = absurd cc

same_refusal : (s r : RefusedAt) → s.output ≡ r.output → s.found ≡ r.found → s.expected ≡ r.expected → s ≡ r
same_refusal s r outputs founds wanted =
    let make : ℕ → ℕ → ℕ → RefusedAt = λ a b c. record { output = a; found = b; expected = c } in
    ap (λ a. make a s.found s.expected) outputs ∙ ap (λ b. make r.output b s.expected) founds ∙ ap (λ c. make r.output r.found c) wanted

ending_refused : (s : Option RefusedAt) (r : RefusedAt) → ending None s ≡ end.Refused r.output r.found r.expected → s ≡ Some r
ending_refused None r h = absurd cc
ending_refused (Some s) r h =
    let output : s.output ≡ r.output = cc in
    let found : s.found ≡ r.found = cc in
    let wanted : s.expected ≡ r.expected = cc in
    ap Some (same_refusal s r output found wanted)

-- ---- to the cycle

stop_none : (stop : Option StopKind) (f : StopKind → Stop) (later : Option Stop) → stop_or (option_map f stop) later ≡ None → stop ≡ None
stop_none None f later h = refl
stop_none (Some why) f later h = absurd cc

-- the cycle that so many after cycle m is reached, with its answers
record Walked (t : Numbers) (g : Lists) (acts : Acts) (m n many : ℕ) (c : Cycle) (answers : List Answer) : Type 0 where
  number : ℕ
  number_is : number ≡ m + n
  within : number < m + many
  past : Frame
  held : List ℤ
  row : List ℤ
  cycle_is : cycle_under (begun t g acts number past held row) ≡ c
  answers_are : answers ≡ answers_under (begun t g acts number past held row) (cycle_under (begun t g acts number past held row))

-- the later cycles come where this one doesn't stop
later_there : (s : Option Stop) (later : List Cycle) (k : ℕ) (c : Cycle) → slice_get (unless_stopped s later) k ≡ Some c
    → (s ≡ None) × (slice_get later k ≡ Some c)
later_there None later k c h = (refl, h)
later_there (Some s) later k c h = absurd cc

module _ (t : Numbers) (g : Lists) (acts : Acts) where
  walk : (rows : List (List ℤ)) (cycles : List (List Answer)) (m n : ℕ) (past : Frame) (values held : List ℤ) (c : Cycle) (answers : List Answer) →
      RunKept t g acts m past values held rows cycles → slice_get (cycles_from t g acts m past values rows) n ≡ Some c →
      slice_get cycles n ≡ Some answers → Walked t g acts m n (length rows) c answers
  walk [] cycles m n past values held c answers kept there given = absurd cc
  walk (row ∷ rows) [] m n past values held c answers kept there given = absurd cc
  walk (row ∷ rows) (first ∷ cycles) m zero past values held c answers kept there given =
      let is : cycle_under (begun t g acts m past values row) ≡ c = cc in
      let same : first ≡ answers = cc in
      record {
        number = m;
        number_is = omega arith;
        within = omega arith;
        past = past;
        held = values;
        row = row;
        cycle_is = is;
        answers_are = sym same ∙ kept.0.answers_are;
      }
  walk (row ∷ rows) (first ∷ cycles) m (suc n) past values held c answers kept there given =
      let now = cycle_under (begun t g acts m past values row) in
      let on = later_there (stop_under g now)
      (cycles_from t g acts (suc m) (record { held = values; given = now.values }) (stored g now.values) rows) n c there in
      let goes : now.stop ≡ None =
      stop_none now.stop (λ why. record { op = length now.values; kind = why }) (outside now.values g.outputs) on.0 in
      let w = walk rows cycles (suc m) n (record { held = values; given = now.values }) (stored g now.values) (stored_words g first) c answers
      (kept.1 goes) on.1 given in
      record {
        number = w.number;
        number_is = omega (arith, w.number_is);
        within = omega (arith, w.within);
        past = w.past;
        held = w.held;
        row = w.row;
        cycle_is = w.cycle_is;
        answers_are = w.answers_are;
      }

pub accepted_is_released : RunsKept → GroupStands → EndsAreRead → ScriptedRunsAreRight → AcceptedIsReleased
accepted_is_released kept stands read scripted t g faults rows cycles graph table code fits few run n c answers there goes given =
    let acts : Acts = acts_of faults in
    let right = scripted t g faults rows cycles graph fits.fits run in
    let w = walk t g acts rows cycles 0 n no_frame (initial g) (initial_words g t.seed) c answers
    (kept t g acts rows cycles graph table code (λ k. stands g faults k fits.fits) right) there given in
    let at_n : w.number ≡ n = omega (arith, w.number_is) in
    let low : w.number < most_cycles = omega (arith, w.within, few) in
    let stop : stop_under g (cycle_under (begun t g acts w.number w.past w.held w.row)) ≡ None =
    subst (λ (d : Cycle). stop_under g d ≡ None) (sym w.cycle_is) goes in
    let there_it_ends : end_of g t w.number answers ≡ ending None (first_unaccepted t g acts w.number 0 g.outputs) =
    read t g acts w.number w.past w.held w.row answers graph table code low w.answers_are
    ∙ ap (λ (s : Option Stop). ending s (first_unaccepted t g acts w.number 0 g.outputs)) stop in
    let ends : end_of g t n answers ≡ ending None (first_unaccepted t g acts n 0 g.outputs) =
    subst (λ (k : ℕ). end_of g t k answers ≡ ending None (first_unaccepted t g acts k 0 g.outputs)) at_n there_it_ends in
    record {
      released = (
        λ h. none_unaccepted t g acts n 0 g.outputs (ending_none (first_unaccepted t g acts n 0 g.outputs) (sym ends ∙ h)),
        λ h. ends ∙ ap (ending None) (all_accepted t g acts n 0 g.outputs h),
      );
      refused = λ r. (
        λ h. ending_refused (first_unaccepted t g acts n 0 g.outputs) r (sym ends ∙ h),
        λ h. ends ∙ ap (ending None) h,
      );
    }
