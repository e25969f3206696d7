-- Ended: all that a run is known to leave, at each of its ends.
use Rattle.std.proofs.Common.{ℕ, ◌≡◌, ◌≢◌, ◌<◌, ◌≤◌, subst, sym, ◌∙◌, ℤ, List, length, refl, Result, Ok, Err}
use Rattle.std.proofs.Math.Nat.{le_of_eq}
use Rattle.vcp_base.specs.declared.kind.StopKind.{StopKind}
use Rattle.vcp_outside.specs.Counts.{Rose}
use Rattle.input_rows.specs.RowsOf.{RowsLeft}
use Rattle.op_graph.specs.Laws.{EntryLaws}
use Rattle.op_graph.specs.Lists.{Lists}
use Rattle.op_graph.specs.Rules.{IsGraph}
use Rattle.signature_table.specs.Signatures.{Numbers}
use Rattle.coded_machine.specs.declared.cycle_end.CycleEnd.{CycleEnd}
use Rattle.coded_machine.specs.declared.cycle_end.CycleEnd.TheVariants as end
use Rattle.coded_machine.specs.CycleEnds.{Cause}
use Rattle.coded_machine.specs.Runs.{Turn}
use Rattle.coded_machine.specs.State.{State}
use Rattle.coded_machine.specs.declared.rows.fault.RunFault.{RunFault}
use Rattle.coded_machine.specs.declared.rows.fault.RunFault.TheVariants as fault
use Rattle.coded_machine.specs.Leaves.{Leaves}
use Rattle.coded_machine.specs.Moments.{Moment}
use Rattle.coded_machine.specs.Stops.{GrowsToStop}
use Rattle.coded_machine.proofs.Exits.{refused_rose}
use Rattle.coded_machine.proofs.Stopping.{stopped_counted, stop_placed, refusal_numbered}
use Rattle.coded_machine.proofs.UpTo.{UpTo}

-- what a run leaves, and what is known of its sink's count and of its last cycle
pub record Ended (g : Lists) (t : Numbers) (left : RowsLeft) (text : ℕ → List ℤ → List ℕ) (b a : Moment) (kept_before kept_after : List (List ℤ) → Type 0)
    (m : State) (result : Result CycleEnd RunFault) : Type 0 where
  pub leaves : Leaves g t left text b a kept_before kept_after m result
  pub later : b.out.faults ≤ a.out.faults
  pub stayed : result ≢ Err fault.Write → a.out.faults ≡ b.out.faults
  pub stopped : (k : ℕ) (why : StopKind) → result ≡ Ok (end.Stopped k why) → GrowsToStop b.unit.log a.unit.log m.cycles k why
  pub placed : (k : ℕ) (why : StopKind) → result ≡ Ok (end.Stopped k why) → k < length g.operations
  pub refused : (i found expected : ℕ) → result ≡ Ok (end.Refused i found expected) → Rose b.unit.wrong a.unit.wrong
  pub numbered : (i found expected : ℕ) → result ≡ Ok (end.Refused i found expected) → i < length g.outputs

-- a run that was given up
pub given_up : (g : Lists) (t : Numbers) (left : RowsLeft) (text : ℕ → List ℤ → List ℕ) (b a : Moment) (kept_before kept_after : List (List ℤ)
    → Type 0) (m : State) (f : RunFault) (result : Result CycleEnd RunFault) → result ≡ Err f → Leaves g t left text b a kept_before kept_after m (Err f)
    → b.out.faults ≤ a.out.faults → (result ≢ Err fault.Write → a.out.faults ≡ b.out.faults)
    → Ended g t left text b a kept_before kept_after m result
given_up g t left text b a kept_before kept_after m f result is leaves later stayed = record {
  leaves = subst (Leaves g t left text b a kept_before kept_after m) (sym is) leaves;
  later = later;
  stayed = stayed;
  stopped = λ k why h. absurd (cc (is, h));
  placed = λ k why h. absurd (cc (is, h));
  refused = λ i found expected h. absurd (cc (is, h));
  numbered = λ i found expected h. absurd (cc (is, h));
}

-- a run that came to its last row
pub at_last_row : (g : Lists) (t : Numbers) (left : RowsLeft) (text : ℕ → List ℤ → List ℕ) (b a : Moment) (kept_before kept_after : List (List ℤ)
    → Type 0) (m : State) → Leaves g t left text b a kept_before kept_after m (Ok end.Released) → a.out.faults ≡ b.out.faults
    → Ended g t left text b a kept_before kept_after m (Ok end.Released)
at_last_row g t left text b a kept_before kept_after m leaves same = record {
  leaves = leaves;
  later = le_of_eq (sym same);
  stayed = λ other. same;
  stopped = λ k why h. absurd (cc h);
  placed = λ k why h. absurd (cc h);
  refused = λ i found expected h. absurd (cc h);
  numbered = λ i found expected h. absurd (cc h);
}

same_end : (result : Result CycleEnd RunFault) (e x : CycleEnd) → result ≡ Ok e → result ≡ Ok x → e ≡ x
same_end result e x is h = cc

-- a run that came to a cycle that isn't released
pub at_cycle : EntryLaws
    → (g : Lists) (t : Numbers) (left rest : RowsLeft) (text : ℕ → List ℤ → List ℕ) (b n a : Moment) (kept_before kept_now kept_after : List (List ℤ)
    → Type 0) (m o : State) (row : List ℤ) (e : CycleEnd) → IsGraph g → UpTo g t left rest text b n kept_before kept_now m
    → Turn m o row e n.unit.log a.unit.log n.unit.wrong a.unit.wrong → Cause m.graph m.table m.cycles o.answers e
    → Leaves g t left text b a kept_before kept_after o (Ok e) → a.out.faults ≡ n.out.faults
    → Ended g t left text b a kept_before kept_after o (Ok e)
at_cycle laws g t left rest text b n a kept_before kept_now kept_after m o row e graph u turn cause leaves same =
    let here : IsGraph m.graph = subst IsGraph (sym u.run.graph) graph in
    let end_is : (x : CycleEnd) → Ok e ≡ Ok x → e ≡ x = λ x h. same_end (Ok e) e x refl h in
    record {
      leaves = leaves;
      later = le_of_eq (sym (same ∙ u.faults));
      stayed = λ other. same ∙ u.faults;
      stopped = λ k why h. stopped_counted laws m o row e k why _ _ _ _ _ _ here turn cause (end_is (end.Stopped k why) h) u.run.carried.told;
      placed = λ k why h.
          subst (λ (x : Lists). k < length x.operations) u.run.graph
          (stop_placed laws m.graph m.table m.cycles o.answers e k why here turn.whole cause (end_is (end.Stopped k why) h));
      refused = λ i found expected h. refused_rose g t left text b a (Ok e) i found expected h leaves.run;
      numbered = λ i found expected h.
          subst (λ (x : Lists). i < length x.outputs) u.run.graph
          (refusal_numbered m.graph m.table m.cycles o.answers e i found expected cause (end_is (end.Refused i found expected) h));
    }
