-- AcceptedRuns: which outputs are released in a run under a group of faults, over a unit that carries them out around an honest one.
use Rattle.std.specs.Prelude.{◌≡◌, ◌≤◌, ◌↔◌, ℕ, ℤ, List, [], ◌∷◌, length, slice_get, Some, None}
use Rattle.vcp_base.specs.Limits.{most_cycles}
use Rattle.coded_unit.specs.declared.call.Answer.{Answer}
use Rattle.op_graph.specs.declared.op.Outlet.{Outlet}
use Rattle.op_graph.specs.GraphRun.{Cycle}
use Rattle.op_graph.specs.Lists.{Lists}
use Rattle.op_graph.specs.Rules.{IsGraph}
use Rattle.signature_table.specs.Signatures.{Numbers, IsTable}
use Rattle.coded_machine.specs.declared.cycle_end.CycleEnd.TheVariants as end
use Rattle.coded_machine.specs.CycleEnds.{end_of, initial_words}
use Rattle.fault_script.specs.declared.act.Fault.{Fault}
use Rattle.fault_script.specs.Changes.{Acts, acts_of, none_kept}
use Rattle.fault_script.specs.Groups.{GroupFits}
use Rattle.fault_injector.specs.Accepted.{Accepted, RefusedAt, first_unaccepted}
use Rattle.fault_injector.specs.FaultRun.{fault_run, stop_under}
use Rattle.fault_injector.specs.ScriptedRun.{ScriptedRun}

-- each of these outputs is accepted in cycle n
abbrev pub AllAccepted : Numbers → Lists → Acts → ℕ → List Outlet → Type 0
AllAccepted t g acts n [] = Unit {0}
AllAccepted t g acts n (o ∷ outputs) = Accepted t g acts n o × AllAccepted t g acts n outputs

-- A cycle of a run under faults ends, as the machine reads it off these answers, by a release exactly where every output is accepted, and by
-- the refusal of an output, with both residues, exactly where that is the first that is not.
pub record EndsByAccepted (t : Numbers) (g : Lists) (faults : List Fault) (n : ℕ) (answers : List Answer) : Type 0 where
  pub released : (end_of g t n answers ≡ end.Released) ↔ AllAccepted t g (acts_of faults) n g.outputs
  pub refused : (r : RefusedAt) →
      (end_of g t n answers ≡ end.Refused r.output r.found r.expected) ↔ (first_unaccepted t g (acts_of faults) n 0 g.outputs ≡ Some r)

-- So of each group of faults that fits a graph, over any rows, in each cycle that the run under it reaches and ends without a stop, for the
-- answers of a scripted unit around an honest one.
abbrev pub AcceptedIsReleased : Type 0
AcceptedIsReleased =
    (t : Numbers) (g : Lists) (faults : List Fault) (rows : List (List ℤ)) (cycles : List (List Answer)) → IsGraph g → IsTable t → t.profile ≡ g.profile →
    GroupFits g faults → length rows ≤ most_cycles → ScriptedRun t g faults 0 (none_kept faults) (initial_words g t.seed) rows cycles →
    (n : ℕ) (c : Cycle) (answers : List Answer) → slice_get (fault_run t g faults rows) n ≡ Some c → stop_under g c ≡ None →
    slice_get cycles n ≡ Some answers → EndsByAccepted t g faults n answers
