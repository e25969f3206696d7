-- TextFaults: why a text isn't taken that was read, as code says it: its first fault, under the name of its file; or memory was wanted.
use Rattle.std.specs.Prelude.{ℕ, ◌≡◌, ◌≢◌, List, Err}
use Rattle.op_graph.specs.Lists.{Lists}
use Rattle.fault_script.specs.declared.act.Fault.{Fault as FaultOf}
use Rattle.pictures.specs.RunOf.{run_of}
use Rattle.pictures.specs.declared.waves.fault.RunTextFault.TheVariants as run_fault
use Rattle.verdict_tables.specs.Reading.{verdicts_in}
use Rattle.verdict_tables.specs.declared.fault.VerdictsFault.TheVariants as verdicts_fault
use Rattle.vcp_study_core.specs.declared.fault.Fault.{Fault}
use Rattle.vcp_study_core.specs.declared.fault.Fault.TheVariants as fault
use Rattle.vcp_study_core.specs.declared.fault.StudyRefusal.TheVariants as why

-- it is no run
abbrev pub IsNoRun : List ℕ → List ℕ → Fault → Type 0
IsNoRun name text (fault.Refused n (why.Run f)) = (n.now ≡ name) × (f ≢ run_fault.Memory) × (run_of text ≡ Err f)
IsNoRun name text fault.Memory = Unit {0}
IsNoRun name text _ = ⊥

-- it doesn't have the verdicts of these groups
abbrev pub IsUntold : Lists → List (List FaultOf) → List ℕ → List ℕ → Fault → Type 0
IsUntold g groups name text (fault.Refused n (why.Verdicts f)) = (n.now ≡ name) × (f ≢ verdicts_fault.Memory) × (verdicts_in g groups text ≡ Err f)
IsUntold g groups name text fault.Memory = Unit {0}
IsUntold g groups name text _ = ⊥
