-- TextFaults: a text isn't taken that was read.
use Rattle.std.proofs.Common.{◌≡◌, ℕ, All, List, length, Option, Result, Ok, Err, IfOk, IfErr, refl, ap}
use Rattle.vcp_outside.specs.Seen.{SinkSeen}
use Rattle.op_graph.specs.Lists.{Lists}
use Rattle.fault_script.specs.declared.act.Fault.{Fault as FaultOf}
use Rattle.fault_injector.specs.declared.verdicts.Verdict.{Verdict}
use Rattle.fault_injector.specs.Names.{Names}
use Rattle.pictures.specs.declared.waves.times.Period.{Period}
use Rattle.verdict_tables.specs.Reading.{verdicts_in}
use Rattle.vcp_study_core.specs.CarriedOut.{WritesSo}
use Rattle.vcp_study_core.specs.FromFiles.{fault_answer, as_found, own_answer}
use Rattle.vcp_study_core.specs.Parts.{VerdictsIn, verdicts, no_verdicts, verdicts_unmade}
use Rattle.vcp_study_core.specs.TextFaults.{IsNoRun, IsUntold}
use Rattle.vcp_study_core.specs.Texts.{Waves, no_run}
use Rattle.vcp_study_core.specs.declared.fault.Fault.{Fault}
use Rattle.vcp_study_core.specs.declared.fault.Fault.TheVariants as fault
use Rattle.vcp_study_core.specs.declared.fault.StudyRefusal.TheVariants as why
use Rattle.vcp_study_core.proofs.Facts.{appends-nothing}
use Rattle.vcp_study_core.proofs.Carrying.{no_memory, refused}

-- it is no run, and nothing is drawn
pub unrun : (period : Option Period) (name text : List ℕ) (old : SinkSeen) (e : Fault) → IsNoRun name text e
    → WritesSo (Waves period name text) old old (fault_answer e).err (fault_answer e).status
unrun period name text old (fault.Refused n (why.Run f)) (same, not_memory, is) =
    refused (Waves period name text) old old (own_answer n.now (why.Run f)) (no_run f not_memory is (ap (λ m. own_answer m (why.Run f)) same)) refl refl
    (appends-nothing old.written)
unrun period name text old fault.Memory h = no_memory (Waves period name text) old old (appends-nothing old.written)
unrun period name text old _ h = absurd h

-- what the text tells of verdicts
untold : (g : Lists) (groups : List (List FaultOf)) (name text : List ℕ) (e : Fault) → IsUntold g groups name text e
    → VerdictsIn g groups name text (as_found (Err e))
untold g groups name text (fault.Refused n (why.Verdicts f)) (same, not_memory, is) = rw same (no_verdicts f not_memory is)
untold g groups name text fault.Memory h = verdicts_unmade
untold g groups name text _ h = absurd h

pub told_in : (g : Lists) (groups : List (List FaultOf)) (name text : List ℕ) (r : Result (List Verdict) Fault)
    → IfOk r (λ vs. verdicts_in g groups text ≡ Ok vs) → IfOk r (All (Names (length g.outputs) (length g.operations))) → IfOk r (λ vs. length vs ≡ length groups)
    → IfErr r (IsUntold g groups name text) → VerdictsIn g groups name text (as_found r)
told_in g groups name text (Ok vs) is named many lacks = verdicts vs (record { read = is; names = named; many = many })
told_in g groups name text (Err e) is named many lacks = untold g groups name text e lacks
