-- Texts that are no scripts.
use Rattle.std.proofs.Common.{ℕ, ◌≡◌, ◌≢◌, List, Err}
use Rattle.op_graph.specs.Lists.{Lists}
use Rattle.fault_script.specs.declared.script_fault.ScriptFault.{ScriptFault}
use Rattle.fault_script.specs.declared.script_fault.ScriptFault.TheVariants as script
use Rattle.fault_script.specs.ScriptOf.{script_of}
use Rattle.vcp_inputs.specs.Files.{Untaken}
use Rattle.vcp_inputs.specs.Refusals.{unscripted}
use Rattle.vcp_inputs.specs.Scripts.{NotScript, no_script}

-- the script's fault is told
pub script_refuses : (g : Lists) (text : List ℕ) (f : ScriptFault) → (f ≢ script.Memory → script_of g text ≡ Err f) → Untaken (NotScript g text) (unscripted f)
script_refuses g text (script.Form line) why = no_script (script.Form line) (λ e. cc) (why (λ e. cc))
script_refuses g text (script.Site line) why = no_script (script.Site line) (λ e. cc) (why (λ e. cc))
script_refuses g text (script.Early line) why = no_script (script.Early line) (λ e. cc) (why (λ e. cc))
script_refuses g text (script.Kind line) why = no_script (script.Kind line) (λ e. cc) (why (λ e. cc))
script_refuses g text (script.Group line) why = no_script (script.Group line) (λ e. cc) (why (λ e. cc))
script_refuses g text (script.Twice line) why = no_script (script.Twice line) (λ e. cc) (why (λ e. cc))
script_refuses g text (script.Faults line) why = no_script (script.Faults line) (λ e. cc) (why (λ e. cc))
script_refuses g text script.Memory why = tt
