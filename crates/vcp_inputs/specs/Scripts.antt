-- Scripts: the script that a text is for a graph, and why a text is none.
use Rattle.std.specs.Prelude.{ℕ, ◌≡◌, ◌≢◌, List, Ok, Err}
use Rattle.op_graph.specs.Lists.{Lists}
use Rattle.fault_script.specs.declared.act.Fault.{Fault}
use Rattle.fault_script.specs.declared.script_fault.ScriptFault.{ScriptFault}
use Rattle.fault_script.specs.declared.script_fault.ScriptFault.TheVariants as script
use Rattle.fault_script.specs.ScriptOf.{script_of}
use Rattle.vcp_inputs.specs.declared.refusal.Refusal.{Refusal}
use Rattle.vcp_inputs.specs.declared.refusal.Refusal.TheVariants as refusal

-- these are the groups of the text, over the graph
abbrev pub ScriptOf : Lists → List ℕ → List (List Fault) → Type 0
ScriptOf g text groups = script_of g text ≡ Ok groups

-- the text is no script for the graph: this is its first refused line, and why
pub data NotScript (g : Lists) (text : List ℕ) : Refusal → Type 0 where
  no_script : (f : ScriptFault) → f ≢ script.Memory → script_of g text ≡ Err f → NotScript g text (refusal.Script f)
