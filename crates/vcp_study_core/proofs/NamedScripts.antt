-- NamedScripts: the script of lines that name faults.
use Rattle.std.proofs.Common.{◌≡◌, ℕ, ◌≤◌, ◌^◌, List, length, All, Ok, ap, sym, subst, ◌∙◌, arith}
use Rattle.op_graph.specs.Rules.{IsGraph}
use Rattle.fault_sites.specs.NamedEntries.{most_named_bytes, checked, text_of_script}
use Rattle.fault_sites.specs.NamedLaws.{Compiled, IsCompiled, IsShortEnough}
use Rattle.vcp_inputs.specs.declared.images.Image.{Image}
use Rattle.vcp_study_core.specs.Parts.{digits}
use Rattle.vcp_study_core.specs.Texts.{IsNamedScript}

-- the script of a text that is taken
pub is_script : IsCompiled → IsShortEnough → (i : Image) (digest named : List ℕ)
    → digest ≡ digits i → All (λ b. 32 ≤ b) digest → length digest ≡ 64
    → IsGraph i.graph → length named ≤ most_named_bytes → checked digest i.graph named ≡ Ok tt
    → IsNamedScript i named (text_of_script digest i.graph named)
is_script read short i digest named same plain count graph small is =
    let few : length i.graph.operations ≤ 2 ^ 32 = omega (arith, graph.part.few_operations) in
    record {
      taken = ap (λ d. checked d i.graph named) (sym same) ∙ is;
      told = ap (λ d. text_of_script d i.graph named) same;
      compiled = subst (λ d. Compiled d i.graph named) same (read digest i.graph named plain few is);
      short = short digest i.graph named (omega (arith, count)) few small is;
    }
