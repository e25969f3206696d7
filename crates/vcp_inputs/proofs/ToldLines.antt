-- ToldLines: the line of what is told of a file, piece by piece.
use Rattle.std.proofs.Common.{◌≡◌, ℕ, List, ◌++◌, codes, refl, append_assoc}
use Rattle.vcp_inputs.specs.Lines.{diagnostic_text}
use Rattle.vcp_inputs.specs.Told.{as_diagnostic, told_text}
use Rattle.vcp_inputs.specs.declared.diagnostics.Told.{Told}
use Rattle.vcp_inputs.specs.declared.diagnostics.Told.TheVariants as told

pub told_line : (name : List ℕ) (t : Told) → (t ≡ told.Memory → ⊥) → diagnostic_text name (as_diagnostic t) ≡ name ++ told_text t ++ codes "\n"
told_line name (told.Whole what) some = simp append_assoc
told_line name (told.Place place what) some = simp append_assoc
told_line name (told.Pair line column what) some = simp append_assoc
told_line name (told.Correction offset stored expected) some = simp append_assoc
told_line name told.Memory some = absurd (some refl)
