-- Told: what is told of a refusal, as a value.
use Rattle.std.specs.Prelude.{ℕ, List, [], ◌∷◌, ◌++◌, Option, None, decimal, codes}
use Rattle.vcp_inputs.specs.Lines.{Diagnostic, diagnostic}
use Rattle.vcp_inputs.specs.declared.diagnostics.Told.{Told}
use Rattle.vcp_inputs.specs.declared.diagnostics.Told.TheVariants as told

abbrev pub as_diagnostic : Told → Option Diagnostic
as_diagnostic (told.Whole what) = diagnostic [] what.now
as_diagnostic (told.Place place what) = diagnostic (place ∷ []) what.now
as_diagnostic (told.Pair line column what) = diagnostic (line ∷ column ∷ []) what.now
as_diagnostic (told.Correction offset stored expected) =
    diagnostic (offset ∷ []) (codes "I6 Table stored " ++ (decimal stored ++ (codes " expected " ++ decimal expected)))
as_diagnostic told.Memory = None

-- the same as it is written, behind the file's name
abbrev pub told_text : Told → List ℕ
told_text (told.Whole what) = codes " " ++ what.now
told_text (told.Place place what) = codes ":" ++ (decimal place ++ (codes " " ++ what.now))
told_text (told.Pair line column what) = codes ":" ++ (decimal line ++ (codes ":" ++ (decimal column ++ (codes " " ++ what.now))))
told_text (told.Correction offset stored expected) =
    codes ":" ++ (decimal offset ++ (codes " I6 Table stored " ++ (decimal stored ++ (codes " expected " ++ decimal expected))))
told_text told.Memory = []
