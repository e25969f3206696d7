-- Worked rows of what ROWS come to, computed by the definitions alone.
use Rattle.std.proofs.Common.{◌≡◌, refl, false, List, [], ◌∷◌, None, codes}
use Rattle.vcp_base.specs.declared.columns.Column.{Column}
use Rattle.vcp_base.specs.declared.ty.Ty.TheVariants as ty
use Rattle.vcp_outside.specs.Held.{Held}
use Rattle.vcp_inputs.specs.Forms.{file, cycles}
use Rattle.input_rows.specs.declared.fault.RowFault.TheVariants as row
use Rattle.vcp_inputs.specs.declared.refusal.Refusal.TheVariants as refusal
use Rattle.vcp_inputs.specs.RowsOutcome.{rows_outcome, lacking, refused, opened}

-- one column, x of type DINT
abbrev x : List Column
x = record { name = codes "x"; ty = ty.Dint } ∷ []

abbrev holding_nothing : Held
holding_nothing name = None

a_file_without_columns : rows_outcome (file (codes "r")) holding_nothing [] ≡ refused (refusal.Rows row.Form)
a_file_without_columns = refl

a_lacking_file : rows_outcome (file (codes "r")) holding_nothing x ≡ lacking
a_lacking_file = refl

cycles_with_columns : rows_outcome (cycles 2) holding_nothing x ≡ refused (refusal.Rows row.Form)
cycles_with_columns = refl

two_cycles : rows_outcome (cycles 2) holding_nothing [] ≡ opened (record { types = []; rows = [] ∷ [] ∷ []; refusal = None; ended = false })
two_cycles = refl
