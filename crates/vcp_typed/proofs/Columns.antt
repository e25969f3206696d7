-- Columns: the columns of the inputs, and of the outputs, as those of one section.
use Rattle.std.proofs.Common.{◌≡◌, cond, List, [], ◌∷◌, refl, ap}
use Rattle.vcp_base.specs.declared.columns.Column.{Column}
use Rattle.st_tree.specs.declared.program.Section.TheVariants as section
use Rattle.vcp_typed.specs.declared.slot.Slot.{Slot}
use Rattle.vcp_typed.specs.Fitting.{columns_in, input_columns, output_columns}
use Rattle.vcp_typed.specs.SourceRun.{is_input, is_output}

pub of_inputs : (slots : List Slot) → columns_in section.Input slots ≡ input_columns slots
of_inputs [] = refl
of_inputs (s ∷ slots) = ap (λ (l : List Column). cond (is_input s.section) (record { name = s.name; ty = s.ty } ∷ l) l) (of_inputs slots)

pub of_outputs : (slots : List Slot) → columns_in section.Output slots ≡ output_columns slots
of_outputs [] = refl
of_outputs (s ∷ slots) = ap (λ (l : List Column). cond (is_output s.section) (record { name = s.name; ty = s.ty } ∷ l) l) (of_outputs slots)
