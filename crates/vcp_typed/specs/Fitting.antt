-- Fitting: values that are in the types of their slots, the columns of a program, and turns that name slots.
use Rattle.std.specs.Prelude.{ℤ, ◌<◌, Bool, false, cond, List, [], ◌∷◌, length, map, All}
use Rattle.vcp_base.specs.declared.columns.Column.{Column}
use Rattle.vcp_base.specs.declared.turns.Turn.{Turn}
use Rattle.vcp_base.specs.declared.ty.Ty.{Ty}
use Rattle.vcp_base.specs.Types.{AreIn}
use Rattle.st_tree.specs.declared.program.Section.{Section}
use Rattle.st_tree.specs.declared.program.Section.TheVariants as section
use Rattle.vcp_typed.specs.declared.slot.Slot.{Slot}
use Rattle.vcp_typed.specs.SourceRun.{is_input, is_output}

-- each row has a value of each of these types
abbrev pub AreRows : List Ty → List (List ℤ) → Type 0
AreRows ts [] = Unit {0}
AreRows ts (row ∷ rows) = AreIn ts row × AreRows ts rows

-- each slot has a value of its type
abbrev pub AreFit : List Slot → List ℤ → Type 0
AreFit slots m = AreIn (map (λ s. s.ty) slots) m

-- the types of the inputs, and of the outputs, in order of declaration
abbrev pub input_types : List Slot → List Ty
input_types [] = []
input_types (s ∷ slots) = cond (is_input s.section) (s.ty ∷ input_types slots) (input_types slots)

abbrev pub output_types : List Slot → List Ty
output_types [] = []
output_types (s ∷ slots) = cond (is_output s.section) (s.ty ∷ output_types slots) (output_types slots)

-- the names and types of the inputs, and of the outputs, in order of declaration
abbrev pub input_columns : List Slot → List Column
input_columns [] = []
input_columns (s ∷ slots) = cond (is_input s.section) (record { name = s.name; ty = s.ty } ∷ input_columns slots) (input_columns slots)

abbrev pub output_columns : List Slot → List Column
output_columns [] = []
output_columns (s ∷ slots) = cond (is_output s.section) (record { name = s.name; ty = s.ty } ∷ output_columns slots) (output_columns slots)

-- a slot's section is the one whose columns are wanted, that of inputs or of outputs; and the columns of its slots
abbrev pub is_of : Section → Section → Bool
is_of section.Input s = is_input s
is_of section.Output s = is_output s
is_of _ s = false

abbrev pub columns_in : Section → List Slot → List Column
columns_in wanted [] = []
columns_in wanted (s ∷ slots) = cond (is_of wanted s.section) (record { name = s.name; ty = s.ty } ∷ columns_in wanted slots) (columns_in wanted slots)

-- each turn names a slot
pub record NameSlots (slots : List Slot) (turns : List Turn) : Type 0 where
  pub named : All (λ turn. turn.name < length slots) turns
