-- The columns and the names of a program's slots.
use Rattle.std.proofs.Common.{◌≡◌, ℕ, ◌≤◌, lit≤, arith, suc, ℤ, Bool, true, false, cond, List, [], ◌∷◌, length, map, refl, sym, ap, ◌∙◌}
use Rattle.std.proofs.lemmas.List.{length-map}
use Rattle.vcp_base.specs.declared.columns.Column.{Column}
use Rattle.vcp_base.specs.declared.ty.Ty.{Ty}
use Rattle.vcp_base.specs.Types.{AreIn}
use Rattle.vcp_typed.specs.declared.slot.Slot.{Slot}
use Rattle.vcp_typed.specs.Fitting.{input_types, output_types, input_columns, output_columns}
use Rattle.vcp_typed.specs.SourceRun.{is_input, is_output}
use Rattle.input_rows.specs.RowsOf.{types_of}

either-map : {X Y : Type 0} (f : X → Y) (b : Bool) (x : X) (xs : List X) (y : Y) (ys : List Y) → f x ≡ y → map f xs ≡ ys
    → map f (cond b (x ∷ xs) xs) ≡ cond b (y ∷ ys) ys
either-map f true x xs y ys e more = cc
either-map f false x xs y ys e more = more

few-more : {X : Type 0} (b : Bool) (x : X) (xs : List X) (n : ℕ) → length xs ≤ n → length (cond b (x ∷ xs) xs) ≤ suc n
few-more true x xs n h = omega (arith, h)
few-more false x xs n h = omega (arith, h)

-- the types of the columns of the inputs are those of the inputs
pub types-of-inputs : (slots : List Slot) → types_of (input_columns slots) ≡ input_types slots
types-of-inputs [] = refl
types-of-inputs (s ∷ slots) = either-map (λ (c : Column). c.ty) (is_input s.section) _ (input_columns slots) s.ty (input_types slots) refl (types-of-inputs slots)

-- and those of the outputs
pub types-of-outputs : (slots : List Slot) → types_of (output_columns slots) ≡ output_types slots
types-of-outputs [] = refl
types-of-outputs (s ∷ slots) =
    either-map (λ (c : Column). c.ty) (is_output s.section) _ (output_columns slots) s.ty (output_types slots) refl (types-of-outputs slots)

-- there are as many values as types
pub in-length : (types : List Ty) (values : List ℤ) → AreIn types values → length values ≡ length types
in-length [] [] h = refl
in-length [] (v ∷ values) h = absurd h
in-length (t ∷ types) [] h = absurd h
in-length (t ∷ types) (v ∷ values) h = ap suc (in-length types values h.1)

-- there are as many columns of inputs as types of inputs
pub inputs-count : (slots : List Slot) → length (input_columns slots) ≡ length (input_types slots)
inputs-count slots = sym (length-map (input_columns slots) (λ (c : Column). c.ty)) ∙ ap length (types-of-inputs slots)

-- and no more columns of inputs, or of outputs, than slots
pub inputs-few : (slots : List Slot) → length (input_columns slots) ≤ length slots
inputs-few [] = lit≤ tt
inputs-few (s ∷ slots) = few-more (is_input s.section) _ (input_columns slots) (length slots) (inputs-few slots)

pub outputs-few : (slots : List Slot) → length (output_columns slots) ≤ length slots
outputs-few [] = lit≤ tt
outputs-few (s ∷ slots) = few-more (is_output s.section) _ (output_columns slots) (length slots) (outputs-few slots)

-- and as many columns of outputs as types of outputs
pub outputs-count : (slots : List Slot) → length (output_columns slots) ≡ length (output_types slots)
outputs-count slots = sym (length-map (output_columns slots) (λ (c : Column). c.ty)) ∙ ap length (types-of-outputs slots)
