-- ListTexts: a program with a list's graph, but for places, runs as the list.
use Rattle.std.proofs.Common.{◌≡◌, ◌≤◌, ℕ, ℤ, Bool, true, false, cond, refl, sym, ap, subst, ◌∙◌, List, [], ◌∷◌, length, map, Some, Result, Ok, Err, IfOk, IsTrue}
use Rattle.vcp_base.specs.Limits.{most_source_bytes}
use Rattle.vcp_base.specs.declared.columns.Column.{Column}
use Rattle.vcp_base.specs.declared.ty.Ty.{Ty}
use Rattle.op_graph.specs.Lists.{Lists, column, output_column}
use Rattle.flat_expr.specs.Told.{Means, told_source}
use Rattle.vcp_typed.specs.declared.slot.Slot.{Slot}
use Rattle.vcp_typed.specs.Fitting.{AreRows, input_columns, input_types, output_columns}
use Rattle.vcp_typed.specs.SourceRun.{Program, is_input}
use Rattle.il_front.specs.Accumulator.{Il}
use Rattle.il_front.specs.Answers.{IsIl}
use Rattle.il_front.specs.TypedForm.{typed_il}
use Rattle.vcp_inputs.specs.Programs.{TypedOf}
use Rattle.vcp_inputs.specs.GraphsOf.{StandsFor}
use Rattle.vcp_inputs.specs.ListRuns.{HasListColumns, ListsAreTold}
use Rattle.vcp_inputs.specs.Reports.{told_listed}
use Rattle.vcp_study_core.specs.ListTexts.{HasSameGraph, HaveSameGraph, IsTextFor, IsTextOfList, RunsAsListed}
use Rattle.vcp_study_core.specs.SameGraphs.{AreSameButForPlaces, told_anywhere}
use Rattle.vcp_study_core.proofs.SameGraphs.{told_alike}

either_type : (b : Bool) (c : Column) (cs : List Column) (ts : List Ty) → map (λ (x : Column). x.ty) cs ≡ ts
    → map (λ (x : Column). x.ty) (cond b (c ∷ cs) cs) ≡ cond b (c.ty ∷ ts) ts
either_type true c cs ts same = ap (λ (l : List Ty). c.ty ∷ l) same
either_type false c cs ts same = same

-- the types of the inputs are those of their columns
types_by_columns : (slots : List Slot) → map (λ (c : Column). c.ty) (input_columns slots) ≡ input_types slots
types_by_columns [] = refl
types_by_columns (s ∷ slots) =
    either_type (is_input s.section) (record { name = s.name; ty = s.ty }) (input_columns slots) (input_types slots) (types_by_columns slots)

same_types : (slots other : List Slot) → input_columns slots ≡ input_columns other → input_types slots ≡ input_types other
same_types slots other same =
    sym (types_by_columns slots) ∙ ap (map (λ (c : Column). c.ty)) same ∙ types_by_columns other

module _ (columns : HasListColumns) (law : ListsAreTold) (text : List ℕ) (i : Il) (is : IsIl text i) (q : Program) (g h : Lists)
    (list : Means g (typed_il i)) (other : Means h q) (same : AreSameButForPlaces g h) where
  inputs_same : input_columns q.slots ≡ input_columns i.slots
  inputs_same =
      sym other.inputs ∙ sym (ap (λ (x : Lists). map (column x.names) x.inputs) same) ∙ list.inputs ∙ columns.inputs i

  outputs_same : output_columns q.slots ≡ output_columns i.slots
  outputs_same =
      sym other.outputs ∙ sym (ap (λ (x : Lists). map (output_column x.names) x.outputs) same) ∙ list.outputs ∙ columns.outputs i

  told_same : (rows : List (List ℤ)) → AreRows (input_types i.slots) rows → told_anywhere (told_source q rows) ≡ told_anywhere (told_listed i rows)
  told_same rows fit =
      let of_other : AreRows (input_types q.slots) rows =
      subst (λ (ts : List Ty). AreRows ts rows) (sym (same_types q.slots i.slots inputs_same)) fit in
      let of_list : AreRows (input_types (typed_il i).slots) rows = subst (λ (ts : List Ty). AreRows ts rows) (sym (columns.types i)) fit in
      ap told_anywhere (sym (other.runs rows of_other)) ∙ sym (told_alike g h same rows) ∙ ap told_anywhere (list.runs rows of_list)
      ∙ ap told_anywhere (law text i rows is)

  pub runs_as_listed : RunsAsListed i q
  runs_as_listed = record { inputs = inputs_same; outputs = outputs_same; told = told_same }

-- a text for the typed program of a list is one of the list
pub is_text_of : HasListColumns → ListsAreTold → (list : List ℕ) (i : Il) (p : Program) (text : List ℕ) → IsIl list i → p ≡ typed_il i → IsTextFor p text
    → IsTextOfList i text
is_text_of columns law list i p text is same (own, (q, typed, (g, h, list_stands, beside, alike))) =
    let stands : StandsFor (typed_il i) g = subst (λ (x : Program). StandsFor x g) same list_stands in
    record {
      program = q;
      typed = typed;
      canonical = own;
      runs = runs_as_listed columns law list i is q g h stands.means beside.means alike;
      graph = (g, h, stands, beside, alike);
    }

-- ---- what is found of graphs

pub same_graph_of : {E : Type 0} (p : Program) (text : List ℕ) (q : Program) (r : Result Bool E)
    → ((found : List ℕ) × (Some text ≡ Some found) × (length found ≤ most_source_bytes) × TypedOf found q)
    → IfOk r (λ is. IsTrue is → HaveSameGraph p q) → IfOk r (λ is. IsTrue is → HasSameGraph p text)
same_graph_of p text q (Ok is) (found, held, few, typed) same = λ yes.
    let here : found ≡ text = cc in
    (q, subst (λ (t : List ℕ). TypedOf t q) here typed, same yes)
same_graph_of p text q (Err e) loaded same = tt
