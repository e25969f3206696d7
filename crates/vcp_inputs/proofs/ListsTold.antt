-- ListsTold: the typed program of an instruction list has its columns and is told as its run on the accumulator, and so is the image for it.
use Rattle.std.proofs.Common.{ℕ, ℤ, ◌≡◌, refl, sym, ap, subst, ◌∙◌, Bool, true, false, cond, List, [], ◌∷◌, ◌++◌, Option, Some, None, Result, Ok, Err}
use Rattle.std.specs.Prelude.{pos, ◌+ℤ◌, ◌-ℤ◌, ◌*ℤ◌, int_div, int_rem}
use Rattle.vcp_base.specs.Stops.{ToldStop, told_stop}
use Rattle.vcp_base.specs.declared.columns.Column.{Column}
use Rattle.vcp_base.specs.declared.kind.StopKind.TheVariants as why
use Rattle.vcp_base.specs.declared.spot.Spot.{Spot}
use Rattle.vcp_base.specs.declared.ty.Ty.{Ty}
use Rattle.vcp_base.specs.Kinds.{same}
use Rattle.vcp_base.specs.Types.{fits}
use Rattle.st_tree.specs.declared.expr.BinOp.{BinOp}
use Rattle.st_tree.specs.declared.expr.BinOp.TheVariants as bin
use Rattle.op_graph.specs.Lists.{Lists}
use Rattle.vcp_typed.specs.declared.slot.Slot.{Slot}
use Rattle.vcp_typed.specs.Fitting.{AreRows, input_columns, input_types, output_columns}
use Rattle.vcp_typed.specs.Meaning.{Stop, and_then, in_range, operate, stop, unless_zero}
use Rattle.vcp_typed.specs.SourceRun.{Run, after_cycle, is_input, is_output, source_run, with_inputs}
use Rattle.flat_expr.specs.Told.{Told, names_of, source_end, told_source}
use Rattle.il_front.specs.declared.instruction.Action.TheVariants as action
use Rattle.il_front.specs.declared.instruction.Action.{Action}
use Rattle.il_front.specs.declared.instruction.Instruction.{Instruction}
use Rattle.il_front.specs.Accumulator.{Il, Now, acc_cycle, acc_from, acc_run, acted, begun, combined, does, does_all}
use Rattle.il_front.specs.Answers.{IsIl}
use Rattle.il_front.specs.Outcomes.{AccumulatorRuns}
use Rattle.il_front.specs.TypedForm.{all_types, hidden_of, hidden_slot, hidden_slots, typed_il, used_by}
use Rattle.vcp_inputs.specs.GraphsOf.{StandsFor}
use Rattle.vcp_inputs.specs.ListRuns.{HasListColumns, ImagesAreOfLists, ListsAreTold, RunsAsList}
use Rattle.vcp_inputs.specs.Reports.{told_listed}

-- ---- hidden variables are neither inputs nor outputs

hides_input : (used : Bool) (t : Ty) (slots : List Slot) → input_columns slots ≡ [] → input_columns (cond used (hidden_slot t ∷ slots) slots) ≡ []
hides_input true t slots none = none
hides_input false t slots none = none

no_inputs : (used : Ty → Bool) (ts : List Ty) → input_columns (hidden_slots used ts) ≡ []
no_inputs used [] = refl
no_inputs used (t ∷ ts) = hides_input (used t) t (hidden_slots used ts) (no_inputs used ts)

hides_type : (used : Bool) (t : Ty) (slots : List Slot) → input_types slots ≡ [] → input_types (cond used (hidden_slot t ∷ slots) slots) ≡ []
hides_type true t slots none = none
hides_type false t slots none = none

no_types : (used : Ty → Bool) (ts : List Ty) → input_types (hidden_slots used ts) ≡ []
no_types used [] = refl
no_types used (t ∷ ts) = hides_type (used t) t (hidden_slots used ts) (no_types used ts)

front_types : (slots more : List Slot) → input_types more ≡ [] → input_types (slots ++ more) ≡ input_types slots
front_types [] more none = none
front_types (s ∷ slots) more none = ap (λ (l : List Ty). cond (is_input s.section) (s.ty ∷ l) l) (front_types slots more none)

front_inputs : (slots more : List Slot) → input_columns more ≡ [] → input_columns (slots ++ more) ≡ input_columns slots
front_inputs [] more none = none
front_inputs (s ∷ slots) more none =
    ap (λ (l : List Column). cond (is_input s.section) (record { name = s.name; ty = s.ty } ∷ l) l) (front_inputs slots more none)

hides_output : (used : Bool) (t : Ty) (slots : List Slot) → output_columns slots ≡ [] → output_columns (cond used (hidden_slot t ∷ slots) slots) ≡ []
hides_output true t slots none = none
hides_output false t slots none = none

no_outputs : (used : Ty → Bool) (ts : List Ty) → output_columns (hidden_slots used ts) ≡ []
no_outputs used [] = refl
no_outputs used (t ∷ ts) = hides_output (used t) t (hidden_slots used ts) (no_outputs used ts)

front_outputs : (slots more : List Slot) → output_columns more ≡ [] → output_columns (slots ++ more) ≡ output_columns slots
front_outputs [] more none = none
front_outputs (s ∷ slots) more none =
    ap (λ (l : List Column). cond (is_output s.section) (record { name = s.name; ty = s.ty } ∷ l) l) (front_outputs slots more none)

inputs_are : (i : Il) → input_columns (typed_il i).slots ≡ input_columns i.slots
inputs_are i = front_inputs i.slots (hidden_of i) (no_inputs (used_by i.code) all_types)

outputs_are : (i : Il) → output_columns (typed_il i).slots ≡ output_columns i.slots
outputs_are i = front_outputs i.slots (hidden_of i) (no_outputs (used_by i.code) all_types)

types_are : (i : Il) → input_types (typed_il i).slots ≡ input_types i.slots
types_are i = front_types i.slots (hidden_of i) (no_types (used_by i.code) all_types)

pub columns_are : HasListColumns
columns_are = record { inputs = inputs_are; outputs = outputs_are; types = types_are }

-- ---- a stop of the accumulator is in no turn of a loop

abbrev Free : {A : Type 0} → Result A Stop → Type 0
Free (Ok x) = Unit {0}
Free (Err s) = s.turns ≡ []

either_free : {A : Type 0} (b : Bool) (x y : Result A Stop) → Free x → Free y → Free (cond b x y)
either_free true x y one other = one
either_free false x y one other = other

then_free : {A B : Type 0} (r : Result A Stop) (next : A → Result B Stop) → Free r → ((x : A) → Free (next x)) → Free (and_then r next)
then_free (Ok x) next free later = later x
then_free (Err s) next free later = free

range_free : (t : Ty) (spot : Spot) (v : ℤ) → Free (in_range t spot [] v)
range_free t spot v = either_free (fits t v) (Ok v) (stop why.Range spot []) tt refl

zero_free : (b : ℤ) (spot : Spot) (r : Result ℤ Stop) → Free r → Free (unless_zero b spot [] r)
zero_free b spot r free = either_free (same b (pos 0)) (stop why.DivZero spot []) r refl free

operate_free : (op : BinOp) (t : Ty) (spot : Spot) (a b : ℤ) → Free (operate op t spot [] a b)
operate_free bin.Mul t spot a b = range_free t spot (a *ℤ b)
operate_free bin.Div t spot a b = zero_free b spot (in_range t spot [] (int_div a b)) (range_free t spot (int_div a b))
operate_free bin.Mod t spot a b = zero_free b spot (in_range t spot [] (int_rem a b)) (range_free t spot (int_rem a b))
operate_free bin.Add t spot a b = range_free t spot (a +ℤ b)
operate_free bin.Sub t spot a b = range_free t spot (a -ℤ b)
operate_free bin.Lt t spot a b = tt
operate_free bin.Gt t spot a b = tt
operate_free bin.Le t spot a b = tt
operate_free bin.Ge t spot a b = tt
operate_free bin.Eq t spot a b = tt
operate_free bin.Ne t spot a b = tt
operate_free bin.And t spot a b = tt
operate_free bin.Xor t spot a b = tt
operate_free bin.Or t spot a b = tt

combined_free : (op : BinOp) (spot : Spot) (y : ℤ) (t : Option Ty) (now : Now) → Free (combined op spot y t now)
combined_free op spot y None now = tt
combined_free op spot y (Some t) now = then_free (operate op t spot [] now.value y) _ (operate_free op t spot now.value y) (λ v. tt)

acted_free : (spot : Spot) (a : Action) (now : Now) → Free (acted spot a now)
acted_free spot (action.Load negated o) now = tt
acted_free spot (action.Store negated slot t) now = tt
acted_free spot (action.Put to slot t) now = tt
acted_free spot action.Complement now = tt
acted_free spot (action.Combine op negated o) now = combined_free op spot _ _ now

does_free : (is : List Instruction) (now : Now) → Free (does_all is now)
does_free [] now = tt
does_free (i ∷ is) now = then_free (does i now) (λ next. does_all is next) (acted_free i.spot i.action now) (λ next. does_free is next)

cycle_free : (i : Il) (vars row : List ℤ) → Free (acc_cycle i vars row)
cycle_free i vars row = then_free (does_all i.code (begun (with_inputs i.slots row vars))) _ (does_free i.code _) (λ now. tt)

abbrev EndFree : Option Stop → Type 0
EndFree None = Unit {0}
EndFree (Some s) = s.turns ≡ []

after_free : (slots : List Slot) (r : Result (List ℤ) Stop) (next : List ℤ → Run) → Free r → ((m : List ℤ) → EndFree (next m).end)
    → EndFree (after_cycle slots next r).end
after_free slots (Ok m) next free later = later m
after_free slots (Err s) next free later = free

run_free : (i : Il) (vars : List ℤ) (rows : List (List ℤ)) → EndFree (acc_from i vars rows).end
run_free i vars [] = tt
run_free i vars (row ∷ rows) =
    after_free i.slots (acc_cycle i vars row) (λ next. acc_from i next rows) (cycle_free i vars row) (λ m. run_free i m rows)

-- so it is told alike by whatever names
alike : (names other : List (List ℕ)) (e : Option Stop) → EndFree e → source_end names e ≡ source_end other e
alike names other None free = refl
alike names other (Some s) free =
    ap (λ ts. Some (told_stop names s.kind s.spot ts)) free ∙ sym (ap (λ ts. Some (told_stop other s.kind s.spot ts)) free)

-- ---- the run

abbrev told_by : List (List ℕ) → Run → Told
told_by names r = record { rows = r.rows; end = source_end names r.end }

told_same : (i : Il) (rows : List (List ℤ)) → source_run (typed_il i) rows ≡ acc_run i rows → told_source (typed_il i) rows ≡ told_listed i rows
told_same i rows law =
    let names : List (List ℕ) = names_of (typed_il i).slots in
    let by_names : told_source (typed_il i) rows ≡ told_by names (acc_run i rows) = ap (told_by names) law in
    let ends : source_end names (acc_run i rows).end ≡ source_end (names_of i.slots) (acc_run i rows).end =
    alike names (names_of i.slots) (acc_run i rows).end (run_free i _ rows) in
    by_names ∙ ap (λ (o : Option ToldStop). record { rows = (acc_run i rows).rows; end = o }) ends

pub are_told : AccumulatorRuns → ListsAreTold
are_told law text i rows is = told_same i rows (law text i rows is)

-- ---- images

runs_as_list : AccumulatorRuns → (text : List ℕ) (i : Il) (g : Lists) → IsIl text i → StandsFor (typed_il i) g → RunsAsList i g
runs_as_list law text i g is stands = record {
  inputs = stands.means.inputs ∙ inputs_are i;
  outputs = stands.means.outputs ∙ outputs_are i;
  told = λ rows fit. stands.means.runs rows (subst (λ (ts : List Ty). AreRows ts rows) (sym (types_are i)) fit) ∙ are_told law text i rows is;
}

pub are_of_lists : AccumulatorRuns → ImagesAreOfLists
are_of_lists law text i code bytes is (g, may, written) =
    record { graph = g; may = may; written = written; runs = runs_as_list law text i g is may.stands }
