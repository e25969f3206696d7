-- ListedRuns: the typed program of an instruction list stands as the list; and what `il` comes to, from what loading P and ROWS gives.
use Rattle.std.proofs.Common.{ℕ, ◌≡◌, ◌≤◌, refl, sym, ap, subst, ◌∙◌, List, length, map, Some}
use Rattle.vcp_base.specs.declared.columns.Column.{Column}
use Rattle.vcp_outside.specs.Held.{Held}
use Rattle.vcp_typed.specs.Fitting.{input_columns}
use Rattle.vcp_typed.specs.SourceRun.{Program}
use Rattle.input_rows.specs.RowsOf.{RowsLeft}
use Rattle.il_front.specs.Accumulator.{Il}
use Rattle.il_front.specs.Answers.{IsIl, most_il_bytes}
use Rattle.il_front.specs.Outcomes.{IsTypedIl}
use Rattle.il_front.specs.TypedForm.{typed_il}
use Rattle.vcp_inputs.specs.Forms.{Code, Rows, il}
use Rattle.vcp_inputs.specs.Tables.{rows_name}
use Rattle.vcp_inputs.specs.Listings.{NotListing}
use Rattle.vcp_inputs.specs.RowsOutcome.{RowsOutcome, lacking, opened, refused, rows_outcome}
use Rattle.vcp_inputs.specs.Answer.{listed}
use Rattle.vcp_inputs.specs.FileTasks.{OnRows, TakenFile, TakenRows, missing, taken, untaken}
use Rattle.vcp_inputs.specs.Kinds.{Task, runs}
use Rattle.vcp_inputs.specs.ListRuns.{HasListColumns, ListsAreTold}
use Rattle.vcp_core.specs.MachineRun.{StandsAs}
use Rattle.vcp_core.specs.Tasks.{rows_job, TaskOf}

-- the typed program of an instruction list stands as the list
pub stands_listed : HasListColumns → ListsAreTold → (text : List ℕ) (i : Il) (p : Program) (left : RowsLeft) → IsIl text i → p ≡ typed_il i
    → StandsAs p left (listed i)
stands_listed columns law text i p left is same =
    let typed : StandsAs (typed_il i) left (listed i) = record {
      may = λ g stands. stands;
      names = ap (map (λ (c : Column). c.name)) (columns.outputs i);
      told = law text i left.rows is;
    } in
    subst (λ (q : Program). StandsAs q left (listed i)) (sym same) typed

-- ---- what `il` comes to

module _ (p : List ℕ) (rows : Rows) (code : Code) (held : Held) where
  -- the run of a list on the rows that are left
  abbrev pub RunsList : Il → RowsLeft → Task → Type 0
  RunsList i left x = x ≡ runs (rows_job (rows_name rows) code (listed i) left)

  -- that of the list of which P holds the text
  abbrev pub RunsHeld : RowsLeft → Task → Type 0
  RunsHeld left x = (text : List ℕ) (i : Il) → held p ≡ Some text → IsIl text i → RunsList i left x

  held_list : (text : List ℕ) (i : Il) → held p ≡ Some text → IsIl text i → (o : RowsOutcome) (task : Task) → OnRows (rows_name rows) RunsHeld o task
      → OnRows (rows_name rows) (RunsList i) o task
  held_list text i found is lacking task comes = comes
  held_list text i found is (refused r) task comes = comes
  held_list text i found is (opened left) task comes = comes text i found is

module _ (columns : HasListColumns) (p : List ℕ) (rows : Rows) (code : Code) (held : Held) where
  -- where P was loaded, and ROWS come to this for the columns of its typed program
  pub il_comes : (text : List ℕ) (i : Il) (t : Program) (found_columns : List Column) (o : RowsOutcome) (task : Task) → held p ≡ Some text
      → length text ≤ most_il_bytes → IsIl text i → t ≡ typed_il i → found_columns ≡ input_columns t.slots → rows_outcome rows held found_columns ≡ o
      → OnRows (rows_name rows) (RunsList p rows code held i) o task → TaskOf (il p rows code) held task
  il_comes text i t found_columns o task found few is same columns_are o_is comes =
      let own : input_columns i.slots ≡ found_columns = sym (columns_are ∙ ap (λ (q : Program). input_columns q.slots) same ∙ columns.inputs i) in
      let outcome : rows_outcome rows held (input_columns i.slots) ≡ o = ap (rows_outcome rows held) own ∙ o_is in
      taken text i task found few is (subst (λ (x : RowsOutcome). OnRows (rows_name rows) (RunsList p rows code held i) x task) (sym outcome) comes)

  -- what the file comes to as a typed program is what it comes to as a list
  pub il_by : (task : Task) → TakenFile IsTypedIl NotListing most_il_bytes (λ t. TakenRows (RunsHeld p rows code held) rows held (input_columns t.slots)) p (held p) task
      → TaskOf (il p rows code) held task
  il_by _ (missing none) = missing none
  il_by _ (untaken text r found why) = untaken text r found why
  il_by task (taken text t _ found few (i, is, same) comes) =
      il_comes text i t (input_columns t.slots) (rows_outcome rows held (input_columns t.slots)) task found few is same refl refl
      (held_list p rows code held text i found is (rows_outcome rows held (input_columns t.slots)) task comes)
