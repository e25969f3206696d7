-- Tables: the ranges of inputs that a file tells.
use Rattle.std.proofs.Common.{◌≡◌, ◌≢◌, inl, inr, ℕ, List, Ok, Err, refl, subst}
use Rattle.vcp_base.specs.declared.columns.Column.{Column}
use Rattle.vcp_outside.specs.Held.{Held}
use Rattle.input_rows.specs.declared.fault.RowFault.{RowFault}
use Rattle.input_rows.specs.declared.fault.RowFault.TheVariants as row
use Rattle.range_walk.specs.RangeTable.{ranges_of_table}
use Rattle.vcp_inputs.specs.declared.refusal.NoInput.{NoInput}
use Rattle.vcp_inputs.specs.declared.refusal.NoInput.TheVariants as input
use Rattle.vcp_inputs.specs.declared.refusal.Refusal.{Refusal}
use Rattle.vcp_inputs.specs.Files.{FileRead, Loads, NotLoaded, Never, IsRefused, long, short, Untaken}
use Rattle.vcp_inputs.specs.Answer.{Answer}
use Rattle.vcp_inputs.specs.Refusals.{no_rows}
use Rattle.vcp_study_core.specs.Parts.{NotTable}
use Rattle.vcp_study_core.specs.FromFiles.{got, ends_by, input_answer, OfLoads}
use Rattle.vcp_study_core.proofs.Carrying.{IsQuiet}

-- what is given of a text that was read, or why it is refused
module _ {V : Type 0} (Is : List ℕ → V → Type 0) (Why : List ℕ → Refusal → Type 0) (held : Held) (name : List ℕ) (limit b n : ℕ) where
  pub taken : (bytes : List ℕ) → FileRead held name limit b n (Ok bytes) → (v : V) → Is bytes v → OfLoads (Loads Is Why held name limit b n) name (got v)
  taken bytes (text, holds, few, same) v is = (text, holds, few, subst (λ t. Is t v) same is)

  pub untaken : (bytes : List ℕ) → FileRead held name limit b n (Ok bytes) → (i : NoInput) → Untaken (Why bytes) i
      → OfLoads (Loads Is Why held name limit b n) name (ends_by (input_answer name i))
  untaken bytes (text, holds, few, same) input.Unread why = absurd why
  untaken bytes (text, holds, few, same) (input.Refused r) why = (input.Refused r, (text, holds, short r few (subst (λ t. Why t r) same why)), refl)
  untaken bytes (text, holds, few, same) input.Memory why = (input.Memory, tt, refl)

  -- nothing is given of a file that wasn't read
  unread : (i : NoInput) → NotLoaded Never held name limit b n i → NotLoaded Why held name limit b n i
  unread input.Unread h = h
  unread (input.Refused r) (text, holds, refused) = (text, holds, too_long text r refused)
    where
      too_long : (text : List ℕ) (r : Refusal) → IsRefused Never limit text r → IsRefused Why limit text r
      too_long text _ (long more) = long more
      too_long text _ (short r few never) = absurd never
  unread input.Memory h = h

  pub unloaded : (x : Answer) → OfLoads (FileRead held name limit b n) name (ends_by x) → OfLoads (Loads Is Why held name limit b n) name (ends_by x)
  unloaded x (i, lost, is) = (i, unread i lost, is)

-- a text isn't refused for want of a file
pub untaken_quiet : (V : Type 0) (Why : Refusal → Type 0) (name : List ℕ) (i : NoInput) → Untaken Why i → IsQuiet {V = V} (ends_by (input_answer name i))
untaken_quiet V Why name input.Unread why = absurd why
untaken_quiet V Why name (input.Refused r) why = (refl, inl refl)
untaken_quiet V Why name input.Memory why = (refl, inr (inl refl))

-- the fault of a text that is no table is told
pub table_refused : (columns : List Column) (text : List ℕ) (f : RowFault) → (f ≢ row.Memory → ranges_of_table columns text ≡ Err f)
    → Untaken (NotTable columns text) (no_rows f)
table_refused columns text row.Header is = is (λ e. cc)
table_refused columns text (row.Width n) is = is (λ e. cc)
table_refused columns text (row.Cell n column) is = is (λ e. cc)
table_refused columns text row.Form is = is (λ e. cc)
table_refused columns text row.Cycles is = is (λ e. cc)
table_refused columns text row.Cycle is = is (λ e. cc)
table_refused columns text row.Memory is = tt
