-- What commands come to, from what loading their files gives.
use Rattle.std.proofs.Common.{ℕ, ◌≡◌, subst, List, Result}
use Rattle.vcp_base.specs.declared.columns.Column.{Column}
use Rattle.input_rows.specs.RowsOf.{RowsLeft}
use Rattle.vcp_inputs.specs.declared.refusal.NoInput.{NoInput}
use Rattle.vcp_inputs.specs.RowsOutcome.{source_outcome, Opens}
use Rattle.input_rows.specs.declared.source.RowsSource.TheVariants as rows

-- ---- a program and its rows

-- the bytes of a rows file come to the same as equal bytes, for equal columns
pub opens-as : (text made : List ℕ) (columns wanted : List Column) (b n : ℕ) (r : Result RowsLeft NoInput) → text ≡ made → columns ≡ wanted
    → Opens (source_outcome (rows.File text) columns) b n r → Opens (source_outcome (rows.File made) wanted) b n r
opens-as text made columns wanted b n r texts same h =
    subst (λ t. Opens (source_outcome (rows.File t) wanted) b n r) texts (subst (λ k. Opens (source_outcome (rows.File text) k) b n r) same h)
