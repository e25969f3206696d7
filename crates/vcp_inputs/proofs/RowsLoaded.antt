-- RowsLoaded: what the file of ROWS comes to, with columns and without.
use Rattle.std.proofs.Common.{ℕ, ◌≡◌, ◌≢◌, ◌∙◌, refl, sym, ap, Bool, true, false, cond, nat_lt, List, [], ◌∷◌, length}
use Rattle.std.proofs.Common.{Option, Some, None, Result, Ok, Err, arith}
use Rattle.std.specs.Prelude.{IfSome}
use Rattle.std.proofs.lemmas.Bool.{true≢false}
use Rattle.std.proofs.lemmas.Bool.Decides.{nat_tests}
use Rattle.vcp_base.specs.Limits.{most_rows_bytes}
use Rattle.vcp_base.specs.declared.columns.Column.{Column}
use Rattle.vcp_outside.specs.Held.{Held}
use Rattle.input_rows.specs.declared.fault.RowFault.TheVariants as row
use Rattle.input_rows.specs.declared.source.RowsSource.TheVariants as source
use Rattle.input_rows.specs.RowsOf.{rows_of}
use Rattle.vcp_inputs.specs.Files.{FileRead}
use Rattle.vcp_inputs.specs.Forms.{file}
use Rattle.vcp_inputs.specs.RowsOutcome.{LoadsRows, begins, file_outcome, rows_or_refusal, rows_outcome}
use Rattle.vcp_inputs.specs.RowsOutcome as outcome
use Rattle.vcp_inputs.specs.declared.refusal.Refusal.{Refusal}
use Rattle.vcp_inputs.specs.declared.refusal.Refusal.TheVariants as refusal
use Rattle.vcp_inputs.specs.declared.refusal.NoInput.{NoInput}
use Rattle.vcp_inputs.specs.declared.refusal.NoInput.TheVariants as input

-- what holds of all holds of the one that there may be
pub always : {X : Type 0} (o : Option X) (P : X → Type 0) → ((x : X) → P x) → IfSome o P
always None P h = tt
always (Some x) P h = h x

-- without columns the file isn't begun
pub without_columns : (name : List ℕ) (columns : List Column) → length columns ≡ 0 → begins (file name) columns ≡ false
without_columns name [] none = refl
without_columns name (c ∷ columns) none = absurd cc

-- with some it is
pub with_columns : (name : List ℕ) (columns : List Column) → length columns ≢ 0 → begins (file name) columns ≡ true
with_columns name [] some = absurd (some refl)
with_columns name (c ∷ columns) some = refl

-- what was answered is no error, and a refusal is not that nothing was read
pub no_error : {V E : Type 0} {v : V} {e : E} → Ok v ≡ Err e → ⊥
no_error is = cc

pub not_unread : {V : Type 0} {r : Refusal} (x : Result V NoInput) → x ≡ Err (input.Refused r) → x ≡ Err input.Unread → ⊥
not_unread x refused unread = cc

-- a test isn't both
pub not_both_ways : (b : Bool) → b ≡ true → b ≡ false → ⊥
not_both_ways true on off = true≢false off
not_both_ways false on off = cc

-- without columns the rows are refused for their form
pub form_refused : (name : List ℕ) (columns : List Column) (held : Held) (b n : ℕ) → length columns ≡ 0
    → LoadsRows (rows_outcome (file name) held columns) columns b n (Err (input.Refused (refusal.Rows row.Form)))
form_refused name [] held b n none = refl
form_refused name (c ∷ columns) held b n none = absurd cc

-- the bytes that are read come to what the file comes to
pub rows_taken : (held : Held) (name bytes : List ℕ) (columns : List Column) (b n : ℕ) → length columns ≢ 0
    → FileRead held name most_rows_bytes b n (Ok bytes) → LoadsRows (rows_outcome (file name) held columns) columns b n (Ok (source.File bytes))
rows_taken held name bytes [] b n some read = absurd (some refl)
rows_taken held name bytes (c ∷ columns) b n some (text, found, few, same) =
    let within : nat_lt most_rows_bytes (length text) ≡ false = grind (arith, nat_tests) in
    ap (file_outcome (c ∷ columns)) found
    ∙ ap (λ (x : Bool). cond x (outcome.refused refusal.Bytes) (rows_or_refusal (rows_of text (c ∷ columns)))) within
    ∙ ap (λ t. rows_or_refusal (rows_of t (c ∷ columns))) (sym same)
