-- Rows: what reading all rows of ROWS gives.
use Rattle.std.proofs.Common.{◌≡◌, ℕ, ℤ, All, List, length, map, Result, Ok, Err, IfOk, IfErr}
use Rattle.std.proofs.lemmas.List.{length-map}
use Rattle.vcp_base.specs.declared.columns.Column.{Column}
use Rattle.op_graph.specs.Lists.{Lists, column}
use Rattle.vcp_inputs.specs.declared.refusal.NoInput.{NoInput}
use Rattle.vcp_inputs.specs.declared.refusal.NoInput.TheVariants as input
use Rattle.vcp_inputs.specs.RowsOutcome.{RowsOutcome, Opens}
use Rattle.vcp_inputs.specs.RowsRead.{AllRead, NoneRead, at_header}
use Rattle.vcp_study_core.specs.Parts.{LacksRows, ReadsRows}

pub not_opened : (o : RowsOutcome) (b n : ℕ) (i : NoInput) → Opens o b n (Err i) → LacksRows o b n i
not_opened o b n input.Unread opens = opens
not_opened o b n (input.Refused r) opens = at_header r opens
not_opened o b n input.Memory opens = tt

-- what was read of a source that comes to the same as ROWS
pub of_source : (o s : RowsOutcome) (b n : ℕ) (r : Result (List (List ℤ)) NoInput) → o ≡ s → IfOk r (AllRead s) → IfErr r (NoneRead s) → ReadsRows o b n r
of_source o s b n (Ok rows) same all none = rw same all
of_source o s b n (Err input.Unread) same all none = absurd none
of_source o s b n (Err (input.Refused r)) same all none = rw same none
of_source o s b n (Err input.Memory) same all none = tt

-- that there are none is no read fault
pub none_unread : (s : RowsOutcome) (i : NoInput) → NoneRead s i → i ≡ input.Unread → ⊥
none_unread s (input.Refused r) none is = cc
none_unread s input.Memory none is = cc
none_unread s input.Unread none is = none

-- as wide as the columns, and so as the inputs
pub as_wide : (g : Lists) (columns : List Column) (rows : List (List ℤ)) → All (λ r. length r ≡ length columns) rows
    → columns ≡ map (column g.names) g.inputs → All (λ r. length r ≡ length g.inputs) rows
as_wide g columns rows wide are = rw (← length-map g.inputs (column g.names), ← are) wide
