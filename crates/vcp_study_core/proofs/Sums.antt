-- Sums: the forms of `sum`, with ROWS or without.
use Rattle.std.proofs.Common.{◌≤◌, List, length, Option, Some, None, IfSome}
use Rattle.std.specs.Option.{option_map}
use Rattle.verdict_tables.specs.Parts.{most_parts}
use Rattle.vcp_inputs.specs.Forms.{AreFew, rows_of}
use Rattle.vcp_inputs.specs.declared.words.command.RowsWord.{RowsWord}
use Rattle.vcp_study_core.specs.Forms.{PartNames, sum_with, IsSoundStudy}

pub sound : (names : List PartNames) (rows : Option RowsWord) → length names ≤ most_parts → IfSome rows (λ r. AreFew (rows_of r))
    → IsSoundStudy (sum_with names (option_map rows_of rows))
sound names None few rows = few
sound names (Some r) few rows = (rows, few)

pub few_names : (names : List PartNames) (rows : Option RowsWord) → IsSoundStudy (sum_with names (option_map rows_of rows)) → length names ≤ most_parts
few_names names None is = is
few_names names (Some r) is = is.1

pub few_rows : (names : List PartNames) (rows : Option RowsWord) → IsSoundStudy (sum_with names (option_map rows_of rows))
    → IfSome rows (λ r. AreFew (rows_of r))
few_rows names None is = tt
few_rows names (Some r) is = is.0
