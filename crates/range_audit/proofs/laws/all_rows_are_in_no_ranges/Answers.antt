use Rattle.range_audit.proofs.NoneNamed.{rows_in_none}
use Rattle.range_audit.proofs.laws.all_rows_are_in_no_ranges.Goals as goal

pub returns : goal.returns
returns c = rows_in_none
