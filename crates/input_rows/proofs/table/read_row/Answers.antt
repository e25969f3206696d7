use Rattle.std.proofs.Common.{rules}
use Rattle.input_rows.proofs.table.read_row.Goals as goal

pub returns-in_err-next : goal.returns-in_err-next
returns-in_err-next c = search rules

pub returns-then-not-branch : goal.returns-then-not-branch
returns-then-not-branch c = search rules

pub returns-in_err-read : goal.returns-in_err-read
returns-in_err-read c = search rules

pub returns : goal.returns
returns c = search rules
