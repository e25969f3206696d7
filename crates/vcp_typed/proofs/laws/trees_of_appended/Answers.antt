use Rattle.vcp_typed.proofs.Appends.{exprs-append, stmts-append, arms-append, branches-append}
use Rattle.vcp_typed.proofs.laws.trees_of_appended.Goals as goal

pub returns : goal.returns
returns c = record { exprs = exprs-append; stmts = stmts-append; arms = arms-append; branches = branches-append }
