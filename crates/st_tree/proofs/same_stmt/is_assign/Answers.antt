use Rattle.std.proofs.Common.{ap}
use Rattle.st_tree.proofs.SameStmts.{bare_stmt_of, same-assign, other-assign, not-assign}
use Rattle.st_tree.proofs.same_stmt.is_assign.Goals as goal

pub returns-then-same_text : goal.returns-then-same_text
returns-then-same_text c =
    same-assign _ _ _ _ _ _ (c.same_text.ensures.0 c.if-same_text.true) c.same_expr.ensures (ap bare_stmt_of c.in-Assign.is)

pub returns-else-same_text : goal.returns-else-same_text
returns-else-same_text c = other-assign _ _ _ _ _ _ c.if-same_text.false c.same_text.ensures (ap bare_stmt_of c.in-Assign.is)

pub returns-in_default : goal.returns-in_default
returns-in_default c = not-assign _ _ _ c.in_default.not-Assign
