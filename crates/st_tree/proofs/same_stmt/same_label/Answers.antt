use Rattle.st_tree.proofs.SameStmts.{same-label, other-label}
use Rattle.st_tree.proofs.same_stmt.same_label.Goals as goal

pub returns-then-same_expr : goal.returns-then-same_expr
returns-then-same_expr c = same-label _ c.args.a.now c.args.b.now (c.same_expr.ensures.0 c.if-same_expr.true) c.same_expr_or_none.ensures

pub returns-else-same_expr : goal.returns-else-same_expr
returns-else-same_expr c = other-label _ c.args.a.now c.args.b.now c.if-same_expr.false c.same_expr.ensures
