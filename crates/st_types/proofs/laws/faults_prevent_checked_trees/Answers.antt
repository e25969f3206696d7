use Rattle.st_types.proofs.ExprLaws.{type-is, no-expr, fault-no-expr}
use Rattle.st_types.proofs.StmtLaws.{no-stmts, fault-no-stmts}
use Rattle.st_types.proofs.laws.faults_prevent_checked_trees.Goals as goal

pub returns : goal.returns
returns c = record {
  expr = λ s e. (no-expr s e, λ h. fault-no-expr s e h.0 h.1);
  ty = type-is;
  stmts = λ s held xs. (no-stmts s held xs, λ h. fault-no-stmts s held xs h.0 h.1);
}
