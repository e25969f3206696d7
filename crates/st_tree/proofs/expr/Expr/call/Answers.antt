use Rattle.st_tree.proofs.Rows.{tree-call}
use Rattle.st_tree.proofs.expr.Expr.call.Goals as goal

pub returns : goal.returns
returns c = tree-call c.args.name c.args.args c.args.spot
