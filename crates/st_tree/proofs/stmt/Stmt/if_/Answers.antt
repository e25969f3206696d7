use Rattle.st_tree.proofs.Rows.{tree-if}
use Rattle.st_tree.proofs.stmt.Stmt.if_.Goals as goal

pub returns : goal.returns
returns c = tree-if c.args.arms c.args.other
