use Rattle.st_tree.proofs.Rows.{tree-case}
use Rattle.st_tree.proofs.stmt.Stmt.case.Goals as goal

pub returns : goal.returns
returns c = tree-case c.args.on c.args.branches c.args.other c.args.spot
