use Rattle.st_tree.proofs.Rows.{tree-for}
use Rattle.st_tree.proofs.stmt.Stmt.for_.Goals as goal

pub returns : goal.returns
returns c = tree-for c.args.name c.args.name_spot c.args.first c.args.last c.args.by c.args.body c.args.spot
