use Rattle.vcp_typed.proofs.Rows.{tree-case}
use Rattle.vcp_typed.proofs.stmt.TStmt.case.Goals as goal

pub returns : goal.returns
returns c = tree-case c.args.on c.args.branches c.args.other c.args.spot
