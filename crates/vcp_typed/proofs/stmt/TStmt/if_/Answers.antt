use Rattle.vcp_typed.proofs.Rows.{tree-if}
use Rattle.vcp_typed.proofs.stmt.TStmt.if_.Goals as goal

pub returns : goal.returns
returns c = tree-if c.args.arms c.args.other
