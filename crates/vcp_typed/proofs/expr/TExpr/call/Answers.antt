use Rattle.vcp_typed.proofs.Rows.{tree-call}
use Rattle.vcp_typed.proofs.expr.TExpr.call.Goals as goal

pub returns : goal.returns
returns c = tree-call c.args.fun c.args.ty c.args.args c.args.spot
