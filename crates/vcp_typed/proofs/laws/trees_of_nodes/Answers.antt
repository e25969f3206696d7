use Rattle.vcp_typed.proofs.Rows.{tree-call, tree-if, tree-case, tree-for}
use Rattle.vcp_typed.proofs.laws.trees_of_nodes.Goals as goal

pub returns : goal.returns
returns c = record { call = tree-call; if_ = tree-if; case = tree-case; for_ = tree-for }
