use Rattle.fault_cover.proofs.Nearing.{hands_nothing}
use Rattle.fault_cover.proofs.nearest.hand_on.Goals as goal

pub returns-then-not-reads_operation-clause-hands : goal.returns-then-not-reads_operation-clause-hands
returns-then-not-reads_operation-clause-hands c = hands_nothing c.args.op.now c.args.near c.args.found.now
