use Rattle.vcp_outside.proofs.Numbers.{also}
use Rattle.vcp_outside.proofs.failing_calls.FailingCalls.add.Goals as goal

pub returns-clause-ok : goal.returns-clause-ok
returns-clause-ok c =
    also c.args.number c.args.self.now _ _ _ (cc) (cc) c.in_ok-insert.ensures.updates.1 c.in_ok-insert.ensures.updates.2
