use Rattle.std.proofs.Common.{ap, ◌∙◌}
use Rattle.vcp_outside.specs.FailingCalls.{fails_at}
use Rattle.vcp_outside.proofs.Numbers.{looked_up}
use Rattle.vcp_outside.proofs.failing_calls.FailingCalls.next.Goals as goal

pub returns-clause-answer : goal.returns-clause-answer
returns-clause-answer c =
    c.contains-fails.ensures ∙ looked_up c.self.inside.made c.self.inside.failing.keys ∙ ap (λ calls. fails_at calls calls.made) c.self.view_is
