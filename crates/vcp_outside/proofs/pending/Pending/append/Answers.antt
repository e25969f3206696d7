use Rattle.std.proofs.Common.{rules}
use Rattle.vcp_outside.proofs.pending.Pending.append.Goals as goal

pub returns-then-piece-self : goal.returns-then-piece-self
returns-then-piece-self c = search rules
