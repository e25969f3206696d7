use Rattle.vcp_core.proofs.StaleShown.{stale_is_seen}
use Rattle.vcp_core.proofs.laws.stale_operands_are_seen.Goals as goal

pub returns : goal.returns
returns c t g graph table = stale_is_seen t g table (c.differences_come_as_weights.ensures.stale t g graph)
