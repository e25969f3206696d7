use Rattle.std.proofs.Common.{inl, inr, refl}
use Rattle.vcp_core.proofs.PlainTurns.{appends-nothing}
use Rattle.vcp_core.proofs.top.serve.Goals as goal

-- the command came to its end
pub returns-in-Ok : goal.returns-in-Ok
returns-in-Ok g c = (_, _, c.in-Ok.ensures, inl (c.status_of.ensures, appends-nothing _, refl))

-- it ended by a fault whose line was told
pub returns-in-Ok-tell : goal.returns-in-Ok-tell
returns-in-Ok-tell g c = (_, _, c.in-Err.ensures, inl (c.fault_status-in-Ok-tell.ensures, c.in-Ok-tell.ensures.whole, c.in-Ok-tell.ensures.cause.stayed))

-- or the line could not be told
pub returns-in-Err-tell : goal.returns-in-Err-tell
returns-in-Err-tell g c = (_, _, c.in-Err.ensures, inr (refl, c.in-Err-tell.ensures.cause.failed, c.in-Err-tell.ensures.part))
