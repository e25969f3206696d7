use Rattle.std.proofs.Common.{arith}
use Rattle.telegram.proofs.Heads.{head_is, head_refused}
use Rattle.telegram.proofs.script.head.head.Goals as goal

pub returns-then-not-same_bytes-clause-refusal : goal.returns-then-not-same_bytes-clause-refusal
returns-then-not-same_bytes-clause-refusal c = grind (arith, head_refused)

pub returns-in-Ok-clause-wire : goal.returns-in-Ok-clause-wire
returns-in-Ok-clause-wire c = grind (arith, head_is)

pub returns-in-Ok-clause-refusal : goal.returns-in-Ok-clause-refusal
returns-in-Ok-clause-refusal c = grind (arith, head_is)

pub returns-in-Err-clause-refusal : goal.returns-in-Err-clause-refusal
returns-in-Err-clause-refusal c = grind (arith, head_is)
