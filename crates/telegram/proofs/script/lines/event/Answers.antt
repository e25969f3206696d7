use Rattle.std.proofs.Common.{arith}
use Rattle.telegram.proofs.LinesFit.{cycle_is, cycle_of_fits, delivery_is, neither}
use Rattle.telegram.proofs.script.lines.event.Goals as goal

pub returns-in-Err-clause-refusal : goal.returns-in-Err-clause-refusal
returns-in-Err-clause-refusal c = grind (arith, cycle_is)

pub returns-in-Ok-clause-event : goal.returns-in-Ok-clause-event
returns-in-Ok-clause-event c = grind (arith, cycle_is)

pub returns-in-Ok-clause-refusal : goal.returns-in-Ok-clause-refusal
returns-in-Ok-clause-refusal c = grind (arith, cycle_is)

pub returns-in-Ok-clause-fits : goal.returns-in-Ok-clause-fits
returns-in-Ok-clause-fits c = grind (arith, cycle_of_fits)

pub returns-in-Err-numbers-clause-refusal : goal.returns-in-Err-numbers-clause-refusal
returns-in-Err-numbers-clause-refusal c = grind (arith, delivery_is)

pub returns-in-Ok-numbers-clause-event : goal.returns-in-Ok-numbers-clause-event
returns-in-Ok-numbers-clause-event c = grind (arith, delivery_is)

pub returns-in-Ok-numbers-clause-refusal : goal.returns-in-Ok-numbers-clause-refusal
returns-in-Ok-numbers-clause-refusal c = grind (arith, delivery_is)

pub returns-clause-refusal : goal.returns-clause-refusal
returns-clause-refusal c = grind (arith, neither)
