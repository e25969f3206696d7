use Rattle.std.proofs.Common.{rules, arith}
use Rattle.std.proofs.lemmas.Grind.{common_steps}
use Rattle.coded_machine.proofs.machine.Machine.release.Goals as goal

pub invariant_of-self : goal.invariant_of-self
invariant_of-self c = grind (arith, common_steps)

pub returns-clause-machine : goal.returns-clause-machine
returns-clause-machine c = grind (arith, common_steps)

pub set_outputs-requires : goal.set_outputs-requires
set_outputs-requires c = search rules

pub returns-then-not-has_set : goal.returns-then-not-has_set
returns-then-not-has_set c = search rules
