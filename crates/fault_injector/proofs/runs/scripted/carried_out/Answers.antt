use Rattle.std.proofs.Common.{arith}
use Rattle.fault_injector.proofs.Carrying.{made, right_of, skipped, unchanged}
use Rattle.fault_injector.proofs.runs.scripted.carried_out.Goals as goal

pub returns-in_default-clause-performed : goal.returns-in_default-clause-performed
returns-in_default-clause-performed g c = grind (arith, unchanged)

pub returns-in_default-clause-right : goal.returns-in_default-clause-right
returns-in_default-clause-right g c = λ still. right_of _ _ _ _ _ _ _ _ (returns-in_default-clause-performed g c) still

pub returns-then-is_skip-clause-performed : goal.returns-then-is_skip-clause-performed
returns-then-is_skip-clause-performed g c = grind (arith, skipped)

pub returns-then-is_skip-clause-right : goal.returns-then-is_skip-clause-right
returns-then-is_skip-clause-right g c = λ still. right_of _ _ _ _ _ _ _ _ (returns-then-is_skip-clause-performed g c) still

pub returns-clause-performed : goal.returns-clause-performed
returns-clause-performed g c = grind (arith, made)

pub returns-clause-right : goal.returns-clause-right
returns-clause-right g c = λ still. right_of _ _ _ _ _ _ _ _ (returns-clause-performed g c) still
