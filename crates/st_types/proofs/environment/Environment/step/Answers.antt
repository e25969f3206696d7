use Rattle.std.proofs.Common.{pos, Some, ap, subst, sym}
use Rattle.st_tree.specs.ExprViews.{expr_tree_or_none}
use Rattle.st_types.specs.StmtSteps.{Steps}
use Rattle.st_types.specs.Full.{not-full, so}
use Rattle.st_types.proofs.StmtNodes.{steps, one-step, step-some}
use Rattle.st_types.proofs.environment.Environment.step.Goals as goal

pub returns-in-None-clause-is : goal.returns-in-None-clause-is
returns-in-None-clause-is c =
    not-full (subst (λ e. Steps c.args.self.now.names.now c.args.ty e c.args.noted.now.first c.args.noted.now.first (Some (pos 1)))
    (sym (ap expr_tree_or_none c.in-None.is))
    (one-step c.args.self.now.names.now c.args.ty c.args.noted.now.first))

pub returns-in-Some-clause-is : goal.returns-in-Some-clause-is
returns-in-Some-clause-is c =
    so c.read_number-found.ensures (λ h.
    subst (λ e. Steps c.args.self.now.names.now c.args.ty e c.args.noted.now.first c.bound_fault.new.first c.not_zero.result)
    (sym (ap expr_tree_or_none c.in-Some.is))
    (steps _ _ _ _ _ _ _ _ _ _ h c.spot_of.ensures c.form_not_zero.ensures c.bound_fault.ensures c.not_zero.ensures))

pub returns-in-Some-clause-some : goal.returns-in-Some-clause-some
returns-in-Some-clause-some c = step-some c.read_number-found.result.value _ c.not_zero.ensures
