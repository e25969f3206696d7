use Rattle.std.proofs.Common.{IfOk, subst, ◌≡◌}
use Rattle.vcp_typed.specs.TExprViews.{texpr_tree}
use Rattle.st_types.specs.Full.{not-full, is-full}
use Rattle.il_front.proofs.statements.made.Goals as goal

pub returns-in-Ok : goal.returns-in-Ok
returns-in-Ok c = λ d h. not-full (subst (λ x. IfOk x (λ v. texpr_tree v ≡ d)) c.in-Ok.is h)

pub returns-in-Err : goal.returns-in-Err
returns-in-Err c = λ d h. is-full
