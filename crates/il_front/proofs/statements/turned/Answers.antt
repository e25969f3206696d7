use Rattle.std.proofs.Common.{sym, ap, ◌∙◌}
use Rattle.vcp_typed.specs.TExprViews.{texpr_tree}
use Rattle.il_front.specs.TypedForm.{turned}
use Rattle.st_types.specs.Full.{so}
use Rattle.il_front.proofs.statements.turned.Goals as goal

pub returns-then-negated : goal.returns-then-negated
returns-then-negated c =
    so (c.made.ensures _ c.unary.ensures) (λ h. h ∙ ap (λ b. turned b c.args.spot (texpr_tree c.args.e)) (sym c.if-negated.true))
