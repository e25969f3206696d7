use Rattle.std.proofs.Common.{ap, ◌∙◌}
use Rattle.st_types.specs.ExprTyping.{widened}
use Rattle.il_front.specs.TypedForm.{turned}
use Rattle.st_types.specs.Full.{so-two}
use Rattle.il_front.proofs.statements.stored.Goals as goal

pub returns : goal.returns
returns c =
    so-two c.turned-value.ensures c.widened.ensures
    (λ h k. k ∙ ap (widened c.args.to c.args.ty) (h ∙ ap (turned c.args.negated c.args.spot) c.kept.ensures))
