use Rattle.std.proofs.Common.{List, ap, ◌∙◌}
use Rattle.st_tree.specs.ExprTree.{ExprTree}
use Rattle.st_tree.specs.ExprViews.{expr_tree}
use Rattle.st_parser.specs.ExprMachine.{Form, Closed}
use Rattle.st_parser.specs.FormViews.{forms}
use Rattle.st_parser.proofs.Frames.{forms-push}
use Rattle.st_parser.proofs.forms.reopened.Goals as goal

abbrev round : ExprTree → List Form → Closed
round e fs = record { forms = fs; expr = e }

pub returns-in-Ok : goal.returns-in-Ok
returns-in-Ok c = ap (round (expr_tree c.args.have)) (ap forms c.in-Ok.ensures.items ∙ forms-push _ _)
