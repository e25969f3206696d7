use Rattle.std.proofs.Common.{◌≡◌, vec_len}
use Rattle.st_tree.specs.ExprViews.{expr_tree}
use Rattle.st_parser.specs.ExprMachine as machine
use Rattle.st_parser.specs.FormViews.{forms}
use Rattle.st_parser.proofs.forms.close.Given as goal

abbrev pub invariant-closing : goal.invariant-closing
invariant-closing l =
    machine.close l.level (forms l.forms.items) (expr_tree l.have) ≡ machine.close l.level (forms l.fn.forms.items) (expr_tree l.fn.have)

abbrev pub decreases-closing : goal.decreases-closing
decreases-closing l = vec_len l.forms
