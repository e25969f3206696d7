use Rattle.std.proofs.Common.{◌≡◌, ◌+◌, take}
use Rattle.st_parser.specs.ExprMachine as machine
use Rattle.st_parser.specs.FormViews.{forms}
use Rattle.st_parser.proofs.forms.is_within.Given as goal

abbrev pub invariant-loop-form : goal.invariant-loop-form
invariant-loop-form l = l.left + (l.depth + machine.depth_in (forms (take l.form-index l.forms))) ≡ l.most
