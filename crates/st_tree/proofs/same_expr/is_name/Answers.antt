use Rattle.std.proofs.Common.{ap}
use Rattle.st_tree.proofs.SameExprs.{bare_of, same-name, not-name}
use Rattle.st_tree.proofs.same_expr.is_name.Goals as goal

pub returns-in-Name : goal.returns-in-Name
returns-in-Name c = same-name _ _ _ _ c.same_text.ensures (ap bare_of c.in-Name.is)

pub returns-in_default : goal.returns-in_default
returns-in_default c = not-name _ _ c.in_default.not-Name
