use Rattle.std.proofs.Common.{Some, None}
use Rattle.il_front.proofs.TableLaws.{found-means}
use Rattle.il_front.proofs.operand.variable.Goals as goal

pub returns-in-None : goal.returns-in-None
returns-in-None c = λ slots t. found-means c.args.names.now slots c.args.name.now None t (rw c.in-None.is at c.find.ensures)

pub returns-in-Some : goal.returns-in-Some
returns-in-Some c = λ slots t.
    rw c.is_set.ensures
    (found-means c.args.names.now slots c.args.name.now (Some c.in-Some.x.now) t (rw c.in-Some.is at c.find.ensures))
