use Rattle.std.proofs.Common.{sym, subst}
use Rattle.flat_stmt.specs.Parts.{Added}
use Rattle.flat_stmt.specs.Steps.{Exits}
use Rattle.flat_stmt.proofs.branch.leave.Goals as goal

pub returns-then-more : goal.returns-then-more
returns-then-more c =
    subst (λ more. Added c.args.flat.now 2 (λ u. Exits more c.args.flat.now c.go_on.new.flat c.args.branch) c.go_on.result) (sym c.if-more.true) c.go_on.ensures

pub returns-else-more : goal.returns-else-more
returns-else-more c = subst (λ more. Exits more c.args.flat.now c.set_condition.new.self c.args.branch) (sym c.if-more.false) c.set_condition.ensures.is
