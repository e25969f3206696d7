use Rattle.std.proofs.Common.{Some, None, ap, subst, sym}
use Rattle.st_tree.specs.ExprViews.{expr_tree_or_none}
use Rattle.st_types.specs.StmtSteps.{TypesLast}
use Rattle.st_types.specs.Full.{not-full, so}
use Rattle.st_types.proofs.StmtNodes.{no-last, some-last}
use Rattle.st_types.proofs.environment.Environment.last_end.Goals as goal

pub returns-in-None : goal.returns-in-None
returns-in-None c =
    not-full (subst (λ e. TypesLast c.args.self.now.names.now c.args.ty e c.args.noted.now.first c.args.noted.now.first None)
    (sym (ap expr_tree_or_none c.in-None.is))
    (no-last c.args.self.now.names.now c.args.ty c.args.noted.now.first))

pub returns-in-Some : goal.returns-in-Some
returns-in-Some c =
    so c.read_number.ensures (λ h.
    subst (λ e. TypesLast c.args.self.now.names.now c.args.ty e c.args.noted.now.first c.read_number.new.noted.first (Some c.read_number.result))
    (sym (ap expr_tree_or_none c.in-Some.is))
    (some-last _ _ _ _ _ _ h))
