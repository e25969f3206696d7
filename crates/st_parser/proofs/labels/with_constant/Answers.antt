use Rattle.std.proofs.Common.{refl, subst, sym}
use Rattle.st_tree.specs.ExprViews.{expr_tree_or_none}
use Rattle.st_tree.specs.StmtViews.{label_trees}
use Rattle.st_parser.specs.StateViews.{Gives, constant, selection, within}
use Rattle.st_parser.specs.StmtMachine as machine
use Rattle.st_parser.proofs.HandedOn.{gives-on}
use Rattle.st_parser.proofs.labels.with_constant.Goals as goal

pub returns-in-Err : goal.returns-in-Err
returns-in-Err c = λ outer ss r given.
    let v = constant (expr_tree_or_none c.args.first) in
    let k = machine.with_phase outer ss (selection c.args.selection) (label_trees c.args.labels.items.items) in
    subst (λ x. Gives (within outer ss) x (k r)) (sym c.give_up_case.ensures)
    (gives-on v (within outer ss) k c.in-Err.fault r (λ g. refl) (subst (λ x. Gives v x r) c.in-Err.is given))
