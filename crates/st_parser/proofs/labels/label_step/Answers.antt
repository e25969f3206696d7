use Rattle.std.proofs.Common.{sym, subst, Option}
use Rattle.st_tree.specs.declared.expr.Expr.{Expr}
use Rattle.st_tree.specs.ExprViews.{expr_tree_or_none}
use Rattle.st_tree.specs.StmtViews.{label_trees, stmt_trees}
use Rattle.st_tree.specs.Spelling.{bytes_in}
use Rattle.st_parser.specs.declared.state.Constant.{Constant}
use Rattle.st_parser.specs.declared.state.Constant.TheVariants as constant_is
use Rattle.st_parser.specs.ExprMachine.{Context}
use Rattle.st_parser.specs.StateViews.{Gives, constant, levels, selection, state}
use Rattle.st_parser.specs.StmtMachine as machine
use Rattle.st_parser.proofs.LabelPhases.{on-wanted, on-negated}
use Rattle.st_parser.proofs.labels.label_step.Goals as goal

pub returns-in-Wanted : goal.returns-in-Wanted
returns-in-Wanted c =
    let k : Context = record { bytes = bytes_in c.args.source.text.now; most = c.args.source.most } in
    let outer = levels c.args.bodies.now.outer.items in
    let ss = stmt_trees c.args.bodies.now.stmts.items.items in
    let on = selection c.args.selection in
    let ls = label_trees c.args.labels.items.items in
    let v = state c.args.bodies.now in
    let r = c.with_constant.result in
    let first = expr_tree_or_none c.args.phase.first in
    let h = rw c.depth_of_labels-depth.ensures at c.constant_at-constant.ensures first in
    subst (λ (x : Constant). Gives v r (machine.label_step k outer ss on ls (constant first x) c.args.t)) (sym c.in-Wanted.is)
    (on-wanted v r k outer ss on ls first c.args.t (c.with_constant.ensures outer ss _ h))

pub returns-in-Negated : goal.returns-in-Negated
returns-in-Negated c =
    let k : Context = record { bytes = bytes_in c.args.source.text.now; most = c.args.source.most } in
    let outer = levels c.args.bodies.now.outer.items in
    let ss = stmt_trees c.args.bodies.now.stmts.items.items in
    let on = selection c.args.selection in
    let ls = label_trees c.args.labels.items.items in
    let v = state c.args.bodies.now in
    let r = c.with_constant-in-Negated.result in
    let first = expr_tree_or_none c.args.phase.first in
    let h = rw c.depth_of_labels-depth.ensures at c.number_at-constant.ensures first in
    subst (λ (x : Constant). Gives v r (machine.label_step k outer ss on ls (constant first x) c.args.t)) (sym c.in-Negated.is)
    (on-negated v r k outer ss on ls first c.in-Negated.sign c.args.t (c.with_constant-in-Negated.ensures outer ss _ h))

pub returns-in-None : goal.returns-in-None
returns-in-None c =
    let k : Context = record { bytes = bytes_in c.args.source.text.now; most = c.args.source.most } in
    let outer = levels c.args.bodies.now.outer.items in
    let ss = stmt_trees c.args.bodies.now.stmts.items.items in
    let on = selection c.args.selection in
    let ls = label_trees c.args.labels.items.items in
    let v = state c.first_ends.new.bodies in
    let r = c.first_ends.result in
    subst (λ (x : Constant). Gives v r (machine.label_step k outer ss on ls (constant (expr_tree_or_none c.args.phase.first) x) c.args.t)) (sym c.in-Read.is)
    (subst (λ (o : Option Expr). Gives v r (machine.label_step k outer ss on ls (constant (expr_tree_or_none o) (constant_is.Read c.in-Read.value)) c.args.t))
    (sym c.in-None.is) c.first_ends.ensures)

pub returns-in-Some : goal.returns-in-Some
returns-in-Some c =
    let k : Context = record { bytes = bytes_in c.args.source.text.now; most = c.args.source.most } in
    let outer = levels c.args.bodies.now.outer.items in
    let ss = stmt_trees c.args.bodies.now.stmts.items.items in
    let on = selection c.args.selection in
    let ls = label_trees c.args.labels.items.items in
    let v = state c.label_ends.new.bodies in
    let r = c.label_ends.result in
    subst (λ (x : Constant). Gives v r (machine.label_step k outer ss on ls (constant (expr_tree_or_none c.args.phase.first) x) c.args.t)) (sym c.in-Read.is)
    (subst (λ (o : Option Expr). Gives v r (machine.label_step k outer ss on ls (constant (expr_tree_or_none o) (constant_is.Read c.in-Read.value)) c.args.t))
    (sym c.in-Some.is) c.label_ends.ensures)
