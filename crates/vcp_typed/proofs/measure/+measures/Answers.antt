use Rattle.std.proofs.Common.{◌≡◌, ◌+◌, ◌||◌, false, ap, refl, sym, ◌∙◌, subst, sum_by}
use Rattle.vcp_typed.specs.declared.stmt.TStmt.{TStmt}
use Rattle.vcp_typed.specs.Measures.{Grows}
use Rattle.vcp_typed.specs.TExprViews.{texpr_tree}
use Rattle.vcp_typed.specs.TStmtViews.{tstmt_tree, tstmt_trees, tarm_trees, tbranch_trees, tother_tree}
use Rattle.vcp_typed.specs.Size.{cut, expr_size, label_size, stmt_size, stmts_size, arms_size, branches_size, other_size}
use Rattle.vcp_typed.specs.Wide.{expr_is_wide, stmt_is_wide, stmts_are_wide, arms_are_wide, branches_are_wide, other_is_wide}
use Rattle.vcp_typed.proofs.Growths.{grown, grown-cut, grows-two, grows-as, grows-none, from-none, grows-more, grows-end}
use Rattle.vcp_typed.proofs.Sizes.{size-if, size-case, size-for, sum-right}
use Rattle.vcp_typed.proofs.Wides.{wide-if, wide-case, wide-for}
use Rattle.vcp_typed.proofs.measure.+measures.Goals as goal

pub stmt_measure-returns-in-Assign : goal.stmt_measure-returns-in-Assign
stmt_measure-returns-in-Assign t c =
    let own = grown c.args.total c.more.result _ 1 _ false refl refl c.more.ensures.size c.more.ensures.wide in
    subst (λ (x : TStmt). Grows c.args.total c.expr_measure.result (stmt_size (tstmt_tree x)) (stmt_is_wide (tstmt_tree x))) (sym c.in-Assign.is)
    (grows-two _ _ _ _ _ _ _ own c.expr_measure.ensures)

pub stmt_measure-returns-in-If : goal.stmt_measure-returns-in-If
stmt_measure-returns-in-If t c =
    grows-as _ _ _ _ _ _ (grows-two _ _ _ _ _ _ _ c.arms_measure.ensures c.other_measure.ensures)
    (sym (size-if _ _ _ _ c.in-If.is c.deref.ensures.value)) (sym (wide-if _ _ _ _ c.in-If.is c.deref.ensures.value))

pub stmt_measure-returns-in-Case : goal.stmt_measure-returns-in-Case
stmt_measure-returns-in-Case t c =
    grows-as _ _ _ _ _ _
    (grows-two _ _ _ _ _ _ _ (grows-two _ _ _ _ _ _ _ c.expr_measure-in-Case.ensures c.branches_measure.ensures) c.other_measure-in-Case.ensures)
    (sym (size-case _ _ _ _ _ _ c.in-Case.is c.deref-in-Case.ensures.value))
    (sym (wide-case _ _ _ _ _ _ c.in-Case.is c.deref-in-Case.ensures.value))

pub stmt_measure-returns-in-For : goal.stmt_measure-returns-in-For
stmt_measure-returns-in-For t c =
    let body = c.stmts_measure-body.ensures in
    let value = c.deref-in-For.ensures.value in
    grown-cut c.args.total c.more-in-For.result _ _ _ _
    (size-for _ _ _ _ _ _ _ c.in-For.is _ _ c.repeated.ensures.none c.repeated.ensures.some
    (from-none _ _ (body.size 0 refl) ∙ ap (λ xs. cut (stmts_size (tstmt_trees xs))) value))
    (body.found ∙ ap (λ xs. stmts_are_wide (tstmt_trees xs)) value ∙ sym (wide-for _ _ _ _ _ _ _ c.in-For.is))
    c.more-in-For.ensures.size c.more-in-For.ensures.wide

pub stmts_measure-each-init : goal.stmts_measure-each-init
stmts_measure-each-init t c = λ r h. h

pub stmts_measure-each-preserved : goal.stmts_measure-each-preserved
stmts_measure-each-preserved t c = λ r h.
    c.each.invariant r
    (grows-more (λ xs. stmts_size (tstmt_trees xs)) (λ x. stmt_size (tstmt_tree x)) (λ xs. stmts_are_wide (tstmt_trees xs)) (λ x. stmt_is_wide (tstmt_tree x))
    c.args.ss.now c.each.s-index c.s-item.result _ _ r (λ _ _. refl) (λ _ _. refl) c.each-test.true c.s-item.is c.stmt_measure-sum.ensures h)

pub stmts_measure-returns : goal.stmts_measure-returns
stmts_measure-returns t c =
    c.each.invariant c.each.sum
    (grows-end (λ xs. stmts_size (tstmt_trees xs)) (λ xs. stmts_are_wide (tstmt_trees xs)) c.args.ss.now c.each.s-index c.each.sum refl refl c.each-test.false)

pub arms_measure-each-init : goal.arms_measure-each-init
arms_measure-each-init t c = λ r h. h

pub arms_measure-each-preserved : goal.arms_measure-each-preserved
arms_measure-each-preserved t c = λ r h.
    let own = grown c.each.sum c.more.result _ 3 _ false refl refl c.more.ensures.size c.more.ensures.wide in
    let body = subst (λ xs. Grows c.expr_measure.result c.stmts_measure-sum.result (stmts_size (tstmt_trees xs)) (stmts_are_wide (tstmt_trees xs)))
    c.deref.ensures.value c.stmts_measure-sum.ensures in
    c.each.invariant r
    (grows-more (λ xs. arms_size (tarm_trees xs)) (λ x. 3 + expr_size (texpr_tree x.cond) + stmts_size (tstmt_trees x.body.items.items)) (λ xs. arms_are_wide (tarm_trees xs)) (λ x. expr_is_wide (texpr_tree x.cond) || stmts_are_wide (tstmt_trees x.body.items.items))
    c.args.arms.now c.each.arm-index c.arm-item.result _ _ r (λ _ _. refl) (λ _ _. refl) c.each-test.true c.arm-item.is
    (grows-two _ _ _ _ _ _ _ (grows-two _ _ _ _ _ _ _ own c.expr_measure.ensures) body) h)

pub arms_measure-returns : goal.arms_measure-returns
arms_measure-returns t c =
    c.each.invariant c.each.sum
    (grows-end (λ xs. arms_size (tarm_trees xs)) (λ xs. arms_are_wide (tarm_trees xs)) c.args.arms.now c.each.arm-index c.each.sum refl refl c.each-test.false)

pub branches_measure-each-init : goal.branches_measure-each-init
branches_measure-each-init t c = λ r h. h

pub branches_measure-each-preserved : goal.branches_measure-each-preserved
branches_measure-each-preserved t c = λ r h.
    let labels = c.labels_size.ensures ∙ ap (λ xs. cut (sum_by label_size xs)) c.deref.ensures.value in
    let own = grown-cut c.each.sum c.more.result _ (3 + sum_by label_size c.branch-item.result.labels.items.items) _ false
    (sum-right _ 3 _ _ labels c.plus-labels.ensures) refl c.more.ensures.size c.more.ensures.wide in
    let body = subst (λ xs. Grows c.more.result c.stmts_measure-sum.result (stmts_size (tstmt_trees xs)) (stmts_are_wide (tstmt_trees xs)))
    c.deref-in-each.ensures.value c.stmts_measure-sum.ensures in
    c.each.invariant r
    (grows-more (λ xs. branches_size (tbranch_trees xs)) (λ x. 3 + sum_by label_size x.labels.items.items + stmts_size (tstmt_trees x.body.items.items)) (λ xs. branches_are_wide (tbranch_trees xs)) (λ x. stmts_are_wide (tstmt_trees x.body.items.items))
    c.args.branches.now c.each.branch-index c.branch-item.result _ _ r (λ _ _. refl) (λ _ _. refl) c.each-test.true c.branch-item.is (grows-two _ _ _ _ _ _ _ own body) h)

pub branches_measure-returns : goal.branches_measure-returns
branches_measure-returns t c =
    c.each.invariant c.each.sum
    (grows-end (λ xs. branches_size (tbranch_trees xs)) (λ xs. branches_are_wide (tbranch_trees xs)) c.args.branches.now c.each.branch-index c.each.sum refl refl c.each-test.false)

pub other_measure-returns-in-None : goal.other_measure-returns-in-None
other_measure-returns-in-None t c =
    subst (λ o. Grows c.args.total c.args.total (other_size (tother_tree o)) (other_is_wide (tother_tree o))) (sym c.in-None.is) (grows-none c.args.total)

pub other_measure-returns-in-Some : goal.other_measure-returns-in-Some
other_measure-returns-in-Some t c =
    subst (λ o. Grows c.args.total c.stmts_measure.result (other_size (tother_tree o)) (other_is_wide (tother_tree o))) (sym c.in-Some.is)
    (subst (λ xs. Grows c.args.total c.stmts_measure.result (stmts_size (tstmt_trees xs)) (stmts_are_wide (tstmt_trees xs))) c.deref.ensures.value
    c.stmts_measure.ensures)
