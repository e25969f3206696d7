use Rattle.std.proofs.Common.{◌+◌, ◌||◌, ap, ap₂, refl, sym, ◌∙◌, subst}
use Rattle.vcp_typed.specs.declared.expr.TExpr.{TExpr}
use Rattle.vcp_typed.specs.Measures.{Grows}
use Rattle.vcp_typed.specs.TExprViews.{texpr_tree, texpr_trees}
use Rattle.vcp_typed.specs.Size.{operator_size, function_size, expr_size, exprs_size}
use Rattle.vcp_typed.specs.Wide.{is_lint, expr_is_wide, exprs_are_wide}
use Rattle.vcp_typed.proofs.Growths.{grown, grows-two, grows-as, zero-and, grows-more, grows-end}
use Rattle.vcp_typed.proofs.Sizes.{size-call}
use Rattle.vcp_typed.proofs.Wides.{wide-call}
use Rattle.vcp_typed.proofs.measure.+measure.Goals as goal

pub expr_measure-returns-in-Lit : goal.expr_measure-returns-in-Lit
expr_measure-returns-in-Lit t c =
    let own = grown c.args.total c.more.result _ 1 _ (is_lint c.in-Lit.ty) refl c.is_lint.ensures c.more.ensures.size
    c.more.ensures.wide in
    subst (λ (x : TExpr). Grows c.args.total c.more.result (expr_size (texpr_tree x)) (expr_is_wide (texpr_tree x))) (sym c.in-Lit.is) own

pub expr_measure-returns-in-Get : goal.expr_measure-returns-in-Get
expr_measure-returns-in-Get t c =
    let own = grown c.args.total c.more-in-Get.result _ 0 _ (is_lint c.in-Get.ty) refl c.is_lint-in-Get.ensures c.more-in-Get.ensures.size
    c.more-in-Get.ensures.wide in
    subst (λ (x : TExpr). Grows c.args.total c.more-in-Get.result (expr_size (texpr_tree x)) (expr_is_wide (texpr_tree x))) (sym c.in-Get.is) own

pub expr_measure-returns-in-Widen : goal.expr_measure-returns-in-Widen
expr_measure-returns-in-Widen t c =
    let a = sym c.deref.ensures in
    let own = grown c.args.total c.more-in-Widen.result _ 0 _ (is_lint c.in-Widen.ty) refl c.is_lint-in-Widen.ensures c.more-in-Widen.ensures.size
    c.more-in-Widen.ensures.wide in
    grows-as _ _ _ _ _ _ (grows-two _ _ _ _ _ _ _ own c.expr_measure.ensures)
    (zero-and _ ∙ sym (ap (λ x. expr_size (texpr_tree x)) c.in-Widen.is ∙ ap (λ x. expr_size (texpr_tree x)) a))
    (sym (ap (λ x. expr_is_wide (texpr_tree x)) c.in-Widen.is ∙ ap (λ x. is_lint c.in-Widen.ty || expr_is_wide (texpr_tree x)) a))

pub expr_measure-returns-in-Unary : goal.expr_measure-returns-in-Unary
expr_measure-returns-in-Unary t c =
    let a = sym c.deref-in-Unary.ensures in
    let own = grown c.args.total c.more-in-Unary.result _ 2 _ (is_lint c.in-Unary.ty) refl c.is_lint-in-Unary.ensures c.more-in-Unary.ensures.size
    c.more-in-Unary.ensures.wide in
    grows-as _ _ _ _ _ _ (grows-two _ _ _ _ _ _ _ own c.expr_measure-in-Unary.ensures)
    (sym (ap (λ x. expr_size (texpr_tree x)) c.in-Unary.is ∙ ap (λ x. 2 + expr_size (texpr_tree x)) a))
    (sym (ap (λ x. expr_is_wide (texpr_tree x)) c.in-Unary.is ∙ ap (λ x. is_lint c.in-Unary.ty || expr_is_wide (texpr_tree x)) a))

pub expr_measure-returns-in-Binary : goal.expr_measure-returns-in-Binary
expr_measure-returns-in-Binary t c =
    let a = sym c.deref-in-Binary.ensures in
    let b = sym c.deref-in-Binary-2.ensures in
    let own = grown c.args.total c.more-in-Binary.result _ (operator_size c.in-Binary.op) _ (is_lint c.in-Binary.ty) c.operator_size.ensures c.is_lint-in-Binary.ensures c.more-in-Binary.ensures.size
    c.more-in-Binary.ensures.wide in
    grows-as _ _ _ _ _ _
    (grows-two _ _ _ _ _ _ _ (grows-two _ _ _ _ _ _ _ own c.expr_measure-in-Binary.ensures) c.expr_measure-in-Binary-2.ensures)
    (sym (ap (λ x. expr_size (texpr_tree x)) c.in-Binary.is
    ∙ ap₂ (λ x y. operator_size c.in-Binary.op + expr_size (texpr_tree x) + expr_size (texpr_tree y)) a b))
    (sym (ap (λ x. expr_is_wide (texpr_tree x)) c.in-Binary.is
    ∙ ap₂ (λ x y. is_lint c.in-Binary.ty || expr_is_wide (texpr_tree x) || expr_is_wide (texpr_tree y)) a b))

pub expr_measure-returns-in-Call : goal.expr_measure-returns-in-Call
expr_measure-returns-in-Call t c =
    let own = grown c.args.total c.more-in-Call.result _ (function_size c.in-Call.fun) _ (is_lint c.in-Call.ty) c.function_size.ensures c.is_lint-in-Call.ensures c.more-in-Call.ensures.size
    c.more-in-Call.ensures.wide in
    let args = subst (λ xs. Grows c.more-in-Call.result c.exprs_measure.result (exprs_size (texpr_trees xs)) (exprs_are_wide (texpr_trees xs)))
    c.deref-in-Call.ensures.value c.exprs_measure.ensures in
    grows-as _ _ _ _ _ _ (grows-two _ _ _ _ _ _ _ own args)
    (sym (size-call c.args.e.now c.in-Call.fun c.in-Call.ty c.in-Call.args c.in-Call.spot c.in-Call.is))
    (sym (wide-call c.args.e.now c.in-Call.fun c.in-Call.ty c.in-Call.args c.in-Call.spot c.in-Call.is))

pub exprs_measure-each-init : goal.exprs_measure-each-init
exprs_measure-each-init t c = λ r h. h

pub exprs_measure-each-preserved : goal.exprs_measure-each-preserved
exprs_measure-each-preserved t c = λ r h.
    c.each.invariant r
    (grows-more (λ xs. exprs_size (texpr_trees xs)) (λ x. expr_size (texpr_tree x)) (λ xs. exprs_are_wide (texpr_trees xs)) (λ x. expr_is_wide (texpr_tree x))
    c.args.es.now c.each.e-index c.e-item.result _ _ r (λ _ _. refl) (λ _ _. refl) c.each-test.true c.e-item.is c.expr_measure-sum.ensures h)

pub exprs_measure-returns : goal.exprs_measure-returns
exprs_measure-returns t c =
    c.each.invariant c.each.sum
    (grows-end (λ xs. exprs_size (texpr_trees xs)) (λ xs. exprs_are_wide (texpr_trees xs)) c.args.es.now c.each.e-index c.each.sum refl refl c.each-test.false)
