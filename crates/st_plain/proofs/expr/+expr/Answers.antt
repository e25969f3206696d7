use Rattle.std.proofs.Common.{rules, ◌≡◌, true, ap, sym, subst, ◌∙◌, [], Ok, w64, SFits, to_z, of_z, arith}
use Rattle.std.proofs.lemmas.Int.{to_z-of_z}
use Rattle.vcp_base.specs.declared.ty.Ty.TheVariants as ty
use Rattle.vcp_base.specs.Types.{fits}
use Rattle.vcp_typed.specs.Meaning.{operate, sign, value}
use Rattle.vcp_typed.specs.TExprTree.{unary, binary, widen}
use Rattle.vcp_typed.specs.TExprViews.{texpr_tree, texpr_trees}
use Rattle.std.proofs.lemmas.Result.{err_from_is_err_and}
use Rattle.st_plain.specs.Weight.{expr_weight}
use Rattle.st_plain.proofs.Exprs.{argument-lighter, tree-of-call, apply-at, slot-inside, value-of-slot, not-operand, argument-sound, argument-is, argument-none}
use Rattle.st_plain.proofs.Exprs.{widen-sound, unary-sound, left-sound, right-sound, unary-stops, left-stops, right-stops, unary-is, binary-is}
use Rattle.st_plain.proofs.Exprs.{call-sound, first-stops, second-stops, third-stops, none-stops}
use Rattle.st_plain.proofs.expr.+expr.Goals as goal

pub argument-operand-requires : goal.argument-operand-requires
argument-operand-requires t c = (
  omega (arith, argument-lighter c.args.args.now c.args.i c.index-args-i.result c.if-i-args.true c.index-args-i.is),
  argument-sound c.args.args.now c.args.i c.index-args-i.result c.args.values.now c.if-i-args.true c.index-args-i.is c.requires,
)

pub argument-returns-then-i-args : goal.argument-returns-then-i-args
argument-returns-then-i-args t c =
    c.operand.ensures ∙ sym (argument-is c.args.args.now c.args.i c.index-args-i.result c.args.values.now c.if-i-args.true c.index-args-i.is)

pub argument-returns-else-i-args : goal.argument-returns-else-i-args
argument-returns-else-i-args t c = sym (argument-none c.args.args.now c.args.i c.args.values.now c.if-i-args.false)

pub evaluate-at-requires : goal.evaluate-at-requires
evaluate-at-requires t c = slot-inside (texpr_tree c.args.e.now) c.in-Get.slot c.in-Get.ty c.args.values.now (ap texpr_tree c.in-Get.is) c.requires

pub evaluate-returns-in-Get : goal.evaluate-returns-in-Get
evaluate-returns-in-Get t c =
    let f : SFits w64 c.at.result = search rules in
    ap (λ x. Ok x) (to_z-of_z w64 c.at.result f)
    ∙ value-of-slot (texpr_tree c.args.e.now) c.in-Get.slot c.in-Get.ty c.args.values.now _ (ap texpr_tree c.in-Get.is) c.at.ensures

pub operand-at-requires : goal.operand-at-requires
operand-at-requires t c = slot-inside (texpr_tree c.args.e.now) c.in-Get.slot c.in-Get.ty c.args.values.now (ap texpr_tree c.in-Get.is) c.requires

pub operand-returns-in-Get : goal.operand-returns-in-Get
operand-returns-in-Get t c =
    let f : SFits w64 c.at.result = search rules in
    ap (λ x. Ok x) (to_z-of_z w64 c.at.result f)
    ∙ value-of-slot (texpr_tree c.args.e.now) c.in-Get.slot c.in-Get.ty c.args.values.now _ (ap texpr_tree c.in-Get.is) c.at.ensures

pub evaluate-sign-requires : goal.evaluate-sign-requires
evaluate-sign-requires t c not =
    let f : SFits w64 c.in_ok-a-in-Unary.a = search rules in
    subst (λ x. fits ty.Bool x ≡ true) (sym (to_z-of_z w64 c.in_ok-a-in-Unary.a f))
    (not-operand c.values_fit.ensures.value (texpr_tree c.args.e.now) c.in-Unary.op c.in-Unary.ty
    (texpr_tree c.deref-in-Unary.result.now) c.in-Unary.spot c.args.values.now c.in_ok-a-in-Unary.a
    (ap texpr_tree c.in-Unary.is ∙ ap (λ x. unary c.in-Unary.op c.in-Unary.ty (texpr_tree x) c.in-Unary.spot) (sym c.deref-in-Unary.ensures))
    c.requires c.in_ok-a-in-Unary.ensures not)

pub evaluate-argument-requires : goal.evaluate-argument-requires
evaluate-argument-requires t c =
    let e = tree-of-call c.args.e.now c.in-Call.fun c.in-Call.ty c.in-Call.args c.in-Call.spot c.deref-args.result.now c.in-Call.is
    (c.trees_of_nodes.ensures.call _ _ _ _) c.deref-args.ensures.value in (
      omega (arith, ap expr_weight e),
      call-sound (texpr_tree c.args.e.now) c.in-Call.fun c.in-Call.ty (texpr_trees c.deref-args.result.now) c.in-Call.spot c.args.values.now
          e c.requires,
    )

pub evaluate-argument-requires-in-Call : goal.evaluate-argument-requires-in-Call
evaluate-argument-requires-in-Call t c =
    let e = tree-of-call c.args.e.now c.in-Call.fun c.in-Call.ty c.in-Call.args c.in-Call.spot c.deref-args.result.now c.in-Call.is
    (c.trees_of_nodes.ensures.call _ _ _ _) c.deref-args.ensures.value in (
      omega (arith, ap expr_weight e),
      call-sound (texpr_tree c.args.e.now) c.in-Call.fun c.in-Call.ty (texpr_trees c.deref-args.result.now) c.in-Call.spot c.args.values.now
          e c.requires,
    )

pub evaluate-argument-requires-in-Call-2 : goal.evaluate-argument-requires-in-Call-2
evaluate-argument-requires-in-Call-2 t c =
    let e = tree-of-call c.args.e.now c.in-Call.fun c.in-Call.ty c.in-Call.args c.in-Call.spot c.deref-args.result.now c.in-Call.is
    (c.trees_of_nodes.ensures.call _ _ _ _) c.deref-args.ensures.value in (
      omega (arith, ap expr_weight e),
      call-sound (texpr_tree c.args.e.now) c.in-Call.fun c.in-Call.ty (texpr_trees c.deref-args.result.now) c.in-Call.spot c.args.values.now
          e c.requires,
    )

pub evaluate-returns-in_err-a-in-Call : goal.evaluate-returns-in_err-a-in-Call
evaluate-returns-in_err-a-in-Call t c =
    let p = err_from_is_err_and c.from_residual-in_err-a-in-Call.result c.from_residual-in_err-a-in-Call.ensures.1 in
    let e = tree-of-call c.args.e.now c.in-Call.fun c.in-Call.ty c.in-Call.args c.in-Call.spot c.deref-args.result.now c.in-Call.is
    (c.trees_of_nodes.ensures.call _ _ _ _) c.deref-args.ensures.value in
    rw (p.1, p.2)
    (first-stops (texpr_tree c.args.e.now) c.in-Call.fun c.in-Call.ty
    (texpr_trees c.deref-args.result.now) c.in-Call.spot c.args.values.now _ e c.requires c.in_err-a-in-Call.ensures)

pub evaluate-returns-in_err-b-in-Call : goal.evaluate-returns-in_err-b-in-Call
evaluate-returns-in_err-b-in-Call t c =
    let p = err_from_is_err_and c.from_residual-in_err-b-in-Call.result c.from_residual-in_err-b-in-Call.ensures.1 in
    let e = tree-of-call c.args.e.now c.in-Call.fun c.in-Call.ty c.in-Call.args c.in-Call.spot c.deref-args.result.now c.in-Call.is
    (c.trees_of_nodes.ensures.call _ _ _ _) c.deref-args.ensures.value in
    rw (p.1, p.2)
    (second-stops (texpr_tree c.args.e.now) c.in-Call.fun c.in-Call.ty
    (texpr_trees c.deref-args.result.now) c.in-Call.spot c.args.values.now _ _ e c.requires c.in_ok-a-in-Call.ensures c.in_err-b-in-Call.ensures)

pub evaluate-returns-in_err-c-in-Call : goal.evaluate-returns-in_err-c-in-Call
evaluate-returns-in_err-c-in-Call t c =
    let p = err_from_is_err_and c.from_residual-in_err-c-in-Call.result c.from_residual-in_err-c-in-Call.ensures.1 in
    let e = tree-of-call c.args.e.now c.in-Call.fun c.in-Call.ty c.in-Call.args c.in-Call.spot c.deref-args.result.now c.in-Call.is
    (c.trees_of_nodes.ensures.call _ _ _ _) c.deref-args.ensures.value in
    rw (p.1, p.2) (third-stops (texpr_tree c.args.e.now) c.in-Call.fun c.in-Call.ty (texpr_trees c.deref-args.result.now) c.in-Call.spot c.args.values.now _ _ _ e c.requires c.in_ok-a-in-Call.ensures c.in_ok-b-in-Call.ensures c.in_err-c-in-Call.ensures)

pub evaluate-returns-in_ok-c-in-Call : goal.evaluate-returns-in_ok-c-in-Call
evaluate-returns-in_ok-c-in-Call t c =
    let e = tree-of-call c.args.e.now c.in-Call.fun c.in-Call.ty c.in-Call.args c.in-Call.spot c.deref-args.result.now c.in-Call.is
    (c.trees_of_nodes.ensures.call _ _ _ _) c.deref-args.ensures.value in
    let f : SFits w64 c.in_ok-a-in-Call.a = search rules in
    let g : SFits w64 c.in_ok-b-in-Call.b = search rules in
    let h : SFits w64 c.in_ok-c-in-Call.c = search rules in
    c.apply.ensures ∙ apply-at c.in-Call.fun c.in-Call.ty c.in-Call.spot _ _ _ _ _ _ (to_z-of_z w64 _ f) (to_z-of_z w64 _ g) (to_z-of_z w64 _ h)
    ∙ none-stops (texpr_tree c.args.e.now) c.in-Call.fun c.in-Call.ty (texpr_trees c.deref-args.result.now) c.in-Call.spot c.args.values.now _ _ _ e c.requires c.in_ok-a-in-Call.ensures c.in_ok-b-in-Call.ensures c.in_ok-c-in-Call.ensures

pub evaluate-operand-requires : goal.evaluate-operand-requires
evaluate-operand-requires t c =
    let is = ap texpr_tree c.in-Widen.is ∙ ap (λ x. widen c.in-Widen.ty (texpr_tree x)) (sym c.deref.ensures) in (
      omega (arith, ap expr_weight is),
      widen-sound (texpr_tree c.args.e.now) c.in-Widen.ty (texpr_tree c.deref.result.now) c.args.values.now is c.requires,
    )

pub evaluate-returns-in-Widen : goal.evaluate-returns-in-Widen
evaluate-returns-in-Widen t c =
    let is = ap texpr_tree c.in-Widen.is ∙ ap (λ x. widen c.in-Widen.ty (texpr_tree x)) (sym c.deref.ensures) in
    c.operand.ensures ∙ sym (ap (λ x. value [] x c.args.values.now) is)

pub evaluate-operand-requires-in-Unary : goal.evaluate-operand-requires-in-Unary
evaluate-operand-requires-in-Unary t c =
    let u = c.in-Unary in
    let is = ap texpr_tree u.is ∙ ap (λ x. unary u.op u.ty (texpr_tree x) u.spot) (sym c.deref-in-Unary.ensures) in (
      omega (arith, ap expr_weight is),
      unary-sound (texpr_tree c.args.e.now) u.op u.ty (texpr_tree c.deref-in-Unary.result.now) u.spot c.args.values.now is c.requires,
    )

pub evaluate-returns-in_err-a-in-Unary : goal.evaluate-returns-in_err-a-in-Unary
evaluate-returns-in_err-a-in-Unary t c =
    let p = err_from_is_err_and c.from_residual.result c.from_residual.ensures.1 in
    let u = c.in-Unary in
    let is = ap texpr_tree u.is ∙ ap (λ x. unary u.op u.ty (texpr_tree x) u.spot) (sym c.deref-in-Unary.ensures) in
    rw (p.1, p.2)
    (unary-stops (texpr_tree c.args.e.now) u.op u.ty (texpr_tree c.deref-in-Unary.result.now) u.spot c.args.values.now _ is c.in_err-a-in-Unary.ensures)

pub evaluate-returns-in_ok-a-in-Unary : goal.evaluate-returns-in_ok-a-in-Unary
evaluate-returns-in_ok-a-in-Unary t c =
    let u = c.in-Unary in
    let is = ap texpr_tree u.is ∙ ap (λ x. unary u.op u.ty (texpr_tree x) u.spot) (sym c.deref-in-Unary.ensures) in
    let f : SFits w64 c.in_ok-a-in-Unary.a = search rules in
    c.sign.ensures ∙ ap (λ x. sign u.op u.ty u.spot [] x) (to_z-of_z w64 c.in_ok-a-in-Unary.a f)
    ∙ unary-is (texpr_tree c.args.e.now) u.op u.ty (texpr_tree c.deref-in-Unary.result.now) u.spot c.args.values.now _ is c.in_ok-a-in-Unary.ensures

pub evaluate-operand-requires-in-Binary : goal.evaluate-operand-requires-in-Binary
evaluate-operand-requires-in-Binary t c =
    let u = c.in-Binary in
    let is = ap texpr_tree u.is ∙ ap (λ x. binary u.op u.ty (texpr_tree x) (texpr_tree u.right.value) u.spot) (sym c.deref-in-Binary.ensures) in (
      omega (arith, ap expr_weight is),
      left-sound (texpr_tree c.args.e.now) u.op u.ty (texpr_tree c.deref-in-Binary.result.now) (texpr_tree u.right.value) u.spot c.args.values.now is c.requires,
    )

pub evaluate-returns-in_err-a-in-Binary : goal.evaluate-returns-in_err-a-in-Binary
evaluate-returns-in_err-a-in-Binary t c =
    let p = err_from_is_err_and c.from_residual-in_err-a-in-Binary.result c.from_residual-in_err-a-in-Binary.ensures.1 in
    let u = c.in-Binary in
    let is = ap texpr_tree u.is ∙ ap (λ x. binary u.op u.ty (texpr_tree x) (texpr_tree u.right.value) u.spot) (sym c.deref-in-Binary.ensures) in
    rw (p.1, p.2)
    (left-stops (texpr_tree c.args.e.now) u.op u.ty (texpr_tree c.deref-in-Binary.result.now) (texpr_tree u.right.value) u.spot c.args.values.now _ is
    c.in_err-a-in-Binary.ensures)

pub evaluate-operand-requires-in-Binary-2 : goal.evaluate-operand-requires-in-Binary-2
evaluate-operand-requires-in-Binary-2 t c =
    let u = c.in-Binary in
    let is = ap texpr_tree u.is ∙ ap (λ x. binary u.op u.ty (texpr_tree u.left.value) (texpr_tree x) u.spot) (sym c.deref-in-Binary-2.ensures) in (
      omega (arith, ap expr_weight is),
      right-sound (texpr_tree c.args.e.now) u.op u.ty (texpr_tree u.left.value) (texpr_tree c.deref-in-Binary-2.result.now) u.spot c.args.values.now is c.requires,
    )

pub evaluate-returns-in_err-b-in-Binary : goal.evaluate-returns-in_err-b-in-Binary
evaluate-returns-in_err-b-in-Binary t c =
    let p = err_from_is_err_and c.from_residual-in_err-b-in-Binary.result c.from_residual-in_err-b-in-Binary.ensures.1 in
    let u = c.in-Binary in
    let is = ap texpr_tree u.is
    ∙ (ap (λ x. binary u.op u.ty (texpr_tree x) (texpr_tree u.right.value) u.spot) (sym c.deref-in-Binary.ensures)
    ∙ ap (λ x. binary u.op u.ty (texpr_tree c.deref-in-Binary.result.now) (texpr_tree x) u.spot) (sym c.deref-in-Binary-2.ensures)) in
    rw (p.1, p.2)
    (right-stops (texpr_tree c.args.e.now) u.op u.ty (texpr_tree c.deref-in-Binary.result.now) (texpr_tree c.deref-in-Binary-2.result.now) u.spot
    c.args.values.now _ _ is c.in_ok-a-in-Binary.ensures c.in_err-b-in-Binary.ensures)

pub evaluate-returns-in_ok-b-in-Binary : goal.evaluate-returns-in_ok-b-in-Binary
evaluate-returns-in_ok-b-in-Binary t c =
    let u = c.in-Binary in
    let is = ap texpr_tree u.is
    ∙ (ap (λ x. binary u.op u.ty (texpr_tree x) (texpr_tree u.right.value) u.spot) (sym c.deref-in-Binary.ensures)
    ∙ ap (λ x. binary u.op u.ty (texpr_tree c.deref-in-Binary.result.now) (texpr_tree x) u.spot) (sym c.deref-in-Binary-2.ensures)) in
    let f : SFits w64 c.in_ok-a-in-Binary.a = search rules in
    let g : SFits w64 c.in_ok-b-in-Binary.b = search rules in
    c.operate.ensures ∙ ap (λ x. operate u.op u.ty u.spot [] x (to_z w64 (of_z w64 c.in_ok-b-in-Binary.b))) (to_z-of_z w64 c.in_ok-a-in-Binary.a f)
    ∙ ap (λ y. operate u.op u.ty u.spot [] c.in_ok-a-in-Binary.a y) (to_z-of_z w64 c.in_ok-b-in-Binary.b g)
    ∙ binary-is (texpr_tree c.args.e.now) u.op u.ty (texpr_tree c.deref-in-Binary.result.now) (texpr_tree c.deref-in-Binary-2.result.now) u.spot
    c.args.values.now _ _ is c.in_ok-a-in-Binary.ensures c.in_ok-b-in-Binary.ensures

pub operand-evaluate-requires : goal.operand-evaluate-requires
operand-evaluate-requires t c = (omega arith, c.requires)

pub operand-returns-in_default : goal.operand-returns-in_default
operand-returns-in_default t c = c.evaluate.ensures
