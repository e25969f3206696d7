use Rattle.std.proofs.Common.{◌≡◌, true, sym, ap, ap₂, ◌∙◌, subst, rules, w64, SFits}
use Rattle.std.proofs.lemmas.Result.{IfOk-weaker}
use Rattle.std.proofs.lemmas.Int.{to_z-of_z}
use Rattle.vcp_base.specs.Types.{fits}
use Rattle.vcp_typed.specs.TExprTree.{literal, get, widen, unary, binary}
use Rattle.vcp_typed.specs.TExprViews.{texpr_tree}
use Rattle.vcp_typed.specs.Checked.{IsExpr, HasType}
use Rattle.flat_expr.specs.State.{Flattens, Reads, IsA}
use Rattle.flat_expr.proofs.Exprs.{literal_made, get_made, widen_made, unary_made, binary_made}
use Rattle.std.specs.Prelude.{IfErr}
use Rattle.std.proofs.lemmas.Result.{err_from_is_err_and}
use Rattle.flat_expr.specs.State.{Leaves, no_slot, one_slot, one_reads}
use Rattle.flat_expr.specs.ReadSlots.{reads_slot, read_slots}
use Rattle.flat_expr.proofs.Steps.{neither}
use Rattle.flat_expr.proofs.Refusals.{later_leaves, more_leaves}
use Rattle.std.proofs.Common.{◌+◌, length, Some, refl, arith}
use Rattle.std.proofs.lemmas.Option.{slice_get_read, slice_get_within}
use Rattle.vcp_typed.specs.TExprTree.{call}
use Rattle.vcp_typed.specs.TExprViews.{texpr_trees}
use Rattle.vcp_typed.specs.Checked.{AreExprs, tys_of}
use Rattle.vcp_typed.specs.Rules.{arguments}
use Rattle.vcp_typed.specs.Size.{expr_size, operator_size, function_size}
use Rattle.flat_expr.specs.State.{FlattensOne, Follows, argument, one_size}
use Rattle.flat_expr.specs.State.{Allows, last_type}
use Rattle.vcp_typed.specs.Wide.{is_lint, expr_is_wide, exprs_are_wide}
use Rattle.std.specs.Prelude.{◌||◌}
use Rattle.flat_expr.proofs.Codes.{still, admitted, allows_at, allows_first, allows_second, allows_three, call_admitted, argument_code}
use Rattle.flat_expr.proofs.Weight.{expr_weight}
use Rattle.flat_expr.proofs.Arguments.{call_made, call_fits, one_follows, one_count, one_unread, unread_argument, first_follows, sizes, argument_is}
use Rattle.flat_expr.proofs.Arguments.{argument_none, argument_expr}
use Rattle.flat_expr.proofs.Arguments.{argument_lighter, tree_of_call}
use Rattle.flat_expr.proofs.flat.Flat.+expr.Goals as goal

pub expr-returns-in-Lit-clause-made : goal.expr-returns-in-Lit-clause-made
expr-returns-in-Lit-clause-made t c =
    let fits : SFits w64 c.in-Lit.value = search rules in
    IfOk-weaker c.constant.result _ _ (λ k p.
    subst (λ e. Flattens c.args.self.now c.constant.new.self e k)
    (ap (λ v. literal c.in-Lit.ty v c.in-Lit.spot) (to_z-of_z w64 c.in-Lit.value fits) ∙ sym (ap texpr_tree c.in-Lit.is))
    (literal_made c.args.self.now c.constant.new.self c.in-Lit.ty _ c.in-Lit.spot k p)) c.constant.ensures.made

pub expr-returns-in-Get-clause-made : goal.expr-returns-in-Get-clause-made
expr-returns-in-Get-clause-made t c =
    let is : texpr_tree c.args.e.now ≡ get c.in-Get.slot c.in-Get.ty = ap texpr_tree c.in-Get.is in
    let has : HasType c.args.self.now.slots c.in-Get.slot c.in-Get.ty = subst (IsExpr c.args.self.now.slots) is c.requires.checked in
    IfOk-weaker c.read.result _ _ (λ k p.
    subst (λ e. Flattens c.args.self.now c.read.new.self e k) (sym is)
    (get_made c.args.self.now c.read.new.self c.in-Get.ty c.in-Get.slot k
    (subst (λ u. Reads c.args.self.now c.read.new.self c.in-Get.slot u k) has.2 (p has.0 has.1)))) c.read.ensures.made

pub expr-returns-in_ok-a-in-Unary-clause-made : goal.expr-returns-in_ok-a-in-Unary-clause-made
expr-returns-in_ok-a-in-Unary-clause-made t c =
    let is : texpr_tree c.args.e.now ≡ unary c.in-Unary.op c.in-Unary.ty (texpr_tree c.in-Unary.arg.value) c.in-Unary.spot = ap texpr_tree c.in-Unary.is in
    let inner = subst
    (λ x. Flattens c.args.self.now c.expr-in-Unary.new.self (texpr_tree x) c.in_ok-a-in-Unary.a) c.deref-in-Unary.ensures c.in_ok-a-in-Unary.ensures.made in
    IfOk-weaker c.sign.result _ _ (λ k p.
    subst (λ e. Flattens c.args.self.now c.sign.new.self e k) (sym is)
    (unary_made c.args.self.now c.expr-in-Unary.new.self c.sign.new.self c.in-Unary.op c.in-Unary.ty
    (texpr_tree c.in-Unary.arg.value) c.in-Unary.spot c.in_ok-a-in-Unary.a k inner p)) c.sign.ensures.made

pub expr-returns-in_ok-b-in-Binary-clause-made : goal.expr-returns-in_ok-b-in-Binary-clause-made
expr-returns-in_ok-b-in-Binary-clause-made t c =
    let is : texpr_tree c.args.e.now ≡ binary c.in-Binary.op c.in-Binary.ty (texpr_tree c.in-Binary.left.value)
    (texpr_tree c.in-Binary.right.value) c.in-Binary.spot = ap texpr_tree c.in-Binary.is in
    let left = subst
    (λ x. Flattens c.args.self.now c.expr-in-Binary.new.self
    (texpr_tree x) c.in_ok-a-in-Binary.a) c.deref-in-Binary.ensures c.in_ok-a-in-Binary.ensures.made in
    let right = subst
    (λ x. Flattens c.expr-in-Binary.new.self c.expr-in-Binary-2.new.self
    (texpr_tree x) c.in_ok-b-in-Binary.b) c.deref-in-Binary-2.ensures c.in_ok-b-in-Binary.ensures.made in
    IfOk-weaker c.operate.result _ _ (λ k p.
    subst (λ e. Flattens c.args.self.now c.operate.new.self e k) (sym is)
    (binary_made c.args.self.now c.expr-in-Binary.new.self c.expr-in-Binary-2.new.self c.operate.new.self c.in-Binary.op c.in-Binary.ty
    (texpr_tree c.in-Binary.left.value)
    (texpr_tree c.in-Binary.right.value) c.in-Binary.spot c.in_ok-a-in-Binary.a c.in_ok-b-in-Binary.b k left right p)) c.operate.ensures.made

pub expr-returns-in_err-a-in-Binary-clause-refuses : goal.expr-returns-in_err-a-in-Binary-clause-refuses
expr-returns-in_err-a-in-Binary-clause-refuses t c =
    let l = texpr_tree c.deref-in-Binary.result.now in
    let r = texpr_tree c.in-Binary.right.value in
    let tree : texpr_tree c.args.e.now ≡ binary c.in-Binary.op c.in-Binary.ty l r c.in-Binary.spot =
    ap texpr_tree c.in-Binary.is ∙ ap (λ x. binary c.in-Binary.op c.in-Binary.ty (texpr_tree x) r c.in-Binary.spot) (sym c.deref-in-Binary.ensures) in
    let all = reads_slot (texpr_tree c.args.e.now) in
    let q = err_from_is_err_and c.from_residual-in_err-a-in-Binary.result c.from_residual-in_err-a-in-Binary.ensures.1 in
    let h = more_leaves (reads_slot l) all c.args.self.now c.expr-in-Binary.new.self (expr_size l) (expr_size (texpr_tree c.args.e.now))
    c.expr-in-Binary.result (λ slot no. (neither (reads_slot l slot) (reads_slot r slot) (sym (ap (λ x. reads_slot x slot) tree) ∙ no)).0)
    (omega (arith, ap expr_size tree)) c.expr-in-Binary.ensures.refuses in
    rw (q.1, q.2)
    (subst (λ r. IfErr r (λ e. Leaves c.args.self.now c.expr-in-Binary.new.self all (expr_size (texpr_tree c.args.e.now)) e)) c.in_err-a-in-Binary.was h)

pub expr-returns-in_err-b-in-Binary-clause-refuses : goal.expr-returns-in_err-b-in-Binary-clause-refuses
expr-returns-in_err-b-in-Binary-clause-refuses t c =
    let is : texpr_tree c.args.e.now ≡ binary c.in-Binary.op c.in-Binary.ty (texpr_tree c.in-Binary.left.value)
    (texpr_tree c.in-Binary.right.value) c.in-Binary.spot = ap texpr_tree c.in-Binary.is in
    let left = ap (λ x. expr_size (texpr_tree x)) c.deref-in-Binary.ensures in
    let right = ap (λ x. expr_size (texpr_tree x)) c.deref-in-Binary-2.ensures in
    let q = err_from_is_err_and c.from_residual-in_err-b-in-Binary.result c.from_residual-in_err-b-in-Binary.ensures.1 in
    let l = texpr_tree c.deref-in-Binary.result.now in
    let r = texpr_tree c.deref-in-Binary-2.result.now in
    let tree : texpr_tree c.args.e.now ≡ binary c.in-Binary.op c.in-Binary.ty l r c.in-Binary.spot =
    is ∙ ap₂ (λ x y. binary c.in-Binary.op c.in-Binary.ty (texpr_tree x) (texpr_tree y) c.in-Binary.spot) (sym c.deref-in-Binary.ensures)
    (sym c.deref-in-Binary-2.ensures) in
    let all = reads_slot (texpr_tree c.args.e.now) in
    let h = more_leaves all all c.args.self.now c.expr-in-Binary-2.new.self
    (expr_size (texpr_tree c.deref-in-Binary.result.now) + expr_size (texpr_tree c.deref-in-Binary-2.result.now))
    (expr_size (texpr_tree c.args.e.now)) c.expr-in-Binary-2.result (λ slot no. no)
    (omega (arith, ap expr_size is, left, right))
    (later_leaves (reads_slot l) (reads_slot r) all c.args.self.now c.expr-in-Binary.new.self c.expr-in-Binary-2.new.self (expr_size l) (expr_size r)
    c.expr-in-Binary-2.result (λ slot no. neither (reads_slot l slot) (reads_slot r slot) (sym (ap (λ x. reads_slot x slot) tree) ∙ no))
    c.in_ok-a-in-Binary.ensures.made.follows c.in_ok-a-in-Binary.ensures.made.unread c.in_ok-a-in-Binary.ensures.made.count
    c.expr-in-Binary-2.ensures.refuses) in
    rw (q.1, q.2)
    (subst (λ r. IfErr r (λ e. Leaves c.args.self.now c.expr-in-Binary-2.new.self all (expr_size (texpr_tree c.args.e.now)) e)) c.in_err-b-in-Binary.was h)

pub expr-returns-in_ok-a-in-Unary-clause-refuses : goal.expr-returns-in_ok-a-in-Unary-clause-refuses
expr-returns-in_ok-a-in-Unary-clause-refuses t c =
    let is : texpr_tree c.args.e.now ≡ unary c.in-Unary.op c.in-Unary.ty (texpr_tree c.in-Unary.arg.value) c.in-Unary.spot = ap texpr_tree c.in-Unary.is in
    let arg = ap (λ x. expr_size (texpr_tree x)) c.deref-in-Unary.ensures in
    let a = texpr_tree c.deref-in-Unary.result.now in
    let tree : texpr_tree c.args.e.now ≡ unary c.in-Unary.op c.in-Unary.ty a c.in-Unary.spot =
    is ∙ ap (λ x. unary c.in-Unary.op c.in-Unary.ty (texpr_tree x) c.in-Unary.spot) (sym c.deref-in-Unary.ensures) in
    let all = reads_slot (texpr_tree c.args.e.now) in
    more_leaves all all c.args.self.now c.sign.new.self (expr_size a + 2) (expr_size (texpr_tree c.args.e.now)) c.sign.result (λ slot no. no)
    (omega (arith, ap expr_size is, arg))
    (later_leaves (reads_slot a) no_slot all c.args.self.now c.expr-in-Unary.new.self c.sign.new.self (expr_size a) 2 c.sign.result
    (λ slot no. (sym (ap (λ x. reads_slot x slot) tree) ∙ no, refl)) c.in_ok-a-in-Unary.ensures.made.follows c.in_ok-a-in-Unary.ensures.made.unread
    c.in_ok-a-in-Unary.ensures.made.count c.sign.ensures.refuses)

pub expr-returns-in_ok-b-in-Binary-clause-refuses : goal.expr-returns-in_ok-b-in-Binary-clause-refuses
expr-returns-in_ok-b-in-Binary-clause-refuses t c =
    let is : texpr_tree c.args.e.now ≡ binary c.in-Binary.op c.in-Binary.ty (texpr_tree c.in-Binary.left.value)
    (texpr_tree c.in-Binary.right.value) c.in-Binary.spot = ap texpr_tree c.in-Binary.is in
    let left = ap (λ x. expr_size (texpr_tree x)) c.deref-in-Binary.ensures in
    let right = ap (λ x. expr_size (texpr_tree x)) c.deref-in-Binary-2.ensures in
    let l = texpr_tree c.deref-in-Binary.result.now in
    let r = texpr_tree c.deref-in-Binary-2.result.now in
    let tree : texpr_tree c.args.e.now ≡ binary c.in-Binary.op c.in-Binary.ty l r c.in-Binary.spot =
    is ∙ ap₂ (λ x y. binary c.in-Binary.op c.in-Binary.ty (texpr_tree x) (texpr_tree y) c.in-Binary.spot) (sym c.deref-in-Binary.ensures)
    (sym c.deref-in-Binary-2.ensures) in
    let all = reads_slot (texpr_tree c.args.e.now) in
    more_leaves all all c.args.self.now c.operate.new.self (expr_size l + (expr_size r + operator_size c.in-Binary.op)) (expr_size (texpr_tree c.args.e.now))
    c.operate.result (λ slot no. no) (omega (arith, ap expr_size is, left, right))
    (later_leaves (reads_slot l) (reads_slot r) all c.args.self.now c.expr-in-Binary.new.self c.operate.new.self (expr_size l)
    (expr_size r + operator_size c.in-Binary.op) c.operate.result
    (λ slot no. neither (reads_slot l slot) (reads_slot r slot) (sym (ap (λ x. reads_slot x slot) tree) ∙ no)) c.in_ok-a-in-Binary.ensures.made.follows
    c.in_ok-a-in-Binary.ensures.made.unread c.in_ok-a-in-Binary.ensures.made.count
    (later_leaves (reads_slot r) no_slot (reads_slot r) c.expr-in-Binary.new.self c.expr-in-Binary-2.new.self c.operate.new.self (expr_size r)
    (operator_size c.in-Binary.op) c.operate.result (λ slot no. (no, refl)) c.in_ok-b-in-Binary.ensures.made.follows
    c.in_ok-b-in-Binary.ensures.made.unread c.in_ok-b-in-Binary.ensures.made.count c.operate.ensures.refuses))

-- ---- functions

pub argument-expr-requires : goal.argument-expr-requires
argument-expr-requires t c =
    let there = slice_get_read c.args.args.now (length c.args.args.now) c.args.i c.index-args-i.result refl c.if-i-args.true c.index-args-i.is in (
      omega (arith, argument_lighter c.args.args.now c.args.i c.index-args-i.result there),
      (
        argument_expr c.args.self.now.slots c.args.args.now c.args.i c.index-args-i.result there c.requires.checked,
        argument_code c.args.self.now.graph.profile c.args.args.now c.args.i c.index-args-i.result there c.requires.code,
      ),
    )

pub argument-returns-then-i-args-clause-made : goal.argument-returns-then-i-args-clause-made
argument-returns-then-i-args-clause-made t c =
    let there = slice_get_read c.args.args.now (length c.args.args.now) c.args.i c.index-args-i.result refl c.if-i-args.true c.index-args-i.is in
    IfOk-weaker c.expr.result _ _ (λ k p.
    subst (λ o. FlattensOne c.args.self.now c.expr.new.self o k) (sym (argument_is c.args.args.now c.args.i c.index-args-i.result there)) p) c.expr.ensures.made

pub argument-returns-then-i-args-clause-refuses : goal.argument-returns-then-i-args-clause-refuses
argument-returns-then-i-args-clause-refuses t c =
    let there = slice_get_read c.args.args.now (length c.args.args.now) c.args.i c.index-args-i.result refl c.if-i-args.true c.index-args-i.is in
    subst (λ o. IfErr c.expr.result (λ why. Leaves c.args.self.now c.expr.new.self (one_reads o) (one_size o) why))
    (sym (argument_is c.args.args.now c.args.i c.index-args-i.result there)) c.expr.ensures.refuses

pub argument-returns-else-i-args-clause-made : goal.argument-returns-else-i-args-clause-made
argument-returns-else-i-args-clause-made t c =
    subst (λ o. FlattensOne c.args.self.now c.args.self.now o 0) (sym (argument_none c.args.args.now c.args.i (omega (arith, c.if-i-args.false)))) refl

pub expr-call-requires : goal.expr-call-requires
expr-call-requires t c =
    let es = texpr_trees c.deref-args.result.now in
    let e : texpr_tree c.args.e.now ≡ call c.in-Call.fun c.in-Call.ty es c.in-Call.spot =
    tree_of_call c.args.e.now c.in-Call.fun c.in-Call.ty c.in-Call.args c.in-Call.spot c.deref-args.result.now c.in-Call.is
    (c.trees_of_nodes.ensures.call _ _ _ _) c.deref-args.ensures.value in (
      omega (arith, ap expr_weight e),
      (
        subst (IsExpr c.args.self.now.slots) e c.requires.checked,
        subst (λ x. Allows c.args.self.now.graph.profile (expr_is_wide x)) e c.requires.code,
      ),
    )

pub expr-returns-in-Call-clause-made : goal.expr-returns-in-Call-clause-made
expr-returns-in-Call-clause-made t c =
    let es = texpr_trees c.deref-args.result.now in
    let e : texpr_tree c.args.e.now ≡ call c.in-Call.fun c.in-Call.ty es c.in-Call.spot =
    tree_of_call c.args.e.now c.in-Call.fun c.in-Call.ty c.in-Call.args c.in-Call.spot c.deref-args.result.now c.in-Call.is
    (c.trees_of_nodes.ensures.call _ _ _ _) c.deref-args.ensures.value in
    IfOk-weaker c.call.result _ _ (λ k p. subst (λ x. Flattens c.args.self.now c.call.new.self x k) (sym e) p) c.call.ensures.made

pub expr-returns-in-Call-clause-refuses : goal.expr-returns-in-Call-clause-refuses
expr-returns-in-Call-clause-refuses t c =
    let es = texpr_trees c.deref-args.result.now in
    let e : texpr_tree c.args.e.now ≡ call c.in-Call.fun c.in-Call.ty es c.in-Call.spot =
    tree_of_call c.args.e.now c.in-Call.fun c.in-Call.ty c.in-Call.args c.in-Call.spot c.deref-args.result.now c.in-Call.is
    (c.trees_of_nodes.ensures.call _ _ _ _) c.deref-args.ensures.value in
    subst (λ x. IfErr c.call.result (λ why. Leaves c.args.self.now c.call.new.self (reads_slot x) (expr_size x) why)) (sym e) c.call.ensures.refuses

pub call-argument-requires : goal.call-argument-requires
call-argument-requires t c =
    let es = texpr_trees c.args.args.now in
    let ok : AreExprs c.args.self.now.slots es × (arguments c.args.fun c.args.ty ≡ Some (tys_of es)) = c.requires.checked in
    let code : Allows c.args.self.now.graph.profile (is_lint c.args.ty || exprs_are_wide es) = c.requires.code in
    let args = allows_second c.args.self.now.graph.profile (is_lint c.args.ty) (exprs_are_wide es) code in
    (omega arith, (ok.0, args))

pub call-argument-requires-2 : goal.call-argument-requires-2
call-argument-requires-2 t c =
    let es = texpr_trees c.args.args.now in
    let ok : AreExprs c.args.self.now.slots es × (arguments c.args.fun c.args.ty ≡ Some (tys_of es)) = c.requires.checked in
    let first : Follows c.args.self.now c.argument.new.self =
    first_follows c.args.self.now c.argument.new.self c.args.fun c.args.ty es c.in_ok-a.a ok.1 c.in_ok-a.ensures.made in
    let code : Allows c.args.self.now.graph.profile (is_lint c.args.ty || exprs_are_wide es) = c.requires.code in
    let args = allows_second c.args.self.now.graph.profile (is_lint c.args.ty) (exprs_are_wide es) code in (
      omega arith,
      (
        subst (λ sl. AreExprs sl es) (sym first.slots) ok.0,
        allows_at c.args.self.now.graph.profile c.argument.new.self.graph.profile
            (exprs_are_wide es) first.profile args,
      ),
    )

pub call-argument-requires-3 : goal.call-argument-requires-3
call-argument-requires-3 t c =
    let es = texpr_trees c.args.args.now in
    let ok : AreExprs c.args.self.now.slots es × (arguments c.args.fun c.args.ty ≡ Some (tys_of es)) = c.requires.checked in
    let first : Follows c.args.self.now c.argument.new.self =
    first_follows c.args.self.now c.argument.new.self c.args.fun c.args.ty es c.in_ok-a.a ok.1 c.in_ok-a.ensures.made in
    let second : Follows c.argument.new.self c.argument-2.new.self =
    one_follows c.argument.new.self c.argument-2.new.self (argument es 1) c.in_ok-b.b first.after c.in_ok-b.ensures.made in
    let code : Allows c.args.self.now.graph.profile (is_lint c.args.ty || exprs_are_wide es) = c.requires.code in
    let args = allows_second c.args.self.now.graph.profile (is_lint c.args.ty) (exprs_are_wide es) code in (
      omega arith,
      (
        subst (λ sl. AreExprs sl es) (sym (second.slots ∙ first.slots)) ok.0,
        allows_at c.args.self.now.graph.profile c.argument-2.new.self.graph.profile
            (exprs_are_wide es) (second.profile ∙ first.profile) args,
      ),
    )

pub call-apply-requires-clause-arguments : goal.call-apply-requires-clause-arguments
call-apply-requires-clause-arguments t c =
    let es = texpr_trees c.args.args.now in
    let ok : AreExprs c.args.self.now.slots es × (arguments c.args.fun c.args.ty ≡ Some (tys_of es)) = c.requires.checked in
    call_fits c.args.self.now c.argument.new.self c.argument-2.new.self c.argument-3.new.self c.args.fun c.args.ty es c.in_ok-a.a c.in_ok-b.b
    c.in_ok-c.c ok.1 c.in_ok-a.ensures.made c.in_ok-b.ensures.made c.in_ok-c.ensures.made

pub call-apply-requires-clause-ty : goal.call-apply-requires-clause-ty
call-apply-requires-clause-ty t c =
    let es = texpr_trees c.args.args.now in
    let ok : AreExprs c.args.self.now.slots es × (arguments c.args.fun c.args.ty ≡ Some (tys_of es)) = c.requires.checked in
    let code : Allows c.args.self.now.graph.profile (is_lint c.args.ty || exprs_are_wide es) = c.requires.code in
    let first : Follows c.args.self.now c.argument.new.self =
    first_follows c.args.self.now c.argument.new.self c.args.fun c.args.ty es c.in_ok-a.a ok.1 c.in_ok-a.ensures.made in
    let second : Follows c.argument.new.self c.argument-2.new.self =
    one_follows c.argument.new.self c.argument-2.new.self (argument es 1) c.in_ok-b.b first.after c.in_ok-b.ensures.made in
    let third : Follows c.argument-2.new.self c.argument-3.new.self =
    one_follows c.argument-2.new.self c.argument-3.new.self (argument es 2) c.in_ok-c.c second.after c.in_ok-c.ensures.made in
    let own = call_admitted c.args.self.now.graph.profile c.args.fun c.args.ty es ok.1 code in
    still c.args.self.now.graph.profile c.argument-3.new.self.graph.profile c.args.ty (third.profile ∙ second.profile ∙ first.profile) own.0

pub call-apply-requires-clause-last : goal.call-apply-requires-clause-last
call-apply-requires-clause-last t c =
    let es = texpr_trees c.args.args.now in
    let ok : AreExprs c.args.self.now.slots es × (arguments c.args.fun c.args.ty ≡ Some (tys_of es)) = c.requires.checked in
    let code : Allows c.args.self.now.graph.profile (is_lint c.args.ty || exprs_are_wide es) = c.requires.code in
    let first : Follows c.args.self.now c.argument.new.self =
    first_follows c.args.self.now c.argument.new.self c.args.fun c.args.ty es c.in_ok-a.a ok.1 c.in_ok-a.ensures.made in
    let second : Follows c.argument.new.self c.argument-2.new.self =
    one_follows c.argument.new.self c.argument-2.new.self (argument es 1) c.in_ok-b.b first.after c.in_ok-b.ensures.made in
    let third : Follows c.argument-2.new.self c.argument-3.new.self =
    one_follows c.argument-2.new.self c.argument-3.new.self (argument es 2) c.in_ok-c.c second.after c.in_ok-c.ensures.made in
    let own = call_admitted c.args.self.now.graph.profile c.args.fun c.args.ty es ok.1 code in
    still c.args.self.now.graph.profile c.argument-3.new.self.graph.profile (last_type c.args.fun c.args.ty)
    (third.profile ∙ second.profile ∙ first.profile) own.1

pub call-returns-clause-made : goal.call-returns-clause-made
call-returns-clause-made t c =
    let es = texpr_trees c.args.args.now in
    let ok : AreExprs c.args.self.now.slots es × (arguments c.args.fun c.args.ty ≡ Some (tys_of es)) = c.requires.checked in
    IfOk-weaker c.apply.result _ _ (λ k p.
    (call_made c.args.self.now c.argument.new.self c.argument-2.new.self c.argument-3.new.self c.apply.new.self c.args.fun c.args.ty es c.args.spot
    c.in_ok-a.a c.in_ok-b.b c.in_ok-c.c k ok.1 c.in_ok-a.ensures.made c.in_ok-b.ensures.made c.in_ok-c.ensures.made p)) c.apply.ensures.made

pub call-returns-in_err-a-clause-refuses : goal.call-returns-in_err-a-clause-refuses
call-returns-in_err-a-clause-refuses t c =
    let es = texpr_trees c.args.args.now in
    let ok : AreExprs c.args.self.now.slots es × (arguments c.args.fun c.args.ty ≡ Some (tys_of es)) = c.requires.checked in
    let q = err_from_is_err_and c.from_residual.result c.from_residual.ensures.1 in
    let h = more_leaves (one_reads (argument es 0)) (read_slots es) c.args.self.now c.argument.new.self (one_size (argument es 0))
    (expr_size (call c.args.fun c.args.ty es c.args.spot)) c.argument.result (λ slot no. unread_argument es 0 slot no)
    (omega (arith, sizes es)) c.argument.ensures.refuses in
    rw (q.1, q.2) (subst (λ r. IfErr r (λ e. Leaves c.args.self.now c.argument.new.self (read_slots es) (expr_size (call c.args.fun c.args.ty es
    c.args.spot)) e)) c.in_err-a.was h)

pub call-returns-in_err-b-clause-refuses : goal.call-returns-in_err-b-clause-refuses
call-returns-in_err-b-clause-refuses t c =
    let es = texpr_trees c.args.args.now in
    let ok : AreExprs c.args.self.now.slots es × (arguments c.args.fun c.args.ty ≡ Some (tys_of es)) = c.requires.checked in
    let first : Follows c.args.self.now c.argument.new.self =
    first_follows c.args.self.now c.argument.new.self c.args.fun c.args.ty es c.in_ok-a.a ok.1 c.in_ok-a.ensures.made in
    let count = one_count c.args.self.now c.argument.new.self (argument es 0) c.in_ok-a.a c.in_ok-a.ensures.made in
    let q = err_from_is_err_and c.from_residual-in_err-b.result c.from_residual-in_err-b.ensures.1 in
    let unread = one_unread c.args.self.now c.argument.new.self (argument es 0) c.in_ok-a.a c.in_ok-a.ensures.made in
    let h = more_leaves (read_slots es) (read_slots es) c.args.self.now c.argument-2.new.self
    (one_size (argument es 0) + one_size (argument es 1))
    (expr_size (call c.args.fun c.args.ty es c.args.spot)) c.argument-2.result (λ slot no. no) (omega (arith, sizes es))
    (later_leaves (one_reads (argument es 0)) (one_reads (argument es 1)) (read_slots es) c.args.self.now c.argument.new.self c.argument-2.new.self
    (one_size (argument es 0)) (one_size (argument es 1)) c.argument-2.result
    (λ slot no. (unread_argument es 0 slot no, unread_argument es 1 slot no)) first unread count c.argument-2.ensures.refuses) in
    rw (q.1, q.2)
    (subst (λ r. IfErr r (λ e. Leaves c.args.self.now c.argument-2.new.self (read_slots es) (expr_size (call c.args.fun c.args.ty es c.args.spot)) e))
    c.in_err-b.was h)

pub call-returns-in_err-c-clause-refuses : goal.call-returns-in_err-c-clause-refuses
call-returns-in_err-c-clause-refuses t c =
    let es = texpr_trees c.args.args.now in
    let ok : AreExprs c.args.self.now.slots es × (arguments c.args.fun c.args.ty ≡ Some (tys_of es)) = c.requires.checked in
    let first : Follows c.args.self.now c.argument.new.self =
    first_follows c.args.self.now c.argument.new.self c.args.fun c.args.ty es c.in_ok-a.a ok.1 c.in_ok-a.ensures.made in
    let second : Follows c.argument.new.self c.argument-2.new.self =
    one_follows c.argument.new.self c.argument-2.new.self (argument es 1) c.in_ok-b.b first.after c.in_ok-b.ensures.made in
    let count = one_count c.args.self.now c.argument.new.self (argument es 0) c.in_ok-a.a c.in_ok-a.ensures.made in
    let count2 = one_count c.argument.new.self c.argument-2.new.self (argument es 1) c.in_ok-b.b c.in_ok-b.ensures.made in
    let q = err_from_is_err_and c.from_residual-in_err-c.result c.from_residual-in_err-c.ensures.1 in
    let unread = one_unread c.args.self.now c.argument.new.self (argument es 0) c.in_ok-a.a c.in_ok-a.ensures.made in
    let unread2 = one_unread c.argument.new.self c.argument-2.new.self (argument es 1) c.in_ok-b.b c.in_ok-b.ensures.made in
    let h = more_leaves (read_slots es) (read_slots es) c.args.self.now c.argument-3.new.self
    (one_size (argument es 0) + (one_size (argument es 1) + one_size (argument es 2)))
    (expr_size (call c.args.fun c.args.ty es c.args.spot)) c.argument-3.result (λ slot no. no) (omega (arith, sizes es))
    (later_leaves (one_reads (argument es 0)) (read_slots es) (read_slots es) c.args.self.now c.argument.new.self c.argument-3.new.self
    (one_size (argument es 0)) (one_size (argument es 1) + one_size (argument es 2)) c.argument-3.result
    (λ slot no. (unread_argument es 0 slot no, no)) first unread count
    (later_leaves (one_reads (argument es 1)) (one_reads (argument es 2)) (read_slots es) c.argument.new.self c.argument-2.new.self
    c.argument-3.new.self (one_size (argument es 1)) (one_size (argument es 2)) c.argument-3.result
    (λ slot no. (unread_argument es 1 slot no, unread_argument es 2 slot no)) second unread2 count2 c.argument-3.ensures.refuses)) in
    rw (q.1, q.2)
    (subst (λ r. IfErr r (λ e. Leaves c.args.self.now c.argument-3.new.self (read_slots es) (expr_size (call c.args.fun c.args.ty es c.args.spot)) e))
    c.in_err-c.was h)

pub call-returns-clause-refuses : goal.call-returns-clause-refuses
call-returns-clause-refuses t c =
    let es = texpr_trees c.args.args.now in
    let ok : AreExprs c.args.self.now.slots es × (arguments c.args.fun c.args.ty ≡ Some (tys_of es)) = c.requires.checked in
    let first : Follows c.args.self.now c.argument.new.self =
    first_follows c.args.self.now c.argument.new.self c.args.fun c.args.ty es c.in_ok-a.a ok.1 c.in_ok-a.ensures.made in
    let second : Follows c.argument.new.self c.argument-2.new.self =
    one_follows c.argument.new.self c.argument-2.new.self (argument es 1) c.in_ok-b.b first.after c.in_ok-b.ensures.made in
    let third : Follows c.argument-2.new.self c.argument-3.new.self =
    one_follows c.argument-2.new.self c.argument-3.new.self (argument es 2) c.in_ok-c.c second.after c.in_ok-c.ensures.made in
    let count = one_count c.args.self.now c.argument.new.self (argument es 0) c.in_ok-a.a c.in_ok-a.ensures.made in
    let count2 = one_count c.argument.new.self c.argument-2.new.self (argument es 1) c.in_ok-b.b c.in_ok-b.ensures.made in
    let count3 = one_count c.argument-2.new.self c.argument-3.new.self (argument es 2) c.in_ok-c.c c.in_ok-c.ensures.made in
    let unread = one_unread c.args.self.now c.argument.new.self (argument es 0) c.in_ok-a.a c.in_ok-a.ensures.made in
    let unread2 = one_unread c.argument.new.self c.argument-2.new.self (argument es 1) c.in_ok-b.b c.in_ok-b.ensures.made in
    let unread3 = one_unread c.argument-2.new.self c.argument-3.new.self (argument es 2) c.in_ok-c.c c.in_ok-c.ensures.made in
    more_leaves (read_slots es) (read_slots es) c.args.self.now c.apply.new.self
    (one_size (argument es 0) + (one_size (argument es 1) + (one_size (argument es 2) + function_size c.args.fun)))
    (expr_size (call c.args.fun c.args.ty es c.args.spot)) c.apply.result (λ slot no. no) (omega (arith, sizes es))
    (later_leaves (one_reads (argument es 0)) (read_slots es) (read_slots es) c.args.self.now c.argument.new.self c.apply.new.self (one_size (argument es 0))
    (one_size (argument es 1) + (one_size (argument es 2) + function_size c.args.fun)) c.apply.result
    (λ slot no. (unread_argument es 0 slot no, no)) first unread count
    (later_leaves (one_reads (argument es 1)) (read_slots es) (read_slots es) c.argument.new.self c.argument-2.new.self c.apply.new.self
    (one_size (argument es 1)) (one_size (argument es 2) + function_size c.args.fun) c.apply.result
    (λ slot no. (unread_argument es 1 slot no, no)) second unread2 count2
    (later_leaves (one_reads (argument es 2)) no_slot (read_slots es) c.argument-2.new.self c.argument-3.new.self c.apply.new.self
    (one_size (argument es 2)) (function_size c.args.fun) c.apply.result (λ slot no. (unread_argument es 2 slot no, refl)) third unread3 count3
    c.apply.ensures.refuses)))

-- ---- refusals of one part

pub expr-returns-in-Lit-clause-refuses : goal.expr-returns-in-Lit-clause-refuses
expr-returns-in-Lit-clause-refuses t c =
    let e = texpr_tree c.args.e.now in
    let one : expr_size e ≡ 1 = ap expr_size (ap texpr_tree c.in-Lit.is) in
    more_leaves no_slot (reads_slot e) c.args.self.now c.constant.new.self 1 (expr_size e) c.constant.result (λ slot no. refl) (omega (arith, one))
    c.constant.ensures.refuses

pub expr-returns-in-Get-clause-refuses : goal.expr-returns-in-Get-clause-refuses
expr-returns-in-Get-clause-refuses t c =
    let e = texpr_tree c.args.e.now in
    let is : e ≡ get c.in-Get.slot c.in-Get.ty = ap texpr_tree c.in-Get.is in
    more_leaves (one_slot c.in-Get.slot) (reads_slot e) c.args.self.now c.read.new.self 0 (expr_size e) c.read.result
    (λ slot no. sym (ap (λ x. reads_slot x slot) is) ∙ no) (omega arith) c.read.ensures.refuses

pub expr-returns-in_err-a-in-Unary-clause-refuses : goal.expr-returns-in_err-a-in-Unary-clause-refuses
expr-returns-in_err-a-in-Unary-clause-refuses t c =
    let a = texpr_tree c.deref-in-Unary.result.now in
    let tree : texpr_tree c.args.e.now ≡ unary c.in-Unary.op c.in-Unary.ty a c.in-Unary.spot =
    ap texpr_tree c.in-Unary.is ∙ ap (λ x. unary c.in-Unary.op c.in-Unary.ty (texpr_tree x) c.in-Unary.spot) (sym c.deref-in-Unary.ensures) in
    let all = reads_slot (texpr_tree c.args.e.now) in
    let q = err_from_is_err_and c.from_residual.result c.from_residual.ensures.1 in
    let h = more_leaves (reads_slot a) all c.args.self.now c.expr-in-Unary.new.self (expr_size a) (expr_size (texpr_tree c.args.e.now))
    c.expr-in-Unary.result (λ slot no. sym (ap (λ x. reads_slot x slot) tree) ∙ no) (omega (arith, ap expr_size tree)) c.expr-in-Unary.ensures.refuses in
    rw (q.1, q.2)
    (subst (λ r. IfErr r (λ e. Leaves c.args.self.now c.expr-in-Unary.new.self all (expr_size (texpr_tree c.args.e.now)) e)) c.in_err-a-in-Unary.was h)

pub call-returns-in_err-a-clause-made : goal.call-returns-in_err-a-clause-made
call-returns-in_err-a-clause-made t c = rw (err_from_is_err_and c.from_residual.result c.from_residual.ensures.1).1 tt

pub call-returns-in_err-b-clause-made : goal.call-returns-in_err-b-clause-made
call-returns-in_err-b-clause-made t c = rw (err_from_is_err_and c.from_residual-in_err-b.result c.from_residual-in_err-b.ensures.1).1 tt

pub call-returns-in_err-c-clause-made : goal.call-returns-in_err-c-clause-made
call-returns-in_err-c-clause-made t c = rw (err_from_is_err_and c.from_residual-in_err-c.result c.from_residual-in_err-c.ensures.1).1 tt

pub expr-returns-in_err-a-in-Unary-clause-made : goal.expr-returns-in_err-a-in-Unary-clause-made
expr-returns-in_err-a-in-Unary-clause-made t c = rw (err_from_is_err_and c.from_residual.result c.from_residual.ensures.1).1 tt

pub expr-returns-in_err-a-in-Binary-clause-made : goal.expr-returns-in_err-a-in-Binary-clause-made
expr-returns-in_err-a-in-Binary-clause-made t c =
    rw (err_from_is_err_and c.from_residual-in_err-a-in-Binary.result c.from_residual-in_err-a-in-Binary.ensures.1).1 tt

pub expr-returns-in_err-b-in-Binary-clause-made : goal.expr-returns-in_err-b-in-Binary-clause-made
expr-returns-in_err-b-in-Binary-clause-made t c =
    rw (err_from_is_err_and c.from_residual-in_err-b-in-Binary.result c.from_residual-in_err-b-in-Binary.ensures.1).1 tt

-- ---- what the calls require

pub expr-expr-requires-in-Unary : goal.expr-expr-requires-in-Unary
expr-expr-requires-in-Unary t c =
    let a = texpr_tree c.deref-in-Unary.result.now in
    let tree : texpr_tree c.args.e.now ≡ unary c.in-Unary.op c.in-Unary.ty a c.in-Unary.spot =
    ap texpr_tree c.in-Unary.is ∙ ap (λ x. unary c.in-Unary.op c.in-Unary.ty (texpr_tree x) c.in-Unary.spot) (sym c.deref-in-Unary.ensures) in
    let parts = subst (IsExpr c.args.self.now.slots) tree c.requires.checked in
    let code = subst (λ x. Allows c.args.self.now.graph.profile (expr_is_wide x)) tree c.requires.code in
    (omega (arith, ap expr_weight tree), (parts.0, allows_second c.args.self.now.graph.profile (is_lint c.in-Unary.ty) (expr_is_wide a) code))

pub expr-sign-requires : goal.expr-sign-requires
expr-sign-requires t c =
    let a = texpr_tree c.deref-in-Unary.result.now in
    let tree : texpr_tree c.args.e.now ≡ unary c.in-Unary.op c.in-Unary.ty a c.in-Unary.spot =
    ap texpr_tree c.in-Unary.is ∙ ap (λ x. unary c.in-Unary.op c.in-Unary.ty (texpr_tree x) c.in-Unary.spot) (sym c.deref-in-Unary.ensures) in
    let parts = subst (IsExpr c.args.self.now.slots) tree c.requires.checked in
    let code = subst (λ x. Allows c.args.self.now.graph.profile (expr_is_wide x)) tree c.requires.code in
    let made = c.in_ok-a-in-Unary.ensures.made in
    let own = admitted c.args.self.now.graph.profile c.in-Unary.ty (allows_first c.args.self.now.graph.profile (is_lint c.in-Unary.ty) (expr_is_wide a) code) in record { types = parts.2; code = still _ _ c.in-Unary.ty made.follows.profile own; a = subst (λ u. IsA u c.expr-in-Unary.new.self.graph.operations c.in_ok-a-in-Unary.a) parts.1 made.place }

pub expr-expr-requires-in-Binary : goal.expr-expr-requires-in-Binary
expr-expr-requires-in-Binary t c =
    let l = texpr_tree c.deref-in-Binary.result.now in
    let tree : texpr_tree c.args.e.now ≡ binary c.in-Binary.op c.in-Binary.ty l (texpr_tree c.in-Binary.right.value) c.in-Binary.spot =
    ap texpr_tree c.in-Binary.is
    ∙ ap (λ x. binary c.in-Binary.op c.in-Binary.ty (texpr_tree x) (texpr_tree c.in-Binary.right.value) c.in-Binary.spot) (sym c.deref-in-Binary.ensures) in
    let parts = subst (IsExpr c.args.self.now.slots) tree c.requires.checked in
    let code = subst (λ x. Allows c.args.self.now.graph.profile (expr_is_wide x)) tree c.requires.code in (
      omega (arith, ap expr_weight tree),
      (
        parts.0,
        (allows_three c.args.self.now.graph.profile (is_lint c.in-Binary.ty) (expr_is_wide l) (expr_is_wide (texpr_tree c.in-Binary.right.value)) code).1,
      ),
    )

pub expr-expr-requires-in-Binary-2 : goal.expr-expr-requires-in-Binary-2
expr-expr-requires-in-Binary-2 t c =
    let l = texpr_tree c.deref-in-Binary.result.now in
    let r = texpr_tree c.deref-in-Binary-2.result.now in
    let tree : texpr_tree c.args.e.now ≡ binary c.in-Binary.op c.in-Binary.ty l r c.in-Binary.spot =
    ap texpr_tree c.in-Binary.is ∙ ap₂ (λ x y. binary c.in-Binary.op c.in-Binary.ty (texpr_tree x) (texpr_tree y) c.in-Binary.spot)
    (sym c.deref-in-Binary.ensures) (sym c.deref-in-Binary-2.ensures) in
    let parts = subst (IsExpr c.args.self.now.slots) tree c.requires.checked in
    let code = subst (λ x. Allows c.args.self.now.graph.profile (expr_is_wide x)) tree c.requires.code in
    let f = c.in_ok-a-in-Binary.ensures.made.follows in (
      omega (arith, ap expr_weight tree),
      (
        subst (λ slots. IsExpr slots r) (sym f.slots) parts.1,
        allows_at c.args.self.now.graph.profile c.expr-in-Binary.new.self.graph.profile (expr_is_wide r) f.profile
            (allows_three c.args.self.now.graph.profile (is_lint c.in-Binary.ty) (expr_is_wide l) (expr_is_wide r) code).2,
      ),
    )

pub expr-operate-requires : goal.expr-operate-requires
expr-operate-requires t c =
    let l = texpr_tree c.deref-in-Binary.result.now in
    let r = texpr_tree c.deref-in-Binary-2.result.now in
    let tree : texpr_tree c.args.e.now ≡ binary c.in-Binary.op c.in-Binary.ty l r c.in-Binary.spot =
    ap texpr_tree c.in-Binary.is ∙ ap₂ (λ x y. binary c.in-Binary.op c.in-Binary.ty (texpr_tree x) (texpr_tree y) c.in-Binary.spot)
    (sym c.deref-in-Binary.ensures) (sym c.deref-in-Binary-2.ensures) in
    let parts = subst (IsExpr c.args.self.now.slots) tree c.requires.checked in
    let code = subst (λ x. Allows c.args.self.now.graph.profile (expr_is_wide x)) tree c.requires.code in
    let made = c.in_ok-a-in-Binary.ensures.made in
    let next = c.in_ok-b-in-Binary.ensures.made in
    let own = admitted c.args.self.now.graph.profile c.in-Binary.ty
    (allows_three c.args.self.now.graph.profile (is_lint c.in-Binary.ty) (expr_is_wide l) (expr_is_wide r) code).0 in record { types = parts.4; code = still _ _ c.in-Binary.ty (next.follows.profile ∙ made.follows.profile) own; a = next.follows.typed c.in-Binary.ty c.in_ok-a-in-Binary.a (subst (λ u. IsA u c.expr-in-Binary.new.self.graph.operations c.in_ok-a-in-Binary.a) parts.2 made.place); b = subst (λ u. IsA u c.expr-in-Binary-2.new.self.graph.operations c.in_ok-b-in-Binary.b) parts.3 next.place }

pub expr-constant-requires-clause-fits : goal.expr-constant-requires-clause-fits
expr-constant-requires-clause-fits t c =
    let f : SFits w64 c.in-Lit.value = search rules in
    subst (λ v. fits c.in-Lit.ty v ≡ true) (sym (to_z-of_z w64 c.in-Lit.value f))
    (subst (IsExpr c.args.self.now.slots) (ap texpr_tree c.in-Lit.is) c.requires.checked)

pub expr-constant-requires-clause-code : goal.expr-constant-requires-clause-code
expr-constant-requires-clause-code t c =
    admitted c.args.self.now.graph.profile c.in-Lit.ty
    (subst (λ x. Allows c.args.self.now.graph.profile (expr_is_wide x)) (ap texpr_tree c.in-Lit.is) c.requires.code)

pub expr-read-requires : goal.expr-read-requires
expr-read-requires t c =
    let is : texpr_tree c.args.e.now ≡ get c.in-Get.slot c.in-Get.ty = ap texpr_tree c.in-Get.is in
    let has : HasType c.args.self.now.slots c.in-Get.slot c.in-Get.ty = subst (IsExpr c.args.self.now.slots) is c.requires.checked in
    slice_get_within c.args.self.now.slots c.in-Get.slot has.0 has.1

pub expr-expr-requires : goal.expr-expr-requires
expr-expr-requires t c =
    let a = texpr_tree c.deref.result.now in
    let tree : texpr_tree c.args.e.now ≡ widen c.in-Widen.ty a =
    ap texpr_tree c.in-Widen.is ∙ ap (λ x. widen c.in-Widen.ty (texpr_tree x)) (sym c.deref.ensures) in
    let parts = subst (IsExpr c.args.self.now.slots) tree c.requires.checked in
    let code = subst (λ x. Allows c.args.self.now.graph.profile (expr_is_wide x)) tree c.requires.code in
    (omega (arith, ap expr_weight tree), (parts.0, allows_second c.args.self.now.graph.profile (is_lint c.in-Widen.ty) (expr_is_wide a) code))

pub expr-returns-in-Widen-clause-made : goal.expr-returns-in-Widen-clause-made
expr-returns-in-Widen-clause-made t c =
    let a = texpr_tree c.deref.result.now in
    let tree : texpr_tree c.args.e.now ≡ widen c.in-Widen.ty a =
    ap texpr_tree c.in-Widen.is ∙ ap (λ x. widen c.in-Widen.ty (texpr_tree x)) (sym c.deref.ensures) in
    let parts = subst (IsExpr c.args.self.now.slots) tree c.requires.checked in
    IfOk-weaker c.expr.result _ _ (λ k p.
    subst (λ e. Flattens c.args.self.now c.expr.new.self e k) (sym tree)
    (widen_made c.args.self.now c.expr.new.self c.in-Widen.ty a k parts.1 p)) c.expr.ensures.made

pub expr-returns-in-Widen-clause-refuses : goal.expr-returns-in-Widen-clause-refuses
expr-returns-in-Widen-clause-refuses t c =
    let a = texpr_tree c.deref.result.now in
    let tree : texpr_tree c.args.e.now ≡ widen c.in-Widen.ty a =
    ap texpr_tree c.in-Widen.is ∙ ap (λ x. widen c.in-Widen.ty (texpr_tree x)) (sym c.deref.ensures) in
    more_leaves (reads_slot a) (reads_slot (texpr_tree c.args.e.now)) c.args.self.now c.expr.new.self (expr_size a) (expr_size (texpr_tree c.args.e.now))
    c.expr.result (λ slot no. sym (ap (λ x. reads_slot x slot) tree) ∙ no) (omega (arith, ap expr_size tree)) c.expr.ensures.refuses

pub argument-returns-else-i-args-clause-refuses : goal.argument-returns-else-i-args-clause-refuses
argument-returns-else-i-args-clause-refuses t c = tt
