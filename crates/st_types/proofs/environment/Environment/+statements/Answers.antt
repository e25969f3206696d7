use Rattle.std.proofs.Common.{◌≡◌, [], ◌∷◌, ◌+◌, option_map, Some, refl, sym, ap, ◌∙◌, subst, arith, drop}
use Rattle.std.proofs.lemmas.List.{drop_all}
use Rattle.st_tree.specs.StmtTree.{assign, if_, case, for_}
use Rattle.st_tree.specs.ExprViews.{expr_tree, expr_tree_or_none}
use Rattle.st_tree.specs.StmtViews.{label_trees, stmt_tree, stmt_trees, arm_trees, branch_trees, other_tree}
use Rattle.vcp_typed.specs.TExprViews.{texpr_tree}
use Rattle.vcp_typed.specs.TStmtTree.{no_tstmts, no_tarms, no_tbranches, no_tother, tother}
use Rattle.vcp_typed.specs.TStmtViews.{tstmt_tree, tstmt_trees}
use Rattle.st_types.specs.ExprTyping.{both}
use Rattle.st_types.specs.StmtTyping.{arm_of, branch_of}
use Rattle.st_types.specs.StmtSteps.{TypesLabels, TypesStmt, TypesStmts, TypesArms, TypesBranches, TypesOther}
use Rattle.st_types.specs.Full.{not-full, is-full, so, so-two, so-three, so-four}
use Rattle.st_types.proofs.Items.{from-item}
use Rattle.st_types.proofs.Weight.{stmt_weight, stmts_weight, other_weight}
use Rattle.st_types.proofs.Lighter.{stmt-lighter, arm-lighter, branch-lighter}
use Rattle.st_types.proofs.StmtNodes.{if-types, case-types, for-types, stmt_cons, more-stmts, no-more-stmts, stmts-next, stmts-end, more-arms, no-more-arms}
use Rattle.st_types.proofs.StmtNodes.{arms-next, arms-end, more-branches, no-more-branches, branches-on, branches-end, no-else, some-else}
use Rattle.st_types.proofs.environment.Environment.+statements.Goals as goal

pub type_stmt-returns-in-Assign : goal.type_stmt-returns-in-Assign
type_stmt-returns-in-Assign t c =
    so c.assign.ensures (λ h.
    subst (λ d. TypesStmt c.args.self.now.names.now c.args.self.now.held.now d c.args.noted.now.first c.assign.new.noted.first
    (option_map tstmt_tree c.assign.result))
    (ap (λ n. assign n (expr_tree c.in-Assign.value) c.in-Assign.spot) c.bytes-name.ensures ∙ sym (ap stmt_tree c.in-Assign.is)) h)

pub type_stmt-type_if-requires : goal.type_stmt-type_if-requires
type_stmt-type_if-requires t c =
    let is = ap stmt_tree c.in-If.is ∙ c.trees_of_nodes.ensures.if_ c.in-If.arms c.in-If.other
    ∙ ap (λ xs. if_ (arm_trees xs) (other_tree c.in-If.other)) (sym c.deref.ensures.value) in
    omega (arith, ap stmt_weight is)

pub type_stmt-returns-in-If : goal.type_stmt-returns-in-If
type_stmt-returns-in-If t c =
    so c.type_if.ensures (λ h.
    subst (λ d. TypesStmt c.args.self.now.names.now c.args.self.now.held.now d c.args.noted.now.first c.type_if.new.noted.first
    (option_map tstmt_tree c.type_if.result))
    (ap (λ xs. if_ (arm_trees xs) (other_tree c.in-If.other)) c.deref.ensures.value
    ∙ sym (ap stmt_tree c.in-If.is ∙ c.trees_of_nodes.ensures.if_ c.in-If.arms c.in-If.other)) h)

pub type_stmt-type_case-requires : goal.type_stmt-type_case-requires
type_stmt-type_case-requires t c =
    let is = ap stmt_tree c.in-Case.is ∙ c.trees_of_nodes.ensures.case c.in-Case.on c.in-Case.branches c.in-Case.other c.in-Case.spot
    ∙ ap (λ xs. case (expr_tree c.in-Case.on) (branch_trees xs) (other_tree c.in-Case.other) c.in-Case.spot) (sym c.deref-in-Case.ensures.value) in
    omega (arith, ap stmt_weight is)

pub type_stmt-returns-in-Case : goal.type_stmt-returns-in-Case
type_stmt-returns-in-Case t c =
    so c.type_case.ensures (λ h.
    subst (λ d. TypesStmt c.args.self.now.names.now c.args.self.now.held.now d c.args.noted.now.first c.type_case.new.noted.first
    (option_map tstmt_tree c.type_case.result))
    (ap (λ xs. case (expr_tree c.in-Case.on) (branch_trees xs) (other_tree c.in-Case.other) c.in-Case.spot) c.deref-in-Case.ensures.value
    ∙ sym (ap stmt_tree c.in-Case.is
    ∙ c.trees_of_nodes.ensures.case c.in-Case.on c.in-Case.branches c.in-Case.other c.in-Case.spot)) h)

pub type_if-type_arms-made-requires : goal.type_if-type_arms-made-requires
type_if-type_arms-made-requires t c = omega arith

pub type_if-type_other-rest-requires : goal.type_if-type_other-rest-requires
type_if-type_other-rest-requires t c = omega arith

pub type_if-returns : goal.type_if-returns
type_if-returns t c =
    so-two c.type_arms-made.ensures c.type_other-rest.ensures (λ h k. if-types _ _ _ _ _ _ _ _ _ _ h k (ap (λ x. Some x) c.if_.ensures))

pub type_case-type_branches-made-requires : goal.type_case-type_branches-made-requires
type_case-type_branches-made-requires t c = omega arith

pub type_case-type_other-rest-requires : goal.type_case-type_other-rest-requires
type_case-type_other-rest-requires t c = omega arith

pub type_case-returns : goal.type_case-returns
type_case-returns t c =
    so-three c.type_expression-e.ensures c.type_branches-made.ensures c.type_other-rest.ensures (λ h k l.
    case-types _ _ _ _ _ _ _ _ _ _ _ _ _ _ _ _ _ h c.type_of-ty.ensures c.selector-selects.ensures.notes c.selector-selects.ensures.gives k l
    c.case_of.ensures)

pub type_stmt-type_for-requires : goal.type_stmt-type_for-requires
type_stmt-type_for-requires t c =
    let is = ap stmt_tree c.in-For.is
    ∙ c.trees_of_nodes.ensures.for_ c.in-For.name c.in-For.name_spot c.in-For.first c.in-For.last c.in-For.by c.in-For.body c.in-For.spot
    ∙ ap (λ xs. for_ c.in-For.name c.in-For.name_spot (expr_tree c.in-For.first) (expr_tree c.in-For.last) (expr_tree_or_none c.in-For.by)
    (stmt_trees xs) c.in-For.spot) (sym c.deref-in-For.ensures.value) in
    omega (arith, ap stmt_weight is)

pub type_stmt-returns-in-For : goal.type_stmt-returns-in-For
type_stmt-returns-in-For t c =
    so (c.type_for.ensures c.in-For.spot) (λ h.
    subst (λ d. TypesStmt c.args.self.now.names.now c.args.self.now.held.now d c.args.noted.now.first c.type_for.new.noted.first
    (option_map tstmt_tree c.type_for.result))
    (ap (λ n. for_ n c.in-For.name_spot (expr_tree c.in-For.first) (expr_tree c.in-For.last) (expr_tree_or_none c.in-For.by)
    (stmt_trees c.deref-in-For.result.now) c.in-For.spot) c.bytes.ensures
    ∙ ap (λ xs. for_ c.in-For.name c.in-For.name_spot (expr_tree c.in-For.first) (expr_tree c.in-For.last) (expr_tree_or_none c.in-For.by)
    (stmt_trees xs) c.in-For.spot) c.deref-in-For.ensures.value
    ∙ sym (ap stmt_tree c.in-For.is
    ∙ c.trees_of_nodes.ensures.for_ c.in-For.name c.in-For.name_spot c.in-For.first c.in-For.last c.in-For.by c.in-For.body c.in-For.spot)) h)

pub type_for-type_stmts-requires : goal.type_for-type_stmts-requires
type_for-type_stmts-requires t c = omega arith

pub type_for-returns-in-Ok : goal.type_for-returns-in-Ok
type_for-returns-in-Ok t c = λ spot.
    so-four c.bound-low.ensures c.bound-high.ensures c.step-step_by.ensures.is c.type_stmts.ensures (λ x1 x2 x3 x4.
    let body = subst
    (λ h. TypesStmts c.args.self.now.names.now h (stmt_trees c.args.body.now) c.step-step_by.new.noted.first c.type_stmts.new.noted.first
    (Some (tstmt_trees c.type_stmts.result.items.items))) c.deref.ensures.value x4 in
    for-types _ _ _ _ spot _ _ _ _ _ _ _ _ _ _ _ _ _ _ _ _ _ _ _ c.find-x.ensures c.control_type-ty.ensures.ty c.in-Ok.ensures
    c.control_type-ty.ensures.notes x1 x2 x3 body c.turning_of-turning.ensures c.for_of.ensures)

pub type_for-returns-in-Err : goal.type_for-returns-in-Err
type_for-returns-in-Err t c = λ spot. is-full

pub type_stmts-type_stmt-made-requires : goal.type_stmts-type_stmt-made-requires
type_stmts-type_stmt-made-requires t c =
    let lighter = stmt-lighter c.args.stmts.now c.each.s-index c.s-item.result c.each-test.true c.s-item.is in omega (arith, lighter)

pub type_stmts-each-preserved : goal.type_stmts-each-preserved
type_stmts-each-preserved t c = λ end r h.
    let d : drop c.each.s-index c.args.stmts.now ≡ c.s-item.result ∷ drop (c.each.s-index + 1) c.args.stmts.now =
    from-item _ _ _ c.each-test.true c.s-item.is in
    let all = c.each.invariant end (both stmt_cons (option_map tstmt_tree c.type_stmt-made.result) r)
    (so-three c.type_stmt-made.ensures c.add_stmt.ensures h (λ x p rest.
    subst (λ xs. TypesStmts c.args.self.now.names.now c.args.self.now.held.now (stmt_trees xs) c.each.noted.first end.first (both stmt_cons
    (option_map tstmt_tree c.type_stmt-made.result) r)) (sym d)
    (more-stmts _ _ _ _ _ _ _ _ _ x rest))) in
    record {
      before = all.before;
      is = λ o. stmts-next _ _ _ _ _ _ _ _ r (all.is o) (c.add_stmt.ensures.is (h.before o));
    }

pub type_stmts-returns : goal.type_stmts-returns
type_stmts-returns t c =
    let d : drop c.each.s-index c.args.stmts.now ≡ [] = drop_all _ _ c.each-test.false in
    so (c.each.invariant c.each.noted (Some no_tstmts) (not-full
    (subst (λ xs. TypesStmts c.args.self.now.names.now c.args.self.now.held.now (stmt_trees xs) c.each.noted.first c.each.noted.first (Some no_tstmts)) (sym d)
    (no-more-stmts c.args.self.now.names.now c.args.self.now.held.now c.each.noted.first))))
    (λ h. subst (λ q. TypesStmts c.args.self.now.names.now c.args.self.now.held.now
    (stmt_trees c.args.stmts.now) c.args.noted.now.first c.each.noted.first q) (stmts-end _) h)

pub type_arms-type_stmts-body-requires : goal.type_arms-type_stmts-body-requires
type_arms-type_stmts-body-requires t c =
    let lighter = arm-lighter c.args.arms.now c.each.arm-index c.arm-item.result c.each-test.true c.arm-item.is in
    omega (arith, lighter, ap (λ xs. stmts_weight (stmt_trees xs)) c.deref.ensures.value)

pub type_arms-each-preserved : goal.type_arms-each-preserved
type_arms-each-preserved t c = λ end r h.
    let d : drop c.each.arm-index c.args.arms.now ≡ c.arm-item.result ∷ drop (c.each.arm-index + 1) c.args.arms.now =
    from-item _ _ _ c.each-test.true c.arm-item.is in
    let all = c.each.invariant end (arm_of c.arm-item.result.spot (option_map texpr_tree c.tested-cond.result) (Some (tstmt_trees c.type_stmts-body.result.items.items)) r)
    (so-four c.type_expression-e.ensures c.type_stmts-body.ensures c.add_arm.ensures h (λ x y p rest.
    let body = subst
    (λ xs. TypesStmts c.args.self.now.names.now c.args.self.now.held.now (stmt_trees xs) c.tested-cond.new.first c.type_stmts-body.new.noted.first
    (Some (tstmt_trees c.type_stmts-body.result.items.items))) c.deref.ensures.value y in
    subst (λ xs. TypesArms c.args.self.now.names.now c.args.self.now.held.now (arm_trees xs) c.each.noted.first end.first (arm_of c.arm-item.result.spot
    (option_map texpr_tree c.tested-cond.result) (Some (tstmt_trees c.type_stmts-body.result.items.items)) r)) (sym d)
    (more-arms _ _ _ _ _ _ _ _ _ _ _ _ _ _ _ x c.tested-cond.ensures.notes c.tested-cond.ensures.gives body rest))) in
    record {
      before = all.before;
      is = λ o. arms-next _ _ _ _ _ _ _ _ _ _ r (all.is o) (c.add_arm.ensures.is (h.before o));
    }

pub type_arms-returns : goal.type_arms-returns
type_arms-returns t c =
    let d : drop c.each.arm-index c.args.arms.now ≡ [] = drop_all _ _ c.each-test.false in
    so (c.each.invariant c.each.noted (Some no_tarms) (not-full
    (subst (λ xs. TypesArms c.args.self.now.names.now c.args.self.now.held.now (arm_trees xs) c.each.noted.first c.each.noted.first (Some no_tarms)) (sym d)
    (no-more-arms c.args.self.now.names.now c.args.self.now.held.now c.each.noted.first))))
    (λ h. subst (λ q. TypesArms c.args.self.now.names.now c.args.self.now.held.now (arm_trees c.args.arms.now) c.args.noted.now.first c.each.noted.first q)
    (arms-end _) h)

pub type_branches-type_stmts-body-requires : goal.type_branches-type_stmts-body-requires
type_branches-type_stmts-body-requires t c =
    let lighter = branch-lighter c.args.branches.now c.each.branch-index c.branch-item.result c.each-test.true c.branch-item.is in
    omega (arith, lighter, ap (λ xs. stmts_weight (stmt_trees xs)) c.deref-in-each.ensures.value)

pub type_branches-each-preserved : goal.type_branches-each-preserved
type_branches-each-preserved t c = λ end r h.
    let d : drop c.each.branch-index c.args.branches.now ≡ c.branch-item.result ∷ drop (c.each.branch-index + 1) c.args.branches.now =
    from-item _ _ _ c.each-test.true c.branch-item.is in
    let all = c.each.invariant end (branch_of (option_map (λ v. v.items.items) c.type_labels-labels.result) (Some (tstmt_trees c.type_stmts-body.result.items.items)) r)
    (so-four c.type_labels-labels.ensures c.type_stmts-body.ensures c.with_branch-list.ensures h (λ x y p rest.
    let labels = subst
    (λ xs. TypesLabels c.args.self.now.names.now c.args.ty (label_trees xs) c.each.noted.first c.type_labels-labels.new.noted.first
    (option_map (λ v. v.items.items) c.type_labels-labels.result)) c.deref.ensures.value x in
    let body = subst
    (λ xs. TypesStmts c.args.self.now.names.now c.args.self.now.held.now (stmt_trees xs) c.type_labels-labels.new.noted.first c.type_stmts-body.new.noted.first
    (Some (tstmt_trees c.type_stmts-body.result.items.items))) c.deref-in-each.ensures.value y in
    subst (λ xs. TypesBranches c.args.self.now.names.now c.args.self.now.held.now c.args.ty (branch_trees xs) c.each.noted.first end.first (branch_of
    (option_map (λ v. v.items.items) c.type_labels-labels.result) (Some (tstmt_trees c.type_stmts-body.result.items.items)) r)) (sym d)
    (more-branches _ _ _ _ _ _ _ _ _ _ _ _ _ labels body rest))) in
    record {
      before = all.before;
      is = λ o. subst (λ q. TypesBranches c.args.self.now.names.now c.args.self.now.held.now c.args.ty
          (branch_trees c.args.branches.now) c.args.noted.now.first end.first q)
          (branches-on _ _ _ _ r (c.with_branch-list.ensures.is (h.before o))) (all.is o);
    }

pub type_branches-returns : goal.type_branches-returns
type_branches-returns t c =
    let d : drop c.each.branch-index c.args.branches.now ≡ [] = drop_all _ _ c.each-test.false in
    so (c.each.invariant c.each.noted (Some no_tbranches) (not-full
    (subst (λ xs. TypesBranches c.args.self.now.names.now c.args.self.now.held.now c.args.ty (branch_trees xs) c.each.noted.first c.each.noted.first
    (Some no_tbranches)) (sym d)
    (no-more-branches c.args.self.now.names.now c.args.self.now.held.now c.args.ty c.each.noted.first))))
    (λ h. subst (λ q. TypesBranches c.args.self.now.names.now c.args.self.now.held.now c.args.ty
    (branch_trees c.args.branches.now) c.args.noted.now.first c.each.noted.first q) (branches-end _) h)

pub type_other-returns-in-None : goal.type_other-returns-in-None
type_other-returns-in-None t c =
    not-full (subst
    (λ o. TypesOther c.args.self.now.names.now c.args.self.now.held.now o c.args.noted.now.first c.args.noted.now.first (Some no_tother))
    (sym (ap other_tree c.in-None.is)) (no-else c.args.self.now.names.now c.args.self.now.held.now c.args.noted.now.first))

pub type_other-type_stmts-requires : goal.type_other-type_stmts-requires
type_other-type_stmts-requires t c =
    omega (arith, ap (λ o. other_weight (other_tree o)) c.in-Some.is, ap (λ xs. stmts_weight (stmt_trees xs)) c.deref.ensures.value)

pub type_other-returns-in-Some : goal.type_other-returns-in-Some
type_other-returns-in-Some t c =
    so c.type_stmts.ensures (λ h.
    let body = subst
    (λ xs. TypesStmts c.args.self.now.names.now c.args.self.now.held.now (stmt_trees xs) c.args.noted.now.first c.type_stmts.new.noted.first
    (Some (tstmt_trees c.type_stmts.result.items.items))) c.deref.ensures.value h in
    subst (λ o. TypesOther c.args.self.now.names.now c.args.self.now.held.now o c.args.noted.now.first c.type_stmts.new.noted.first
    (Some (tother (tstmt_trees c.type_stmts.result.items.items)))) (sym (ap other_tree c.in-Some.is)) (some-else _ _ _ _ _ _ _ body refl))
