use Rattle.std.proofs.Common.{◌≡◌, sym, ap, refl}
use Rattle.st_tree.proofs.Pointwise.{always, never, all-before, at-one-more, at-place, moved, both-parts, first-part, carried}
use Rattle.st_tree.proofs.SameStmts.{bare_stmt_of, bare_arm_of, bare_branch_of, stmts-by-each, stmts-length, stmts-each, arms-by-each, arms-length, arms-each}
use Rattle.st_tree.proofs.SameStmts.{branches-by-each, branches-length, branches-each, bare-if, bare-case, bare-for, same-if, other-if, same-case, other-case}
use Rattle.st_tree.proofs.SameStmts.{same-for, other-selector, other-variable, other-bounds, not-if, not-case, not-for, bare_stmts_of, bare_labels_of}
use Rattle.st_tree.proofs.SameStmts.{else-none, else-same}
use Rattle.st_tree.proofs.same_stmt.+same_stmt.Goals as goal

pub same_stmt-returns-in-If : goal.same_stmt-returns-in-If
same_stmt-returns-in-If t c = moved _ _ _ _ (sym (bare-if _ _ _ _ c.in-If.is c.deref.ensures.value)) c.is_if.ensures

pub same_stmt-returns-in-Case : goal.same_stmt-returns-in-Case
same_stmt-returns-in-Case t c = moved _ _ _ _ (sym (bare-case _ _ _ _ _ _ c.in-Case.is c.deref-in-Case.ensures.value)) c.is_case.ensures

pub same_stmt-returns-in-For : goal.same_stmt-returns-in-For
same_stmt-returns-in-For t c = moved _ _ _ _ (sym (bare-for _ _ _ _ _ _ _ _ _ c.in-For.is c.deref-in-For.ensures.value)) c.is_for.ensures

pub is_if-returns-then-same_arms : goal.is_if-returns-then-same_arms
is_if-returns-then-same_arms t c =
    same-if _ _ _ _ _ _ (c.same_arms.ensures.0 c.if-same_arms.true) c.same_other.ensures
    (bare-if _ _ _ _ c.in-If.is c.deref.ensures.value)

pub is_if-returns-else-same_arms : goal.is_if-returns-else-same_arms
is_if-returns-else-same_arms t c =
    other-if _ _ _ _ _ _ c.if-same_arms.false c.same_arms.ensures (bare-if _ _ _ _ c.in-If.is c.deref.ensures.value)

pub is_case-returns-then-same_branches : goal.is_case-returns-then-same_branches
is_case-returns-then-same_branches t c =
    same-case _ _ _ _ _ _ _ _ (c.same_expr.ensures.0 c.if-not-same_expr.false) (c.same_branches.ensures.0 c.if-same_branches.true)
    c.same_other.ensures (bare-case _ _ _ _ _ _ c.in-Case.is c.deref.ensures.value)

pub is_case-returns-else-same_branches : goal.is_case-returns-else-same_branches
is_case-returns-else-same_branches t c =
    other-case _ _ _ _ _ _ _ _ c.if-same_branches.false c.same_branches.ensures
    (bare-case _ _ _ _ _ _ c.in-Case.is c.deref.ensures.value)

pub is_for-returns-then-same_bounds : goal.is_for-returns-then-same_bounds
is_for-returns-then-same_bounds t c =
    same-for _ _ _ _ _ _ _ _ _ _ _ _ (c.same_text.ensures.0 c.if-not-same_text.false) (c.same_bounds.ensures.0 c.if-same_bounds.true)
    c.same_stmts.ensures (bare-for _ _ _ _ _ _ _ _ _ c.in-For.is c.deref.ensures.value)

pub same_stmts-returns-then-a-b : goal.same_stmts-returns-then-a-b
same_stmts-returns-then-a-b t c = never (λ e. absurd (c.if-a-b.true (stmts-length _ _ e)))

pub same_stmts-returns-then-not-same_stmt : goal.same_stmts-returns-then-not-same_stmt
same_stmts-returns-then-not-same_stmt t c =
    never (λ e. c.if-not-same_stmt.ensures.1
    (at-place bare_stmt_of c.args.a.now c.args.b.now c.loop-i.i _ _ c.loop-i-test.true c.if-a-b.false c.index-a-i.is c.index-b-i.is
    (stmts-each _ _ e c.loop-i.i c.index-a-i.result c.loop-i-test.true)))

pub same_stmts-loop-i-preserved : goal.same_stmts-loop-i-preserved
same_stmts-loop-i-preserved t c =
    at-one-more bare_stmt_of c.args.a.now c.args.b.now c.loop-i.i _ _ c.loop-i-test.true c.if-a-b.false c.index-a-i.is c.index-b-i.is
    (c.if-not-same_stmt.ensures.0 refl) c.loop-i.invariant

pub same_stmts-returns : goal.same_stmts-returns
same_stmts-returns t c =
    always (stmts-by-each c.args.a.now c.args.b.now c.if-a-b.false
    (all-before bare_stmt_of _ _ c.loop-i.i c.loop-i-test.false c.loop-i.invariant))

pub same_arms-returns-then-a-b : goal.same_arms-returns-then-a-b
same_arms-returns-then-a-b t c = never (λ e. absurd (c.if-a-b.true (arms-length _ _ e)))

pub same_arms-returns-then-not-same_arm : goal.same_arms-returns-then-not-same_arm
same_arms-returns-then-not-same_arm t c =
    never (λ e.
    let same : bare_arm_of c.index-a-i.result ≡ bare_arm_of c.index-b-i.result =
    at-place bare_arm_of c.args.a.now c.args.b.now c.loop-i.i _ _ c.loop-i-test.true c.if-a-b.false c.index-a-i.is c.index-b-i.is
    (arms-each _ _ e c.loop-i.i c.index-a-i.result c.loop-i-test.true) in
    c.if-not-same_arm.ensures.1 (ap (λ p. p.0) same, ap (λ p. p.1) same))

pub same_arms-loop-i-preserved : goal.same_arms-loop-i-preserved
same_arms-loop-i-preserved t c =
    let both = c.if-not-same_arm.ensures.0 refl in
    at-one-more bare_arm_of c.args.a.now c.args.b.now c.loop-i.i _ _ c.loop-i-test.true c.if-a-b.false c.index-a-i.is c.index-b-i.is
    (λ i. (both.0 i, both.1 i)) c.loop-i.invariant

pub same_arms-returns : goal.same_arms-returns
same_arms-returns t c =
    always (arms-by-each c.args.a.now c.args.b.now c.if-a-b.false
    (all-before bare_arm_of _ _ c.loop-i.i c.loop-i-test.false c.loop-i.invariant))

pub same_branches-returns-then-a-b : goal.same_branches-returns-then-a-b
same_branches-returns-then-a-b t c = never (λ e. absurd (c.if-a-b.true (branches-length _ _ e)))

pub same_branches-returns-then-not-same_branch : goal.same_branches-returns-then-not-same_branch
same_branches-returns-then-not-same_branch t c =
    never (λ e.
    let same : bare_branch_of c.index-a-i.result ≡ bare_branch_of c.index-b-i.result =
    at-place bare_branch_of c.args.a.now c.args.b.now c.loop-i.i _ _ c.loop-i-test.true c.if-a-b.false c.index-a-i.is c.index-b-i.is
    (branches-each _ _ e c.loop-i.i c.index-a-i.result c.loop-i-test.true) in
    c.if-not-same_branch.ensures.1 (ap (λ p. p.0) same, ap (λ p. p.1) same))

pub same_branches-loop-i-preserved : goal.same_branches-loop-i-preserved
same_branches-loop-i-preserved t c =
    let both = c.if-not-same_branch.ensures.0 refl in
    at-one-more bare_branch_of c.args.a.now c.args.b.now c.loop-i.i _ _ c.loop-i-test.true c.if-a-b.false c.index-a-i.is c.index-b-i.is
    (λ i. (both.0 i, both.1 i)) c.loop-i.invariant

pub same_branches-returns : goal.same_branches-returns
same_branches-returns t c =
    always (branches-by-each c.args.a.now c.args.b.now c.if-a-b.false
    (all-before bare_branch_of _ _ c.loop-i.i c.loop-i-test.false c.loop-i.invariant))

pub same_stmt-returns-in-Assign : goal.same_stmt-returns-in-Assign
same_stmt-returns-in-Assign t c = moved _ _ _ _ (sym (ap bare_stmt_of c.in-Assign.is)) c.is_assign.ensures

pub is_if-returns-in_default : goal.is_if-returns-in_default
is_if-returns-in_default t c = not-if _ _ _ c.in_default.not-If

pub is_case-returns-then-not-same_expr : goal.is_case-returns-then-not-same_expr
is_case-returns-then-not-same_expr t c =
    other-selector _ _ _ _ _ _ _ c.if-not-same_expr.ensures.1 (bare-case _ _ _ _ _ _ c.in-Case.is refl)

pub is_case-returns-in_default : goal.is_case-returns-in_default
is_case-returns-in_default t c = not-case _ _ _ _ c.in_default.not-Case

pub is_for-returns-then-not-same_text : goal.is_for-returns-then-not-same_text
is_for-returns-then-not-same_text t c =
    other-variable _ _ _ _ _ _ _ _ _ _ _ c.if-not-same_text.ensures.1 (bare-for _ _ _ _ _ _ _ _ _ c.in-For.is refl)

pub is_for-returns-else-same_bounds : goal.is_for-returns-else-same_bounds
is_for-returns-else-same_bounds t c =
    other-bounds _ _ _ _ _ _ _ _ _ _ _ _ c.if-same_bounds.false c.same_bounds.ensures
    (bare-for _ _ _ _ _ _ _ _ _ c.in-For.is refl)

pub is_for-returns-in_default : goal.is_for-returns-in_default
is_for-returns-in_default t c = not-for _ _ _ _ _ _ c.in_default.not-For

pub same_arm-returns-then-same_expr : goal.same_arm-returns-then-same_expr
same_arm-returns-then-same_expr t c =
    both-parts _ _ _ _ _ (c.same_expr.ensures.0 c.if-same_expr.true)
    (carried bare_stmts_of _ _ _ _ _ c.same_stmts.ensures c.deref.ensures.value c.deref-then-same_expr.ensures.value)

pub same_arm-returns-else-same_expr : goal.same_arm-returns-else-same_expr
same_arm-returns-else-same_expr t c = first-part _ c.if-same_expr.false c.same_expr.ensures

pub same_branch-returns-then-same_labels : goal.same_branch-returns-then-same_labels
same_branch-returns-then-same_labels t c =
    both-parts _ _ _ _ _
    ((carried bare_labels_of _ _ _ _ _ c.same_labels.ensures c.deref.ensures.value c.deref-2.ensures.value).0 c.if-same_labels.true)
    (carried bare_stmts_of _ _ _ _ _ c.same_stmts.ensures c.deref-then-same_labels.ensures.value c.deref-then-same_labels-2.ensures.value)

pub same_branch-returns-else-same_labels : goal.same_branch-returns-else-same_labels
same_branch-returns-else-same_labels t c =
    first-part _ c.if-same_labels.false
    (carried bare_labels_of _ _ _ _ _ c.same_labels.ensures c.deref.ensures.value c.deref-2.ensures.value)

pub same_other-returns-in-None-b : goal.same_other-returns-in-None-b
same_other-returns-in-None-b t c = else-none _ _ _ c.in-Some.is c.in-None-b.is

pub same_other-returns-in-Some-b : goal.same_other-returns-in-Some-b
same_other-returns-in-Some-b t c =
    else-same _ _ _ _ _ c.in-Some.is c.in-Some-b.is
    (carried bare_stmts_of _ _ _ _ _ c.same_stmts.ensures c.deref.ensures.value c.deref-in-Some-b.ensures.value)
