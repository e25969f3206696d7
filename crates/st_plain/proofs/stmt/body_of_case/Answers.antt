use Rattle.std.proofs.Common.{◌≡◌, ◌∙◌, [], ℤ, drop, refl, ap, sym, subst, w64, to_z, of_z}
use Rattle.std.specs.List.{list_any}
use Rattle.std.proofs.lemmas.Int.{to_z-of_z}
use Rattle.std.proofs.lemmas.List.{drop_all}
use Rattle.vcp_typed.specs.Meaning.{do_branches, do_other, is_labelled}
use Rattle.vcp_typed.specs.Size.{branches_size}
use Rattle.vcp_typed.specs.TStmtTree.{TOtherTree}
use Rattle.vcp_typed.specs.TStmtViews.{tstmt_trees, tbranch_trees, tother_tree}
use Rattle.st_plain.specs.Weight.{branches_weight}
use Rattle.st_plain.proofs.Stmts.{BranchesLeft, branch-body, next-branches, else-body}
use Rattle.st_plain.proofs.stmt.body_of_case.Goals as goal

pub each-init : goal.each-init
each-init c = record { sound = λ m h. h; same = λ t o m. refl }

pub returns-then-has_label : goal.returns-then-has_label
returns-then-has_label c = λ m sound other.
    let same = to_z-of_z w64 c.args.v c.ranges.v in
    let left = subst (λ v. BranchesLeft v (tbranch_trees (drop c.each.branch-index c.args.branches.now)) (tbranch_trees c.args.branches.now)) same
    c.each.invariant in
    let has = c.has_label.ensures ∙ ap (λ v. list_any (is_labelled v) c.deref.result.now) same
    ∙ ap (λ labels. list_any (is_labelled c.args.v) labels) c.deref.ensures.value in
    branch-body c.args.branches.now c.each.branch-index c.branch-item.result c.deref-then-has_label.result.now c.args.v c.has_label.result
    (tother_tree c.args.other.now) m c.each-test.true c.branch-item.is c.deref-then-has_label.ensures.value left has c.if-has_label.true sound

pub each-preserved : goal.each-preserved
each-preserved c =
    let v : ℤ = to_z w64 (of_z w64 c.args.v) in
    next-branches c.args.branches.now c.each.branch-index c.branch-item.result v c.has_label.result c.each-test.true c.branch-item.is c.each.invariant
    (c.has_label.ensures ∙ ap (λ labels. list_any (is_labelled v) labels) c.deref.ensures.value) c.if-has_label.false

pub returns : goal.returns
returns c = λ m sound other.
    let none : drop c.each.branch-index c.args.branches.now ≡ [] = drop_all c.each.branch-index c.args.branches.now c.each-test.false in
    let left = subst (λ v. BranchesLeft v (tbranch_trees (drop c.each.branch-index c.args.branches.now)) (tbranch_trees c.args.branches.now))
    (to_z-of_z w64 c.args.v c.ranges.v) c.each.invariant in
    let o : TOtherTree = tother_tree c.args.other.now in
    else-body o (tstmt_trees c.body_of_else.result.now) (λ t. do_branches t c.args.v (tbranch_trees c.args.branches.now) (do_other t o))
    (branches_weight (tbranch_trees c.args.branches.now)) (branches_size (tbranch_trees c.args.branches.now)) m c.body_of_else.ensures other
    (λ t. ap (λ branches. do_branches t c.args.v (tbranch_trees branches) (do_other t o) m) (sym none) ∙ left.same t (do_other t o) m)
