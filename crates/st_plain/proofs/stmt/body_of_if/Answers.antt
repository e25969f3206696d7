use Rattle.std.proofs.Common.{◌≡◌, ◌∙◌, [], drop, refl, ap, sym, w64, SFits, rules}
use Rattle.std.proofs.lemmas.List.{drop_all}
use Rattle.vcp_typed.specs.Meaning.{do_arms, do_other}
use Rattle.vcp_typed.specs.Size.{arms_size}
use Rattle.vcp_typed.specs.TStmtTree.{TOtherTree}
use Rattle.vcp_typed.specs.TStmtViews.{tstmt_trees, tarm_trees, tother_tree}
use Rattle.st_plain.specs.Weight.{arms_weight}
use Rattle.st_plain.proofs.Stmts.{arm-cond, arm-body, arm-stops, next-arms, else-body}
use Rattle.st_plain.proofs.stmt.body_of_if.Goals as goal

pub each-init : goal.each-init
each-init c = record { sound = c.requires.arms; same = λ t o. refl }

pub evaluate-requires : goal.evaluate-requires
evaluate-requires c =
    arm-cond c.args.arms.now c.each.arm-index c.arm-item.result c.args.values.now c.each-test.true c.arm-item.is c.each.invariant.sound

pub returns-then-v-ne0-clause-ok : goal.returns-then-v-ne0-clause-ok
returns-then-v-ne0-clause-ok c =
    arm-body c.args.arms.now c.each.arm-index c.arm-item.result c.deref.result.now c.args.values.now c.in-Ok.v (tother_tree c.args.other.now) c.each-test.true
    c.arm-item.is c.deref.ensures.value c.each.invariant c.in-Ok.ensures c.if-v-ne0.true

pub returns-in-Err-clause-err : goal.returns-in-Err-clause-err
returns-in-Err-clause-err c =
    arm-stops c.args.arms.now c.each.arm-index c.arm-item.result c.args.values.now c.in-Err.stop (tother_tree c.args.other.now) c.each-test.true c.arm-item.is
    c.each.invariant c.in-Err.ensures

pub each-preserved : goal.each-preserved
each-preserved c =
    let f : SFits w64 c.in-Ok.v = search rules in
    next-arms c.args.arms.now c.each.arm-index c.arm-item.result c.args.values.now c.in-Ok.v c.each-test.true c.arm-item.is c.each.invariant c.in-Ok.ensures f
    c.if-v-ne0.false

pub returns-clause-ok : goal.returns-clause-ok
returns-clause-ok c =
    let none : drop c.each.arm-index c.args.arms.now ≡ [] = drop_all c.each.arm-index c.args.arms.now c.each-test.false in
    let o : TOtherTree = tother_tree c.args.other.now in
    else-body o (tstmt_trees c.body_of_else.result.now) (λ t. do_arms t (tarm_trees c.args.arms.now) (do_other t o)) (arms_weight (tarm_trees c.args.arms.now))
    (arms_size (tarm_trees c.args.arms.now)) c.args.values.now c.body_of_else.ensures c.requires.other
    (λ t. ap (λ arms. do_arms t (tarm_trees arms) (do_other t o) c.args.values.now) (sym none) ∙ c.each.invariant.same t (do_other t o))
