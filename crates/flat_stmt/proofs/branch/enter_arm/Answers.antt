use Rattle.std.proofs.Common.{◌+◌, subst}
use Rattle.vcp_typed.specs.Size.{expr_size}
use Rattle.vcp_typed.specs.TExprViews.{texpr_tree}
use Rattle.flat_expr.specs.State.{IsA, reserved}
use Rattle.flat_stmt.proofs.Rooms.{handed_refusal, last_added, none_more, one_less, one_last}
use Rattle.flat_stmt.proofs.branch.enter_arm.Goals as goal

pub expr-requires : goal.expr-requires
expr-requires c = record { checked = c.requires.0; code = c.requires.2 }

pub enter-requires : goal.enter-requires
enter-requires c =
    subst (λ t. IsA t c.expr.new.self.graph.operations c.in_ok-condition.condition) c.requires.1 c.in_ok-condition.ensures.made.place

pub returns-in_err-condition : goal.returns-in_err-condition
returns-in_err-condition c =
    let n = expr_size (texpr_tree c.args.arm.now.cond) in
    handed_refusal _ c.args.flat.now c.args.flat.now c.expr.new.self _ 0 n (1 + n) c.expr.result c.from_residual.result _ c.in_err-condition.was
    c.from_residual.ensures.1 (none_more (reserved c.args.flat.now)) (one_less n) c.expr.ensures.refuses

pub returns : goal.returns
returns c =
    let n = expr_size (texpr_tree c.args.arm.now.cond) in
    last_added _ _ c.args.flat.now c.expr.new.self n 1 (1 + n) c.enter.result c.in_ok-condition.ensures.made.count (one_last n) c.enter.ensures
    (λ branch f. (c.expr.new.self, c.in_ok-condition.condition, c.in_ok-condition.ensures.made, f))
