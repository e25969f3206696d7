use Rattle.std.proofs.Common.{◌+◌}
use Rattle.vcp_typed.specs.Size.{expr_size}
use Rattle.vcp_typed.specs.TExprViews.{texpr_tree}
use Rattle.flat_expr.specs.State.{reserved}
use Rattle.flat_stmt.proofs.Rooms.{handed_refusal, last_made, none_more, one_less, one_last}
use Rattle.flat_stmt.proofs.Turns.{assigned}
use Rattle.flat_stmt.proofs.stmt.add_assignment.Goals as goal

pub returns-in_err-k : goal.returns-in_err-k
returns-in_err-k c =
    let n = expr_size (texpr_tree c.args.value.now) in
    handed_refusal _ c.args.flat.now c.args.flat.now c.expr.new.self _ 0 n (1 + n) c.expr.result c.from_residual.result _ c.in_err-k.was
    c.from_residual.ensures.1 (none_more (reserved c.args.flat.now)) (one_less n) c.expr.ensures.refuses

pub returns : goal.returns
returns c =
    let n = expr_size (texpr_tree c.args.value.now) in
    last_made _ _ c.args.flat.now c.expr.new.self c.assign.new.self _ n 1 (1 + n) c.assign.result c.in_ok-k.ensures.made.count (one_last n)
    c.assign.ensures.made c.assign.ensures.refuses
    (λ u g. assigned c.laws_of_states.ensures c.args.flat.now c.expr.new.self c.assign.new.self
    (texpr_tree c.args.value.now) c.args.slot c.in_ok-k.k c.in_ok-k.ensures.made g)
