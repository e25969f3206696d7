use Rattle.std.proofs.Common.{◌≤◌, [], Err, ap, ◌∙◌, subst, arith}
use Rattle.vcp_typed.specs.Meaning.{do_stmts}
use Rattle.vcp_typed.specs.Size.{size, stmts_size}
use Rattle.vcp_typed.specs.TStmtViews.{tstmt_trees}
use Rattle.flat_expr.specs.State.{whole_size}
use Rattle.flat_stmt.specs.Moves.{Does}
use Rattle.flat_stmt.proofs.Rooms.{body_nodes, body_part, body_room, whole_room, within_size}
use Rattle.flat_stmt.proofs.Top.{ValuesFit, no_turns, means}
use Rattle.flat_stmt.proofs.program.flatten.Goals as goal

pub add_stmts-requires : goal.add_stmts-requires
add_stmts-requires c =
    let body = ap tstmt_trees c.deref.ensures.value ∙ c.body.ensures.body in
    let p = c.args.program.now in record {
      checked = body_part c.in_ok-flat.flat p _ c.in_ok-flat.ensures c.body.ensures.checked body;
      room = body_nodes c.in_ok-flat.flat p _ c.in_ok-flat.ensures c.body.ensures.checked body;
    }

pub memory-requires : goal.memory-requires
memory-requires c = λ is.
    let body = ap tstmt_trees c.deref.ensures.value ∙ c.body.ensures.body in
    body_room c.in_ok-flat.flat c.args.program.now _ c.in_ok-flat.ensures c.body.ensures.checked body (c.in-Err.ensures is)

pub finish-requires : goal.finish-requires
finish-requires c = c.in_default.ensures.path ∙ c.in_ok-flat.ensures.path

pub memory-requires-in-Err-finish : goal.memory-requires-in-Err-finish
memory-requires-in-Err-finish c = λ is.
    let p = c.args.program.now in
    let body = ap tstmt_trees c.deref.ensures.value ∙ c.body.ensures.body in
    let moves = c.in_default.ensures.moves in
    let within = within_size c.laws_of_states.ensures p c.in_ok-flat.flat c.add_stmts.new.flat
    (stmts_size (tstmt_trees c.deref.result.now)) c.in_ok-flat.ensures moves.continues moves.count (ap stmts_size body) in
    whole_room (whole_size c.add_stmts.new.flat) (size p) within c.body.ensures.checked.room (c.in-Err-finish.ensures.refuses (ap (λ e. Err e) is))

pub returns-in-Ok-clause-means : goal.returns-in-Ok-clause-means
returns-in-Ok-clause-means c =
    let p = c.args.program.now in
    let body = ap tstmt_trees c.deref.ensures.value ∙ c.body.ensures.body in
    let law : ValuesFit p =
    record {
      initial = c.values_fit.ensures.initial p c.body.ensures.checked;
      cycle = λ row m h k. c.values_fit.ensures.cycle p row m c.body.ensures.checked h k;
    } in
    let does = subst (λ ss. Does c.in_ok-flat.flat c.add_stmts.new.flat (stmts_size (tstmt_trees c.deref.result.now)) (do_stmts [] ss)) body
    (subst (λ ts. Does c.in_ok-flat.flat c.add_stmts.new.flat (stmts_size (tstmt_trees c.deref.result.now)) (do_stmts ts (tstmt_trees c.deref.result.now)))
    (no_turns c.in_ok-flat.flat p c.in_ok-flat.ensures) c.in_default.ensures) in
    means p c.in-Ok.graph c.in_ok-flat.flat c.add_stmts.new.flat
    (stmts_size (tstmt_trees c.deref.result.now)) law c.in_ok-flat.ensures does c.in-Ok.ensures.made

pub returns-in-Ok-clause-few : goal.returns-in-Ok-clause-few
returns-in-Ok-clause-few c =
    let p = c.args.program.now in
    let body = ap tstmt_trees c.deref.ensures.value ∙ c.body.ensures.body in
    let moves = c.in_default.ensures.moves in
    let within : whole_size c.add_stmts.new.flat ≤ size p = within_size c.laws_of_states.ensures p c.in_ok-flat.flat c.add_stmts.new.flat
    (stmts_size (tstmt_trees c.deref.result.now)) c.in_ok-flat.ensures moves.continues moves.count (ap stmts_size body) in
    omega (arith, within, c.in-Ok.ensures.made.size)
