use Rattle.std.proofs.Common.{◌≡◌, ◌<◌, ◌≤◌, ◌+◌, ◌-◌, ◌*◌, ◌+ℤ◌, ◌++◌, ◌∷◌, [], pos, suc, true, Some, length, slice_get, refl, sym, ap, ap₂, ◌∙◌, subst, rules}
use Rattle.std.proofs.Common.{true≢false, w64, SFits, to_z, of_z, arith, drop}
use Rattle.std.specs.Prelude.{sum_by}
use Rattle.std.proofs.lemmas.Bool.{eqb-true, lt-ltb}
use Rattle.std.proofs.lemmas.Int.{to_z-of_z}
use borrow.Author.Tests.{ltb-true}
use Rattle.vcp_base.specs.Limits.{most_turn_nodes}
use Rattle.vcp_base.specs.Types.{fits}
use Rattle.vcp_base.specs.declared.ty.Ty.TheVariants as type_of_value
use Rattle.op_graph.specs.Lists.{turns_of}
use Rattle.vcp_typed.specs.TExprViews.{texpr_tree}
use Rattle.vcp_typed.specs.TStmtTree.{if_, case, for_}
use Rattle.vcp_typed.specs.TStmtViews.{tstmt_tree, tstmt_trees, tarm_trees, tbranch_trees, tother_tree}
use Rattle.vcp_typed.specs.Meaning.{do_stmt, do_stmts}
use Rattle.vcp_typed.specs.Size.{stmt_size, stmts_size, arms_size, branches_size, other_size, label_size, expr_size}
use Rattle.vcp_base.specs.Code.{admits}
use Rattle.vcp_typed.specs.Checked.{ty_of}
use Rattle.vcp_typed.specs.Rules.{joined as joined_type}
use Rattle.vcp_typed.specs.Wide.{expr_is_wide, arms_are_wide, branches_are_wide, other_is_wide}
use Rattle.flat_expr.specs.State.{IsA, IsPlace, reserved}
use Rattle.flat_stmt.specs.Adds.{if_size, rest_size}
use Rattle.flat_stmt.specs.Moves.{Does, setting}
use Rattle.flat_stmt.specs.Parts.{context, StmtPart, BranchesPart, OtherPart, Added}
use Rattle.flat_stmt.proofs.Weight.{stmt_weight, stmts_weight}
use Rattle.flat_stmt.proofs.Algebra.{place_typed}
use Rattle.flat_stmt.proofs.Loops.{done_start, branched_start, branched_state}
use Rattle.flat_stmt.proofs.Rooms.{handed_on, handed_refusal, last_added, none_more, then_more, then_most, equal_fits, nodes_left, turn_stays}
use Rattle.flat_stmt.proofs.Statements.{stmts_at, stmt_lighter, arms_at, arm_lighter, branches_at, branch_lighter, stmts_step, arms_step, case_step, arm_done}
use Rattle.flat_stmt.proofs.Statements.{case_done, stmts_first, stmts_rest, arm_condition, arm_body, arms_rest, branch_labels, branch_body, branches_rest}
use Rattle.flat_stmt.proofs.Statements.{else_part, else_lighter, stmts_end, arms_end, branches_end, case_branch_done, untaken, turn_done}
use Rattle.flat_stmt.proofs.Statements.{outer_there, condition_there, arm_ready, labelled_ready, turn_ready, turn_longer, arm_begins, arm_inside, arm_whole, arm_nodes}
use Rattle.flat_stmt.proofs.Statements.{branch_begins, branch_inside, branch_whole, branch_nodes, else_fits, else_begins, case_selector, case_begins, case_fits, case_nodes, made_context, stmt_fits, stmt_nodes, path_of}
use Rattle.flat_stmt.proofs.Statements.{for_size, for_values, for_slot, for_first, for_body, turns_start, turns_step, turns_end, next_width, next_values, first_fits}
use Rattle.flat_stmt.proofs.Statements.{turn_begins, turn_inside, turn_enters, turn_body, slot_there, stmt_does, turns_at, same_context, in_loop, admitted_later, allows_first, allows_second, allows_three}
use Rattle.flat_stmt.proofs.Statements.{some_labels, assignment_value, assignment_code, assignment_slot, assignment_fits}
use Rattle.flat_stmt.proofs.Turns.{does_continues}
use Rattle.flat_stmt.proofs.stmt.+statements.Goals as goal

-- ---- IF

pub add_if-each-init : goal.add_if-each-init
add_if-each-init t c = record { done = branched_start c.args.flat.now _ _ _ c.condition-outer.ensures.state; checked = c.requires.arms }

pub add_if-enter_arm-requires : goal.add_if-enter_arm-requires
add_if-enter_arm-requires t c =
    let tree = arms_at c.args.arms.now c.each.i c.index-arms-i.result (omega (arith, c.each-test.true)) c.index-arms-i.is in
    arm_condition (context c.args.flat.now) (context c.each.flat) _ _ _ _ _ tree
    (in_loop c.args.flat.now c.each.flat _ c.each.invariant.done.moves.continues) c.each.invariant.checked

pub add_if-returns-in_err-branch : goal.add_if-returns-in_err-branch
add_if-returns-in_err-branch t c =
    let tree = arms_at c.args.arms.now c.each.i c.index-arms-i.result (omega (arith, c.each-test.true)) c.index-arms-i.is in
    let d = c.each.invariant.done in
    handed_on _ _ c.args.flat.now c.each.flat d.size (1 + expr_size (texpr_tree c.index-arms-i.result.cond)) (if_size (tarm_trees c.args.arms.now) (tother_tree c.args.other.now)) c.enter_arm.result
    c.from_residual.result _ c.in_err-branch.was c.from_residual.ensures.1 d.moves.count
    (arm_begins d.size (if_size (tarm_trees c.args.arms.now) (tother_tree c.args.other.now)) _ _ _ _ _ (tother_tree c.args.other.now) tree d.fits) c.enter_arm.ensures

pub add_if-add_stmts-requires : goal.add_if-add_stmts-requires
add_if-add_stmts-requires t c =
    let lt : c.each.i < length c.args.arms.now = omega (arith, c.each-test.true) in
    let tree = arms_at c.args.arms.now c.each.i c.index-arms-i.result lt c.index-arms-i.is in
    let body = ap tstmt_trees c.deref.ensures.value in
    let d = c.each.invariant.done in
    let ready = arm_ready c.each.flat c.enter_arm.new.flat (texpr_tree c.index-arms-i.result.cond) c.in_ok-branch.branch c.in_ok-branch.ensures in (
      omega (arith, arm_lighter c.args.arms.now c.each.i c.index-arms-i.result lt c.index-arms-i.is, ap stmts_weight body),
      (
        arm_body (context c.args.flat.now) (context c.enter_arm.new.flat) _ _ _ _ _ _ tree body
            (ready.same ∙ in_loop c.args.flat.now c.each.flat _ d.moves.continues) c.each.invariant.checked,
        arm_nodes c.args.flat.now c.each.flat c.enter_arm.new.flat d.size (if_size (tarm_trees c.args.arms.now) (tother_tree c.args.other.now)) _ _ _ _ _ _ (tother_tree c.args.other.now) tree body
            ready.few d.moves.few d.fits c.requires.room,
      ),
    )

pub add_if-returns-in_err-add_stmts : goal.add_if-returns-in_err-add_stmts
add_if-returns-in_err-add_stmts t c =
    let tree = arms_at c.args.arms.now c.each.i c.index-arms-i.result (omega (arith, c.each-test.true)) c.index-arms-i.is in
    let body = ap tstmt_trees c.deref.ensures.value in
    let d = c.each.invariant.done in
    let ready = arm_ready c.each.flat c.enter_arm.new.flat (texpr_tree c.index-arms-i.result.cond) c.in_ok-branch.branch c.in_ok-branch.ensures in
    handed_on _ _ c.args.flat.now c.enter_arm.new.flat (d.size + (expr_size (texpr_tree c.index-arms-i.result.cond) + 1)) (stmts_size (tstmt_trees c.deref.result.now)) (if_size (tarm_trees c.args.arms.now) (tother_tree c.args.other.now))
    c.add_stmts.result c.from_residual-in_err-add_stmts.result _ c.in_err-add_stmts.was c.from_residual-in_err-add_stmts.ensures.1
    (then_more (reserved c.args.flat.now) (reserved c.each.flat) (reserved c.enter_arm.new.flat) d.size (expr_size (texpr_tree c.index-arms-i.result.cond) + 1)
    d.moves.count ready.count) (arm_inside d.size (if_size (tarm_trees c.args.arms.now) (tother_tree c.args.other.now)) _ _ _ _ _ _ (tother_tree c.args.other.now) tree body d.fits) c.add_stmts.ensures

pub add_if-leave-requires : goal.add_if-leave-requires
add_if-leave-requires t c =
    let f = c.in_ok-branch.ensures in record { outer = outer_there f.0 c.enter_arm.new.flat c.add_stmts.new.flat f.1 _ c.in_ok-branch.branch _ f.3 c.in_ok-add_stmts.ensures; condition = condition_there f.0 c.enter_arm.new.flat c.add_stmts.new.flat f.1 _ c.in_ok-branch.branch _ f.3 c.in_ok-add_stmts.ensures }

pub add_if-returns-in_err-leave : goal.add_if-returns-in_err-leave
add_if-returns-in_err-leave t c =
    let tree = arms_at c.args.arms.now c.each.i c.index-arms-i.result (omega (arith, c.each-test.true)) c.index-arms-i.is in
    let body = ap tstmt_trees c.deref.ensures.value in
    let d = c.each.invariant.done in
    let ready = arm_ready c.each.flat c.enter_arm.new.flat (texpr_tree c.index-arms-i.result.cond) c.in_ok-branch.branch c.in_ok-branch.ensures in
    handed_on _ _ c.args.flat.now c.add_stmts.new.flat
    (d.size + (expr_size (texpr_tree c.index-arms-i.result.cond) + 1) + stmts_size (tstmt_trees c.deref.result.now)) 2 (if_size (tarm_trees c.args.arms.now) (tother_tree c.args.other.now)) c.leave.result
    c.from_residual-in_err-leave.result _ c.in_err-leave.was c.from_residual-in_err-leave.ensures.1
    (then_most c.args.flat.now c.each.flat c.enter_arm.new.flat c.add_stmts.new.flat d.size (expr_size (texpr_tree c.index-arms-i.result.cond) + 1)
    (stmts_size (tstmt_trees c.deref.result.now)) d.moves.count ready.count c.in_ok-add_stmts.ensures.moves.count)
    (arm_whole d.size (if_size (tarm_trees c.args.arms.now) (tother_tree c.args.other.now)) _ _ _ _ _ _ (tother_tree c.args.other.now) tree body d.fits) c.leave.ensures

pub add_if-each-preserved : goal.add_if-each-preserved
add_if-each-preserved t c =
    let lt : c.each.i < length c.args.arms.now = omega (arith, c.each-test.true) in
    let tree = arms_at c.args.arms.now c.each.i c.index-arms-i.result lt c.index-arms-i.is in
    let step = arm_done c.laws_of_states.ensures c.each.flat c.enter_arm.new.flat c.add_stmts.new.flat c.leave.new.flat
    (texpr_tree c.index-arms-i.result.cond) c.in_ok-branch.branch c.has_next.result (tstmt_trees c.deref.result.now) _ (ap tstmt_trees c.deref.ensures.value)
    c.in_ok-branch.ensures c.in_ok-add_stmts.ensures c.in_ok-leave.ensures in
    record {
      done = arms_step c.laws_of_states.ensures c.args.flat.now c.each.flat c.leave.new.flat c.args.arms.now c.each.i c.index-arms-i.result c.has_next.result
          (tother_tree c.args.other.now) lt c.index-arms-i.is c.has_next.ensures c.each.invariant.done step;
      checked = arms_rest (context c.args.flat.now) _ _ _ _ _ tree c.each.invariant.checked;
    }

pub add_if-add_stmts-requires-2 : goal.add_if-add_stmts-requires-2
add_if-add_stmts-requires-2 t c =
    let d = c.each.invariant.done in
    let is = c.body_of_else.ensures in (
      omega (arith, else_lighter _ (tother_tree c.args.other.now) is),
      (
        else_part (context c.args.flat.now) (context c.each.flat) _ _ is (in_loop c.args.flat.now c.each.flat _ d.moves.continues) c.requires.other,
        nodes_left (length c.args.flat.now.graph.turn_nodes) (length c.each.flat.graph.turn_nodes) (length c.each.flat.graph.turn_nodes) d.size
            (arms_size (tarm_trees (drop c.each.i c.args.arms.now)) + other_size (tother_tree c.args.other.now)) (if_size (tarm_trees c.args.arms.now) (tother_tree c.args.other.now))
            (stmts_size (tstmt_trees c.body_of_else.result.now)) (none_more (length c.each.flat.graph.turn_nodes)) d.moves.few d.fits
            (else_fits (arms_size (tarm_trees (drop c.each.i c.args.arms.now))) _ (tother_tree c.args.other.now) is) c.requires.room,
      ),
    )

pub add_if-returns-in_err-add_stmts-2 : goal.add_if-returns-in_err-add_stmts-2
add_if-returns-in_err-add_stmts-2 t c =
    let d = c.each.invariant.done in
    handed_on _ _ c.args.flat.now c.each.flat d.size (stmts_size (tstmt_trees c.body_of_else.result.now)) (if_size (tarm_trees c.args.arms.now) (tother_tree c.args.other.now)) c.add_stmts-2.result
    c.from_residual-in_err-add_stmts-2.result _ c.in_err-add_stmts-2.was c.from_residual-in_err-add_stmts-2.ensures.1 d.moves.count
    (else_begins d.size (arms_size (tarm_trees (drop c.each.i c.args.arms.now))) (if_size (tarm_trees c.args.arms.now) (tother_tree c.args.other.now)) _ (tother_tree c.args.other.now) c.body_of_else.ensures d.fits) c.add_stmts-2.ensures

pub add_if-set_condition-requires : goal.add_if-set_condition-requires
add_if-set_condition-requires t c =
    subst (λ p. IsPlace type_of_value.Bool c.add_stmts-2.new.flat.graph.operations p) (sym c.condition-outer.ensures.value)
    (place_typed c.each.flat c.add_stmts-2.new.flat type_of_value.Bool c.args.flat.now.path c.in_ok-add_stmts-2.ensures.moves.continues.typed c.each.invariant.done.moves.continues.after.path)

pub add_if-returns : goal.add_if-returns
add_if-returns t c =
    arms_end c.laws_of_states.ensures c.args.flat.now c.each.flat c.add_stmts-2.new.flat c.set_condition.new.self c.condition-outer.result c.args.arms.now
    c.each.i (tstmt_trees c.body_of_else.result.now) (tother_tree c.args.other.now) c.body_of_else.ensures (omega (arith, c.each-test.false))
    c.condition-outer.ensures.value c.each.invariant.done c.in_ok-add_stmts-2.ensures c.set_condition.ensures.is

-- ---- CASE

pub add_branches-each-init : goal.add_branches-each-init
add_branches-each-init t c = record { done = λ v. branched_start c.args.flat.now _ _ _ c.condition-outer.ensures.state; checked = c.requires.branches }

pub add_branches-each-preserved-then-is_empty : goal.add_branches-each-preserved-then-is_empty
add_branches-each-preserved-then-is_empty t c =
    let lt : c.each.i < length c.args.branches.now = omega (arith, c.each-test.true) in
    let tree = branches_at c.args.branches.now c.each.i c.index-branches-i.result lt c.index-branches-i.is in
    let labels = c.index-branches-i.result.labels.items in
    let none : length labels.items ≡ 0 = sym labels.ok.0 ∙ eqb-true labels.len 0 (sym c.is_empty.ensures ∙ c.if-is_empty.true) in
    let state = branched_state c.args.flat.now c.each.flat _ _ _ _ _ (c.each.invariant.done (pos 0)) in
    record {
      done = λ v. case_step c.laws_of_states.ensures c.args.flat.now c.each.flat c.each.flat c.args.ty c.args.k c.args.branches.now c.each.i
          c.index-branches-i.result true (tother_tree c.args.other.now) lt c.index-branches-i.is (λ no. absurd (true≢false no)) c.requires.k v
          (c.each.invariant.done v) (untaken c.each.flat c.args.k _ _ true _ state none v);
      checked = branches_rest (context c.args.flat.now) c.args.ty _ _ _ _ tree c.each.invariant.checked;
    }

pub add_branches-enter_labelled-requires : goal.add_branches-enter_labelled-requires
add_branches-enter_labelled-requires t c =
    let tree = branches_at c.args.branches.now c.each.i c.index-branches-i.result (omega (arith, c.each-test.true)) c.index-branches-i.is in
    let d = c.each.invariant.done (pos 0) in
    let labels = c.index-branches-i.result.labels.items in
    let some = some_labels labels.len c.deref.result.now labels.items labels.ok.0 (sym c.is_empty.ensures ∙ c.if-is_empty.false) c.deref.ensures.value in record { some = some; number = c.requires.number; code = admitted_later c.args.flat.now c.each.flat c.args.ty d.moves.continues.profile c.requires.code; k = d.moves.continues.typed c.args.ty c.args.k c.requires.k; labels = branch_labels (context c.args.flat.now) c.args.ty _ _ _ _ _ tree c.deref.ensures.value c.each.invariant.checked }

pub add_branches-returns-in_err-entered : goal.add_branches-returns-in_err-entered
add_branches-returns-in_err-entered t c =
    let tree = branches_at c.args.branches.now c.each.i c.index-branches-i.result (omega (arith, c.each-test.true)) c.index-branches-i.is in
    let d = c.each.invariant.done (pos 0) in
    handed_on _ _ c.args.flat.now c.each.flat d.size (1 + sum_by label_size c.deref.result.now) (rest_size (tbranch_trees c.args.branches.now) (tother_tree c.args.other.now)) c.enter_labelled.result
    c.from_residual.result _ c.in_err-entered.was c.from_residual.ensures.1 d.moves.count
    (branch_begins d.size (rest_size (tbranch_trees c.args.branches.now) (tother_tree c.args.other.now)) _ _ _ _ _ (tother_tree c.args.other.now) tree c.deref.ensures.value d.fits)
    c.enter_labelled.ensures

pub add_branches-add_stmts-requires : goal.add_branches-add_stmts-requires
add_branches-add_stmts-requires t c =
    let lt : c.each.i < length c.args.branches.now = omega (arith, c.each-test.true) in
    let tree = branches_at c.args.branches.now c.each.i c.index-branches-i.result lt c.index-branches-i.is in
    let body = ap tstmt_trees c.deref-in-each.ensures.value in
    let d = c.each.invariant.done (pos 0) in
    let ready = labelled_ready c.each.flat c.enter_labelled.new.flat c.args.k c.deref.result.now c.in_ok-entered.entered c.in_ok-entered.ensures in (
      omega (arith, branch_lighter c.args.branches.now c.each.i c.index-branches-i.result lt c.index-branches-i.is, ap stmts_weight body),
      (
        branch_body (context c.args.flat.now) (context c.enter_labelled.new.flat) c.args.ty _ _ _ _ _ tree body
            (ready.same ∙ in_loop c.args.flat.now c.each.flat _ d.moves.continues) c.each.invariant.checked,
        branch_nodes c.args.flat.now c.each.flat c.enter_labelled.new.flat d.size (rest_size (tbranch_trees c.args.branches.now) (tother_tree c.args.other.now)) _ _ _ _ _ (tother_tree c.args.other.now) tree body
            ready.few d.moves.few d.fits c.requires.room,
      ),
    )

pub add_branches-returns-in_err-add_stmts : goal.add_branches-returns-in_err-add_stmts
add_branches-returns-in_err-add_stmts t c =
    let tree = branches_at c.args.branches.now c.each.i c.index-branches-i.result (omega (arith, c.each-test.true)) c.index-branches-i.is in
    let d = c.each.invariant.done (pos 0) in
    let ready = labelled_ready c.each.flat c.enter_labelled.new.flat c.args.k c.deref.result.now c.in_ok-entered.entered c.in_ok-entered.ensures in
    handed_on _ _ c.args.flat.now c.enter_labelled.new.flat (d.size + (sum_by label_size c.deref.result.now + 1))
    (stmts_size (tstmt_trees c.deref-in-each.result.now)) (rest_size (tbranch_trees c.args.branches.now) (tother_tree c.args.other.now)) c.add_stmts.result c.from_residual-in_err-add_stmts.result _ c.in_err-add_stmts.was
    c.from_residual-in_err-add_stmts.ensures.1
    (then_more (reserved c.args.flat.now) (reserved c.each.flat) (reserved c.enter_labelled.new.flat) d.size (sum_by label_size c.deref.result.now + 1)
    d.moves.count ready.count)
    (branch_inside d.size (rest_size (tbranch_trees c.args.branches.now) (tother_tree c.args.other.now)) _ _ _ _ _ _ (tother_tree c.args.other.now) tree c.deref.ensures.value
    (ap tstmt_trees c.deref-in-each.ensures.value) d.fits) c.add_stmts.ensures

pub add_branches-leave-requires : goal.add_branches-leave-requires
add_branches-leave-requires t c =
    let f = c.in_ok-entered.ensures in record { outer = outer_there f.0 c.enter_labelled.new.flat c.add_stmts.new.flat f.1 _ c.in_ok-entered.entered _ f.3 c.in_ok-add_stmts.ensures; condition = condition_there f.0 c.enter_labelled.new.flat c.add_stmts.new.flat f.1 _ c.in_ok-entered.entered _ f.3 c.in_ok-add_stmts.ensures }

pub add_branches-returns-in_err-leave : goal.add_branches-returns-in_err-leave
add_branches-returns-in_err-leave t c =
    let tree = branches_at c.args.branches.now c.each.i c.index-branches-i.result (omega (arith, c.each-test.true)) c.index-branches-i.is in
    let d = c.each.invariant.done (pos 0) in
    let ready = labelled_ready c.each.flat c.enter_labelled.new.flat c.args.k c.deref.result.now c.in_ok-entered.entered c.in_ok-entered.ensures in
    handed_on _ _ c.args.flat.now c.add_stmts.new.flat
    (d.size + (sum_by label_size c.deref.result.now + 1) + stmts_size (tstmt_trees c.deref-in-each.result.now)) 2 (rest_size (tbranch_trees c.args.branches.now) (tother_tree c.args.other.now)) c.leave.result
    c.from_residual-in_err-leave.result _ c.in_err-leave.was c.from_residual-in_err-leave.ensures.1
    (then_most c.args.flat.now c.each.flat c.enter_labelled.new.flat c.add_stmts.new.flat d.size (sum_by label_size c.deref.result.now + 1)
    (stmts_size (tstmt_trees c.deref-in-each.result.now)) d.moves.count ready.count c.in_ok-add_stmts.ensures.moves.count)
    (branch_whole d.size (rest_size (tbranch_trees c.args.branches.now) (tother_tree c.args.other.now)) _ _ _ _ _ _ (tother_tree c.args.other.now) tree c.deref.ensures.value
    (ap tstmt_trees c.deref-in-each.ensures.value) d.fits) c.leave.ensures

pub add_branches-each-preserved : goal.add_branches-each-preserved
add_branches-each-preserved t c =
    let lt : c.each.i < length c.args.branches.now = omega (arith, c.each-test.true) in
    let tree = branches_at c.args.branches.now c.each.i c.index-branches-i.result lt c.index-branches-i.is in
    record {
      done = λ v. case_step c.laws_of_states.ensures c.args.flat.now c.each.flat c.leave.new.flat c.args.ty c.args.k c.args.branches.now c.each.i
          c.index-branches-i.result c.has_next.result (tother_tree c.args.other.now) lt c.index-branches-i.is c.has_next.ensures c.requires.k v
          (c.each.invariant.done v)
          (case_branch_done c.laws_of_states.ensures c.each.flat c.enter_labelled.new.flat c.add_stmts.new.flat c.leave.new.flat c.args.ty c.args.k v
          c.deref.result.now _ c.in_ok-entered.entered c.has_next.result (tstmt_trees c.deref-in-each.result.now) _ c.deref.ensures.value
          (ap tstmt_trees c.deref-in-each.ensures.value)
          ((c.each.invariant.done (pos 0)).moves.continues.typed c.args.ty c.args.k c.requires.k) c.in_ok-entered.ensures c.in_ok-add_stmts.ensures c.in_ok-leave.ensures);
      checked = branches_rest (context c.args.flat.now) c.args.ty _ _ _ _ tree c.each.invariant.checked;
    }

pub add_branches-add_stmts-requires-2 : goal.add_branches-add_stmts-requires-2
add_branches-add_stmts-requires-2 t c =
    let d = c.each.invariant.done (pos 0) in
    let is = c.body_of_else.ensures in (
      omega (arith, else_lighter _ (tother_tree c.args.other.now) is),
      (
        else_part (context c.args.flat.now) (context c.each.flat) _ _ is (in_loop c.args.flat.now c.each.flat _ d.moves.continues) c.requires.other,
        nodes_left (length c.args.flat.now.graph.turn_nodes) (length c.each.flat.graph.turn_nodes) (length c.each.flat.graph.turn_nodes) d.size
            (branches_size (tbranch_trees (drop c.each.i c.args.branches.now)) + other_size (tother_tree c.args.other.now)) (rest_size (tbranch_trees c.args.branches.now) (tother_tree c.args.other.now))
            (stmts_size (tstmt_trees c.body_of_else.result.now)) (none_more (length c.each.flat.graph.turn_nodes)) d.moves.few d.fits
            (else_fits (branches_size (tbranch_trees (drop c.each.i c.args.branches.now))) _ (tother_tree c.args.other.now) is) c.requires.room,
      ),
    )

pub add_branches-returns-in_err-add_stmts-2 : goal.add_branches-returns-in_err-add_stmts-2
add_branches-returns-in_err-add_stmts-2 t c =
    let d = c.each.invariant.done (pos 0) in
    handed_on _ _ c.args.flat.now c.each.flat d.size (stmts_size (tstmt_trees c.body_of_else.result.now)) (rest_size (tbranch_trees c.args.branches.now) (tother_tree c.args.other.now)) c.add_stmts-2.result
    c.from_residual-in_err-add_stmts-2.result _ c.in_err-add_stmts-2.was c.from_residual-in_err-add_stmts-2.ensures.1 d.moves.count
    (else_begins d.size (branches_size (tbranch_trees (drop c.each.i c.args.branches.now))) (rest_size (tbranch_trees c.args.branches.now) (tother_tree c.args.other.now)) _ (tother_tree c.args.other.now) c.body_of_else.ensures d.fits) c.add_stmts-2.ensures

pub add_branches-set_condition-requires : goal.add_branches-set_condition-requires
add_branches-set_condition-requires t c =
    subst (λ p. IsPlace type_of_value.Bool c.add_stmts-2.new.flat.graph.operations p) (sym c.condition-outer.ensures.value)
    (place_typed c.each.flat c.add_stmts-2.new.flat type_of_value.Bool c.args.flat.now.path c.in_ok-add_stmts-2.ensures.moves.continues.typed
    (c.each.invariant.done (pos 0)).moves.continues.after.path)

pub add_branches-returns : goal.add_branches-returns
add_branches-returns t c = (
  path_of c.add_stmts-2.new.flat c.set_condition.new.self c.condition-outer.result c.args.flat.now.path c.set_condition.ensures.is c.condition-outer.ensures.value,
  (λ v.
      branches_end c.laws_of_states.ensures c.args.flat.now c.each.flat c.add_stmts-2.new.flat c.set_condition.new.self c.args.ty c.args.k
      c.condition-outer.result c.args.branches.now c.each.i (tstmt_trees c.body_of_else.result.now) (tother_tree c.args.other.now) c.body_of_else.ensures
      (omega (arith, c.each-test.false)) c.condition-outer.ensures.value c.requires.k v (c.each.invariant.done v) c.in_ok-add_stmts-2.ensures c.set_condition.ensures.is),
)

-- ---- FOR

pub add_for-add_value-requires : goal.add_for-add_value-requires
add_for-add_value-requires t c =
    let f : SFits w64 c.args.first = search rules in
    let body = tstmt_trees c.args.body.now in record { slot = for_slot (context c.args.flat.now) c.args.slot c.args.first c.args.by c.args.turns body c.args.spot c.requires.checked; fits = (λ x h. subst (λ v. fits x.ty v ≡ true) (sym (to_z-of_z w64 c.args.first f)) (for_first (context c.args.flat.now) c.args.slot c.args.first c.args.by c.args.turns body c.args.spot c.requires.checked x h)) }

pub add_for-returns-then-turns-eq0 : goal.add_for-returns-then-turns-eq0
add_for-returns-then-turns-eq0 t c =
    let f : SFits w64 c.args.first = search rules in
    let is = ap (λ n. for_ c.args.slot c.args.first c.args.by n (tstmt_trees c.args.body.now) c.args.spot) c.if-turns-eq0.true in
    last_added _ _ c.args.flat.now c.args.flat.now 0 2 (stmt_size (for_ c.args.slot c.args.first c.args.by c.args.turns (tstmt_trees c.args.body.now) c.args.spot))
    c.add_value.result (none_more (reserved c.args.flat.now)) (equal_fits 2 _ (ap stmt_size is)) c.add_value.ensures
    (λ u sets. stmt_does c.args.flat.now c.add_value.new.flat _ _ _ (setting c.args.slot c.args.first) is (λ m. refl)
    (subst (λ v. Does c.args.flat.now c.add_value.new.flat 2 (setting c.args.slot v)) (to_z-of_z w64 c.args.first f) sets.does))

pub add_for-turns-init : goal.add_for-turns-init
add_for-turns-init t c =
    let f : SFits w64 c.args.first = search rules in
    let g : SFits w64 c.args.by = search rules in
    let e : c.args.turns - 0 ≡ c.args.turns = omega arith in
    let ts = turns_of c.args.flat.now.graph c.args.flat.now.turn in
    record {
      done = turns_start c.args.flat.now c.args.slot (to_z w64 (of_z w64 c.args.by)) (to_z w64 (of_z w64 c.args.first))
          (λ v. do_stmts (ts ++ record { name = c.args.slot; value = v } ∷ []) (tstmt_trees c.args.body.now)) c.args.turns (c.args.turns - 0)
          (2 + stmts_size (tstmt_trees c.args.body.now)) e c.turn_now-outer.ensures.state;
      each = λ x h. turns_at x.ty _ _ _ _ _ _ e (to_z-of_z w64 c.args.first f) (to_z-of_z w64 c.args.by g)
          (for_values (context c.args.flat.now) c.args.slot c.args.first c.args.by c.args.turns
          (tstmt_trees c.args.body.now) c.args.spot c.requires.checked x h);
    }

pub add_for-enter_turn-requires : goal.add_for-enter_turn-requires
add_for-enter_turn-requires t c =
    let d = c.turns.invariant.done in
    let same_slots = d.does.moves.continues.slots in
    let body = tstmt_trees c.args.body.now in
    let is : (c.args.turns - c.turns.turn) ≡ suc (c.args.turns - (c.turns.turn + 1)) = omega (arith, c.turns-test.true) in record { slot = subst (λ xs. c.args.slot < length xs) (sym same_slots) (for_slot (context c.args.flat.now) c.args.slot c.args.first c.args.by c.args.turns body c.args.spot c.requires.checked); fits = (λ x h. first_fits x.ty _ _ _ _ is (c.turns.invariant.each x (subst (λ xs. slice_get xs c.args.slot ≡ Some x) same_slots h))); room = turn_enters (stmts_size body) (c.args.turns - c.turns.turn) (c.args.turns - (c.turns.turn + 1)) (length c.args.flat.now.graph.turn_nodes) d.size (c.args.turns * (2 + stmts_size body)) _ is d.fits (for_size c.args.slot c.args.first c.args.by c.args.turns body c.args.spot c.if-turns-eq0.false) c.requires.room (length c.turns.flat.graph.turn_nodes) d.does.moves.few }

pub add_for-returns-in_err-enter_turn : goal.add_for-returns-in_err-enter_turn
add_for-returns-in_err-enter_turn t c =
    let d = c.turns.invariant.done in
    let body = tstmt_trees c.args.body.now in
    let is : (c.args.turns - c.turns.turn) ≡ suc (c.args.turns - (c.turns.turn + 1)) = omega (arith, c.turns-test.true) in
    handed_on _ _ c.args.flat.now c.turns.flat d.size 2 (stmt_size (for_ c.args.slot c.args.first c.args.by c.args.turns body c.args.spot))
    c.enter_turn.result c.from_residual.result _ c.in_err-enter_turn.was c.from_residual.ensures.1 d.does.moves.count
    (turn_begins (stmts_size body) _ _ d.size _ _ is d.fits
    (for_size c.args.slot c.args.first c.args.by c.args.turns body c.args.spot c.if-turns-eq0.false)) c.enter_turn.ensures

pub add_for-add_stmts-requires : goal.add_for-add_stmts-requires
add_for-add_stmts-requires t c =
    let d = c.turns.invariant.done in
    let body = tstmt_trees c.args.body.now in
    let is : (c.args.turns - c.turns.turn) ≡ suc (c.args.turns - (c.turns.turn + 1)) = omega (arith, c.turns-test.true) in
    let ready = turn_ready c.turns.flat c.enter_turn.new.flat c.args.slot _ c.in_ok-enter_turn.ensures in (
      omega arith,
      (
        for_body (context c.args.flat.now) (context c.enter_turn.new.flat) c.args.slot c.args.first c.args.by c.args.turns body c.args.spot
            (ready.same ∙ same_context c.args.flat.now c.turns.flat (does_continues c.args.flat.now c.turns.flat d.size d.doing d.does)) c.requires.checked,
        turn_body (stmts_size body) (c.args.turns - c.turns.turn) (c.args.turns - (c.turns.turn + 1)) (length c.args.flat.now.graph.turn_nodes) d.size
            (c.args.turns * (2 + stmts_size body)) _ is d.fits
            (for_size c.args.slot c.args.first c.args.by c.args.turns body c.args.spot c.if-turns-eq0.false) c.requires.room
            (length c.turns.flat.graph.turn_nodes) (length c.enter_turn.new.flat.graph.turn_nodes) d.does.moves.few ready.few,
      ),
    )

pub add_for-returns-in_err-add_stmts : goal.add_for-returns-in_err-add_stmts
add_for-returns-in_err-add_stmts t c =
    let d = c.turns.invariant.done in
    let body = tstmt_trees c.args.body.now in
    let is : (c.args.turns - c.turns.turn) ≡ suc (c.args.turns - (c.turns.turn + 1)) = omega (arith, c.turns-test.true) in
    let ready = turn_ready c.turns.flat c.enter_turn.new.flat c.args.slot _ c.in_ok-enter_turn.ensures in
    handed_on _ _ c.args.flat.now c.enter_turn.new.flat (d.size + 2) (stmts_size body)
    (stmt_size (for_ c.args.slot c.args.first c.args.by c.args.turns body c.args.spot)) c.add_stmts.result c.from_residual-in_err-add_stmts.result _
    c.in_err-add_stmts.was c.from_residual-in_err-add_stmts.ensures.1
    (then_more (reserved c.args.flat.now) (reserved c.turns.flat) (reserved c.enter_turn.new.flat) d.size 2 d.does.moves.count ready.count)
    (turn_inside (stmts_size body) _ _ d.size _ _ is d.fits
    (for_size c.args.slot c.args.first c.args.by c.args.turns body c.args.spot c.if-turns-eq0.false)) c.add_stmts.ensures

pub add_for-set_turn-requires : goal.add_for-set_turn-requires
add_for-set_turn-requires t c =
    let d = c.turns.invariant.done in
    turn_stays c.turn_now-outer.result c.args.flat.now.turn (length c.args.flat.now.graph.turn_nodes) (length c.turns.flat.graph.turn_nodes)
    (length c.enter_turn.new.flat.graph.turn_nodes) (length c.add_stmts.new.flat.graph.turn_nodes) c.turn_now-outer.ensures.value
    c.turn_now-outer.ensures.state.turn d.does.moves.continues.nodes (turn_longer c.turns.flat c.enter_turn.new.flat c.args.slot _ c.in_ok-enter_turn.ensures)
    c.in_ok-add_stmts.ensures.moves.continues.nodes

pub add_for-next_value-value-requires : goal.add_for-next_value-value-requires
add_for-next_value-value-requires t c = λ e.
    let lt : c.turns.turn + 1 < c.args.turns = omega (arith, ltb-true, e) in
    let is : (c.args.turns - c.turns.turn) ≡ suc (suc (c.args.turns - (c.turns.turn + 2))) = omega (arith, lt) in
    let x = slot_there c.args.flat.now.slots c.args.slot
    (for_slot (context c.args.flat.now) c.args.slot c.args.first c.args.by c.args.turns (tstmt_trees c.args.body.now) c.args.spot c.requires.checked) in
    next_width x.0.ty _ _ _ _ is (c.turns.invariant.each x.0 x.1)

pub add_for-turns-preserved : goal.add_for-turns-preserved
add_for-turns-preserved t c =
    let is : (c.args.turns - c.turns.turn) ≡ suc (c.args.turns - (c.turns.turn + 1)) = omega (arith, c.turns-test.true) in
    let d = c.turns.invariant.done in
    let f : SFits w64 c.next_value-value.result = search rules in
    let next : 0 < (c.args.turns - (c.turns.turn + 1)) → (to_z w64 (of_z w64 c.next_value-value.result)) ≡ (to_z w64 c.turns.value-bits) +ℤ
    (to_z w64 (of_z w64 c.args.by)) = λ some.
    to_z-of_z w64 c.next_value-value.result f ∙ c.next_value-value.ensures.next (lt-ltb (c.turns.turn + 1) c.args.turns (omega (arith, some))) in
    let step = turn_done c.laws_of_states.ensures c.turns.flat c.enter_turn.new.flat c.add_stmts.new.flat c.set_turn.new.self c.args.slot
    c.turn_now-outer.result (to_z w64 c.turns.value-bits) (to_z w64 c.turns.value-bits) (tstmt_trees c.args.body.now) refl
    (c.turn_now-outer.ensures.value ∙ sym d.does.moves.continues.turn) c.in_ok-enter_turn.ensures c.in_ok-add_stmts.ensures c.set_turn.ensures.is in
    record {
      done = turns_step c.laws_of_states.ensures c.args.flat.now c.turns.flat c.set_turn.new.self c.args.slot _ _ _ (tstmt_trees c.args.body.now) _ _ _ _ is next d step;
      each = λ x h. next_values x.ty _ _ _ _ _ is next (c.turns.invariant.each x h);
    }

pub add_for-returns : goal.add_for-returns
add_for-returns t c =
    let f : SFits w64 c.args.first = search rules in
    let g : SFits w64 c.args.by = search rules in
    turns_end c.args.flat.now c.turns.flat c.args.slot c.args.first c.args.by _ _ _ c.args.turns (c.args.turns - c.turns.turn)
    (tstmt_trees c.args.body.now) c.args.spot c.if-turns-eq0.false (omega (arith, c.turns-test.false)) (to_z-of_z w64 c.args.first f)
    (to_z-of_z w64 c.args.by g) c.turns.invariant.done

-- ---- a statement

pub add_stmt-returns-in-Assign : goal.add_stmt-returns-in-Assign
add_stmt-returns-in-Assign t c =
    let is = ap tstmt_tree c.in-Assign.is in
    last_added _ _ c.args.flat.now c.args.flat.now 0 (1 + expr_size (texpr_tree c.in-Assign.value)) (stmt_size (tstmt_tree c.args.s.now)) c.add_assignment.result
    (none_more (reserved c.args.flat.now)) (equal_fits _ _ (ap stmt_size is)) c.add_assignment.ensures
    (λ u d. stmt_does c.args.flat.now c.add_assignment.new.flat _ _ _ _ is (λ m. refl) d)

pub add_stmt-add_if-requires : goal.add_stmt-add_if-requires
add_stmt-add_if-requires t c =
    let is = ap tstmt_tree c.in-If.is ∙ c.trees_of_nodes.ensures.if_ c.in-If.arms c.in-If.other
    ∙ ap (λ xs. if_ (tarm_trees xs) (tother_tree c.in-If.other)) (sym c.deref.ensures.value) in
    let parts = subst (λ s. StmtPart (context c.args.flat.now) s) is c.requires.checked in
    let p = c.args.flat.now.graph.profile in
    let arms = arms_are_wide (tarm_trees c.deref.result.now) in
    let other = other_is_wide (tother_tree c.in-If.other) in (
      omega (arith, ap stmt_weight is),
      (
        (parts.0, parts.1.0, allows_first p arms other parts.2),
        (
          (parts.0, parts.1.1, allows_second p arms other parts.2),
          subst (λ s. length c.args.flat.now.graph.turn_nodes + stmt_size s ≤ most_turn_nodes) is c.requires.room,
        ),
      ),
    )

pub add_stmt-returns-in-If : goal.add_stmt-returns-in-If
add_stmt-returns-in-If t c =
    let is = ap tstmt_tree c.in-If.is ∙ c.trees_of_nodes.ensures.if_ c.in-If.arms c.in-If.other
    ∙ ap (λ xs. if_ (tarm_trees xs) (tother_tree c.in-If.other)) (sym c.deref.ensures.value) in
    last_added _ _ c.args.flat.now c.args.flat.now 0 (if_size (tarm_trees c.deref.result.now) (tother_tree c.in-If.other)) (stmt_size (tstmt_tree c.args.s.now))
    c.add_if.result (none_more (reserved c.args.flat.now)) (equal_fits _ _ (ap stmt_size is)) c.add_if.ensures
    (λ u d. stmt_does c.args.flat.now c.add_if.new.flat _ _ _ _ is (λ m. refl) d)

pub add_stmt-expr-requires : goal.add_stmt-expr-requires
add_stmt-expr-requires t c =
    let is = ap tstmt_tree c.in-Case.is ∙ c.trees_of_nodes.ensures.case c.in-Case.on c.in-Case.branches c.in-Case.other c.in-Case.spot in
    let parts = case_selector (context c.args.flat.now) _ _ _ _ _ is c.requires.checked in
    record { checked = parts.0; code = parts.1 }

pub add_stmt-returns-in_err-k-in-Case : goal.add_stmt-returns-in_err-k-in-Case
add_stmt-returns-in_err-k-in-Case t c =
    let is = ap tstmt_tree c.in-Case.is ∙ c.trees_of_nodes.ensures.case c.in-Case.on c.in-Case.branches c.in-Case.other c.in-Case.spot in
    handed_refusal _ c.args.flat.now c.args.flat.now c.expr.new.self _ 0 (expr_size (texpr_tree c.in-Case.on)) (stmt_size (tstmt_tree c.args.s.now))
    c.expr.result c.from_residual.result _ c.in_err-k-in-Case.was c.from_residual.ensures.1 (none_more (reserved c.args.flat.now))
    (case_begins _ _ _ _ _ is) c.expr.ensures.refuses

pub add_stmt-add_branches-requires : goal.add_stmt-add_branches-requires
add_stmt-add_branches-requires t c =
    let is = ap tstmt_tree c.in-Case.is ∙ c.trees_of_nodes.ensures.case c.in-Case.on c.in-Case.branches c.in-Case.other c.in-Case.spot
    ∙ ap (λ xs. case (texpr_tree c.in-Case.on) (tbranch_trees xs) (tother_tree c.in-Case.other) c.in-Case.spot) (sym c.deref-in-Case.ensures.value) in
    let parts = subst (λ s. StmtPart (context c.args.flat.now) s) is c.requires.checked in
    let e = texpr_tree c.in-Case.on in
    let w = allows_three c.args.flat.now.graph.profile (expr_is_wide e) (branches_are_wide (tbranch_trees c.deref-in-Case.result.now))
    (other_is_wide (tother_tree c.in-Case.other)) parts.2 in
    let made = c.in_ok-k-in-Case.ensures.made in
    let same = made_context c.args.flat.now c.expr.new.self made.follows in
    let to = sym c.ty_of.ensures in (
      omega (arith, ap stmt_weight is),
      (
        subst (λ u. IsA u c.expr.new.self.graph.operations c.in_ok-k-in-Case.k) to made.place,
        (
          subst (λ u. joined_type u u ≡ Some u) to parts.1.1,
          (
            subst (λ u. admits c.expr.new.self.graph.profile u ≡ true) to
                (admitted_later c.args.flat.now c.expr.new.self (ty_of e) made.follows.profile
                (c.laws_of_states.ensures.value c.args.flat.now.graph.profile e w.0)),
            (
              subst (λ x. BranchesPart x c.ty_of.result (tbranch_trees c.deref-in-Case.result.now)) (sym same)
                  (subst (λ u. BranchesPart (context c.args.flat.now) u (tbranch_trees c.deref-in-Case.result.now)) to (parts.0, parts.1.2, w.1)),
              (
                subst (λ x. OtherPart x (tother_tree c.in-Case.other)) (sym same) (parts.0, parts.1.3, w.2),
                case_nodes c.args.flat.now c.expr.new.self _ _ _ _ _ is made.follows.turn_nodes c.requires.room,
              ),
            ),
          ),
        ),
      ),
    )

pub add_stmt-returns-in_ok-k-in-Case : goal.add_stmt-returns-in_ok-k-in-Case
add_stmt-returns-in_ok-k-in-Case t c =
    let is = ap tstmt_tree c.in-Case.is ∙ c.trees_of_nodes.ensures.case c.in-Case.on c.in-Case.branches c.in-Case.other c.in-Case.spot
    ∙ ap (λ xs. case (texpr_tree c.in-Case.on) (tbranch_trees xs) (tother_tree c.in-Case.other) c.in-Case.spot) (sym c.deref-in-Case.ensures.value) in
    let e = texpr_tree c.in-Case.on in
    let branches = tbranch_trees c.deref-in-Case.result.now in
    let other = tother_tree c.in-Case.other in
    last_added _ _ c.args.flat.now c.expr.new.self (expr_size e) (rest_size branches other) (stmt_size (tstmt_tree c.args.s.now)) c.add_branches.result
    c.in_ok-k-in-Case.ensures.made.count (case_fits _ _ _ _ _ is) c.add_branches.ensures
    (λ u q. stmt_does c.args.flat.now c.add_branches.new.flat _ _ _ _ is (λ m. refl)
    (case_done c.laws_of_states.ensures c.args.flat.now c.expr.new.self c.add_branches.new.flat e c.in_ok-k-in-Case.k branches other c.in_ok-k-in-Case.ensures.made q))

pub add_stmt-add_for-requires : goal.add_stmt-add_for-requires
add_stmt-add_for-requires t c =
    let f : SFits w64 c.in-For.first = search rules in
    let g : SFits w64 c.in-For.by = search rules in
    let is = ap tstmt_tree c.in-For.is ∙ c.trees_of_nodes.ensures.for_ c.in-For.slot c.in-For.first c.in-For.by c.in-For.turns c.in-For.body c.in-For.spot
    ∙ ap (λ xs. for_ c.in-For.slot c.in-For.first c.in-For.by c.in-For.turns (tstmt_trees xs) c.in-For.spot) (sym c.deref-in-For.ensures.value)
    ∙ ap₂ (λ x y. for_ c.in-For.slot x y c.in-For.turns (tstmt_trees c.deref-in-For.result.now) c.in-For.spot) (sym (to_z-of_z w64 c.in-For.first f))
    (sym (to_z-of_z w64 c.in-For.by g)) in (
      omega (arith, ap stmt_weight is),
      (
        subst (λ s. StmtPart (context c.args.flat.now) s) is c.requires.checked,
        subst
            (λ s. length c.args.flat.now.graph.turn_nodes + stmt_size s ≤ most_turn_nodes) is c.requires.room,
      ),
    )

pub add_stmt-returns-in-For : goal.add_stmt-returns-in-For
add_stmt-returns-in-For t c =
    let f : SFits w64 c.in-For.first = search rules in
    let g : SFits w64 c.in-For.by = search rules in
    let is = ap tstmt_tree c.in-For.is ∙ c.trees_of_nodes.ensures.for_ c.in-For.slot c.in-For.first c.in-For.by c.in-For.turns c.in-For.body c.in-For.spot
    ∙ ap (λ xs. for_ c.in-For.slot c.in-For.first c.in-For.by c.in-For.turns (tstmt_trees xs) c.in-For.spot) (sym c.deref-in-For.ensures.value)
    ∙ ap₂ (λ x y. for_ c.in-For.slot x y c.in-For.turns (tstmt_trees c.deref-in-For.result.now) c.in-For.spot) (sym (to_z-of_z w64 c.in-For.first f))
    (sym (to_z-of_z w64 c.in-For.by g)) in
    subst (λ s. Added c.args.flat.now (stmt_size s)
    (λ u. Does c.args.flat.now c.add_for.new.flat (stmt_size s) (do_stmt (turns_of c.args.flat.now.graph c.args.flat.now.turn) s)) c.add_for.result)
    (sym is) c.add_for.ensures

-- ---- statements

pub add_stmts-each-init : goal.add_stmts-each-init
add_stmts-each-init t c = record { done = done_start c.args.flat.now _ _ c.condition-state.ensures.state; checked = c.requires.checked }

pub add_stmts-add_stmt-requires : goal.add_stmts-add_stmt-requires
add_stmts-add_stmt-requires t c =
    let lt : c.each.s-index < length c.args.ss.now = omega (arith, c.each-test.true) in
    let tree = stmts_at c.args.ss.now c.each.s-index c.s-item.result lt c.s-item.is in
    let d = c.each.invariant.done in (
      omega (arith, stmt_lighter c.args.ss.now c.each.s-index c.s-item.result lt c.s-item.is),
      (
        stmts_first (context c.args.flat.now) (context c.each.flat) _ _ _ tree
            (same_context c.args.flat.now c.each.flat (does_continues c.args.flat.now c.each.flat d.size d.doing d.does)) c.each.invariant.checked,
        stmt_nodes c.args.flat.now c.each.flat d.size (stmts_size (tstmt_trees c.args.ss.now)) _ _ _ tree d.does.moves.few d.fits c.requires.room,
      ),
    )

pub add_stmts-returns-in_err-add_stmt : goal.add_stmts-returns-in_err-add_stmt
add_stmts-returns-in_err-add_stmt t c =
    let tree = stmts_at c.args.ss.now c.each.s-index c.s-item.result (omega (arith, c.each-test.true)) c.s-item.is in
    let d = c.each.invariant.done in
    handed_on _ _ c.args.flat.now c.each.flat d.size (stmt_size (tstmt_tree c.s-item.result)) (stmts_size (tstmt_trees c.args.ss.now)) c.add_stmt.result
    c.from_residual.result _ c.in_err-add_stmt.was c.from_residual.ensures.1 d.does.moves.count
    (stmt_fits d.size (stmts_size (tstmt_trees c.args.ss.now)) _ _ _ tree d.fits) c.add_stmt.ensures

pub add_stmts-each-preserved : goal.add_stmts-each-preserved
add_stmts-each-preserved t c =
    let lt : c.each.s-index < length c.args.ss.now = omega (arith, c.each-test.true) in
    let tree = stmts_at c.args.ss.now c.each.s-index c.s-item.result lt c.s-item.is in
    record {
      done = stmts_step c.laws_of_states.ensures c.args.flat.now c.each.flat c.add_stmt.new.flat c.args.ss.now c.each.s-index c.s-item.result lt c.s-item.is c.each.invariant.done c.in_ok-add_stmt.ensures;
      checked = stmts_rest (context c.args.flat.now) _ _ _ tree c.each.invariant.checked;
    }

pub add_stmts-returns : goal.add_stmts-returns
add_stmts-returns t c = stmts_end c.args.flat.now c.each.flat c.args.ss.now c.each.s-index (omega (arith, c.each-test.false)) c.each.invariant.done

-- ---- an assignment

pub add_stmt-add_assignment-requires-clause-checked : goal.add_stmt-add_assignment-requires-clause-checked
add_stmt-add_assignment-requires-clause-checked t c =
    assignment_value (context c.args.flat.now) _ _ _ _ (ap tstmt_tree c.in-Assign.is) c.requires.checked

pub add_stmt-add_assignment-requires-clause-code : goal.add_stmt-add_assignment-requires-clause-code
add_stmt-add_assignment-requires-clause-code t c =
    assignment_code (context c.args.flat.now) _ _ _ _ (ap tstmt_tree c.in-Assign.is) c.requires.checked

pub add_stmt-add_assignment-requires-clause-slot : goal.add_stmt-add_assignment-requires-clause-slot
add_stmt-add_assignment-requires-clause-slot t c =
    assignment_slot (context c.args.flat.now) _ _ _ _ (ap tstmt_tree c.in-Assign.is) c.requires.checked

pub add_stmt-add_assignment-requires-clause-fits : goal.add_stmt-add_assignment-requires-clause-fits
add_stmt-add_assignment-requires-clause-fits t c =
    assignment_fits (context c.args.flat.now) _ _ _ _ (ap tstmt_tree c.in-Assign.is) c.requires.checked
