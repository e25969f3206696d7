use Rattle.std.proofs.Common.{rules, ◌≡◌, ◌+◌, ◌-◌, ◌<◌, ◌++◌, ◌∷◌, [], suc, refl, ap, sym, ◌∙◌, length, drop, Ok, ◌+ℤ◌, w64, SFits, to_z, of_z, arith}
use Rattle.std.proofs.Common.{length-append}
use Rattle.std.proofs.lemmas.Bool.{lt-ltb}
use Rattle.std.proofs.lemmas.List.{drop_all}
use Rattle.std.proofs.lemmas.Int.{to_z-of_z}
use Rattle.vcp_typed.specs.Meaning.{do_stmt, do_stmts}
use Rattle.vcp_typed.specs.Size.{stmt_size, stmts_size}
use Rattle.vcp_typed.specs.TExprViews.{texpr_tree}
use Rattle.vcp_typed.specs.TStmtTree.{if_, case, for_}
use Rattle.vcp_typed.specs.TStmtViews.{tstmt_tree, tstmt_trees, tarm_trees, tbranch_trees, tother_tree}
use Rattle.st_plain.specs.Weight.{stmt_weight}
use Rattle.st_plain.proofs.Stmts.{assign-inside, assign-ok, assign-err, if-arms, if-other, if-is, case-branches, case-other, case-is, case-err, for-inside}
use Rattle.st_plain.proofs.Stmts.{for-sound, for-some, for-room, stmts-at, stmt-lighter, stmts-first, stmts-rest, stmts-next, turns-inside}
use Rattle.st_plain.proofs.Stmts.{assign-sound, case-sound, for-none, stmts-stop, turns-stop, turns-none}
use Rattle.st_plain.proofs.Stmts.{turns-enter, turns-rest, next-width, turns-next, body-at, sound-at, turns-at}
use borrow.Author.Tests.{ltb-true}
use Rattle.st_plain.proofs.stmt.+statements.Goals as goal

pub do_stmts-do_stmt-requires : goal.do_stmts-do_stmt-requires
do_stmts-do_stmt-requires t c =
    let is = stmts-at c.args.ss.now c.each.s-index c.s-item.result c.each-test.true c.s-item.is in
    let lighter = stmt-lighter c.args.ss.now c.each.s-index c.s-item.result c.each-test.true c.s-item.is in (
      omega (arith, lighter),
      (
        stmts-first (tstmt_trees (drop c.each.s-index c.args.ss.now)) (tstmt_tree c.s-item.result)
            (tstmt_trees (drop (c.each.s-index + 1) c.args.ss.now)) c.each.state.values is c.each.invariant.sound,
        omega
            (arith, ap stmts_size is, ap length c.each.invariant.turns),
      ),
    )

pub do_stmts-each-preserved : goal.do_stmts-each-preserved
do_stmts-each-preserved t c =
    let is = stmts-at c.args.ss.now c.each.s-index c.s-item.result c.each-test.true c.s-item.is in
    let done = (c.in-Ok.ensures.done ∙ ap (λ x. do_stmt x (tstmt_tree c.s-item.result) c.each.state.values) c.each.invariant.turns) in
    record {
      sound = stmts-rest c.values_fit.ensures.body c.args.state.now.turns.items (tstmt_trees (drop c.each.s-index c.args.ss.now)) (tstmt_tree c.s-item.result)
          (tstmt_trees (drop (c.each.s-index + 1) c.args.ss.now)) c.each.state.values c.do_stmt.new.state.values is c.each.invariant.sound done;
      room = omega (arith, ap stmts_size is, c.each.invariant.room);
      same = stmts-next c.args.state.now.turns.items (tstmt_trees (drop c.each.s-index c.args.ss.now)) (tstmt_tree c.s-item.result)
          (tstmt_trees (drop (c.each.s-index + 1) c.args.ss.now)) c.each.state.values c.do_stmt.new.state.values _ is c.each.invariant.same done;
      turns = c.in-Ok.ensures.turns ∙ c.each.invariant.turns;
      capacity = c.do_stmt.ensures.capacity ∙ c.each.invariant.capacity;
    }

pub do_stmt-set-requires : goal.do_stmt-set-requires
do_stmt-set-requires t c =
    assign-inside (tstmt_tree c.args.s.now) c.in-Assign.slot (texpr_tree c.in-Assign.value) c.in-Assign.spot c.args.state.now.values
    (ap tstmt_tree c.in-Assign.is) c.requires.sound

pub do_stmt-returns-in-Ok-clause-done : goal.do_stmt-returns-in-Ok-clause-done
do_stmt-returns-in-Ok-clause-done t c =
    let f : SFits w64 c.in-Ok.v = search rules in
    rw (c.set.ensures, to_z-of_z w64 c.in-Ok.v f)
    (assign-ok c.args.state.now.turns.items (tstmt_tree c.args.s.now) c.in-Assign.slot (texpr_tree c.in-Assign.value) c.in-Assign.spot c.args.state.now.values
    c.in-Ok.v (ap tstmt_tree c.in-Assign.is) c.in-Ok.ensures)

pub do_stmt-returns-in-Err-clause-done : goal.do_stmt-returns-in-Err-clause-done
do_stmt-returns-in-Err-clause-done t c =
    assign-err c.args.state.now.turns.items (tstmt_tree c.args.s.now) c.in-Assign.slot (texpr_tree c.in-Assign.value) c.in-Assign.spot c.args.state.now.values
    c.in-Err.stop (ap tstmt_tree c.in-Assign.is) c.in-Err.ensures

pub do_stmt-body_of_if-requires-clause-arms : goal.do_stmt-body_of_if-requires-clause-arms
do_stmt-body_of_if-requires-clause-arms t c =
    let is = ap tstmt_tree c.in-If.is ∙ c.trees_of_nodes.ensures.if_ c.in-If.arms c.in-If.other
    ∙ ap (λ xs. if_ (tarm_trees xs) (tother_tree c.in-If.other)) (sym c.deref.ensures.value) in
    if-arms (tstmt_tree c.args.s.now) (tarm_trees c.deref.result.now) (tother_tree c.in-If.other) c.args.state.now.values is c.requires.sound

pub do_stmt-body_of_if-requires-clause-other : goal.do_stmt-body_of_if-requires-clause-other
do_stmt-body_of_if-requires-clause-other t c =
    let is = ap tstmt_tree c.in-If.is ∙ c.trees_of_nodes.ensures.if_ c.in-If.arms c.in-If.other
    ∙ ap (λ xs. if_ (tarm_trees xs) (tother_tree c.in-If.other)) (sym c.deref.ensures.value) in
    if-other (tstmt_tree c.args.s.now) (tarm_trees c.deref.result.now) (tother_tree c.in-If.other) c.args.state.now.values is c.requires.sound

pub do_stmt-do_stmts-requires : goal.do_stmt-do_stmts-requires
do_stmt-do_stmts-requires t c =
    let is = ap tstmt_tree c.in-If.is ∙ c.trees_of_nodes.ensures.if_ c.in-If.arms c.in-If.other
    ∙ ap (λ xs. if_ (tarm_trees xs) (tother_tree c.in-If.other)) (sym c.deref.ensures.value) in
    let b = c.in-Ok-body_of_if.ensures.ok in
    (omega (arith, ap stmt_weight is, b.lighter), (b.sound, omega (arith, ap stmt_size is, b.small)))

pub do_stmt-returns-in-Ok-body_of_if-clause-done : goal.do_stmt-returns-in-Ok-body_of_if-clause-done
do_stmt-returns-in-Ok-body_of_if-clause-done t c =
    let is = ap tstmt_tree c.in-If.is ∙ c.trees_of_nodes.ensures.if_ c.in-If.arms c.in-If.other
    ∙ ap (λ xs. if_ (tarm_trees xs) (tother_tree c.in-If.other)) (sym c.deref.ensures.value) in
    if-is c.args.state.now.turns.items (tstmt_tree c.args.s.now) (tarm_trees c.deref.result.now) (tother_tree c.in-If.other) c.args.state.now.values _ is
    (c.do_stmts.ensures.done ∙ c.in-Ok-body_of_if.ensures.ok.same c.args.state.now.turns.items)

pub do_stmt-returns-in-Err-body_of_if-clause-done : goal.do_stmt-returns-in-Err-body_of_if-clause-done
do_stmt-returns-in-Err-body_of_if-clause-done t c =
    let is = ap tstmt_tree c.in-If.is ∙ c.trees_of_nodes.ensures.if_ c.in-If.arms c.in-If.other
    ∙ ap (λ xs. if_ (tarm_trees xs) (tother_tree c.in-If.other)) (sym c.deref.ensures.value) in
    if-is c.args.state.now.turns.items (tstmt_tree c.args.s.now) (tarm_trees c.deref.result.now) (tother_tree c.in-If.other) c.args.state.now.values _ is
    (c.in-Err-body_of_if.ensures.err c.args.state.now.turns.items)

pub do_stmt-do_stmts-requires-in-Ok-evaluate : goal.do_stmt-do_stmts-requires-in-Ok-evaluate
do_stmt-do_stmts-requires-in-Ok-evaluate t c =
    let s = c.in-Case in
    let branches = c.deref-in-Ok-evaluate.result.now in
    let is = ap tstmt_tree s.is ∙ c.trees_of_nodes.ensures.case s.on s.branches s.other s.spot
    ∙ ap (λ xs. case (texpr_tree s.on) (tbranch_trees xs) (tother_tree s.other) s.spot) (sym c.deref-in-Ok-evaluate.ensures.value) in
    let b = c.body_of_case.ensures c.args.state.now.values
    (case-branches (tstmt_tree c.args.s.now) (texpr_tree s.on) (tbranch_trees branches) (tother_tree s.other) s.spot c.args.state.now.values is c.requires.sound)
    (case-other (tstmt_tree c.args.s.now) (texpr_tree s.on) (tbranch_trees branches) (tother_tree s.other) s.spot c.args.state.now.values is c.requires.sound) in
    (omega (arith, ap stmt_weight is, b.lighter), (b.sound, omega (arith, ap stmt_size is, b.small)))

pub do_stmt-returns-in-Ok-evaluate-clause-done : goal.do_stmt-returns-in-Ok-evaluate-clause-done
do_stmt-returns-in-Ok-evaluate-clause-done t c =
    let f : SFits w64 c.in-Ok-evaluate.v = search rules in
    let s = c.in-Case in
    let branches = c.deref-in-Ok-evaluate.result.now in
    let is = ap tstmt_tree s.is ∙ c.trees_of_nodes.ensures.case s.on s.branches s.other s.spot
    ∙ ap (λ xs. case (texpr_tree s.on) (tbranch_trees xs) (tother_tree s.other) s.spot) (sym c.deref-in-Ok-evaluate.ensures.value) in
    let b = c.body_of_case.ensures c.args.state.now.values
    (case-branches (tstmt_tree c.args.s.now) (texpr_tree s.on) (tbranch_trees branches) (tother_tree s.other) s.spot c.args.state.now.values is c.requires.sound)
    (case-other (tstmt_tree c.args.s.now) (texpr_tree s.on) (tbranch_trees branches) (tother_tree s.other) s.spot c.args.state.now.values is c.requires.sound) in
    case-is c.args.state.now.turns.items (tstmt_tree c.args.s.now) (texpr_tree s.on) (tbranch_trees branches) (tother_tree s.other) s.spot
    c.args.state.now.values c.in-Ok-evaluate.v _ _ is c.in-Ok-evaluate.ensures (to_z-of_z w64 c.in-Ok-evaluate.v f)
    (c.do_stmts-in-Ok-evaluate.ensures.done ∙ b.same c.args.state.now.turns.items)

pub do_stmt-returns-in-Err-evaluate-clause-done : goal.do_stmt-returns-in-Err-evaluate-clause-done
do_stmt-returns-in-Err-evaluate-clause-done t c =
    let s = c.in-Case in
    let is = ap tstmt_tree s.is ∙ c.trees_of_nodes.ensures.case s.on s.branches s.other s.spot in
    case-err c.args.state.now.turns.items (tstmt_tree c.args.s.now) (texpr_tree s.on) _ (tother_tree s.other) s.spot c.args.state.now.values
    c.in-Err-evaluate.stop is c.in-Err-evaluate.ensures

pub do_stmt-set-requires-then-turns-eq0 : goal.do_stmt-set-requires-then-turns-eq0
do_stmt-set-requires-then-turns-eq0 t c =
    let is = ap tstmt_tree c.in-For.is
    ∙ c.trees_of_nodes.ensures.for_ c.in-For.slot c.in-For.first c.in-For.by c.in-For.turns c.in-For.body c.in-For.spot in
    for-inside (tstmt_tree c.args.s.now) c.in-For.slot c.in-For.first c.in-For.by c.in-For.turns
    (tstmt_trees c.in-For.body.items.items) c.in-For.spot c.args.state.now.values is c.requires.sound

pub do_stmt-do_turns-requires : goal.do_stmt-do_turns-requires
do_stmt-do_turns-requires t c =
    let is = ap tstmt_tree c.in-For.is
    ∙ c.trees_of_nodes.ensures.for_ c.in-For.slot c.in-For.first c.in-For.by c.in-For.turns c.in-For.body c.in-For.spot
    ∙ ap (λ xs. for_ c.in-For.slot c.in-For.first c.in-For.by c.in-For.turns (tstmt_trees xs) c.in-For.spot) (sym c.deref-else-turns-eq0.ensures.value) in
    let f : SFits w64 c.in-For.first = search rules in
    let g : SFits w64 c.in-For.by = search rules in
    let some : 0 < c.in-For.turns = omega (arith, c.if-turns-eq0.false) in
    let deep = for-room c.in-For.slot c.in-For.first c.in-For.by c.in-For.turns (tstmt_trees c.deref-else-turns-eq0.result.now) c.in-For.spot some in (
      omega (arith, ap stmt_weight is),
      (
        some,
        (
          sound-at c.in-For.slot _ _ _ _ c.in-For.turns _ c.args.state.now.values
              (for-sound (tstmt_tree c.args.s.now) c.in-For.slot c.in-For.first c.in-For.by c.in-For.turns
              (tstmt_trees c.deref-else-turns-eq0.result.now) c.in-For.spot c.args.state.now.values is c.requires.sound) (to_z-of_z w64 c.in-For.first f)
              (to_z-of_z w64 c.in-For.by g),
          omega (arith, ap stmt_size is, deep),
        ),
      ),
    )

pub do_stmt-returns-else-turns-eq0-clause-done : goal.do_stmt-returns-else-turns-eq0-clause-done
do_stmt-returns-else-turns-eq0-clause-done t c =
    let is = ap tstmt_tree c.in-For.is
    ∙ c.trees_of_nodes.ensures.for_ c.in-For.slot c.in-For.first c.in-For.by c.in-For.turns c.in-For.body c.in-For.spot
    ∙ ap (λ xs. for_ c.in-For.slot c.in-For.first c.in-For.by c.in-For.turns (tstmt_trees xs) c.in-For.spot) (sym c.deref-else-turns-eq0.ensures.value) in
    let f : SFits w64 c.in-For.first = search rules in
    let g : SFits w64 c.in-For.by = search rules in
    for-some c.args.state.now.turns.items (tstmt_tree c.args.s.now) c.in-For.slot c.in-For.first c.in-For.by c.in-For.turns
    (tstmt_trees c.deref-else-turns-eq0.result.now) c.in-For.spot c.args.state.now.values _ is
    (turns-at c.in-For.slot _ _ _ _ c.in-For.turns _ c.args.state.now.values _ (to_z-of_z w64 c.in-For.first f)
    (to_z-of_z w64 c.in-For.by g) c.do_turns.ensures.done)

pub do_turns-enter-requires-clause-slot : goal.do_turns-enter-requires-clause-slot
do_turns-enter-requires-clause-slot t c =
    turns-inside c.args.slot _ _ _ _ _ c.turns.invariant.sound

pub do_turns-do_stmts-requires : goal.do_turns-do_stmts-requires
do_turns-do_stmts-requires t c =
    let is : (c.args.turns - c.turns.turn) ≡ suc (c.args.turns - (c.turns.turn + 1)) = omega (arith, c.turns-test.true) in (
      omega arith,
      (
        turns-enter c.args.slot _ _ _ (c.args.turns - (c.turns.turn + 1))
            (tstmt_trees c.args.body.now) c.turns.state.values c.enter.new.self.values is c.turns.invariant.sound c.enter.ensures.values,
        omega (
          arith,
          ap length c.enter.ensures.turns,
          length-append c.turns.state.turns.items
              (record { name = c.args.slot; value = to_z w64 c.turns.value-bits } ∷ []),
          ap length c.turns.invariant.turns,
          c.enter.ensures.capacity,
          c.turns.invariant.capacity,
          c.requires.room,
        ),
      ),
    )

pub do_turns-next_value-value-requires : goal.do_turns-next_value-value-requires
do_turns-next_value-value-requires t c e =
    let lt : c.turns.turn + 1 < c.args.turns = omega (arith, ltb-true, e) in
    let is : (c.args.turns - c.turns.turn) ≡ suc (suc (c.args.turns - (c.turns.turn + 2))) = omega (arith, lt) in
    next-width c.args.slot _ _ _ _ _ _ is c.turns.invariant.sound

pub do_turns-turns-preserved : goal.do_turns-turns-preserved
do_turns-turns-preserved t c =
    let is : (c.args.turns - c.turns.turn) ≡ suc (c.args.turns - (c.turns.turn + 1)) = omega (arith, c.turns-test.true) in
    let f : SFits w64 c.next_value-value.result = search rules in
    let next : 0 < (c.args.turns - (c.turns.turn + 1)) → (to_z w64 (of_z w64 c.next_value-value.result)) ≡ (to_z w64 c.turns.value-bits) +ℤ
    (to_z w64 (of_z w64 c.args.by)) = λ some.
    to_z-of_z w64 c.next_value-value.result f ∙ c.next_value-value.ensures.next (lt-ltb (c.turns.turn + 1) c.args.turns (omega (arith, some))) in
    let left = c.leave.ensures.turns c.turns.state.turns.items (record { name = c.args.slot; value = (to_z w64 c.turns.value-bits) })
    (c.in-Ok.ensures.turns ∙ c.enter.ensures.turns) in
    let done = ap (λ x. Ok x) c.leave.ensures.values ∙ c.in-Ok.ensures.done in
    record {
      sound = turns-rest c.values_fit.ensures.body c.enter.new.self.turns.items c.args.slot (to_z w64 c.turns.value-bits) (to_z w64 (of_z w64 c.args.by)) (to_z w64 (of_z w64 c.next_value-value.result)) (c.args.turns - c.turns.turn) (c.args.turns - (c.turns.turn + 1)) (tstmt_trees c.args.body.now) c.turns.state.values c.enter.new.self.values c.leave.new.self.values is c.turns.invariant.sound c.enter.ensures.values done next;
      same = turns-next c.args.slot (to_z w64 (of_z w64 c.args.by))
          (λ v. do_stmts (c.args.state.now.turns.items ++ record { name = c.args.slot; value = v } ∷ []) (tstmt_trees c.args.body.now))
          (c.args.turns - c.turns.turn) (c.args.turns - (c.turns.turn + 1)) (to_z w64 c.turns.value-bits)
          (to_z w64 (of_z w64 c.next_value-value.result)) c.turns.state.values c.leave.new.self.values _ is c.turns.invariant.same
          (body-at c.turns.state.turns.items c.args.state.now.turns.items c.args.slot (to_z w64 c.turns.value-bits) c.enter.new.self.turns.items (tstmt_trees c.args.body.now) c.turns.state.values c.enter.new.self.values _ c.turns.invariant.turns c.enter.ensures.turns c.enter.ensures.values done) next;
      turns = left ∙ c.turns.invariant.turns;
      capacity = c.leave.ensures.capacity ∙ c.do_stmts.ensures.capacity ∙ c.enter.ensures.capacity ∙ c.turns.invariant.capacity;
    }

pub do_stmt-evaluate-requires : goal.do_stmt-evaluate-requires
do_stmt-evaluate-requires t c =
    assign-sound (tstmt_tree c.args.s.now) c.in-Assign.slot (texpr_tree c.in-Assign.value) c.in-Assign.spot c.args.state.now.values
    (ap tstmt_tree c.in-Assign.is) c.requires.sound

pub do_stmt-evaluate-requires-in-Case : goal.do_stmt-evaluate-requires-in-Case
do_stmt-evaluate-requires-in-Case t c =
    let s = c.in-Case in
    case-sound (tstmt_tree c.args.s.now) (texpr_tree s.on) _ (tother_tree s.other) s.spot c.args.state.now.values
    (ap tstmt_tree s.is ∙ c.trees_of_nodes.ensures.case s.on s.branches s.other s.spot) c.requires.sound

pub do_stmt-returns-in-Ok-clause-turns : goal.do_stmt-returns-in-Ok-clause-turns
do_stmt-returns-in-Ok-clause-turns t c = refl

pub do_stmt-returns-in-Ok-clause-capacity : goal.do_stmt-returns-in-Ok-clause-capacity
do_stmt-returns-in-Ok-clause-capacity t c = refl

pub do_stmt-returns-in-Err-clause-turns : goal.do_stmt-returns-in-Err-clause-turns
do_stmt-returns-in-Err-clause-turns t c = tt

pub do_stmt-returns-in-Err-clause-capacity : goal.do_stmt-returns-in-Err-clause-capacity
do_stmt-returns-in-Err-clause-capacity t c = refl

pub do_stmt-returns-in-Ok-body_of_if-clause-turns : goal.do_stmt-returns-in-Ok-body_of_if-clause-turns
do_stmt-returns-in-Ok-body_of_if-clause-turns t c = c.do_stmts.ensures.turns

pub do_stmt-returns-in-Ok-body_of_if-clause-capacity : goal.do_stmt-returns-in-Ok-body_of_if-clause-capacity
do_stmt-returns-in-Ok-body_of_if-clause-capacity t c = c.do_stmts.ensures.capacity

pub do_stmt-returns-in-Err-body_of_if-clause-turns : goal.do_stmt-returns-in-Err-body_of_if-clause-turns
do_stmt-returns-in-Err-body_of_if-clause-turns t c = tt

pub do_stmt-returns-in-Err-body_of_if-clause-capacity : goal.do_stmt-returns-in-Err-body_of_if-clause-capacity
do_stmt-returns-in-Err-body_of_if-clause-capacity t c = refl

pub do_stmt-returns-in-Ok-evaluate-clause-turns : goal.do_stmt-returns-in-Ok-evaluate-clause-turns
do_stmt-returns-in-Ok-evaluate-clause-turns t c = c.do_stmts-in-Ok-evaluate.ensures.turns

pub do_stmt-returns-in-Ok-evaluate-clause-capacity : goal.do_stmt-returns-in-Ok-evaluate-clause-capacity
do_stmt-returns-in-Ok-evaluate-clause-capacity t c = c.do_stmts-in-Ok-evaluate.ensures.capacity

pub do_stmt-returns-in-Err-evaluate-clause-turns : goal.do_stmt-returns-in-Err-evaluate-clause-turns
do_stmt-returns-in-Err-evaluate-clause-turns t c = tt

pub do_stmt-returns-in-Err-evaluate-clause-capacity : goal.do_stmt-returns-in-Err-evaluate-clause-capacity
do_stmt-returns-in-Err-evaluate-clause-capacity t c = refl

pub do_stmt-returns-then-turns-eq0-clause-done : goal.do_stmt-returns-then-turns-eq0-clause-done
do_stmt-returns-then-turns-eq0-clause-done t c =
    let f : SFits w64 c.in-For.first = search rules in
    let is = ap tstmt_tree c.in-For.is
    ∙ c.trees_of_nodes.ensures.for_ c.in-For.slot c.in-For.first c.in-For.by c.in-For.turns c.in-For.body c.in-For.spot in
    rw (c.set-then-turns-eq0.ensures, to_z-of_z w64 c.in-For.first f)
    (for-none c.args.state.now.turns.items (tstmt_tree c.args.s.now) c.in-For.slot c.in-For.first c.in-For.by c.in-For.turns
    (tstmt_trees c.in-For.body.items.items) c.in-For.spot c.args.state.now.values is c.if-turns-eq0.true)

pub do_stmt-returns-then-turns-eq0-clause-turns : goal.do_stmt-returns-then-turns-eq0-clause-turns
do_stmt-returns-then-turns-eq0-clause-turns t c = refl

pub do_stmt-returns-then-turns-eq0-clause-capacity : goal.do_stmt-returns-then-turns-eq0-clause-capacity
do_stmt-returns-then-turns-eq0-clause-capacity t c = refl

pub do_stmt-returns-else-turns-eq0-clause-turns : goal.do_stmt-returns-else-turns-eq0-clause-turns
do_stmt-returns-else-turns-eq0-clause-turns t c = c.do_turns.ensures.turns

pub do_stmt-returns-else-turns-eq0-clause-capacity : goal.do_stmt-returns-else-turns-eq0-clause-capacity
do_stmt-returns-else-turns-eq0-clause-capacity t c = c.do_turns.ensures.capacity

pub do_stmts-each-init : goal.do_stmts-each-init
do_stmts-each-init t c = record {
  sound = c.requires.sound;
  room = c.requires.room;
  same = refl;
  turns = refl;
  capacity = refl;
}

pub do_stmts-returns-in-Err-clause-done : goal.do_stmts-returns-in-Err-clause-done
do_stmts-returns-in-Err-clause-done t c =
    let is = stmts-at c.args.ss.now c.each.s-index c.s-item.result c.each-test.true c.s-item.is in
    let stops = c.in-Err.ensures.done ∙ ap (λ x. do_stmt x (tstmt_tree c.s-item.result) c.each.state.values) c.each.invariant.turns in
    stmts-stop c.args.state.now.turns.items (tstmt_trees (drop c.each.s-index c.args.ss.now)) (tstmt_tree c.s-item.result)
    (tstmt_trees (drop (c.each.s-index + 1) c.args.ss.now)) c.each.state.values _ is stops ∙ c.each.invariant.same

pub do_stmts-returns-in-Err-clause-turns : goal.do_stmts-returns-in-Err-clause-turns
do_stmts-returns-in-Err-clause-turns t c = tt

pub do_stmts-returns-in-Err-clause-capacity : goal.do_stmts-returns-in-Err-clause-capacity
do_stmts-returns-in-Err-clause-capacity t c = c.do_stmt.ensures.capacity ∙ c.each.invariant.capacity

pub do_stmts-returns-clause-done : goal.do_stmts-returns-clause-done
do_stmts-returns-clause-done t c =
    ap (λ xs. do_stmts c.args.state.now.turns.items (tstmt_trees xs) c.each.state.values) (sym (drop_all c.each.s-index c.args.ss.now (omega (arith, c.each-test.false))))
    ∙ c.each.invariant.same

pub do_stmts-returns-clause-turns : goal.do_stmts-returns-clause-turns
do_stmts-returns-clause-turns t c = c.each.invariant.turns

pub do_stmts-returns-clause-capacity : goal.do_stmts-returns-clause-capacity
do_stmts-returns-clause-capacity t c = c.each.invariant.capacity

pub do_turns-enter-requires-clause-room : goal.do_turns-enter-requires-clause-room
do_turns-enter-requires-clause-room t c =
    omega (arith, ap length c.turns.invariant.turns, c.turns.invariant.capacity, c.requires.room)

pub do_turns-returns-in-Err-clause-done : goal.do_turns-returns-in-Err-clause-done
do_turns-returns-in-Err-clause-done t c =
    let is : (c.args.turns - c.turns.turn) ≡ suc (c.args.turns - (c.turns.turn + 1)) = omega (arith, c.turns-test.true) in
    turns-at c.args.slot _ _ _ _ c.args.turns _ c.args.state.now.values _ (to_z-of_z w64 c.args.first c.ranges.first) (to_z-of_z w64 c.args.by c.ranges.by)
    (turns-stop c.args.slot (to_z w64 (of_z w64 c.args.by))
    (λ v. do_stmts (c.args.state.now.turns.items ++ record { name = c.args.slot; value = v } ∷ []) (tstmt_trees c.args.body.now))
    (c.args.turns - c.turns.turn) (c.args.turns - (c.turns.turn + 1)) (to_z w64 c.turns.value-bits) c.turns.state.values _ _ is c.turns.invariant.same
    (body-at c.turns.state.turns.items c.args.state.now.turns.items c.args.slot (to_z w64 c.turns.value-bits) c.enter.new.self.turns.items (tstmt_trees c.args.body.now) c.turns.state.values c.enter.new.self.values _ c.turns.invariant.turns c.enter.ensures.turns c.enter.ensures.values c.in-Err.ensures.done))

pub do_turns-returns-clause-done : goal.do_turns-returns-clause-done
do_turns-returns-clause-done t c =
    turns-at c.args.slot _ _ _ _ c.args.turns _ c.args.state.now.values _ (to_z-of_z w64 c.args.first c.ranges.first) (to_z-of_z w64 c.args.by c.ranges.by)
    (turns-none c.args.slot (to_z w64 (of_z w64 c.args.by))
    (λ v. do_stmts (c.args.state.now.turns.items ++ record { name = c.args.slot; value = v } ∷ []) (tstmt_trees c.args.body.now))
    (c.args.turns - c.turns.turn) (to_z w64 c.turns.value-bits) c.turns.state.values _ (omega (arith, c.turns-test.false)) c.turns.invariant.same)

pub do_turns-returns-in-Err-clause-turns : goal.do_turns-returns-in-Err-clause-turns
do_turns-returns-in-Err-clause-turns t c = tt

pub do_turns-returns-in-Err-clause-capacity : goal.do_turns-returns-in-Err-clause-capacity
do_turns-returns-in-Err-clause-capacity t c = c.do_stmts.ensures.capacity ∙ c.enter.ensures.capacity ∙ c.turns.invariant.capacity

pub do_turns-returns-clause-turns : goal.do_turns-returns-clause-turns
do_turns-returns-clause-turns t c = c.turns.invariant.turns

pub do_turns-returns-clause-capacity : goal.do_turns-returns-clause-capacity
do_turns-returns-clause-capacity t c = c.turns.invariant.capacity
