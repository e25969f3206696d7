use Rattle.std.proofs.Common.{◌≡◌, ◌≤◌, ◌+◌, ◌-◌, ◌++◌, ◌∷◌, [], drop, length, vec_capacity}
use Rattle.vcp_typed.specs.Meaning.{turns_from, all_turns, do_stmts}
use Rattle.vcp_typed.specs.TStmtViews.{tstmt_tree, tstmt_trees}
use Rattle.vcp_typed.specs.Size.{stmts_size}
use Rattle.st_plain.specs.Sound.{SoundStmts, SoundTurns}
use Rattle.st_plain.specs.Weight.{stmt_weight, stmts_weight}
use Rattle.st_plain.proofs.stmt.+statements.Given as goal

abbrev pub decreases-do_stmt : goal.decreases-do_stmt
decreases-do_stmt l = stmt_weight (tstmt_tree l.s.now)

abbrev pub decreases-do_stmts : goal.decreases-do_stmts
decreases-do_stmts l = stmts_weight (tstmt_trees l.ss.now)

abbrev pub decreases-do_turns : goal.decreases-do_turns
decreases-do_turns l = 1 + stmts_weight (tstmt_trees l.body.now)

abbrev pub invariant-do_stmts-each : goal.invariant-do_stmts-each
invariant-do_stmts-each l = record {
  sound : SoundStmts (tstmt_trees (drop l.s-index l.ss)) l.state.values;
  room : length l.fn.state.turns.items + stmts_size (tstmt_trees (drop l.s-index l.ss)) ≤ vec_capacity l.fn.state.turns;
  same : do_stmts l.fn.state.turns.items (tstmt_trees (drop l.s-index l.ss)) l.state.values
      ≡ do_stmts l.fn.state.turns.items (tstmt_trees l.ss) l.fn.state.values;
  turns : l.state.turns.items ≡ l.fn.state.turns.items;
  capacity : vec_capacity l.state.turns ≡ vec_capacity l.fn.state.turns;
}

abbrev pub invariant-do_turns-turns : goal.invariant-do_turns-turns
invariant-do_turns-turns l = record {
  sound : SoundTurns l.slot l.value l.by (l.turns - l.turn) (tstmt_trees l.body) l.state.values;
  same : turns_from l.slot l.by (λ v. do_stmts (l.fn.state.turns.items ++ record { name = l.slot; value = v } ∷ []) (tstmt_trees l.body))
      (l.turns - l.turn) l.value l.state.values
      ≡ all_turns l.slot l.first l.by l.turns
      (λ v. do_stmts (l.fn.state.turns.items ++ record { name = l.slot; value = v } ∷ []) (tstmt_trees l.body)) l.fn.state.values;
  turns : l.state.turns.items ≡ l.fn.state.turns.items;
  capacity : vec_capacity l.state.turns ≡ vec_capacity l.fn.state.turns;
}
