use Rattle.std.proofs.Common.{◌≡◌, ℤ, ◌+◌, ◌-◌, ◌*◌, ◌++◌, ◌∷◌, [], Some, drop, slice_get}
use Rattle.op_graph.specs.Lists.{turns_of}
use Rattle.vcp_base.specs.Values.{at}
use Rattle.vcp_typed.specs.declared.slot.Slot.{Slot}
use Rattle.vcp_typed.specs.Checked.{AreTurns}
use Rattle.vcp_typed.specs.Meaning.{turns_from, do_stmts, do_arms, do_branches, do_other}
use Rattle.vcp_typed.specs.Size.{stmts_size, arms_size, branches_size, other_size}
use Rattle.vcp_typed.specs.TStmtViews.{tstmt_tree, tstmt_trees, tarm_trees, tbranch_trees, tother_tree}
use Rattle.flat_stmt.specs.Moves.{Any}
use Rattle.flat_stmt.specs.Parts.{context, StmtsPart, ArmsPart, BranchesPart}
use Rattle.flat_stmt.proofs.Weight.{stmt_weight, stmts_weight, arms_weight, branches_weight, other_weight}
use Rattle.flat_stmt.proofs.Loops.{Done, Branched}
use Rattle.flat_stmt.proofs.stmt.+statements.Given as goal

abbrev pub decreases-add_stmt : goal.decreases-add_stmt
decreases-add_stmt l = stmt_weight (tstmt_tree l.s.now)

abbrev pub decreases-add_stmts : goal.decreases-add_stmts
decreases-add_stmts l = stmts_weight (tstmt_trees l.ss.now)

abbrev pub decreases-add_if : goal.decreases-add_if
decreases-add_if l = 1 + arms_weight (tarm_trees l.arms.now) + other_weight (tother_tree l.other.now)

abbrev pub decreases-add_branches : goal.decreases-add_branches
decreases-add_branches l = 1 + branches_weight (tbranch_trees l.branches.now) + other_weight (tother_tree l.other.now)

abbrev pub decreases-add_for : goal.decreases-add_for
decreases-add_for l = 1 + stmts_weight (tstmt_trees l.body.now)

abbrev pub invariant-add_stmts-each : goal.invariant-add_stmts-each
invariant-add_stmts-each l = record {
  done : Done l.fn.flat l.flat (stmts_size (tstmt_trees (drop l.s-index l.ss))) (stmts_size (tstmt_trees l.ss))
      (do_stmts (turns_of l.fn.flat.graph l.fn.flat.turn) (tstmt_trees (drop l.s-index l.ss)))
      (do_stmts (turns_of l.fn.flat.graph l.fn.flat.turn) (tstmt_trees l.ss));
  checked : StmtsPart (context l.fn.flat) (tstmt_trees (drop l.s-index l.ss));
}

abbrev pub invariant-add_if-each : goal.invariant-add_if-each
invariant-add_if-each l = record {
  done : Branched l.fn.flat l.flat Any (arms_size (tarm_trees (drop l.i l.arms)) + other_size (tother_tree l.other))
      (arms_size (tarm_trees l.arms) + other_size (tother_tree l.other))
      (do_arms (turns_of l.fn.flat.graph l.fn.flat.turn) (tarm_trees (drop l.i l.arms))
      (do_other (turns_of l.fn.flat.graph l.fn.flat.turn) (tother_tree l.other)))
      (do_arms (turns_of l.fn.flat.graph l.fn.flat.turn) (tarm_trees l.arms) (do_other (turns_of l.fn.flat.graph l.fn.flat.turn) (tother_tree l.other)));
  checked : ArmsPart (context l.fn.flat) (tarm_trees (drop l.i l.arms));
}

abbrev pub invariant-add_branches-each : goal.invariant-add_branches-each
invariant-add_branches-each l = record {
  done : (v : ℤ)
      → Branched l.fn.flat l.flat (λ vs. at vs l.k
      ≡ v) (branches_size (tbranch_trees (drop l.i l.branches)) + other_size (tother_tree l.other))
      (branches_size (tbranch_trees l.branches) + other_size (tother_tree l.other))
      (do_branches (turns_of l.fn.flat.graph l.fn.flat.turn) v (tbranch_trees (drop l.i l.branches))
      (do_other (turns_of l.fn.flat.graph l.fn.flat.turn) (tother_tree l.other)))
      (do_branches (turns_of l.fn.flat.graph l.fn.flat.turn) v (tbranch_trees l.branches)
      (do_other (turns_of l.fn.flat.graph l.fn.flat.turn) (tother_tree l.other)));
  checked : BranchesPart (context l.fn.flat) l.ty (tbranch_trees (drop l.i l.branches));
}

abbrev pub invariant-add_for-turns : goal.invariant-add_for-turns
invariant-add_for-turns l = record {
  done : Done l.fn.flat l.flat ((l.turns - l.turn) * (2 + stmts_size (tstmt_trees l.body))) (l.turns * (2 + stmts_size (tstmt_trees l.body)))
      (turns_from l.slot l.by (λ v. do_stmts (turns_of l.fn.flat.graph l.fn.flat.turn ++ record { name = l.slot; value = v } ∷ []) (tstmt_trees l.body))
      (l.turns - l.turn) l.value)
      (turns_from l.slot l.by
      (λ v. do_stmts (turns_of l.fn.flat.graph l.fn.flat.turn ++ record { name = l.slot; value = v } ∷ []) (tstmt_trees l.body)) l.turns l.first);
  each : (x : Slot) → slice_get l.fn.flat.slots l.slot ≡ Some x → AreTurns x.ty (l.turns - l.turn) l.value l.by;
}
