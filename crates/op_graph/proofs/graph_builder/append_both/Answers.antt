use Rattle.std.proofs.Common.{◌<◌, ◌≤◌, ℕ, refl, subst, ◌∙◌}
use Rattle.vcp_base.specs.Limits.{most_operations}
use Rattle.op_graph.proofs.Both.{full_is, memory_lacked, added_there, taken_off}
use Rattle.op_graph.proofs.graph_builder.append_both.Goals as goal

pub returns-then-k-ge-MOST_OPERATIONS-clause-full : goal.returns-then-k-ge-MOST_OPERATIONS-clause-full
returns-then-k-ge-MOST_OPERATIONS-clause-full g c =
    full_is _ _ refl (subst (λ (n : ℕ). most_operations ≤ n) (c.len-k.ensures ∙ c.args.operations.now.ok.0) c.if-k-ge-MOST_OPERATIONS.true) c.requires

pub returns-in-Err-clause-number : goal.returns-in-Err-clause-number
returns-in-Err-clause-number g c = tt

pub returns-in-Err-clause-operation : goal.returns-in-Err-clause-operation
returns-in-Err-clause-operation g c = tt

pub returns-in-Err-clause-entry : goal.returns-in-Err-clause-entry
returns-in-Err-clause-entry g c = tt

pub returns-in-Err-clause-full : goal.returns-in-Err-clause-full
returns-in-Err-clause-full g c =
    memory_lacked _ _ refl (subst (λ (n : ℕ). n < most_operations) (c.len-k.ensures ∙ c.args.operations.now.ok.0) c.if-k-ge-MOST_OPERATIONS.false)

pub returns-in-Err-clause-no_operation : goal.returns-in-Err-clause-no_operation
returns-in-Err-clause-no_operation g c = refl

pub returns-in-Err-clause-no_entry : goal.returns-in-Err-clause-no_entry
returns-in-Err-clause-no_entry g c = c.in-Err.ensures.unchanged

pub returns-in-Ok-append-clause-number : goal.returns-in-Ok-append-clause-number
returns-in-Ok-append-clause-number g c = c.len-k.ensures ∙ c.args.operations.now.ok.0

pub returns-in-Ok-append-clause-operation : goal.returns-in-Ok-append-clause-operation
returns-in-Ok-append-clause-operation g c = c.in-Ok-append.ensures.items

pub returns-in-Ok-append-clause-entry : goal.returns-in-Ok-append-clause-entry
returns-in-Ok-append-clause-entry g c = c.in-Ok.ensures.items

pub returns-in-Ok-append-clause-full : goal.returns-in-Ok-append-clause-full
returns-in-Ok-append-clause-full g c =
    added_there _ _ _ refl (subst (λ (n : ℕ). n < most_operations) (c.len-k.ensures ∙ c.args.operations.now.ok.0) c.if-k-ge-MOST_OPERATIONS.false)

pub returns-in-Ok-append-clause-no_operation : goal.returns-in-Ok-append-clause-no_operation
returns-in-Ok-append-clause-no_operation g c = tt

pub returns-in-Ok-append-clause-no_entry : goal.returns-in-Ok-append-clause-no_entry
returns-in-Ok-append-clause-no_entry g c = tt

pub returns-in-Err-append-clause-number : goal.returns-in-Err-append-clause-number
returns-in-Err-append-clause-number g c = tt

pub returns-in-Err-append-clause-operation : goal.returns-in-Err-append-clause-operation
returns-in-Err-append-clause-operation g c = tt

pub returns-in-Err-append-clause-entry : goal.returns-in-Err-append-clause-entry
returns-in-Err-append-clause-entry g c = tt

pub returns-in-Err-append-clause-full : goal.returns-in-Err-append-clause-full
returns-in-Err-append-clause-full g c =
    memory_lacked _ _ refl (subst (λ (n : ℕ). n < most_operations) (c.len-k.ensures ∙ c.args.operations.now.ok.0) c.if-k-ge-MOST_OPERATIONS.false)

pub returns-in-Err-append-clause-no_operation : goal.returns-in-Err-append-clause-no_operation
returns-in-Err-append-clause-no_operation g c = c.in-Err-append.ensures.unchanged

pub returns-in-Err-append-clause-no_entry : goal.returns-in-Err-append-clause-no_entry
returns-in-Err-append-clause-no_entry g c =
    taken_off _ _ _ _ _ c.pop.ensures.rest c.append.new.items.ok.0 c.in-Ok.ensures.items
