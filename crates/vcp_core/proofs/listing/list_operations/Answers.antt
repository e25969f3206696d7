use Rattle.std.proofs.Common.{◌<◌, length, subst, ℕ}
use Rattle.std.proofs.lemmas.Result.{err_from_is_err_and}
use Rattle.vcp_core.proofs.Listed.{goes-on, fails}
use Rattle.vcp_core.proofs.listing.list_operations.Goals as goal

pub returns-in_err-list_line : goal.returns-in_err-list_line
returns-in_err-list_line g c =
    let q = err_from_is_err_and c.from_residual.result c.from_residual.ensures.1 in
    let below : c.operations.i < length c.args.graph.now.operations = subst (λ (n : ℕ). c.operations.i < n) c.len-i-end.ensures.count c.operations-test.true in
    rw q.1 (fails c.args.graph.now c.args.table.now c.operations.i _ _ _ _ _ _ below c.operations.invariant c.in_err-list_line.field-0.0 q.0
    c.in_err-list_line.ensures)

pub operations-preserved : goal.operations-preserved
operations-preserved g c =
    let below : c.operations.i < length c.args.graph.now.operations = subst (λ (n : ℕ). c.operations.i < n) c.len-i-end.ensures.count c.operations-test.true in
    goes-on c.args.graph.now c.args.table.now c.operations.i _ _ _ _ _ _ below c.operations.invariant c.in_ok-list_line.ensures
