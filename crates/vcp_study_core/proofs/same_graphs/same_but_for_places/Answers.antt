use Rattle.std.proofs.Common.{◌≡◌, ℕ, rules}
use borrow.Author.Tests.{tests}
use Rattle.op_graph.specs.declared.op.Var.{Var}
use Rattle.op_graph.specs.declared.op.Outlet.{Outlet}
use Rattle.op_graph.specs.declared.op.Loaded.{Loaded}
use Rattle.op_graph.specs.declared.op.TurnNode.{TurnNode}
use Rattle.vcp_study_core.proofs.Comparing.{and_operations, pointwise_alike, same_lists}
use Rattle.vcp_study_core.proofs.same_graphs.same_but_for_places.Goals as goal

pub returns : goal.returns
returns c same =
    let code : c.args.a.now.profile ≡ c.args.b.now.profile = search (tests, rules) in
    let front =
    same_lists c.args.a.now c.args.b.now code
    (rw (c.all_names.ensures, c.all_names-2.ensures) at c.same_names.ensures c.if-not-same_names.false)
    (rw (c.all_inputs.ensures, c.all_inputs-2.ensures)
    at (pointwise_alike {X = Var} _ (λ x y e. search rules) c.all_inputs.result.now c.all_inputs-2.result.now
    c.ne-2.result c.ne-2.ensures c.if-ne-2.false))
    (rw (c.all_outputs.ensures, c.all_outputs-2.ensures)
    at (pointwise_alike {X = Outlet} _ (λ x y e. search rules) c.all_outputs.result.now c.all_outputs-2.result.now
    c.ne-3.result c.ne-3.ensures c.if-ne-3.false))
    (rw (c.loads.ensures, c.loads-2.ensures)
    at (pointwise_alike {X = Loaded} _ (λ x y e. search rules) c.loads.result.now c.loads-2.result.now
    c.ne-4.result c.ne-4.ensures c.if-ne-4.false))
    (rw (c.stores.ensures, c.stores-2.ensures)
    at (pointwise_alike {X = ℕ} _ (λ x y e. search rules) c.stores.result.now c.stores-2.result.now
    c.ne-5.result c.ne-5.ensures c.if-ne-5.false))
    (rw (c.all_turn_nodes.ensures, c.all_turn_nodes-2.ensures)
    at (pointwise_alike {X = TurnNode} _ (λ x y e. search rules) c.all_turn_nodes.result.now c.all_turn_nodes-2.result.now
    c.ne-6.result c.ne-6.ensures c.if-ne-6.false)) in
    and_operations c.args.a.now c.args.b.now front (rw (c.operations.ensures.list, c.operations-2.ensures.list) at c.same_operations.ensures same)
