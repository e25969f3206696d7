use Rattle.std.proofs.Common.{arith, rules, subst, ◌≡◌, ◌<◌, ◌↔◌, Err, IfOk, OnOk, OnErr, length}
use Rattle.std.proofs.lemmas.Grind.{common_steps}
use Rattle.std.proofs.lemmas.Int.{to_z-of_z}
use Rattle.vcp_base.specs.Limits.{most_operations}
use Rattle.op_graph.specs.declared.build.Build.TheVariants as build
use Rattle.op_graph.specs.Lists.{Lists}
use Rattle.op_graph.specs.Rules.{IsPart}
use Rattle.op_graph.specs.Building.{with_store, cell_type}
use Rattle.op_graph.proofs.Both.{both_ok, both_err, keeps_rules}
use Rattle.op_graph.proofs.Parts.{with_cell_fits}
use Rattle.op_graph.proofs.graph_builder.GraphBuilder.store.Goals as goal

pub append_both-requires : goal.append_both-requires
append_both-requires c = c.self.invariant.few_operations

pub returns-clause-number : goal.returns-clause-number
returns-clause-number c = subst (λ (g : Lists). IfOk c.append_both.result (λ k. k ≡ length g.operations)) c.self.view_is c.append_both.ensures.number

pub returns-clause-full : goal.returns-clause-full
returns-clause-full c =
    subst (λ (g : Lists). (c.append_both.result ≡ Err build.Full) ↔ (length g.operations ≡ most_operations)) c.self.view_is c.append_both.ensures.full

pub returns-clause-added : goal.returns-clause-added
returns-clause-added c =
    let v : Lists = c.args.self.now in
    let new : Lists =
    record {
      profile = c.self.inside.profile;
      names = c.self.inside.names.items;
      inputs = c.self.inside.inputs.items;
      outputs = c.self.inside.outputs.items;
      loads = c.self.inside.loads.items;
      stores = c.append_both.new.entries.items;
      turn_nodes = c.self.inside.turn_nodes.items;
      operations = c.append_both.new.operations.items;
    } in
    let made : OnOk c.append_both.result (new ≡ with_store v (cell_type v c.args.cell) c.args.value c.args.spot) =
    both_ok _ _ _ c.append_both.result c.append_both.ensures.operation c.append_both.ensures.entry
    (λ operation entry. first_of (search rules, grind (arith, common_steps, to_z-of_z))) in
    made

pub returns-clause-err : goal.returns-clause-err
returns-clause-err c =
    let new : Lists =
    record {
      profile = c.self.inside.profile;
      names = c.self.inside.names.items;
      inputs = c.self.inside.inputs.items;
      outputs = c.self.inside.outputs.items;
      loads = c.self.inside.loads.items;
      stores = c.append_both.new.entries.items;
      turn_nodes = c.self.inside.turn_nodes.items;
      operations = c.append_both.new.operations.items;
    } in
    let same : OnErr c.append_both.result (new ≡ c.args.self.now) =
    both_err _ _ _ c.append_both.result c.append_both.ensures.no_operation c.append_both.ensures.no_entry
    (λ operation entry. first_of (search rules, grind (arith, common_steps))) in
    same

pub invariant_of-self : goal.invariant_of-self
invariant_of-self c =
    let v : Lists = c.args.self.now in
    let part = subst IsPart c.self.view_is c.self.invariant in
    keeps_rules c.append_both.result (length c.self.inside.operations.items) v (with_store v (cell_type v c.args.cell) c.args.value c.args.spot) _ (returns-clause-added c)
    (returns-clause-err c) c.append_both.ensures.full c.self.invariant.few_operations part (λ lt.
    let few : length v.operations < most_operations = subst (λ (x : Lists). length x.operations < most_operations) c.self.view_is lt in
    with_cell_fits v c.args.cell c.args.value c.args.spot part few c.requires.next c.requires.there c.requires.value (omega arith, omega arith))

pub returns-clause-rules : goal.returns-clause-rules
returns-clause-rules c = invariant_of-self c
