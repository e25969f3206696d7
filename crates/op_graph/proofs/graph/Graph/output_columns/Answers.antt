use Rattle.std.proofs.Common.{◌<◌, ◌∙◌, ap, subst, arith, length, All}
use Rattle.std.proofs.lemmas.Grind.{common_steps}
use Rattle.std.proofs.lemmas.Result.{IfOk-from_err}
use Rattle.op_graph.specs.Lists.{Lists, output_column}
use Rattle.op_graph.proofs.ColumnSteps.{one_more, all_there}
use Rattle.op_graph.specs.Rules.{OutputFits}
use Rattle.op_graph.proofs.Entries.{each_under, under_all}
use Rattle.op_graph.proofs.graph.Graph.output_columns.Goals as goal

pub append_column-requires : goal.append_column-requires
append_column-requires c =
    let outputs = c.self.inside.lists.outputs.items in
    let names = c.self.inside.lists.names.items in
    let under = each_under (OutputFits (length names) (length c.self.inside.lists.operations.items)) (λ v. v.name) (length names) _ outputs
    (λ b x h. h.name) c.self.invariant.part.outputs in
    let there : All (λ v. v.name < length c.args.self.now.names) outputs =
    subst (λ (g : Lists). All (λ v. v.name < length g.names) outputs) c.self.view_is (under_all (λ v. v.name) (length names) outputs under) in
    grind (arith, common_steps)

pub outputs-init : goal.outputs-init
outputs-init c = c.new-columns.ensures

pub returns-in_err-append_column : goal.returns-in_err-append_column
returns-in_err-append_column c = IfOk-from_err c.from_residual.result _ c.from_residual.ensures.0

pub outputs-preserved : goal.outputs-preserved
outputs-preserved c =
    one_more (output_column c.args.self.now.names) c.deref-output-items.result.now c.args.self.now.outputs c.outputs.output-index _ c.outputs.columns c.append_column.new.columns
    (c.deref-output-items.ensures.value ∙ ap (λ (g : Lists). g.outputs) c.self.view_is) c.outputs-test.true c.outputs.invariant c.in_ok-append_column.ensures

pub returns : goal.returns
returns c =
    all_there (output_column c.args.self.now.names) c.deref-output-items.result.now c.args.self.now.outputs c.outputs.output-index c.outputs.columns
    (c.deref-output-items.ensures.value ∙ ap (λ (g : Lists). g.outputs) c.self.view_is) c.outputs-test.false c.outputs.invariant
