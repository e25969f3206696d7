use Rattle.std.proofs.Common.{◌<◌, ◌∙◌, ap, subst, arith, length, All}
use Rattle.std.proofs.lemmas.Grind.{common_steps}
use Rattle.std.proofs.lemmas.Result.{IfOk-from_err}
use Rattle.op_graph.specs.Lists.{Lists, column}
use Rattle.op_graph.proofs.ColumnSteps.{one_more, all_there}
use Rattle.op_graph.specs.Rules.{InputFits}
use Rattle.op_graph.proofs.Entries.{each_under, under_all}
use Rattle.op_graph.proofs.graph.Graph.columns.Goals as goal

pub append_column-requires : goal.append_column-requires
append_column-requires c =
    let inputs = c.self.inside.lists.inputs.items in
    let names = c.self.inside.lists.names.items in
    let under = each_under (InputFits (length names)) (λ v. v.name) (length names) _ inputs (λ b x h. h.name) c.self.invariant.part.inputs in
    let there : All (λ v. v.name < length c.args.self.now.names) inputs =
    subst (λ (g : Lists). All (λ v. v.name < length g.names) inputs) c.self.view_is (under_all (λ v. v.name) (length names) inputs under) in
    grind (arith, common_steps)

pub inputs-init : goal.inputs-init
inputs-init c = c.new-columns.ensures

pub returns-in_err-append_column : goal.returns-in_err-append_column
returns-in_err-append_column c = IfOk-from_err c.from_residual.result _ c.from_residual.ensures.0

pub inputs-preserved : goal.inputs-preserved
inputs-preserved c =
    one_more (column c.args.self.now.names) c.deref-input-items.result.now c.args.self.now.inputs c.inputs.input-index _ c.inputs.columns c.append_column.new.columns
    (c.deref-input-items.ensures.value ∙ ap (λ (g : Lists). g.inputs) c.self.view_is) c.inputs-test.true c.inputs.invariant c.in_ok-append_column.ensures

pub returns : goal.returns
returns c =
    all_there (column c.args.self.now.names) c.deref-input-items.result.now c.args.self.now.inputs c.inputs.input-index c.inputs.columns
    (c.deref-input-items.ensures.value ∙ ap (λ (g : Lists). g.inputs) c.self.view_is) c.inputs-test.false c.inputs.invariant
