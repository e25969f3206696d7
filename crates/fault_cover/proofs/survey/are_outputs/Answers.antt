use Rattle.std.proofs.Common.{refl, arith}
use Rattle.std.proofs.lemmas.Result.{IfOk-from_err}
use Rattle.fault_cover.proofs.Surveying.{all_outs, no_outs, one_out}
use Rattle.fault_cover.proofs.survey.are_outputs.Goals as goal

pub outputs-init : goal.outputs-init
outputs-init c = no_outs c.args.graph.now c.len.result c.in_ok-wanted.wanted.items c.len.ensures.count (c.in_ok-wanted.ensures.items_if_clones_equal (λ y e. e))

pub outputs-preserved : goal.outputs-preserved
outputs-preserved c =
    let inside = (c.entries_keep_their_rules.ensures.output c.args.graph.now c.outputs.i c.output.result c.requires.part c.output.ensures).operation in
    one_out c.args.graph.now c.outputs.wanted.items _ c.outputs.i c.output.result c.output.ensures inside c.outputs.invariant refl

pub returns-clause-outs : goal.returns-clause-outs
returns-clause-outs c =
    all_outs c.args.graph.now c.outputs.wanted.items c.outputs.i c.outputs.invariant (omega (arith, c.outputs-test.false, c.outputs-i-end.ensures))

pub returns-in_err-wanted-clause-many : goal.returns-in_err-wanted-clause-many
returns-in_err-wanted-clause-many c = IfOk-from_err c.from_residual.result _ c.from_residual.ensures.0

pub returns-in_err-wanted-clause-outs : goal.returns-in_err-wanted-clause-outs
returns-in_err-wanted-clause-outs c = IfOk-from_err c.from_residual.result _ c.from_residual.ensures.0
