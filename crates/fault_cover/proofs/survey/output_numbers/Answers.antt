use Rattle.std.proofs.Common.{refl, arith}
use Rattle.std.proofs.lemmas.Result.{IfOk-from_err}
use Rattle.fault_cover.proofs.Surveying.{all_numbers, no_numbers, one_number}
use Rattle.fault_cover.proofs.survey.output_numbers.Goals as goal

pub outputs-init : goal.outputs-init
outputs-init c = no_numbers c.args.graph.now c.len.result c.in_ok-numbers.numbers.items c.len.ensures.count
    (c.in_ok-numbers.ensures.items_if_clones_equal (λ y e. e))

pub outputs-preserved : goal.outputs-preserved
outputs-preserved c =
    let inside = (c.entries_keep_their_rules.ensures.output c.args.graph.now c.outputs.i c.output.result c.requires.part c.output.ensures).operation in
    one_number c.args.graph.now c.entries_keep_their_rules.ensures c.requires.part c.outputs.numbers.items _ c.outputs.i c.output.result c.output.ensures inside
    c.outputs.invariant refl

pub returns : goal.returns
returns c =
    all_numbers c.args.graph.now c.outputs.numbers.items c.outputs.i c.outputs.invariant (omega (arith, c.outputs-test.false, c.outputs-i-end.ensures))

pub returns-in_err-numbers : goal.returns-in_err-numbers
returns-in_err-numbers c = IfOk-from_err c.from_residual.result _ c.from_residual.ensures.0
