use Rattle.std.proofs.Common.{[], map, ap, ◌∙◌, arith}
use Rattle.std.proofs.lemmas.List.{take_all}
use Rattle.graph_passes.specs.Part.{moved_output}
use Rattle.graph_passes.specs.Tables.{by_tables}
use Rattle.graph_passes.proofs.part.moved_outputs.Goals as goal

pub returns : goal.returns
returns c =
    c.outputs.invariant
    ∙ ap (map (moved_output (by_tables [] c.args.numbers.now [] []))) (take_all c.outputs.output-index c.args.outputs.now (omega (arith, c.outputs-test.false)))
