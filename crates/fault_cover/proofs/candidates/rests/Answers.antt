use Rattle.std.proofs.Common.{arith}
use Rattle.fault_cover.proofs.Placing.{readings_most}
use Rattle.fault_cover.proofs.RestTelling.{many_kept}
use Rattle.fault_cover.proofs.candidates.rests.Goals as goal

pub overflow_cast-all : goal.overflow_cast-all
overflow_cast-all c =
    let graph = c.args.graph.now in
    let k = c.args.k in
    let many = many_kept graph c.args.survey.now c.requires.mapped k c.readings-all.result.now c.readings-all.ensures in
    let most = readings_most graph k c.len-operations.ensures.rules.part in
    omega (arith, many, most)
