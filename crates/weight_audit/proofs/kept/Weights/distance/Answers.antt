use Rattle.std.proofs.Common.{arith}
use Rattle.weight_audit.proofs.kept.Weights.distance.Goals as goal

pub at-requires : goal.at-requires
at-requires c =
    let many = c.of_output.ensures.whole.borders c.args.output c.of_output.result.now c.of_output.ensures.there in omega (arith, many, c.requires.after)

pub returns-clause-weights : goal.returns-clause-weights
returns-clause-weights c =
    c.of_output.ensures.whole.weights c.args.output c.args.after c.of_output.result.now c.at.result.now c.of_output.ensures.there c.at.ensures

pub returns-clause-reached : goal.returns-clause-reached
returns-clause-reached c =
    c.of_output.ensures.whole.reached c.args.output c.args.after c.of_output.result.now c.at.result.now c.of_output.ensures.there c.at.ensures
