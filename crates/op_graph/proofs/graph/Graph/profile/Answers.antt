use Rattle.std.proofs.Common.{subst}
use Rattle.op_graph.specs.Rules.{HasTypes}
use Rattle.op_graph.proofs.graph.Graph.profile.Goals as goal

pub returns-clause-types : goal.returns-clause-types
returns-clause-types c = subst HasTypes c.self.view_is c.self.invariant.part.types
