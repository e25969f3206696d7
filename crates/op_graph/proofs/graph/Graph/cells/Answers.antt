use Rattle.std.proofs.Common.{◌≡◌, arith, subst, length}
use Rattle.std.proofs.lemmas.Grind.{common_steps}
use Rattle.op_graph.specs.Lists.{Lists, cells}
use Rattle.op_graph.proofs.Cells.{length-joined}
use Rattle.op_graph.proofs.graph.Graph.cells.Goals as goal

pub returns-clause-count : goal.returns-clause-count
returns-clause-count c =
    let all : length (cells c.args.self.now) ≡ length c.args.self.now.loads =
    subst (λ (g : Lists). length (cells g) ≡ length g.loads) c.self.view_is
    (length-joined c.self.inside.lists.loads.items c.self.inside.lists.stores.items c.self.invariant.all_stored) in
    grind (arith, common_steps)
