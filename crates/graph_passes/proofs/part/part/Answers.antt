use Rattle.std.proofs.Common.{sym, subst, ◌∙◌}
use Rattle.op_graph.specs.Rules.{IsGraph}
use Rattle.graph_passes.specs.Tables.{by_places}
use Rattle.graph_passes.proofs.ByTables.{part_made}
use Rattle.graph_passes.proofs.part.part.Goals as goal

pub from_lists-requires : goal.from_lists-requires
from_lists-requires c =
    let m = by_places c.args.operations.now c.args.cells.now in
    let made = part_made m c.args.graph _ _ _ _ _ c.into_lists-lists.ensures.lists
    c.in_ok-left.ensures.outputs c.in_ok-left.ensures.loads c.in_ok-left.ensures.stores c.in_ok-left.ensures.operations in
    subst IsGraph (sym made) c.requires

pub returns : goal.returns
returns c =
    let m = by_places c.args.operations.now c.args.cells.now in
    c.from_lists.ensures ∙ part_made m c.args.graph _ _ _ _ _ c.into_lists-lists.ensures.lists
    c.in_ok-left.ensures.outputs c.in_ok-left.ensures.loads c.in_ok-left.ensures.stores c.in_ok-left.ensures.operations
