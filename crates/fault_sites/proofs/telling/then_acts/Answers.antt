use Rattle.std.proofs.Common.{◌≡◌, length, arith}
use Rattle.fault_sites.specs.Acts.{acts_in}
use Rattle.fault_sites.specs.Sites.{sited}
use Rattle.fault_sites.proofs.Going.{tells_none, sites_more}
use Rattle.fault_sites.proofs.telling.then_acts.Goals as goal

pub operations-init : goal.operations-init
operations-init g c = tells_none

pub operations-preserved : goal.operations-preserved
operations-preserved g c =
    let acts = c.args.acts.now in
    let graph = c.args.graph.now in
    sites_more (λ k. sited c.args.n k (acts_in (g.A.Acts.rows_of acts) (g.A.Acts.columns_of acts graph) (g.A.Acts.act_of acts graph) graph k))
    c.operations.k c.operations.invariant c.then_operation-told.ensures

pub returns : goal.returns
returns g c =
    let all : c.operations.k ≡ length c.args.graph.now.operations =
    omega (arith, c.operations-test.false, c.operations.auto.k-end, c.len-k-end.ensures.count) in
    rw all at c.operations.invariant
