use Rattle.std.proofs.Common.{◌≡◌, arith}
use Rattle.fault_sites.specs.Acts.{acts_in, row_at}
use Rattle.fault_sites.specs.Sites.{sited}
use Rattle.fault_sites.proofs.Going.{acts_more, tells_none, tells_over}
use Rattle.fault_sites.proofs.telling.then_operation.Goals as goal

pub returns-then-told-eq0 : goal.returns-then-told-eq0
returns-then-told-eq0 g c =
    let acts = c.args.acts.now in
    let graph = c.args.graph.now in
    tells_over (sited c.args.n c.args.k (acts_in (g.A.Acts.rows_of acts) (g.A.Acts.columns_of acts graph) (g.A.Acts.act_of acts graph) graph c.args.k))
    c.if-told-eq0.true

pub rows-init : goal.rows-init
rows-init g c = tells_none

pub rows-preserved : goal.rows-preserved
rows-preserved g c =
    let acts = c.args.acts.now in
    let graph = c.args.graph.now in
    acts_more _ _ (row_at (g.A.Acts.act_of acts graph c.args.k c.operation-op.result) (g.A.Acts.columns_of acts graph c.args.k)) c.rows.j c.rows.invariant
    c.then_row-told.ensures

pub returns : goal.returns
returns g c =
    let all : c.rows.j ≡ g.A.Acts.rows_of c.args.acts.now c.operation-op.result =
    omega (arith, c.rows-test.false, c.rows.auto.j-end, c.rows-j-end.ensures) in
    rw c.operation-op.ensures (rw all at c.rows.invariant)
