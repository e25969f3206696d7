use Rattle.std.proofs.Common.{◌≡◌, arith}
use Rattle.fault_sites.proofs.Going.{acts_more, tells_none}
use Rattle.fault_sites.proofs.telling.then_row.Goals as goal

pub columns-init : goal.columns-init
columns-init g c = tells_none

pub columns-preserved : goal.columns-preserved
columns-preserved g c =
    acts_more _ _ (g.A.Acts.act_of c.args.acts.now c.args.graph.now c.args.k c.args.op.now c.args.j) c.columns.i c.columns.invariant
    (rw (← c.act-act.ensures) at c.then_act-told.ensures)

pub returns : goal.returns
returns g c =
    let all : c.columns.i ≡ g.A.Acts.columns_of c.args.acts.now c.args.graph.now c.args.k =
    omega (arith, c.columns-test.false, c.columns.auto.i-end, c.columns-i-end.ensures) in
    rw all at c.columns.invariant
