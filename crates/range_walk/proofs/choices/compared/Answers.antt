use Rattle.std.proofs.Common.{sym, subst}
use Rattle.vcp_base.specs.Values.{at}
use Rattle.range_walk.specs.Intervals.{IsIn}
use Rattle.range_walk.proofs.choices.compared.Goals as goal

pub returns-then-n-op : goal.returns-then-n-op
returns-then-n-op c = λ vs i j v d k.
    subst (λ m. IsIn c.narrowed-o.result.first (at vs m)) (sym c.if-n-op.true)
    (c.narrowed-o.ensures _ _ _ _ v (c.new.ensures _ _ _ i j j) d).first

pub returns-then-n-op-2 : goal.returns-then-n-op-2
returns-then-n-op-2 c = λ vs i j v d k.
    subst (λ m. IsIn c.narrowed-o.result.second (at vs m)) (sym c.if-n-op-2.true)
    (c.narrowed-o.ensures _ _ _ _ v (c.new.ensures _ _ _ i j j) d).second
