use Rattle.std.proofs.Common.{◌≤◌, length, subst, take, take_all, arith}
use Rattle.fault_cover.specs.Leftovers.{IsLeast}
use Rattle.fault_cover.proofs.Going.{taken_one}
use Rattle.fault_cover.proofs.left.least_from.Goals as goal

pub keys-preserved : goal.keys-preserved
keys-preserved c =
    let keys = c.args.keys.now in
    subst (λ ks. IsLeast ks c.args.from c.args.most c.lesser-best.result) (taken_one keys c.keys.i c.item-key.result c.item-key.ensures)
    (c.lesser-best.ensures (take c.keys.i keys) c.keys.invariant)

pub returns : goal.returns
returns c =
    let past : length c.args.keys.now ≤ c.keys.i = omega (arith, c.keys-test.false) in
    subst (λ ks. IsLeast ks c.args.from c.args.most c.keys.best) (take_all c.keys.i c.args.keys.now past) c.keys.invariant
