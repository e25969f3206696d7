use Rattle.std.proofs.Common.{◌≤◌, ◌∙◌, ap, length, take, take_all, arith}
use Rattle.fault_cover.specs.Leftovers.{count_key}
use Rattle.fault_cover.proofs.Going.{taken_one}
use Rattle.fault_cover.proofs.Leaving.{key_next}
use Rattle.fault_cover.proofs.left.count_of.Goals as goal

pub keys-preserved : goal.keys-preserved
keys-preserved c =
    let keys = c.args.keys.now in
    let so_far = c.keys.invariant.count in
    let few = c.keys.invariant.few in
    let next = key_next (take c.keys.i keys) c.item-found.result c.args.key in
    let taken = ap (λ ks. count_key ks c.args.key) (taken_one keys c.keys.i c.item-found.result c.item-found.ensures) in
    record {
      count = omega (arith, so_far, next, taken, c.one_if-count.ensures.one);
      few = omega (arith, few, c.one_if-count.ensures.few);
    }

pub returns : goal.returns
returns c =
    let past : length c.args.keys.now ≤ c.keys.i = omega (arith, c.keys-test.false) in
    c.keys.invariant.count ∙ ap (λ ks. count_key ks c.args.key) (take_all c.keys.i c.args.keys.now past)
