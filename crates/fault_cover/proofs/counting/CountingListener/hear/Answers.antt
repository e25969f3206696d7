use Rattle.std.proofs.Common.{[], ◌∷◌, length-append, refl, arith}
use Rattle.fault_cover.specs.CoverText.{heard_as}
use Rattle.fault_cover.proofs.Tallying.{tally_next}
use Rattle.fault_cover.proofs.counting.CountingListener.hear.Goals as goal

pub returns : goal.returns
returns c start past is few =
    let h = heard_as c.args._k c.args._disturbance.now c.args.told.now in
    let long = length-append past (h ∷ []) in
    let was = is (omega (arith, few, long)) in
    record {
      tally_is = tally_next c.args.self.tally _ past h c.count.ensures (omega (arith, few, long)) was.tally_is;
      delays_are = c.count_delay.ensures past h refl (omega (arith, few, long)) was.delays_are;
    }
