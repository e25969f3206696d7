use Rattle.std.proofs.Common.{arith}
use Rattle.fault_cover.proofs.tally.Tally.sum.Goals as goal

pub returns : goal.returns
returns c = λ few.
    let first = c.plus-first.ensures (omega (arith, few)) in
    let second = c.plus-second.ensures (omega (arith, few, first)) in
    let third = c.plus-third.ensures (omega (arith, few, first, second)) in
    let all = c.plus.ensures (omega (arith, few, first, second, third)) in
    omega (arith, first, second, third, all)
