use Rattle.std.proofs.Common.{◌<◌, ◌%◌, pos, ◌*ℤ◌, ap, ◌∙◌, arith}
use Rattle.std.proofs.Math.Nat.{mod-lt}
use Rattle.coded_unit.specs.Words.{modulo}
use Rattle.fault_cover.proofs.Dividing.{divided_once, divided_more}
use Rattle.fault_cover.proofs.inverse.+divided.Goals as goal

pub divided-requires : goal.divided-requires
divided-requires t c =
    let p = c.args.profile in
    let first = c.args.first in
    let second = c.args.second in
    let laws = c.words_split_in_one_way.ensures p in
    let below : first.divisor % second.divisor < second.divisor = mod-lt first.divisor (omega (arith, c.if-second-eq0.false)) in
    let comes = ap (λ f. modulo p (pos c.args.z *ℤ pos f)) c.less-factor.ensures.value
    ∙ divided_once p laws c.args.z first.divisor second.divisor first.factor second.factor c.requires.first c.requires.second in (
      omega (arith, below, c.decreases),
      (
        c.requires.second,
        (
          comes,
          (
            c.requires.second_factor,
            (
              c.less-factor.ensures.below,
              (omega (arith, c.requires.second_most), omega (arith, below, c.requires.second_most)),
            ),
          ),
        ),
      ),
    )

pub returns-clause-bezout : goal.returns-clause-bezout
returns-clause-bezout t c =
    divided_more c.args.profile (c.words_split_in_one_way.ensures c.args.profile) c.args.z c.args.first.divisor c.args.second.divisor
    c.divided.result.divisor c.divided.result.factor c.divided.ensures.bezout
