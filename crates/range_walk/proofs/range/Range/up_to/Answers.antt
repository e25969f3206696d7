use Rattle.std.proofs.Common.{w64, rules}
use Rattle.range_walk.proofs.Bits.{low_bits, high_bits}
use Rattle.range_walk.proofs.range.Range.up_to.Goals as goal

pub returns : goal.returns
returns c = λ v i le. record {
  at_least = low_bits w64 c.args.self.low v (search rules) i.at_least;
  at_most = high_bits w64 c.args.m v (search rules) le;
  not_zero = i.not_zero;
}
