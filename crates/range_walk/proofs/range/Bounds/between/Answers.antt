use Rattle.std.proofs.lemmas.Bool.{false≢true}
use mir.Syntax.{w128}
use Rattle.range_walk.proofs.Bits.{low_bits, high_bits}
use Rattle.range_walk.proofs.range.Bounds.between.Goals as goal

pub returns : goal.returns
returns c = λ v least most. record {
  at_least = low_bits w128 c.args.low v c.ranges.low least;
  at_most = high_bits w128 c.args.high v c.ranges.high most;
  not_zero = λ e. absurd (false≢true e);
}
