-- PairMoments: what is seen of the units of a pair's channels and of the sink of the output, before and after a run.
use Rattle.coded_unit.specs.Seen.{UnitSeen}
use Rattle.vcp_outside.specs.Seen.{SinkSeen}

-- what a pair's run works on, at one moment
pub record PairMoment : Type 0 where
  pub first : UnitSeen
  pub second : UnitSeen
  pub out : SinkSeen

abbrev pub pair_moment : UnitSeen → UnitSeen → SinkSeen → PairMoment
pair_moment first second out = record { first = first; second = second; out = out }
