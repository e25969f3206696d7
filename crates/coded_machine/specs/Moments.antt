-- Moments: what is seen of the unit and of the sink of the output, before and after a run.
use Rattle.coded_unit.specs.Seen.{UnitSeen}
use Rattle.vcp_outside.specs.Seen.{SinkSeen}

-- what a run works on, at one moment
pub record Moment : Type 0 where
  pub unit : UnitSeen
  pub out : SinkSeen

abbrev pub moment : UnitSeen → SinkSeen → Moment
moment unit out = record { unit = unit; out = out }
