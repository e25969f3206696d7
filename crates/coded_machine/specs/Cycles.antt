-- Cycles: how one cycle of a run ended.
use Rattle.std.specs.Prelude.{Result, Ok, Err}
use Rattle.vcp_outside.specs.declared.failed.Failed.{Failed}
use Rattle.coded_machine.specs.declared.cycle_end.CycleEnd.{CycleEnd}
use Rattle.coded_machine.specs.declared.cycle_end.CycleEnd.TheVariants as end

-- the cycle's end; where its outputs couldn't be written, they were released
abbrev pub cycle_end : Result CycleEnd Failed → CycleEnd
cycle_end (Ok e) = e
cycle_end (Err _) = end.Released
