use Rattle.std.proofs.Common.{◌-◌, length, drop}
use Rattle.fault_cover.specs.Surveys.{IsRest}
use Rattle.fault_cover.proofs.Resting.{RestsSoFar}
use Rattle.fault_cover.proofs.rests.rests_of.Given as goal

abbrev pub invariant-readings : goal.invariant-readings
invariant-readings l = record {
  rest : IsRest l.graph l.survey (drop (length l.starts - l.done) l.starts) l.rest;
  so_far : RestsSoFar l.graph l.survey l.starts l.rests l.done;
}
