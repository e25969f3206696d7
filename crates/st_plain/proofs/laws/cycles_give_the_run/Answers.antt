use Rattle.std.proofs.Common.{ap}
use Rattle.vcp_typed.specs.SourceRun.{initial, cycle}
use Rattle.st_plain.specs.Evaluator.{or_again}
use Rattle.st_plain.proofs.Runs.{run-is}
use Rattle.st_plain.proofs.laws.cycles_give_the_run.Goals as goal

pub returns : goal.returns
returns c = record {
  run = λ p rows. run-is p rows (initial p.slots);
  again = λ e s row h. ap (λ o. or_again o (cycle e.program e.values row)) h;
}
