use Rattle.std.proofs.Common.{refl, []}
use Rattle.telegram.specs.Receipts.{nothing_heard}
use Rattle.telegram.specs.WireRun.{sent_in}
use Rattle.telegram.proofs.Rises.{young_run, young_read}
use Rattle.telegram.proofs.laws.deliveries_are_young.Goals as goal

pub returns : goal.returns
returns c = record {
  run = λ w es. young_run w (sent_in es) 0 [] es;
  read = λ w words es. young_read words w.age (nothing_heard w.listen w.age w.seed w.step) es refl;
}
