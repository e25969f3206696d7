use Rattle.std.proofs.Common.{[]}
use Rattle.telegram.specs.Receipts.{nothing_heard}
use Rattle.telegram.specs.WireRun.{sent_in}
use Rattle.telegram.proofs.Rises.{rising_run, rising_read}
use Rattle.telegram.proofs.laws.deliveries_rise.Goals as goal

pub returns : goal.returns
returns c = record {
  run = λ w es. (rising_run w (sent_in es) 0 [] es).1;
  read = λ w words es. (rising_read words (nothing_heard w.listen w.age w.seed w.step) es).1;
}
