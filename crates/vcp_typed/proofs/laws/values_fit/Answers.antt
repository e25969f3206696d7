use Rattle.vcp_typed.proofs.Keeps.{value-fits, stmts-fit, initial-fit, inputs-fit, outputs-fit, rows-fit}
use Rattle.vcp_typed.proofs.laws.values_fit.Goals as goal
use Rattle.std.proofs.Common.{[]}

pub returns : goal.returns
returns c = record {
  value = value-fits;
  body = stmts-fit;
  initial = λ p h. initial-fit [] p.slots h.slots;
  inputs = inputs-fit;
  cycle = λ p row m h r f. stmts-fit p.slots [] p.body [] _ h.body (inputs-fit p.slots row m r f);
  outputs = outputs-fit;
  run = λ p rows h r. rows-fit p rows _ h.body r (initial-fit [] p.slots h.slots);
}
