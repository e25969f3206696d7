use Rattle.std.proofs.Common.{ap}
use Rattle.vcp_inputs.specs.RowsOutcome.{rows_or_refusal}
use Rattle.vcp_core.proofs.Facts.{no_error}
use Rattle.vcp_core.proofs.opening.open.Goals as goal

pub returns-in-Ok : goal.returns-in-Ok
returns-in-Ok c = record {
  opens = λ before now. ap rows_or_refusal c.in-Ok.ensures.rows;
  read = no_error;
  caused = tt;
  types = c.in-Ok.ensures.types;
  typed = c.in-Ok.ensures.typed;
  few = c.in-Ok.ensures.few;
  behind = c.in-Ok.ensures.behind;
  fresh = c.in-Ok.ensures.fresh;
}
