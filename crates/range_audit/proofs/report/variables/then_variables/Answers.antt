use Rattle.vcp_outside.specs.Pens.{unmoved, and_then}
use Rattle.range_audit.proofs.report.variables.then_variables.Goals as goal

pub returns-then-not-all : goal.returns-then-not-all
returns-then-not-all g c = rw c.if-not-all.true unmoved

pub returns : goal.returns
returns g c = rw c.if-not-all.false (and_then c.then_outputs-pen.ensures c.then_cells.ensures)
