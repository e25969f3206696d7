use Rattle.verdict_tables.proofs.rows.then_row_name.Goals as goal

pub returns-in-Acts : goal.returns-in-Acts
returns-in-Acts g c = rw c.in-Acts.is (rw c.act_name.ensures at c.text.ensures)

pub returns-in-Operations : goal.returns-in-Operations
returns-in-Operations g c = rw c.in-Operations.is c.then_operation.ensures

pub returns-in-Outputs : goal.returns-in-Outputs
returns-in-Outputs g c = rw c.in-Outputs.is (rw c.variable_name.ensures at c.texts.ensures)

pub returns-in-Delays : goal.returns-in-Delays
returns-in-Delays g c = rw c.in-Delays.is c.then_delay.ensures
