use Rattle.vcp_inputs.proofs.ListsTold.{are_of_lists, are_told, columns_are}
use Rattle.vcp_inputs.proofs.meaning.laws.lists_are_told.Goals as goal

pub returns-clause-columns : goal.returns-clause-columns
returns-clause-columns c = columns_are

pub returns-clause-told : goal.returns-clause-told
returns-clause-told c = are_told c.accumulator_runs.ensures

pub returns-clause-images : goal.returns-clause-images
returns-clause-images c = are_of_lists c.accumulator_runs.ensures
