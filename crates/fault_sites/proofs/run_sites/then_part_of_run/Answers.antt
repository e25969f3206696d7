use Rattle.fault_sites.proofs.run_sites.then_part_of_run.Goals as goal

pub then_run-pen-requires-clause-room : goal.then_run-pen-requires-clause-room
then_run-pen-requires-clause-room g c = c.requires.room

pub then_run-pen-requires-clause-begun : goal.then_run-pen-requires-clause-begun
then_run-pen-requires-clause-begun g c = c.requires.begun

pub then_run-pen-requires-clause-few : goal.then_run-pen-requires-clause-few
then_run-pen-requires-clause-few g c = c.requires.few

pub then_run-pen-requires-clause-width : goal.then_run-pen-requires-clause-width
then_run-pen-requires-clause-width g c = c.requires.width

pub returns : goal.returns
returns g c = c.then_run-pen.ensures.gathers
