use Rattle.fault_sites.proofs.rests.then_within.Goals as goal

pub then_rests-pen-requires-clause-few : goal.then_rests-pen-requires-clause-few
then_rests-pen-requires-clause-few g c = c.requires.few

pub then_rests-pen-requires-clause-readings : goal.then_rests-pen-requires-clause-readings
then_rests-pen-requires-clause-readings g c = c.requires.readings

pub returns : goal.returns
returns g c = c.then_rests-pen.ensures.gathers
