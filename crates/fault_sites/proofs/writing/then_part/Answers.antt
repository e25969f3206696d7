use Rattle.fault_sites.proofs.writing.then_part.Goals as goal

pub returns : goal.returns
returns g c = c.then_sites-pen.ensures.gathers
