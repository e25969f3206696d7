use Rattle.fault_sites.proofs.Parts.{parts_are_whole}
use Rattle.fault_sites.proofs.laws.parts_are_the_whole.Goals as goal

pub returns : goal.returns
returns c = parts_are_whole
