use Rattle.vcp_outside.proofs.WellFormedText.{well_formed}
use Rattle.vcp_outside.proofs.svg.laws.pictures_are_well_formed.Goals as goal

pub returns : goal.returns
returns c = well_formed
