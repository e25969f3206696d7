use Rattle.image_file.proofs.Chains.{then, tested}
use Rattle.image_file.proofs.operation.turn_here.Goals as goal

pub returns : goal.returns
returns c =
    then _ c.read_u32-n.ensures
    (tested _ _ _ c.check.ensures.left (rw (c.turn_fits.ensures, c.entry_of.ensures) at c.check.ensures.fault))
