use Rattle.image_file.proofs.Chains.{then, tested}
use Rattle.image_file.proofs.operation.operand_here.Goals as goal

pub returns : goal.returns
returns c =
    then _ c.read_u32-n.ensures
    (tested _ _ _ c.check.ensures.left (rw (c.operand_fits.ensures, c.reads_as.ensures) at c.check.ensures.fault))
