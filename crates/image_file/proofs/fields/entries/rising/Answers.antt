use Rattle.image_file.proofs.Chains.{then, tested}
use Rattle.image_file.proofs.fields.entries.rising.Goals as goal

pub returns : goal.returns
returns c = then _ c.read_u32-n.ensures (tested _ _ _ c.check.ensures.left (rw c.is_rising.ensures at c.check.ensures.fault))
