use Rattle.image_file.proofs.Chains.{then, tested}
use Rattle.image_file.proofs.fields.entries.store_after.Goals as goal

pub returns : goal.returns
returns c = then _ c.read_u32-n.ensures (tested _ _ _ c.check.ensures.left (rw c.is_rising_store.ensures at c.check.ensures.fault))
