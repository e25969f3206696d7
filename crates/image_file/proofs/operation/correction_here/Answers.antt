use Rattle.std.proofs.Common.{refl}
use Rattle.image_file.specs.Image.{corrected}
use Rattle.image_file.proofs.Chains.{then, tested, stays}
use Rattle.image_file.proofs.operation.correction_here.Goals as goal

pub returns : goal.returns
unfolding corrected
returns c =
    then _ (then _ c.read_residue-stored.ensures (tested _ _ _ c.check.ensures.left (rw c.expected-expected.ensures at c.check.ensures.fault)))
    (stays refl)
