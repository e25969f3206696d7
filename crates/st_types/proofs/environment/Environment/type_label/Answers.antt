use Rattle.std.proofs.Common.{refl}
use Rattle.st_tree.specs.StmtViews.{label_tree}
use Rattle.st_types.specs.Full.{so-two}
use Rattle.st_types.proofs.StmtNodes.{label-types}
use Rattle.st_types.proofs.environment.Environment.type_label.Goals as goal

pub returns : goal.returns
returns c =
    so-two c.read_number-low.ensures c.last_end-high.ensures (λ h k.
    label-types _ _ (label_tree c.args.label.now) _ _ _ _ _ _ _ _ _ _ _ h k c.spot_of-spot.ensures refl c.is_label.ensures
    c.label_fault.ensures refl c.label_ends.ensures)
