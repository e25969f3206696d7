use Rattle.std.proofs.Common.{refl}
use Rattle.image_file.specs.Image.{head_piece, counts_piece, entry_counts, later_counts}
use Rattle.image_file.proofs.Chains.{and_then, then, stays}
use Rattle.image_file.proofs.head.head_here.Goals as goal

pub returns-clause-is : goal.returns-clause-is
unfolding head_piece counts_piece entry_counts later_counts
returns-clause-is c =
    and_then (c.magic_here.ensures counts_piece.read)
    (then _ c.version_here-profile.ensures
    (then _ c.step_here-step.ensures.is
    (then _ c.below-seed.ensures
    (then _ c.at_most-names.ensures.is
    (then _ c.at_most-inputs.ensures.is
    (then _ c.at_most-outputs.ensures.is
    (then _ c.at_most-cells.ensures.is
    (then _ c.at_most-turn_nodes.ensures.is
    (then _ c.between-operations.ensures.is (stays refl))))))))))
