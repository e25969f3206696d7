use Rattle.std.proofs.Common.{◌≡◌, ℕ, ◌<◌, true, slice_get, Some}
use Rattle.range_audit.specs.Searching.{Box, EndsFrom}
use Rattle.range_audit.proofs.families.are_boxes_kept.Given as goal

abbrev pub invariant-boxes : goal.invariant-boxes
invariant-boxes l = l.all ≡ true → (j : ℕ) → j < l.k → (b : Box) → slice_get l.from.list.items j ≡ Some b
    → EndsFrom l.graph l.inputs l.boxes.list.items b.items
