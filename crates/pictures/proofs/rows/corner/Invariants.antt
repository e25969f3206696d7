use Rattle.std.proofs.Common.{◌≡◌, ℕ, ◌<◌, false, Some, slice_get}
use Rattle.op_graph.specs.declared.op.Op.{Op}
use Rattle.pictures.specs.declared.layout.BoxPlace.{BoxPlace}
use Rattle.pictures.specs.Arrangement.{IsWithin}
use Rattle.pictures.specs.Constants.{is_constant}
use Rattle.pictures.proofs.rows.corner.Given as goal

abbrev pub invariant-places : goal.invariant-places
invariant-places l = (k : ℕ) (op : Op) (p : BoxPlace) → k < l.i → slice_get l.graph.operations k ≡ Some op → is_constant op.kind ≡ false
    → slice_get l.places k ≡ Some p → IsWithin l.corner p
