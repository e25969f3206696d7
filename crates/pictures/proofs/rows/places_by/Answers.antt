use Rattle.std.proofs.Common.{◌≡◌, ◌+◌, ◌<◌, ◌≤◌, ◌∷◌, [], ◌++◌, length, slice_index_or, ◌∙◌, arith, refl, length-append}
use Rattle.std.proofs.lemmas.List.{length-set, length-replicate}
use Rattle.pictures.proofs.ByDepth.{low_few, column_is, stand_none, stand_more}
use Rattle.pictures.proofs.OwnRows.{begun, below_count, filled_more}
use Rattle.pictures.proofs.rows.places_by.Goals as goal

pub operations-init : goal.operations-init
operations-init c = record {
  many = rw c.new-places.ensures.items refl;
  free = rw (c.in_ok-rows.ensures.items_if_clones_equal (λ y e. e)) (length-replicate (c.len-count.result + 1) 0);
  filled = rw (c.in_ok-rows.ensures.items_if_clones_equal (λ y e. e), c.new-places.ensures.items) (begun (c.len-count.result + 1));
  stand = stand_none c.args.graph.now.operations c.new-places.result.items c.new-places.ensures.items;
}

pub wanted_row-wanted-requires-clause-rows : goal.wanted_row-wanted-requires-clause-rows
wanted_row-wanted-requires-clause-rows c = λ k p there.
    let within : p.row ≤ length c.operations.places.items =
    below_count c.operations.free c.operations.places.items c.operations.invariant.filled k p (rw c.as_slice.ensures.value at there) in
    omega (arith, within, c.operations.invariant.many)

pub column_of-column-requires-clause-last : goal.column_of-column-requires-clause-last
column_of-column-requires-clause-last c =
    let few = low_few c.args.depths.now c.requires.low in
    omega (arith, few, c.deepest-last.ensures, c.requires.many, c.len-count.ensures.count)

pub operations-preserved : goal.operations-preserved
operations-preserved c =
    let ops = c.args.graph.now.operations in
    let op = c.operation.result in
    let p = c.take-place.result in
    let places = c.operations.places.items in
    let column : p.column ≡ c.column_of-column.result = c.take-place.ensures.column in
    let inside : p.column < length c.operations.free = omega (arith, column, c.operations.invariant.free, c.column_of-column.ensures.few) in
    let below : slice_index_or c.operations.free p.column 0 ≤ p.row = rw column c.take-place.ensures.below in
    let few : p.row ≤ length places = omega (arith, c.take-place.ensures.few, c.operations.invariant.many) in
    let more : length (places ++ p ∷ []) ≡ length places + 1 = simp length-append refl in
    record {
      many = rw (c.in_ok-push.ensures.items, more) (omega (arith, c.operations.invariant.many));
      free = rw (c.take-place.ensures.filled, length-set) c.operations.invariant.free;
      filled =
          rw (c.take-place.ensures.filled, c.in_ok-push.ensures.items, ← column)
          (filled_more c.operations.free places p c.operations.invariant.filled inside below few);
      stand =
          rw c.in_ok-push.ensures.items
          (stand_more ops places c.operations.i op p c.operations.invariant.many c.operation.ensures
          (λ plain. column
          ∙ column_is ops c.args.depths.now op.kind c.operations.i c.depth_at.result c.deepest-last.result c.column_of-column.result c.requires.value
          c.depth_at.ensures.value c.deepest-last.ensures (c.column_of-column.ensures.drawn plain))
          c.operations.invariant.stand);
    }
