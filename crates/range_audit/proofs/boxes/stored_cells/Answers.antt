use Rattle.std.proofs.Common.{length, arith}
use Rattle.range_audit.proofs.Boxed.{StoredAt, stored_hold}
use Rattle.range_audit.proofs.Steps.{AllAt, none_at, one_more}
use Rattle.range_audit.proofs.boxes.stored_cells.Goals as goal

pub cells-init : goal.cells-init
cells-init c = none_at _ _ c.new-cells.ensures.items

pub cells-preserved : goal.cells-preserved
cells-preserved c =
    one_more _ _ _ c.stored_range-range.result c.cells.k c.cells.invariant c.stored_range-range.ensures c.in_ok-push.ensures.items

pub returns-clause-many : goal.returns-clause-many
returns-clause-many c = omega (arith, c.cells.invariant.many, c.cell_count-count.ensures, c.cells-test.false, c.cells.auto.k-end)

pub returns-clause-holds : goal.returns-clause-holds
returns-clause-holds c = λ vs whole fit.
    let g = c.args.graph.now in
    let all : AllAt (StoredAt g.stores c.args.ranges.now) c.cells.cells.items (length g.stores) = record {
      many = omega (arith, c.cells.invariant.many, c.cell_count-count.ensures, c.cells-test.false, c.cells.auto.k-end);
      each = c.cells.invariant.each;
    } in
    stored_hold g c.cells.cells.items c.args.ranges.now c.entries_keep_their_rules.ensures c.len-operations.ensures.rules all vs whole fit
