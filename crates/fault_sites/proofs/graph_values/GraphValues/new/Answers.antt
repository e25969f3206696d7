use Rattle.std.proofs.Common.{length, pos, refl, ap, ◌∙◌, arith}
use Rattle.std.proofs.lemmas.List.{length-replicate}
use Rattle.fault_sites.proofs.graph_values.GraphValues.new.Goals as goal

pub begin-requires : goal.begin-requires
begin-requires c = omega (arith, c.in_ok-values.ensures.cells, c.cells-cells.ensures.loads, c.cells-cells.ensures.stores)

pub returns-clause-room : goal.returns-clause-room
returns-clause-room c = record {
  cells = omega (arith, c.in_ok-values.ensures.cells, c.begin.ensures.capacity);
  operations = c.in_ok-values.ensures.operations;
  past_cells = c.in_ok-past.ensures.cells;
  past_operations = c.in_ok-past.ensures.operations;
  row = ap length c.in_ok-row.ensures ∙ length-replicate c.inputs.result (pos 0) ∙ c.inputs.ensures;
}

pub returns-clause-begun : goal.returns-clause-begun
returns-clause-begun c = rw (c.begin.ensures.cells, c.in_ok-values.ensures.none) refl
