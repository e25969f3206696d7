use Rattle.std.proofs.Common.{[], map, ap, ◌∙◌}
use Rattle.std.proofs.lemmas.Result.{IfOk-from_err}
use Rattle.graph_passes.specs.Part.{chosen, moved, moved_load, moved_output}
use Rattle.graph_passes.specs.Tables.{marked, number_at, by_tables}
use Rattle.graph_passes.proofs.part.kept_lists.Goals as goal

pub returns-in_err-outputs : goal.returns-in_err-outputs
returns-in_err-outputs c = IfOk-from_err c.from_residual.result _ c.from_residual.ensures.0

pub returns-in_err-loads : goal.returns-in_err-loads
returns-in_err-loads c = IfOk-from_err c.from_residual-in_err-loads.result _ c.from_residual-in_err-loads.ensures.0

pub returns-in_err-stores : goal.returns-in_err-stores
returns-in_err-stores c = IfOk-from_err c.from_residual-in_err-stores.result _ c.from_residual-in_err-stores.ensures.0

pub returns-in_err-operations : goal.returns-in_err-operations
returns-in_err-operations c = IfOk-from_err c.from_residual-in_err-operations.result _ c.from_residual-in_err-operations.ensures.0

pub returns : goal.returns
returns c = record {
  outputs = rw (← c.deref-numbers.ensures.value)
      (c.in_ok-outputs.ensures ∙ ap (map (moved_output (by_tables [] c.deref-numbers.result.now [] []))) c.all_outputs.ensures);
  loads = rw (← c.deref-numbers.ensures.value, ← c.deref-kept_cell.ensures.value)
      (c.in_ok-loads.ensures ∙ ap (chosen (marked c.deref-kept_cell.result.now) (moved_load (by_tables [] c.deref-numbers.result.now [] [])) 0) c.loads.ensures);
  stores = rw (← c.deref-numbers.ensures.value, ← c.deref-kept_cell.ensures.value)
      (c.in_ok-stores.ensures ∙ ap (chosen (marked c.deref-kept_cell.result.now) (number_at c.deref-numbers.result.now) 0) c.stores.ensures);
  operations = rw (← c.deref-numbers.ensures.value, ← c.deref.ensures.value, ← c.deref-2.ensures.value)
      (c.in_ok-operations.ensures
      ∙ ap (chosen (marked c.deref.result.now) (moved (by_tables [] c.deref-numbers.result.now [] c.deref-2.result.now)) 0) c.operations.ensures.list);
}
