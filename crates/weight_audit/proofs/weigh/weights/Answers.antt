use Rattle.std.proofs.Common.{rules}
use Rattle.weight_audit.proofs.weigh.weights.Goals as goal

pub returns-in-Ok : goal.returns-in-Ok
returns-in-Ok c = record {
  weights = search rules;
  closed = c.differences_come_as_weights.ensures.closed c.args.table.now c.args.graph.now c.weights_up_to-cells.ensures.graph;
  stale = c.differences_come_as_weights.ensures.stale c.args.table.now c.args.graph.now c.weights_up_to-cells.ensures.graph;
  sums = c.differences_add_up.ensures c.args.table.now c.args.graph.now;
  superposition = c.differences_are_superposed.ensures.sum c.args.table.now c.args.graph.now c.weights_up_to-cells.ensures.graph;
  too_large = search rules;
  not_too_large = search rules;
}

pub returns-in-Err : goal.returns-in-Err
returns-in-Err c = record {
  weights = tt;
  closed = c.differences_come_as_weights.ensures.closed c.args.table.now c.args.graph.now c.weights_up_to-cells.ensures.graph;
  stale = c.differences_come_as_weights.ensures.stale c.args.table.now c.args.graph.now c.weights_up_to-cells.ensures.graph;
  sums = c.differences_add_up.ensures c.args.table.now c.args.graph.now;
  superposition = c.differences_are_superposed.ensures.sum c.args.table.now c.args.graph.now c.weights_up_to-cells.ensures.graph;
  too_large = search rules;
  not_too_large = search rules;
}
