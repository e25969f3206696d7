use Rattle.std.proofs.Common.{length, ap, arith}
use Rattle.fault_sites.proofs.graph_values.Values.new.Goals as goal

pub returns-clause-cells : goal.returns-clause-cells
returns-clause-cells c = omega (arith, c.in_ok-with_capacity.ensures.capacity, ap length c.stores.ensures)

pub returns-clause-operations : goal.returns-clause-operations
returns-clause-operations c = omega (arith, c.in_ok-with_capacity-2.ensures.capacity, c.len.ensures.count)

pub returns-clause-none : goal.returns-clause-none
returns-clause-none c = c.in_ok-with_capacity-2.ensures.items
