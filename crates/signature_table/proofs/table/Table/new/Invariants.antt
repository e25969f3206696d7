use Rattle.op_graph.specs.Lists.{cells}
use Rattle.signature_table.proofs.Making.{MadeUpTo}
use Rattle.signature_table.proofs.table.Table.new.Given as goal

abbrev pub invariant-operations : goal.invariant-operations
invariant-operations l = MadeUpTo l.graph.profile l.seed l.step (cells l.graph) l.graph.operations l.corrections.items l.k
