use Rattle.std.proofs.Common.{◌≡◌, ◌++◌, drop, length, map}
use Rattle.coded_unit.specs.Words.{coded}
use Rattle.op_graph.specs.declared.op.Cell.{Cell}
use Rattle.op_graph.specs.Lists.{cells}
use Rattle.signature_table.specs.Signatures.{signature}
use Rattle.coded_machine.specs.CycleEnds.{initial_words}
use Rattle.coded_machine.proofs.releasing.first_words.Given as goal

abbrev pub invariant-cells : goal.invariant-cells
invariant-cells l = record {
  count : length l.held.items ≡ l.i;
  words : initial_words l.graph l.table.seed
      ≡ l.held.items ++ map (λ (c : Cell). coded l.graph.profile c.init (signature l.graph.profile l.table.seed c.store)) (drop l.i (cells l.graph));
}
