use Rattle.std.proofs.Common.{rules, subst, sym, arith}
use Rattle.op_graph.specs.GraphRun.{initial}
use Rattle.signature_table.specs.Signatures.{stamp_before}
use Rattle.coded_machine.specs.Honest.{CellsHold}
use Rattle.coded_machine.proofs.machine.Machine.new.Goals as goal

pub first_words-requires-clause-graph : goal.first_words-requires-clause-graph
first_words-requires-clause-graph c = c.len-operations.ensures.rules

pub invariant_of-result : goal.invariant_of-result
invariant_of-result c = record {
  graph = c.len-operations.ensures.rules;
  table = c.step-step.ensures.ranges;
  table_of = c.requires;
  room = omega (arith, c.len-operations.ensures.count, c.in_ok-with_capacity.ensures.capacity);
  cells = c.in_ok-held.ensures.count;
  few = rw c.in_ok-with_capacity.ensures.items (omega arith);
  progress = tt;
  cycles = omega arith;
  closed = tt;
}

pub returns-clause-cells : goal.returns-clause-cells
returns-clause-cells c =
    let g = c.args.graph.now in
    let t = c.args.table.now in
    subst (λ held. CellsHold g t.seed (stamp_before t.step 0) held (initial g)) (sym c.in_ok-held.ensures.words)
    (c.right_answers_stand_for_values.ensures.cells_at_first g t.seed t.step c.len-operations.ensures.rules)

pub returns-in_err-held : goal.returns-in_err-held
returns-in_err-held c = search rules

pub returns-in_err-with_capacity : goal.returns-in_err-with_capacity
returns-in_err-with_capacity c = search rules
