use Rattle.std.proofs.Common.{◌∙◌, ◌+◌, refl, drop, arith}
use Rattle.op_graph.specs.Reads.{Reads}
use Rattle.fault_sites.specs.Readings.{readings_by, readings_from, word}
use Rattle.fault_sites.proofs.Gathering.{last_operation, last_step, next_operation, one_step}
use Rattle.fault_sites.proofs.words_read.read_in_cycle.Goals as goal

pub read_all-requires : goal.read_all-requires
read_all-requires c = λ j reads.
    let read : Reads c.args.graph.now.operations c.operations.q _ j =
    record { op = c.operation-op.result; there = c.operation-op.ensures; operand = reads; names = refl } in
    let before = c.operands_are_there.ensures.earlier c.args.graph.now c.operations.q _ j c.requires.graph.part read in
    omega (arith, before, c.operations.invariant.many, c.requires.count, c.operations-test.true, c.len-q-end.ensures.count)

pub operations-preserved : goal.operations-preserved
operations-preserved c =
    let ops = c.args.graph.now.operations in
    let q = c.operations.q in
    let v = c.operations.invariant in
    let e = c.in_ok-read_all.ensures in
    record {
      many = e.many ∙ v.many;
      added = λ k lt.
          one_step (readings_by k q c.operation-op.result) (readings_from k (q + 1) (drop (q + 1) ops)) (readings_from k q (drop q ops))
          (word c.operations.by_word k)
          (word c.read_all.new.by_word k) _ (e.each k (omega (arith, lt, v.many))) (next_operation k q c.operation-op.result ops c.operation-op.ensures)
          (v.added k lt);
    }

pub returns : goal.returns
returns c =
    let ops = c.args.graph.now.operations in
    let q = c.operations.q in
    let v = c.operations.invariant in
    record {
      many = v.many;
      each = λ k lt.
          last_step (readings_from k q (drop q ops)) (word c.operations.by_word k) _
          (last_operation k q ops (omega (arith, c.operations-test.false, c.len-q-end.ensures.count))) (v.added k lt);
    }
