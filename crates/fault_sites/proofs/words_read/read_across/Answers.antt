use Rattle.std.proofs.Common.{◌∙◌, ◌+◌, drop, arith, refl}
use Rattle.op_graph.specs.Lists.{cells}
use Rattle.fault_sites.specs.Readings.{reading_across, readings_across, word}
use Rattle.fault_sites.proofs.Cells.{store_inside}
use Rattle.fault_sites.proofs.Gathering.{adds_cell, last_cell, last_step, next_cell, one_step}
use Rattle.fault_sites.proofs.words_read.read_across.Goals as goal

pub add-requires : goal.add-requires
add-requires c =
    let inside = store_inside c.args.graph.now c.cells.i c.cell-cell.result c.entries_keep_their_rules.ensures c.requires.graph.part c.cell-cell.ensures in
    omega (arith, inside, c.cells.invariant.many, c.requires.count)

pub cells-preserved : goal.cells-preserved
cells-preserved c =
    let held = cells c.args.graph.now in
    let i = c.cells.i in
    let v = c.cells.invariant in
    let inside = store_inside c.args.graph.now i c.cell-cell.result c.entries_keep_their_rules.ensures c.requires.graph.part c.cell-cell.ensures in
    let e =
    adds_cell c.cell-cell.result c.cells.by_word c.add.new.by_word _ (omega (arith, inside, v.many, c.requires.count)) c.in_ok-add.ensures refl in
    record {
      many = e.many ∙ v.many;
      added = λ k lt.
          one_step (reading_across k c.cell-cell.result) (readings_across k (drop (i + 1) held)) (readings_across k (drop i held)) (word c.cells.by_word k)
          (word c.add.new.by_word k) _ (e.each k (omega (arith, lt, v.many))) (next_cell k i c.cell-cell.result held c.cell-cell.ensures) (v.added k lt);
    }

pub returns : goal.returns
returns c =
    let held = cells c.args.graph.now in
    let i = c.cells.i in
    let v = c.cells.invariant in
    record {
      many = v.many;
      each = λ k lt.
          last_step (readings_across k (drop i held)) (word c.cells.by_word k) _
          (last_cell k i held (omega (arith, c.cells-test.false, c.cells-i-end.ensures.count))) (v.added k lt);
    }
