use Rattle.std.proofs.Common.{◌<◌, sym, ap, subst, ◌∙◌, ◌++◌, ◌∷◌, [], ◌+◌, arith, drop, map, length, append_assoc}
use Rattle.std.proofs.Math.Nat.{le_antisymm}
use Rattle.std.proofs.lemmas.List.{length_push}
use Rattle.std.proofs.lemmas.Result.{IfOk-from_err}
use Rattle.coded_unit.specs.Words.{coded}
use Rattle.op_graph.specs.declared.op.Cell.{Cell}
use Rattle.op_graph.specs.Lists.{cells}
use Rattle.signature_table.specs.Signatures.{signature}
use Rattle.coded_machine.specs.CycleEnds.{initial_words}
use Rattle.coded_machine.proofs.Places.{map_at, map_done, store_at, length-corrections}
use Rattle.coded_machine.proofs.releasing.first_words.Goals as goal

pub first_word-requires-clause-operation : goal.first_word-requires-clause-operation
first_word-requires-clause-operation c =
    let g = c.args.graph.now in
    let t = c.args.table.now in
    let there = store_at g.loads g.stores c.cells.i c.cell.result c.cell.ensures in
    omega (
      arith,
      (c.entries_keep_their_rules.ensures.store g c.cells.i _ c.requires.graph.part there).store,
      ap length c.requires.table.1,
      length-corrections g.profile t.seed t.step (cells g) 0 g.operations,
    )

pub cells-preserved : goal.cells-preserved
cells-preserved c =
    let g = c.args.graph.now in
    let i = c.cells.i in
    let word = λ (d : Cell). coded c.args.graph.now.profile d.init (signature c.args.graph.now.profile c.args.table.now.seed d.store) in
    let later = map word (drop (i + 1) (cells g)) in
    record {
      count = ap length c.in_ok-push.ensures.items ∙ length_push c.cells.held.items c.first_word.result ∙ ap (λ n. n + 1) c.cells.invariant.count;
      words = c.cells.invariant.words
          ∙ ap (λ r. c.cells.held.items ++ r) (map_at word (cells g) i c.cell.result c.cell.ensures)
          ∙ ap (λ w. c.cells.held.items ++ w ∷ later) (sym c.first_word.ensures)
          ∙ sym (append_assoc c.cells.held.items (c.first_word.result ∷ []) later)
          ∙ ap (λ xs. xs ++ later) (sym c.in_ok-push.ensures.items);
    }

pub returns-in_err-push : goal.returns-in_err-push
returns-in_err-push c = record { words = IfOk-from_err c.from_residual.result _ c.from_residual.ensures.0; count = IfOk-from_err c.from_residual.result _ c.from_residual.ensures.0 }

pub cells-init : goal.cells-init
cells-init c = record {
  count = ap length c.new-held.ensures.items;
  words = ap (λ front. front ++ initial_words c.args.graph.now c.args.table.now.seed) (sym c.new-held.ensures.items);
}

pub cell-requires : goal.cell-requires
cell-requires c = subst (λ n. c.cells.i < n) c.cells-i-end.ensures.count c.cells-test.true

pub returns-clause-words : goal.returns-clause-words
returns-clause-words c = map_done _ (cells c.args.graph.now) c.cells.i _ c.cells.invariant.words c.cells-i-end.ensures.count c.cells-test.false

pub returns-clause-count : goal.returns-clause-count
returns-clause-count c = c.cells.invariant.count ∙ le_antisymm c.cells.auto.i-end c.cells-test.false ∙ c.cells-i-end.ensures.stores
