use Rattle.std.proofs.Common.{sym, ap, ◌∙◌, ◌++◌, ◌∷◌, ◌+◌, ◌<◌, arith, take, drop, map, length}
use Rattle.std.proofs.Math.ListN.{length-set}
use Rattle.coded_machine.specs.Calls.{word_at}
use Rattle.coded_machine.proofs.Places.{map_at, front_set, store_at}
use Rattle.coded_machine.proofs.releasing.store_words.Goals as goal

pub cells-preserved : goal.cells-preserved
cells-preserved c =
    let g = c.args.graph.now in
    let i = c.cells.i in
    let answers = c.args.answers.now in
    let later = map (λ n. word_at answers n) (drop (i + 1) g.stores) in
    let there = store_at g.loads g.stores i c.cell.result c.cell.ensures in
    let inside : i < length c.cells.held = omega (arith, c.cells.invariant.count) in
    record {
      count = length-set c.cells.held i c.word_at.result ∙ c.cells.invariant.count;
      words = c.cells.invariant.words
          ∙ ap (λ r. take i c.cells.held ++ r) (map_at (λ n. word_at answers n) g.stores i _ there)
          ∙ ap (λ w. take i c.cells.held ++ w ∷ later) (sym c.word_at.ensures)
          ∙ front_set c.cells.held i c.word_at.result later inside;
    }
