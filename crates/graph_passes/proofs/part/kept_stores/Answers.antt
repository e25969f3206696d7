use Rattle.std.proofs.lemmas.Option.{slice_get-get_or}
use Rattle.graph_passes.specs.Tables.{marked, number_at}
use Rattle.graph_passes.proofs.ByTables.{kept_pushed}
use Rattle.std.proofs.Common.{ap, ◌∙◌, arith}
use Rattle.std.proofs.lemmas.List.{take_all}
use Rattle.graph_passes.specs.Part.{chosen}
use Rattle.graph_passes.proofs.part.kept_stores.Goals as goal

pub stores-preserved : goal.stores-preserved
stores-preserved c =
    kept_pushed (marked c.args.cells.now) (number_at c.args.numbers.now) _ _ c.args.stores.now c.stores.i _ _ _ c.in_ok-push_kept.ensures
    c.stores.invariant c.marked.ensures c.number_at.ensures (slice_get-get_or c.args.stores.now c.stores.i _ c.stores-test.true)

pub returns : goal.returns
returns c =
    c.stores.invariant ∙ ap (chosen (marked c.args.cells.now) (number_at c.args.numbers.now) 0) (take_all c.stores.i c.args.stores.now (omega (arith, c.stores-test.false)))
