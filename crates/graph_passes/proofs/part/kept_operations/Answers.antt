use Rattle.std.proofs.Common.{[], ap, ◌∙◌, arith}
use Rattle.std.proofs.lemmas.Option.{slice_get-get_or}
use Rattle.graph_passes.specs.Part.{moved, chosen}
use Rattle.graph_passes.specs.Tables.{marked, by_tables}
use Rattle.graph_passes.proofs.ByTables.{kept_pushed}
use Rattle.std.proofs.lemmas.List.{take_all}
use Rattle.graph_passes.proofs.part.kept_operations.Goals as goal

pub operations-preserved : goal.operations-preserved
operations-preserved c =
    kept_pushed (marked c.args.kept.now)
    (moved (by_tables [] c.args.numbers.now [] c.args.cell_numbers.now)) _ _ c.args.operations.now c.operations.i _ _ _
    c.in_ok-push_kept.ensures c.operations.invariant c.marked.ensures c.moved.ensures
    (slice_get-get_or c.args.operations.now c.operations.i _ c.operations-test.true)

pub returns : goal.returns
returns c =
    c.operations.invariant ∙ ap (chosen (marked c.args.kept.now) (moved (by_tables [] c.args.numbers.now [] c.args.cell_numbers.now)) 0) (take_all c.operations.i c.args.operations.now (omega (arith, c.operations-test.false)))
