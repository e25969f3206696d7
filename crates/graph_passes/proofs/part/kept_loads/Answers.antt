use Rattle.std.proofs.Common.{[], ap, ◌∙◌, arith}
use Rattle.std.proofs.lemmas.Option.{slice_get-get_or}
use Rattle.graph_passes.specs.Part.{moved_load, chosen}
use Rattle.graph_passes.specs.Tables.{marked, by_tables}
use Rattle.graph_passes.proofs.ByTables.{kept_pushed}
use Rattle.std.proofs.lemmas.List.{take_all}
use Rattle.graph_passes.proofs.part.kept_loads.Goals as goal

pub loads-preserved : goal.loads-preserved
loads-preserved c =
    let m = by_tables [] c.args.numbers.now [] [] in
    kept_pushed (marked c.args.cells.now) (moved_load m) _ _ c.args.loads.now c.loads.i _ _ _ c.in_ok-push_kept.ensures c.loads.invariant c.marked.ensures
    c.renumbered.ensures (slice_get-get_or c.args.loads.now c.loads.i _ c.loads-test.true)

pub returns : goal.returns
returns c =
    c.loads.invariant ∙ ap (chosen (marked c.args.cells.now) (moved_load (by_tables [] c.args.numbers.now [] [])) 0) (take_all c.loads.i c.args.loads.now (omega (arith, c.loads-test.false)))
