use Rattle.std.proofs.Common.{List, refl, arith}
use Rattle.range_walk.specs.declared.range.Range.{Range}
use Rattle.vcp_base.specs.Limits.{most_source_bytes}
use Rattle.vcp_inputs.specs.Files.{Loads}
use Rattle.vcp_inputs.specs.RowsRead.{graph_columns}
use Rattle.vcp_inputs.specs.declared.refusal.NoInput.TheVariants as input
use Rattle.vcp_study_core.specs.FromFiles.{got, ends_by, input_answer}
use Rattle.vcp_study_core.specs.Parts.{NotTable, TellsRanges}
use Rattle.vcp_study_core.proofs.Facts.{if_some_always}
use Rattle.vcp_study_core.proofs.Carrying.{lost_with, made_of, not_loaded}
use Rattle.vcp_inputs.specs.Refusals.{no_rows}
use Rattle.vcp_study_core.proofs.Tables.{table_refused, taken, unloaded, untaken, untaken_quiet}
use Rattle.vcp_study_core.proofs.ranges.load_table.Goals as goal

pub returns-in-Err : goal.returns-in-Err
returns-in-Err g c end =
    let columns = graph_columns c.args.image.now.graph in
    not_loaded (λ h b n r. Loads (TellsRanges columns) (NotTable columns) h c.args.name.now most_source_bytes b n r) c.args.name.now _ _ input.Memory
    (if_some_always _ _ (λ h. tt)) (λ e. cc) refl (omega arith) (omega arith)

pub returns-in-Err-bytes_under : goal.returns-in-Err-bytes_under
returns-in-Err-bytes_under g c end =
    let columns = graph_columns c.args.image.now.graph in
    lost_with c.in-Err-bytes_under.ensures.fetches
    (λ h lost. unloaded (TellsRanges columns) (NotTable columns) h c.args.name.now most_source_bytes _ _ _ lost)

pub returns-in-Ok-ranges_of_table : goal.returns-in-Ok-ranges_of_table
returns-in-Ok-ranges_of_table g c end =
    let before = g.F.Files.seen c.args.files.now in
    let after = g.F.Files.seen c.bytes_under.new.files in
    let columns = graph_columns c.args.image.now.graph in
    let is = rw (c.bytes.ensures, c.in-Ok.ensures.columns) at c.in-Ok-ranges_of_table.ensures.ranges in
    made_of (got c.in-Ok-ranges_of_table.inputs.items) c.in-Ok-bytes_under.ensures.fetches tt
    (λ h reads. taken (TellsRanges columns) (NotTable columns) h c.args.name.now most_source_bytes before.broken after.broken c.in-Ok-bytes_under.text reads _ is)

pub returns : goal.returns
returns g c end =
    let before = g.F.Files.seen c.args.files.now in
    let after = g.F.Files.seen c.bytes_under.new.files in
    let columns = graph_columns c.args.image.now.graph in
    let f = c.in-Err-ranges_of_table.fault in
    let why = table_refused columns c.in-Ok-bytes_under.text f (rw (c.bytes.ensures, c.in-Ok.ensures.columns) at c.in-Err-ranges_of_table.ensures.refusal) in
    rw (c.bytes-in-Err-ranges_of_table.ensures, c.from.ensures)
    (made_of (ends_by (input_answer c.args.name.now (no_rows f))) c.in-Ok-bytes_under.ensures.fetches
    (untaken_quiet (List Range) (NotTable columns c.in-Ok-bytes_under.text) c.args.name.now (no_rows f) why)
    (λ h reads. untaken (TellsRanges columns) (NotTable columns) h c.args.name.now most_source_bytes before.broken after.broken c.in-Ok-bytes_under.text reads
    (no_rows f) why))
