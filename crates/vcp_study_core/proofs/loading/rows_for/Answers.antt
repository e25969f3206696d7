use Rattle.std.proofs.Common.{Ok, Err, ap, refl, arith}
use Rattle.vcp_inputs.specs.Forms.{rows_of}
use Rattle.vcp_inputs.specs.Tables.{rows_name}
use Rattle.vcp_inputs.specs.RowsOutcome.{rows_outcome}
use Rattle.vcp_inputs.specs.RowsRead.{graph_columns}
use Rattle.vcp_inputs.specs.declared.refusal.NoInput.TheVariants as input
use Rattle.vcp_study_core.specs.Parts.{ReadsRows}
use Rattle.vcp_study_core.proofs.Facts.{if_some_always, if_some_weaker}
use Rattle.vcp_study_core.proofs.Carrying.{loaded, not_loaded}
use Rattle.vcp_study_core.proofs.Rows.{as_wide, none_unread, not_opened, of_source}
use Rattle.vcp_study_core.proofs.loading.rows_for.Goals as goal

pub returns-in-Err-clause-fetches : goal.returns-in-Err-clause-fetches
returns-in-Err-clause-fetches g c end =
    not_loaded (λ h b n r. ReadsRows (rows_outcome (rows_of c.args.rows) h (graph_columns c.args.image.now.graph)) b n r) (rows_name (rows_of c.args.rows)) _ _
    input.Memory (if_some_always _ _ (λ h. tt)) (λ e. cc) refl (omega arith) (omega arith)

pub returns-in-Err-load_rows-clause-fetches : goal.returns-in-Err-load_rows-clause-fetches
returns-in-Err-load_rows-clause-fetches g c end =
    let e = c.in-Err-load_rows.ensures in
    let reads = if_some_weaker (g.F.Files.seen c.args.files.now).held _ _ (λ h opens. not_opened _ _ _ c.in-Err-load_rows.input opens) e.loads in
    rw c.rows_name.ensures
    (not_loaded (λ h b n r. ReadsRows (rows_outcome (rows_of c.args.rows) h (graph_columns c.args.image.now.graph)) b n r) (rows_name (rows_of c.args.rows)) _ _
    c.in-Err-load_rows.input (rw c.in-Ok.ensures.columns at reads) (λ is. e.unread (ap Err is)) e.held e.later e.broken_later)

pub returns-in-Ok-whole_rows-clause-fetches : goal.returns-in-Ok-whole_rows-clause-fetches
returns-in-Ok-whole_rows-clause-fetches g c end =
    let e = c.in-Ok-load_rows.ensures in
    let list = c.in-Ok-whole_rows.list in
    let reads = if_some_weaker (g.F.Files.seen c.args.files.now).held _ _
    (λ h same. of_source _ _ (g.F.Files.seen c.args.files.now).broken (g.F.Files.seen c.load_rows.new.files).broken (Ok list) same c.in-Ok-whole_rows.ensures.rows tt) e.loads in
    loaded (λ h b n r. ReadsRows (rows_outcome (rows_of c.args.rows) h (graph_columns c.args.image.now.graph)) b n r) (rows_name (rows_of c.args.rows)) _ _ _
    (rw c.in-Ok.ensures.columns at reads) (e.ended end) c.load_rows.ensures.held c.load_rows.ensures.later c.load_rows.ensures.broken_later

pub returns-clause-fetches : goal.returns-clause-fetches
returns-clause-fetches g c end =
    let e = c.in-Ok-load_rows.ensures in
    let i = c.in-Err-whole_rows.input in
    let none = c.in-Err-whole_rows.ensures.fault in
    let reads = if_some_weaker (g.F.Files.seen c.args.files.now).held _ _
    (λ h same. of_source _ _ (g.F.Files.seen c.args.files.now).broken (g.F.Files.seen c.load_rows.new.files).broken (Err i) same tt none) e.loads in
    rw c.rows_name-in-Err-whole_rows.ensures
    (not_loaded (λ h b n r. ReadsRows (rows_outcome (rows_of c.args.rows) h (graph_columns c.args.image.now.graph)) b n r) (rows_name (rows_of c.args.rows)) _ _
    i (rw c.in-Ok.ensures.columns at reads) (λ is. absurd (none_unread _ i none is)) c.load_rows.ensures.held c.load_rows.ensures.later
    c.load_rows.ensures.broken_later)

pub returns-in-Ok-whole_rows-clause-width : goal.returns-in-Ok-whole_rows-clause-width
returns-in-Ok-whole_rows-clause-width g c =
    as_wide c.args.image.now.graph c.in-Ok.columns c.in-Ok-whole_rows.list c.in-Ok-whole_rows.ensures.width c.in-Ok.ensures.columns
