use Rattle.std.proofs.Common.{◌≡◌}
use Rattle.signature_table.specs.Signatures.{table_of}
use Rattle.vcp_inputs.specs.Answer.{image}
use Rattle.vcp_inputs.specs.FileTasks.{TakenRows}
use Rattle.vcp_inputs.specs.Kinds.{prints, runs}
use Rattle.vcp_inputs.specs.RowsRead.{graph_columns}
use Rattle.vcp_inputs.specs.Tables.{rows_name}
use Rattle.vcp_core.specs.Tasks.{Audited, listing, rows_job, table_code}
use Rattle.vcp_core.proofs.Meanings.{audited_is, image_comes}
use Rattle.vcp_core.proofs.OneText.{ImageLaws}
use Rattle.vcp_core.proofs.WideImages.{has_wide, wide_run, wide_same}
use Rattle.vcp_core.proofs.laws.written_images_are_taken.Goals as goal

pub returns-clause-taken : goal.returns-clause-taken
returns-clause-taken c g seed step Then name held task has less found comes =
    let images : ImageLaws = record {
      graph = c.images_are_told_apart.ensures.one_graph;
      fault = c.images_are_told_apart.ensures.one_fault;
      none = c.images_are_told_apart.ensures.no_fault;
    } in
    image_comes images g seed step (λ i x. x ≡ Then i.graph i.table) name held task has less found comes

pub returns-clause-audited : goal.returns-clause-audited
returns-clause-audited c g seed step horizon name held task has less found weights comes =
    let images : ImageLaws = record {
      graph = c.images_are_told_apart.ensures.one_graph;
      fault = c.images_are_told_apart.ensures.one_fault;
      none = c.images_are_told_apart.ensures.no_fault;
    } in
    audited_is horizon name (record { graph = g; table = table_of seed step g }) task weights
    (image_comes images g seed step (Audited horizon name) name held task has less found comes)

pub returns-clause-commands : goal.returns-clause-commands
returns-clause-commands c =
    let images : ImageLaws = record {
      graph = c.images_are_told_apart.ensures.one_graph;
      fault = c.images_are_told_apart.ensures.one_fault;
      none = c.images_are_told_apart.ensures.no_fault;
    } in
    record {
      listed = λ held name g code task h comes.
          image_comes images g code.seed code.step (λ i x. x ≡ prints (listing i.graph i.table)) name held task h.has h.few h.found comes;
      executed = λ held name rows g code task h comes.
          image_comes images g code.seed code.step
          (λ i. TakenRows (λ left x. x ≡ runs (rows_job (rows_name rows) (table_code i.table) (image i.graph) left)) rows held (graph_columns i.graph))
          name held task h.has h.few h.found comes;
      widened = has_wide;
      same_run = wide_run;
    }

pub returns-clause-widened : goal.returns-clause-widened
returns-clause-widened c = has_wide

pub returns-clause-run : goal.returns-clause-run
returns-clause-run c = wide_run

pub returns-clause-wide : goal.returns-clause-wide
returns-clause-wide c = wide_same
