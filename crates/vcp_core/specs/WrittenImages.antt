-- WrittenImages: the image that `compile` or `widen` wrote, where it is read by another command.
use Rattle.std.specs.Prelude.{ℕ, ℤ, ◌≡◌, ◌≤◌, List, length, Some}
use Rattle.vcp_base.specs.Limits.{most_image_bytes}
use Rattle.vcp_outside.specs.Held.{Held}
use Rattle.op_graph.specs.GraphRun.{graph_run}
use Rattle.op_graph.specs.Lists.{Lists}
use Rattle.signature_table.specs.Signatures.{table_of}
use Rattle.image_file.specs.Graphs.{HasImage}
use Rattle.vcp_inputs.specs.Forms.{Code, Rows, exec, list}
use Rattle.vcp_inputs.specs.Tables.{rows_name}
use Rattle.vcp_inputs.specs.RowsRead.{graph_columns}
use Rattle.vcp_inputs.specs.Answer.{image}
use Rattle.vcp_inputs.specs.FileTasks.{TakenRows}
use Rattle.vcp_inputs.specs.GraphsOf.{image_answer}
use Rattle.vcp_inputs.specs.Kinds.{Task, prints, runs}
use Rattle.vcp_core.specs.Tasks.{TaskOf, listing, rows_job, widened as wide_graph}

-- The file under a name holds what was written as the image of this graph with the numbers of a code, which is no longer than an image may be.
pub record HoldsImage (held : Held) (name : List ℕ) (g : Lists) (code : Code) : Type 0 where
  pub has : HasImage g code.seed code.step
  pub few : length (image_answer code g).out ≤ most_image_bytes
  pub found : held name ≡ Some (image_answer code g).out

-- An image that was written is never refused as none where it is read again: `list` prints the operations of its graph, and `exec` runs that graph
-- as words of its code, unless its rows are refused. The graph that `widen` writes in the wide code has an image too, and the same run.
pub record WrittenImagesAreTaken : Type 0 where
  pub listed : (held : Held) (name : List ℕ) (g : Lists) (code : Code) (task : Task) → HoldsImage held name g code → TaskOf (list name) held task →
      task ≡ prints (listing g (table_of code.seed code.step g))
  pub executed : (held : Held) (name : List ℕ) (rows : Rows) (g : Lists) (code : Code) (task : Task) → HoldsImage held name g code →
      TaskOf (exec name rows) held task → TakenRows (λ left x. x ≡ runs (rows_job (rows_name rows) code (image g) left)) rows held (graph_columns g) task
  pub widened : (g : Lists) (seed step : ℕ) → HasImage g seed step → HasImage (wide_graph g) seed step
  pub same_run : (g : Lists) (rows : List (List ℤ)) → graph_run (wide_graph g) rows ≡ graph_run g rows
