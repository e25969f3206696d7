-- Tasks: the task of each command, where the files hold this, by one shape of a file that is accepted or rejected; a line a command.
use Rattle.std.specs.Prelude.{ℕ, ℤ, suc, ◌≡◌, ◌≢◌, ◌<◌, ◌≤◌, ◌*◌, List, [], ◌∷◌, ◌++◌, length, Option, Some, None, codes, decimal}
use Rattle.input_rows.specs.declared.fault.RowFault.{RowFault}
use Rattle.input_rows.specs.RowsOf.{RowsLeft, through}
use Rattle.image_file.specs.Image.{image_of}
use Rattle.op_graph.specs.Lists.{Lists}
use Rattle.op_graph.specs.declared.op.Op.{Op}
use Rattle.signature_table.specs.Signatures.{Numbers}
use Rattle.run_report.specs.OperationLines.{list_text}
use Rattle.vcp_base.specs.declared.code.Profile.TheVariants as profile
use Rattle.st_writer.specs.CanonicalProgram.{canonical}
use Rattle.vcp_outside.specs.Held.{Held}
use Rattle.vcp_typed.specs.Fitting.{input_columns}
use Rattle.vcp_typed.specs.Size.{size}
use Rattle.vcp_typed.specs.SourceRun.{Program}
use Rattle.weight_audit.specs.Audit.{most_weights, weights_up_to}
use Rattle.weight_audit.specs.AuditText.{AuditOf}
use Rattle.vcp_inputs.specs.Forms.{Form, Rows, Code, check, format, plain, run, il, compile, list, exec, trace, widen, audit, inject, pair, pairs, wire, demo}
use Rattle.vcp_inputs.specs.Tables.{rows_name}
use Rattle.vcp_inputs.specs.declared.images.Image.{Image}
use Rattle.vcp_inputs.specs.declared.refusal.Refusal.TheVariants as refusal
use Rattle.vcp_inputs.specs.RowsRead.{graph_columns}
use Rattle.vcp_inputs.specs.Answer.{Answer, Campaign, Subject, source, listed, image}
use Rattle.vcp_inputs.specs.FileTasks.{ParsedFile, TypedFile, ListingFile, ImageFile, ScriptFile, WireFile, TakenRows}
use Rattle.vcp_inputs.specs.Kinds.{Task, answers, compiles, runs, judges, compares, pairs_, wires, prints, refusal_task}
use Rattle.vcp_inputs.specs.PairKind.{PairJob}
use Rattle.vcp_inputs.specs.Printing.{every_row, each_word, no_words, cycle_words}
use Rattle.vcp_inputs.specs.Reports.{subject_outputs}
use Rattle.vcp_inputs.specs.RunKind.{Job, meant_answer}
use Rattle.vcp_core.specs.Demo.{DemoTask}

-- ---- what single commands print and name, and their limits

-- a program that is one of the language: `ok`, and its Size
abbrev pub ok_text : ℕ → List ℕ
ok_text n = codes "ok " ++ (decimal n ++ codes "\n")

-- the lines of these operations of a graph and its table, which are counted from i
abbrev pub lines_from : Lists → Numbers → ℕ → List Op → List ℕ
lines_from g t i [] = []
lines_from g t i (op ∷ ops) = list_text g t i op ++ lines_from g t (suc i) ops

-- the lines of all of them
abbrev pub listing : Lists → Numbers → List ℕ
listing g t = lines_from g t 0 g.operations

-- the same lists in the wide code
abbrev pub widened : Lists → Lists
widened g = record g { profile = profile.Wide }

-- the code of a table
abbrev pub table_code : Numbers → Code
table_code t = record { seed = t.seed; step = t.step }

-- the most cycles times operations of a run under faults
abbrev pub most_trace : ℕ
most_trace = 16777216

-- ---- what is said of M

-- an image is refused where its graph has too many weights up to the horizon; else its audit is printed
pub data Audited (horizon : ℕ) (name : List ℕ) (i : Image) : Task → Type 0 where
  too_large : most_weights < weights_up_to i.graph horizon → Audited horizon name i (refusal_task name refusal.Audit)
  printed : weights_up_to i.graph horizon ≤ most_weights → (told : List ℕ) → AuditOf i.graph horizon told → Audited horizon name i (prints told)

-- ---- runs on rows

-- a run of which each row is printed, on the rows that are left, which are told by this name
abbrev pub rows_job : List ℕ → Code → Subject → RowsLeft → Job
rows_job name code s left =
    record { subject = s; rows = left; rows_name = name; code = code; printing = every_row (subject_outputs s); words = no_words }

-- one of which the words of cycle n of a graph are printed
abbrev pub words_job : List ℕ → ℕ → Lists → Code → RowsLeft → Job
words_job name n g code left =
    record { subject = image g; rows = left; rows_name = name; code = code; printing = each_word g code n; words = cycle_words g code n }

-- The answer of a program's own run: the one that is meant by its run in whatever code, here in one with seed and step 0.
abbrev pub plain_answer : List ℕ → Program → RowsLeft → Answer
plain_answer name p left = meant_answer (rows_job name (record { seed = 0; step = 0 }) (source p) left)

-- ---- faults

-- all rows are read; they are refused where a refusal stands behind them
abbrev pub WholeRows : List ℕ → (List (List ℤ) → Task → Type 0) → List (List ℤ) → Option RowFault → Task → Type 0
WholeRows name Then rows None task = Then rows task
WholeRows name Then rows (Some why) task = task ≡ refusal_task name (refusal.Rows why)

-- rows are refused where their cycles times the graph's operations are too many
pub data FewRows (name : List ℕ) (g : Lists) (Then : List (List ℤ) → Task → Type 0) (rows : List (List ℤ)) : Task → Type 0 where
  too_many : most_trace < length rows * length g.operations → FewRows name g Then rows (refusal_task name refusal.Trace)
  few : (task : Task) → length rows * length g.operations ≤ most_trace → Then rows task → FewRows name g Then rows task

-- the groups of the script F over these rows of an image, of which this is done
abbrev pub ScriptedTask : (Campaign → Task) → Image → List ℕ → Held → List (List ℤ) → Task → Type 0
ScriptedTask does i f held rows task =
    ScriptFile i.graph (λ groups x. x ≡ does (record { graph = i.graph; table = i.table; rows = rows; groups = groups })) f held task

-- ---- a pair of channels

-- two channels on the graph of an image, on the rows that are left, which are told by this name
abbrev pub pair_job : List ℕ → Image → RowsLeft → PairJob
pair_job name i left = record { graph = i.graph; table = i.table; rows = left; rows_name = name }

-- an image is refused where its seed is the one of the second channel; else this is said of it
pub data Apart (name : List ℕ) (seed : ℕ) (Then : Image → Task → Type 0) (i : Image) : Task → Type 0 where
  same_seed : seed ≡ i.table.seed → Apart name seed Then i (refusal_task name refusal.Seed)
  two_seeds : (task : Task) → seed ≢ i.table.seed → Then i task → Apart name seed Then i task

-- its graph is run on ROWS
abbrev pub Compared : Rows → Held → Image → Task → Type 0
Compared rows held i task = TakenRows (λ left x. x ≡ compares (pair_job (rows_name rows) i left)) rows held (graph_columns i.graph) task

-- a script is held by two channels, over all rows; these may be as many as a run may have
abbrev pub PairsRows : Rows → List ℕ → Held → Image → Task → Type 0
PairsRows rows f held i task =
    TakenRows (λ left. WholeRows (rows_name rows) (ScriptedTask pairs_ i f held) left.rows left.refusal) rows held (graph_columns i.graph) task

-- ---- commands

abbrev pub TaskOf : Form → Held → Task → Type 0
-- The words `check P` and `format P` lead to P's lack, to its `L1`, to a fault of the lexer or the parser at
-- its place, or to what is said of the one program that the tokens of P spell, no token deeper than 64: for
-- `format` its canonical text; for `check` its first fault of typing, the name or the Size that passes a
-- limit, or the Size of its checked program.
TaskOf (check p) held task = TypedFile (λ t x. x ≡ prints (ok_text (size t))) p held task
TaskOf (format p) held task = ParsedFile (λ p x. x ≡ prints (canonical p)) p held task
-- The words `compile P CODE` lead to the same refusals of P as `check P`, or to the image of a graph of the
-- checked program, with the seed and step of the words.
TaskOf (compile p code) held task = TypedFile (λ t x. x ≡ compiles t code) p held task
-- The words `list M` and `widen M` lead to M's lack, to its `L1`, to the first fault of its bytes at its
-- offset, or to an answer for the one graph, seed and step whose image M is: for `list` a line for each
-- operation, for `widen` the image of the same lists in the wide code with the same seed and step.
TaskOf (list m) held task = ImageFile (λ i x. x ≡ prints (listing i.graph i.table)) m held task
TaskOf (widen m) held task = ImageFile (λ i x. x ≡ prints (image_of (widened i.graph) i.table.seed i.table.step)) m held task
-- The words `audit M HORIZON` lead to the same refusals of M, and then to `L6` exactly where the operations
-- of its graph times its outputs times one more than the horizon are above 16,777,216; else to the one audit
-- of that graph up to the horizon: for each output and number of cycle borders how many operations are
-- reached and blind, and each blind one, in order.
TaskOf (audit m horizon) held task = ImageFile (Audited horizon m) m held task
-- The words `plain P ROWS` and `run P ROWS CODE` lead to the same refusals of P as `check P`, and then to
-- those of ROWS, `R4` whatever the file holds; or to a run of the checked program over the rows that are left
-- after the header, up to its end, or the refusal of a later row with its line and status 1. For `plain` that
-- is an answer, the program's own run; for `run` a run on the unit, with the seed and step of the words.
TaskOf (plain p rows) held task =
    TypedFile (λ t. TakenRows (λ left x. x ≡ answers (plain_answer (rows_name rows) t left)) rows held (input_columns t.slots)) p held task
TaskOf (run p rows code) held task =
    TypedFile (λ t. TakenRows (λ left x. x ≡ runs (rows_job (rows_name rows) code (source t) left)) rows held (input_columns t.slots)) p held task
-- The words `il P ROWS CODE` lead to P's lack, to its `L1`, or to its first fault as an instruction list;
-- else to the refusals of ROWS for its inputs, or to its run on the unit: that of any graph that stands for
-- its typed program.
TaskOf (il p rows code) held task =
    ListingFile (λ i. TakenRows (λ left x. x ≡ runs (rows_job (rows_name rows) code (listed i) left)) rows held (input_columns i.slots)) p held task
-- The words `exec M ROWS` and `trace M ROWS CYCLE` lead to the same refusals of M, and then to those of ROWS
-- as for `run`; or to a run on the unit of that graph with that seed and step, over the rows that are left
-- after the header, for `trace` through its cycle, with `R5` behind them where there are too few and nothing
-- else is refused.
TaskOf (exec m rows) held task =
    ImageFile (λ i. TakenRows (λ left x. x ≡ runs (rows_job (rows_name rows) (table_code i.table) (image i.graph) left)) rows held (graph_columns i.graph))
    m held task
TaskOf (trace m rows n) held task =
    ImageFile
    (λ i. TakenRows (λ left x. x ≡ runs (words_job (rows_name rows) n i.graph (table_code i.table) (through n left))) rows held (graph_columns i.graph))
    m held task
-- The words `inject M ROWS F` lead to the same refusals of M, and then to those of ROWS with all its rows;
-- then to `L7` exactly where the rows times the operations of the image's graph are above 16,777,216; then to
-- F's lack, its `L1` or its first refused line; else to a verdict on each group of the script over these
-- rows, in order, and the totals.
TaskOf (inject m rows f) held task =
    ImageFile
    (λ i. TakenRows (λ left. WholeRows (rows_name rows) (FewRows (rows_name rows) i.graph (ScriptedTask judges i f held)) left.rows left.refusal)
    rows held (graph_columns i.graph))
    m held task
-- The words `pair M ROWS SEED` lead to the same refusals of M, and then to `L8` exactly where SEED is the
-- image's seed; else to those of ROWS as for `run`, or to a run of two channels over that graph and the rows
-- that are left after the header, the first with the image's table on the unit.
TaskOf (pair m rows seed) held task = ImageFile (Apart m seed (Compared rows held)) m held task
-- The words `pairs M ROWS SEED F` lead to the same refusals of M, and then to `L8` exactly where SEED is the
-- image's seed; then to those of ROWS with all its rows, and to those of F, as for `inject` but without `L7`;
-- else to the groups of the script over these rows, in order, on two channels, and the totals.
TaskOf (pairs m rows seed f) held task = ImageFile (Apart m seed (PairsRows rows f held)) m held task
-- The words `wire F` lead to F's lack, to its `L1`, to its first refused line, or to the run of the script of
-- a wire.
TaskOf (wire f) held task = WireFile (λ s x. x ≡ wires s) f held task
-- The words `demo N` lead to the run of the program that is made of N.
TaskOf (demo number) held task = DemoTask number task
