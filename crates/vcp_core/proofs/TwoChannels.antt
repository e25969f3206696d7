-- The run of two channels as the end of a command, and what `pair` comes to where M was loaded.
use Rattle.std.proofs.Common.{ℕ, ◌≡◌, ◌≢◌, ◌≤◌, inl, inr, true, refl, sym, ap, ◌∙◌, List, [], length, Option, Some, None, Result, Ok, Err, IfSome, arith}
use Rattle.vcp_base.specs.Limits.{most_image_bytes}
use Rattle.vcp_base.specs.declared.columns.Column.{Column}
use Rattle.vcp_outside.specs.Counts.{Rose}
use Rattle.vcp_outside.specs.Held.{Held}
use Rattle.vcp_outside.specs.Seen.{FilesSeen}
use Rattle.input_rows.specs.declared.fault.RowFault.{RowFault}
use Rattle.input_rows.specs.declared.fault.RowFault.TheVariants as row
use Rattle.input_rows.specs.RowsOf.{IsOfRecord, RowsLeft}
use Rattle.op_graph.specs.Lists.{Lists}
use Rattle.signature_table.specs.Signatures.{Numbers}
use Rattle.coded_machine.specs.Moments.{Moment}
use Rattle.coded_machine.specs.declared.rows.fault.RunFault.{RunFault}
use Rattle.coded_machine.specs.declared.rows.fault.RunFault.TheVariants as run
use Rattle.pair_channel.specs.declared.pair_end.PairEnd.{PairEnd}
use Rattle.pair_channel.specs.declared.pair_end.PairEnd.TheVariants as pair
use Rattle.pair_channel.specs.PairRuns.{Disagrees}
use Rattle.pair_channel.specs.BesideDone.{BesideDone, BesideRunsTo}
use Rattle.vcp_inputs.specs.Forms.{Rows}
use Rattle.vcp_inputs.specs.Forms as form
use Rattle.vcp_inputs.specs.Tables.{rows_name}
use Rattle.vcp_inputs.specs.declared.images.Image.{Image}
use Rattle.vcp_inputs.specs.declared.refusal.Refusal.TheVariants as refusal
use Rattle.input_rows.specs.declared.source.RowsSource.{RowsSource}
use Rattle.vcp_inputs.specs.Images.{ImageOf, NotImage}
use Rattle.vcp_inputs.specs.Lines.{input_status, input_text, refusal_text}
use Rattle.vcp_inputs.specs.Refusals.{no_rows}
use Rattle.vcp_inputs.specs.Abouts.{About}
use Rattle.vcp_inputs.specs.FileTasks.{TakenFile, missing, taken, untaken, TakenRows}
use Rattle.vcp_inputs.specs.Kinds.{Task, compares, refusal_task}
use Rattle.vcp_inputs.specs.PairKind.{PairJob, pair_answer, pair_behind, pair_read, pair_status}
use Rattle.vcp_inputs.specs.Performing.{Performs, Reaches, done, cut, wanting, unread, unmade}
use Rattle.vcp_core.specs.declared.ending.Ending.{Ending}
use Rattle.vcp_core.specs.ChannelsRun.{ComparesTo, PairAnswers}
use Rattle.vcp_core.specs.Loading.{FirstRead, BothRead}
use Rattle.vcp_core.specs.Reach.{end_status, run_code, run_line}
use Rattle.vcp_inputs.specs.RowsRead.{graph_columns}
use Rattle.vcp_core.specs.Tasks.{Apart, same_seed, two_seeds, Compared, pair_job, TaskOf}
use Rattle.vcp_core.proofs.Facts.{if_some_weaker}
use Rattle.vcp_core.proofs.JobRun.{record-of}
use Rattle.vcp_core.proofs.Performing.{file_takes, row_told, still}

-- ---- the run

three_disagrees : (e : PairEnd) (behind : Option RowFault) → pair_status e behind ≡ 3 → Disagrees e
three_disagrees pair.Released None is = absurd (omega (arith, is))
three_disagrees pair.Released (Some why) is = absurd (omega (arith, is))
three_disagrees (pair.Stopped op why) behind is = absurd (omega (arith, is))
three_disagrees (pair.Parted first second) behind is = tt
three_disagrees (pair.Differ output first second) behind is = tt

no_behind : (name : List ℕ) (e : PairEnd) (behind : Option RowFault) → (e ≡ pair.Released → behind ≡ None) → pair_behind name e behind ≡ []
no_behind name pair.Released behind h = ap (pair_behind name pair.Released) (h refl)
no_behind name (pair.Stopped op why) behind h = refl
no_behind name (pair.Parted first second) behind h = refl
no_behind name (pair.Differ output first second) behind h = refl

same_status : (e : PairEnd) (behind : Option RowFault) → (e ≡ pair.Released → behind ≡ None) → pair_status e behind ≡ pair_status e None
same_status pair.Released behind h = ap (pair_status pair.Released) (h refl)
same_status (pair.Stopped op why) behind h = refl
same_status (pair.Parted first second) behind h = refl
same_status (pair.Differ output first second) behind h = refl

not_memory : (f : RowFault) → IsOfRecord f → f ≢ row.Memory
not_memory row.Memory h is = absurd h
not_memory row.Header h is = cc
not_memory (row.Width n) h is = cc
not_memory (row.Cell n m) h is = cc
not_memory row.Form h is = cc
not_memory row.Cycles h is = cc
not_memory row.Cycle h is = cc

module _ (j : PairJob) (before after : Moment) where
  answered : (e : PairEnd) (line : List ℕ) (code : ℕ) → BesideDone j.graph j.table j.rows before after e →
      pair_behind j.rows_name e j.rows.refusal ≡ line → pair_status e j.rows.refusal ≡ code → PairAnswers j line code before after
  answered e line code d line_is code_is = (
    pair_answer j (pair_read j d.cycles),
    record {
      cycles = d.cycles;
      all = d.all;
      log = d.log;
      read = refl;
      front = d.front;
      rose = λ is. d.rose (three_disagrees e j.rows.refusal (ap (λ (x : PairEnd). pair_status x j.rows.refusal) d.end_is ∙ is));
      honest = d.honest;
    },
    d.written,
    ap (λ (x : PairEnd). pair_behind j.rows_name x j.rows.refusal) (sym d.end_is) ∙ line_is,
    ap (λ (x : PairEnd). pair_status x j.rows.refusal) (sym d.end_is) ∙ code_is,
  )

  -- it came to its end
  pub came_to_end : (e : PairEnd) (end : Ending) → end_status end ≡ pair_status e None → BesideRunsTo j.graph j.table j.rows before after (Ok e) →
      ComparesTo j before after (Ok end)
  came_to_end e end status (d, behind) =
      answered e [] (end_status end) d (no_behind j.rows_name e j.rows.refusal behind) (same_status e j.rows.refusal behind ∙ sym status)

  -- it was given up
  pub gave_up : (f : RunFault) → IfSome j.rows.refusal IsOfRecord → BesideRunsTo j.graph j.table j.rows before after (Err f) → ComparesTo j before after (Err f)
  gave_up (run.Rows why) of (d, is) =
      let told = row_told j.rows_name why (not_memory why (record-of why j.rows.refusal of is)) in
      answered pair.Released (input_text j.rows_name (no_rows why)) (input_status (no_rows why)) d
      (ap (pair_behind j.rows_name pair.Released) is ∙ sym told.0) (ap (pair_status pair.Released) is ∙ sym told.1)
  gave_up run.Write of (left, rose) = left
  gave_up run.Memory of left = inr left

  -- as the end of a command that takes memory late
  pub compared : (c : About) (Comes : Task → Type 0) (files later : FilesSeen) (r : Result Ending RunFault) → c.late ≡ true → Comes (compares j) →
      (r ≡ Err run.Write → Rose before.out.faults after.out.faults) → ComparesTo j before after r →
      Reaches c Comes files later before after (run_line j.rows_name r) (run_code r)
  compared c Comes files later (Ok e) late comes rose (x, d, w, line, status) = done (compares j) x comes d w line status
  compared c Comes files later (Err (run.Rows f)) late comes rose (x, d, w, line, status) = done (compares j) x comes d w line status
  compared c Comes files later (Err run.Write) late comes rose left = cut (compares j) comes left (rose refl) refl refl
  compared c Comes files later (Err run.Memory) late comes rose (inl s) = unmade s refl refl
  compared c Comes files later (Err run.Memory) late comes rose (inr left) = wanting (compares j) comes left late refl refl

-- it was given up only where the sink failed, if writing was the cause
pub wrote : (g : Lists) (t : Numbers) (left : RowsLeft) (before after : Moment) (f : RunFault) → BesideRunsTo g t left before after (Err f) → f ≡ run.Write
    → Rose before.out.faults after.out.faults
wrote g t left before after (run.Rows why) h is = absurd cc
wrote g t left before after run.Write h is = h.1
wrote g t left before after run.Memory h is = absurd cc

-- ---- a command that comes to more tasks

module _ (c : About) (Comes Other : Held → Task → Type 0) (weaker : (h : Held) (task : Task) → Comes h task → Other h task) (files later : FilesSeen)
    (before after : Moment) (line : List ℕ) (code : ℕ) where
  reaches_by : (h : Held) → Reaches c (Comes h) files later before after line code → Reaches c (Other h) files later before after line code
  reaches_by h (done task x comes d w l s) = done task x (weaker h task comes) d w l s
  reaches_by h (cut task comes left rose l s) = cut task (weaker h task comes) left rose l s
  reaches_by h (wanting task comes left late l s) = wanting task (weaker h task comes) left late l s
  reaches_by h (unread word named rose s l n) = unread word named rose s l n
  reaches_by h (unmade s l n) = unmade s l n

  pub performs_by : Performs c Comes files later before after line code → Performs c Other files later before after line code
  performs_by p = record {
    reaches = λ h may. reaches_by h (p.reaches h may);
    statuses = p.statuses;
    told = p.told;
    held = p.held;
    unit = p.unit;
    stay = p.stay;
    ended = p.ended;
    taken = p.taken;
    stopped = p.stopped;
    refused = p.refused;
    read = p.read;
    write = p.write;
    no_read_fault = p.no_read_fault;
    no_write_fault = p.no_write_fault;
  }

-- ---- two seeds

-- a text is an image whose seed is another one
abbrev pub ApartImage : ℕ → List ℕ → Image → Type 0
ApartImage seed text i = ImageOf text i × (seed ≢ i.table.seed)

-- the task of an image, its rows and the second seed
abbrev pub Comparing : Rows → Held → Image → RowsLeft → Task → Type 0
Comparing rows held i left task = task ≡ compares (pair_job (rows_name rows) i left)

pub apart_by : (m : List ℕ) (seed : ℕ) (Then : Image → Task → Type 0) (found : Option (List ℕ)) (task : Task) →
    TakenFile (ApartImage seed) NotImage most_image_bytes Then m found task →
    TakenFile ImageOf NotImage most_image_bytes (Apart m seed Then) m found task
apart_by m seed Then found _ (missing none) = missing none
apart_by m seed Then found _ (untaken text r here why) = untaken text r here why
apart_by m seed Then found task (taken text i _ here few is comes) = taken text i task here few is.0 (two_seeds task is.1 comes)

pub apart_comes : (m : List ℕ) (rows : Rows) (seed : ℕ) (held : Held) (task : Task) →
    TakenFile (ApartImage seed) NotImage most_image_bytes (λ i. TakenRows (Comparing rows held i) rows held (graph_columns i.graph)) m (held m) task →
    TaskOf (form.pair m rows seed) held task
apart_comes m rows seed held task comes = apart_by m seed (Compared rows held) (held m) task comes

pub file_apart : (m : List ℕ) (seed : ℕ) (files later : FilesSeen) (i : Image) → seed ≢ i.table.seed →
    FirstRead ImageOf NotImage most_image_bytes m files later i → FirstRead (ApartImage seed) NotImage most_image_bytes m files later i
file_apart m seed files later i apart read = record {
  loads = if_some_weaker files.held _ _ (λ h (text, found, few, is). (text, found, few, (is, apart))) read.loads;
  ended = read.ended;
  faults = read.faults;
  broken = read.broken;
  held = read.held;
}

pub rows_apart : (m : List ℕ) (seed : ℕ) (rows : Rows) (files later : FilesSeen) (i : Image) (columns : List Column) (s : RowsSource) → seed ≢ i.table.seed →
    BothRead ImageOf NotImage most_image_bytes m rows files later i columns s →
    BothRead (ApartImage seed) NotImage most_image_bytes m rows files later i columns s
rows_apart m seed rows files later i columns s apart read = record {
  file = file_apart m seed files later i apart read.file;
  rows_are = read.rows_are;
}

-- the seeds are one, and nothing was done
pub seeds_same : (c : About) (m : List ℕ) (seed : ℕ) (Then : Image → Task → Type 0) (held : Held) (i : Image) (files later : FilesSeen) (at : Moment) →
    ((text : List ℕ) × (held m ≡ Some text) × (length text ≤ most_image_bytes) × ImageOf text i) → seed ≡ i.table.seed →
    Reaches c (λ task. TakenFile ImageOf NotImage most_image_bytes (Apart m seed Then) m (held m) task) files later at at (refusal_text m refusal.Seed) 1
seeds_same c m seed Then held i files later at loads same =
    done (refusal_task m refusal.Seed) (record { out = []; err = refusal_text m refusal.Seed; status = 1 })
    (file_takes ImageOf NotImage most_image_bytes (Apart m seed Then) m held i (refusal_task m refusal.Seed) loads (same_seed same)) (refl, refl)
    (still at).out refl refl
