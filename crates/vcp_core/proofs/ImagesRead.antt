-- What the commands come to that read an image and ROWS, and how far they come where there is nothing of one.
use Rattle.std.proofs.Common.{ℕ, ℤ, ◌≡◌, ◌≢◌, inl, inr, true, refl, sym, ap, subst, ◌∙◌, List, [], length, All, ◌<◌, Option, Some, None, Err, IfSome}
use Rattle.std.proofs.lemmas.List.{length-map}
use Rattle.std.specs.Io.KnownBytes.{IsAtEnd}
use Rattle.vcp_base.specs.Limits.{most_image_bytes, seeds}
use Rattle.vcp_base.specs.declared.columns.Column.{Column}
use Rattle.vcp_outside.specs.Counts.{Rose}
use Rattle.vcp_outside.specs.Held.{Held}
use Rattle.vcp_outside.specs.Seen.{FilesSeen}
use Rattle.input_rows.specs.RowsOf.{RowsLeft, through}
use Rattle.op_graph.specs.Lists.{column}
use Rattle.coded_machine.specs.Moments.{Moment}
use Rattle.vcp_inputs.specs.Forms.{AreFew, Form, IsSound, Rows, exec, trace, inject, pair, pairs, faults_run, image_run, single_run}
use Rattle.vcp_inputs.specs.declared.words.command.ImageRun.{ImageRun}
use Rattle.vcp_inputs.specs.declared.words.command.ImageRun.TheVariants as how
use Rattle.vcp_inputs.specs.declared.words.command.SingleRun.{SingleRun}
use Rattle.vcp_inputs.specs.declared.words.command.SingleRun.TheVariants as single
use Rattle.vcp_inputs.specs.Tables.{rows_name}
use Rattle.vcp_inputs.specs.declared.images.Image.{Image}
use Rattle.vcp_inputs.specs.declared.refusal.Refusal.{Refusal}
use Rattle.vcp_inputs.specs.declared.refusal.Refusal.TheVariants as refusal
use Rattle.vcp_inputs.specs.declared.refusal.NoInput.{NoInput}
use Rattle.vcp_inputs.specs.declared.refusal.NoInput.TheVariants as input
use Rattle.vcp_inputs.specs.Files.{LeavesLong, NotLoaded}
use Rattle.vcp_inputs.specs.Images.{ImageOf, NotImage}
use Rattle.vcp_inputs.specs.Lines.{input_status, input_text, memory_text, refusal_text}
use Rattle.vcp_inputs.specs.Refusals.{IsCaused}
use Rattle.vcp_inputs.specs.RowsOutcome.{HasLongFile, Opens, begins, rows_outcome, source_outcome}
use Rattle.vcp_inputs.specs.RowsRead.{graph_columns}
use Rattle.vcp_inputs.specs.Abouts.{Among, FileWord, about, image_word, rows_others, rows_words}
use Rattle.vcp_inputs.specs.Answer.{image}
use Rattle.vcp_inputs.specs.FileTasks.{ImageFile, TakenFile, TakenRows}
use Rattle.vcp_inputs.specs.Kinds.{Task, runs}
use Rattle.vcp_inputs.specs.Performing.{Performs}
use Rattle.vcp_core.specs.declared.image_rows.ImageRows.{ImageRows}
use Rattle.vcp_core.specs.ImagesRead.{AreImageRows, ImageRowsRead, IsInRange, ReadsImageRows, second_of, second_of_single, executing, tracing, injecting, comparing, pairing}
use Rattle.vcp_core.specs.Loading.{FirstRead}
use Rattle.vcp_core.specs.Tasks.{Apart, Compared, PairsRows, TaskOf, rows_job, table_code, words_job}
use Rattle.vcp_core.proofs.Facts.{if_some_always, if_some_both, if_some_weaker, not_none}
use Rattle.vcp_core.proofs.JudgedTasks.{LoadsAt, OnLeft, rows_named as inject_named}
use Rattle.vcp_core.proofs.LoadedRows.{rows_unloaded, rows_unopened}
use Rattle.vcp_core.proofs.PairsTasks.{OnLeft as OnAllLeft, rows_named as pairs_named}
use Rattle.vcp_core.proofs.Performing.{files_lost, files_wanted, quiet_lost}
use Rattle.vcp_core.proofs.TwoChannels.{ApartImage, Comparing, apart_by, apart_comes, file_apart, performs_by, rows_apart, seeds_same}

-- each of them reads files, M first
pub some_files : (m : List ℕ) (rows : Rows) (second : Option ℕ) (f : Form) → ReadsImageRows m rows second f → (about f).files ≢ []
some_files m rows _ _ executing = λ none. cc
some_files m rows _ _ (tracing n) = λ none. cc
some_files m rows _ _ (injecting s) = λ none. cc
some_files m rows _ _ (comparing seed) = λ none. cc
some_files m rows _ _ (pairing seed s) = λ none. cc

-- a run of M on ROWS is one of them
reads_single : (m : List ℕ) (rows : Rows) (run : SingleRun) → ReadsImageRows m rows (second_of_single run) (single_run m rows run)
reads_single m rows single.Exec = executing
reads_single m rows (single.Trace n) = tracing n
reads_single m rows (single.Pair seed) = comparing seed

reads_faults : (m : List ℕ) (rows : Rows) (second : Option ℕ) (f : List ℕ) → ReadsImageRows m rows second (faults_run m rows second f)
reads_faults m rows None f = injecting f
reads_faults m rows (Some seed) f = pairing seed f

pub reads_run : (m : List ℕ) (rows : Rows) (run : ImageRun) → ReadsImageRows m rows (second_of run) (image_run m rows run)
reads_run m rows (how.Single run) = reads_single m rows run
reads_run m rows (how.Faults second f) = reads_faults m rows second f.now

-- and where it is sound its rows are few
single_few : (m : List ℕ) (rows : Rows) (run : SingleRun) → IsSound (single_run m rows run) → AreFew rows
single_few m rows single.Exec h = h
single_few m rows (single.Trace n) h = h.0
single_few m rows (single.Pair seed) h = h.0

faults_few : (m : List ℕ) (rows : Rows) (second : Option ℕ) (f : List ℕ) → IsSound (faults_run m rows second f) → AreFew rows
faults_few m rows None f h = h
faults_few m rows (Some seed) f h = h.0

pub run_few : (m : List ℕ) (rows : Rows) (run : ImageRun) → IsSound (image_run m rows run) → AreFew rows
run_few m rows (how.Single run) h = single_few m rows run h
run_few m rows (how.Faults second f) h = faults_few m rows second f.now h

-- and its numbers are in their ranges
pub single_in_range : (m : List ℕ) (rows : Rows) (run : SingleRun) → IsSound (single_run m rows run) → IsInRange run
single_in_range m rows single.Exec h = tt
single_in_range m rows (single.Trace n) h = h.1
single_in_range m rows (single.Pair seed) h = h.1

pub seed_in_range : (m : List ℕ) (rows : Rows) (second : Option ℕ) (f : List ℕ) → IsSound (faults_run m rows second f) → IfSome second (λ seed. seed < seeds)
seed_in_range m rows None f h = tt
seed_in_range m rows (Some seed) f h = h.1

-- the rows have a value for each of the graph's inputs
pub rows-width : (r : ImageRows) → AreImageRows r → (list : List (List ℤ)) → All (λ row. length row ≡ length r.columns) list
    → All (λ row. length row ≡ length r.image.graph.inputs) list
rows-width r fit list h =
    subst (λ (n : ℕ). All (λ (row : List ℤ). length row ≡ n) list)
    (ap length fit.columns ∙ length-map r.image.graph.inputs (column r.image.graph.names)) h

module _ (m : List ℕ) (rows : Rows) where
  -- what is said of its image's rows
  abbrev pub OnImage : (Held → Image → RowsLeft → Task → Type 0) → Held → Image → Task → Type 0
  OnImage Then h i = TakenRows (Then h i) rows h (graph_columns i.graph)

  abbrev pub Executed : Held → Image → RowsLeft → Task → Type 0
  Executed h i left x = x ≡ runs (rows_job (rows_name rows) (table_code i.table) (image i.graph) left)

  abbrev pub Traced : ℕ → Held → Image → RowsLeft → Task → Type 0
  Traced n h i left x = x ≡ runs (words_job (rows_name rows) n i.graph (table_code i.table) (through n left))

  module _ (files mid : FilesSeen) (here : Moment) (held : mid.held ≡ files.held) where
    -- memory was wanted
    pub columns_lost : (second : Option ℕ) (f : Form) → ReadsImageRows m rows second f → mid.faults ≡ files.faults
        → Performs (about f) (TaskOf f) files mid here here memory_text 7
    columns_lost second f reads faults = files_wanted (about f) (TaskOf f) files mid (some_files m rows second f reads) held here faults

    -- there is nothing of M
    module _ (i : NoInput) (lost : IfSome files.held (λ h. NotLoaded NotImage h m most_image_bytes files.broken mid.broken i))
        (whole : (r : Refusal) → i ≡ input.Refused r → r ≢ refusal.Bytes → IsAtEnd mid.rest)
        (left : i ≡ input.Refused refusal.Bytes → IfSome files.held (LeavesLong m most_image_bytes mid.rest))
        (rose : i ≡ input.Unread → Rose files.faults mid.faults) (stayed : i ≢ input.Unread → mid.faults ≡ files.faults) (caused : IsCaused i) where
      lost_of : (f : Form) → Among (image_word m) (about f).files → (about f).files ≢ [] → Among 1 (about f).ends → (Then : Held → Image → Task → Type 0)
          → Performs (about f) (λ h task. ImageFile (Then h) m h task) files mid here here (input_text m i) (input_status i)
      lost_of f named some one Then =
          quiet_lost (about f) ImageOf NotImage Then (image_word m) files mid here i named some one held lost whole left rose stayed caused

      pub image_lost : (second : Option ℕ) (f : Form) → ReadsImageRows m rows second f
          → Performs (about f) (TaskOf f) files mid here here (input_text m i) (input_status i)
      image_lost _ _ executing = lost_of (exec m rows) (inl refl) (λ none. cc) (inr (inl refl)) (OnImage Executed)
      image_lost _ _ (tracing n) = lost_of (trace m rows n) (inl refl) (λ none. cc) (inr (inl refl)) (OnImage (Traced n))
      image_lost _ _ (injecting s) = lost_of (inject m rows s) (inl refl) (λ none. cc) (inr (inl refl)) (OnImage (OnLeft rows s))
      image_lost _ _ (comparing seed) =
          lost_of (pair m rows seed) (inl refl) (λ none. cc) (inr (inl refl)) (λ h. Apart m seed (Compared rows h))
      image_lost _ _ (pairing seed s) =
          lost_of (pairs m rows seed s) (inl refl) (λ none. cc) (inr (inl refl)) (λ h. Apart m seed (PairsRows rows s h))

    -- it is an image, and the seeds are one
    module _ (i : Image) (read : FirstRead ImageOf NotImage most_image_bytes m files mid i) where
      same_of : (f : Form) (seed : ℕ) → seed ≡ i.table.seed → Among (image_word m) (about f).files → (about f).files ≢ [] → Among 1 (about f).ends
          → (Then : Held → Image → Task → Type 0)
          → Performs (about f) (λ h task. ImageFile (Apart m seed (Then h)) m h task) files mid here here (refusal_text m refusal.Seed) 1
      same_of f seed same named some one Then =
          files_lost (about f) (λ h task. ImageFile (Apart m seed (Then h)) m h task) files mid some held one here m (input.Refused refusal.Seed)
          (if_some_weaker files.held _ _ (λ h l. seeds_same (about f) m seed (Then h) h i files mid here l same) read.loads)
          (λ is. if_some_always files.held _ (λ h. inl read.ended)) (λ is. cc) (λ no. read.faults) (λ is. absurd cc) refl (inl (image_word m, named, refl))

      pub seed_lost : (second : Option ℕ) (f : Form) → ReadsImageRows m rows second f → second ≡ Some i.table.seed
          → Performs (about f) (TaskOf f) files mid here here (refusal_text m refusal.Seed) 1
      seed_lost _ _ executing is = absurd cc
      seed_lost _ _ (tracing n) is = absurd cc
      seed_lost _ _ (injecting s) is = absurd cc
      seed_lost _ _ (comparing seed) is =
          let same : seed ≡ i.table.seed = cc in
          same_of (pair m rows seed) seed same (inl refl) (λ none. cc) (inr (inl refl)) (Compared rows)
      seed_lost _ _ (pairing seed s) is =
          let same : seed ≡ i.table.seed = cc in
          same_of (pairs m rows seed s) seed same (inl refl) (λ none. cc) (inr (inl refl)) (PairsRows rows s)

  -- M was read, and there is nothing of ROWS
  module _ (files mid later : FilesSeen) (i : Image) (columns : List Column) (columns_are : columns ≡ graph_columns i.graph)
      (read : FirstRead ImageOf NotImage most_image_bytes m files mid i) (held_later : later.held ≡ mid.held) (here : Moment) (e : NoInput)
      (opens : IfSome mid.held (λ h. Opens (rows_outcome rows h columns) mid.broken later.broken (Err e)))
      (begun : e ≡ input.Unread → begins rows columns ≡ true) (rose : e ≡ input.Unread → Rose mid.faults later.faults)
      (stayed : e ≢ input.Unread → later.faults ≡ mid.faults) (rest : (r : Refusal) → e ≡ input.Refused r → r ≢ refusal.Bytes → later.rest ≡ mid.rest)
      (long : e ≡ input.Refused refusal.Bytes → IfSome mid.held (HasLongFile rows later.rest)) (caused : IsCaused e) where
    unloaded : (Is : List ℕ → Image → Type 0) → FirstRead Is NotImage most_image_bytes m files mid i → (f : Form) → (about f).files ≢ []
        → Among 1 (about f).ends → ((w : FileWord) → Among w (rows_words rows) → Among w (about f).files)
        → ((n : List ℕ) → Among n (rows_others rows) → Among n (about f).others) → (Then : Held → Image → RowsLeft → Task → Type 0)
        → Performs (about f) (λ h task. TakenFile Is NotImage most_image_bytes (OnImage Then h) m (h m) task) files later here here
        (input_text (rows_name rows) e) (input_status e)
    unloaded Is is f some one more names Then =
        rows_unloaded Is NotImage (λ v. graph_columns v.graph) (about f) (image_word m) rows some one more names Then
        files mid i columns columns_are is later held_later here e opens begun rose stayed rest long caused

    pub rows_lost : (second : Option ℕ) (f : Form) → ReadsImageRows m rows second f → IfSome second (λ seed. seed ≢ i.table.seed)
        → Performs (about f) (TaskOf f) files later here here (input_text (rows_name rows) e) (input_status e)
    rows_lost _ _ executing apart =
        unloaded ImageOf read (exec m rows) (λ none. cc) (inr (inl refl)) (λ w among. inr among) (λ n among. among) Executed
    rows_lost _ _ (tracing n) apart =
        unloaded ImageOf read (trace m rows n) (λ none. cc) (inr (inl refl)) (λ w among. inr among) (λ n among. among) (Traced n)
    rows_lost _ _ (injecting s) apart =
        unloaded ImageOf read (inject m rows s) (λ none. cc) (inr (inl refl)) (inject_named m rows s) (λ n among. among) (OnLeft rows s)
    rows_lost _ _ (comparing seed) apart =
        performs_by (about (pair m rows seed)) _ (TaskOf (pair m rows seed)) (apart_comes m rows seed) files later _ _ _ _
        (unloaded (ApartImage seed) (file_apart m seed files mid i apart read) (pair m rows seed) (λ none. cc) (inr (inl refl))
        (λ w among. inr among) (λ n among. among) (Comparing rows))
    rows_lost _ _ (pairing seed s) apart =
        performs_by (about (pairs m rows seed s)) _ (TaskOf (pairs m rows seed s)) (λ h task. apart_by m seed (PairsRows rows s h) (h m) task) files later
        _ _ _ _
        (unloaded (ApartImage seed) (file_apart m seed files mid i apart read) (pairs m rows seed s) (λ none. cc) (inr (inl refl))
        (pairs_named m rows seed s) (λ n among. among) (OnAllLeft rows s))

  -- both were read: so ROWS come to what these rows come to, for the image's graph
  pub loads_at : (files later : FilesSeen) (r : ImageRows) → AreImageRows r → ImageRowsRead m rows files later r
      → IfSome files.held (LoadsAt m rows r.image (source_outcome r.rows r.columns))
  loads_at files later r fit read =
      if_some_both files.held files.held _ (λ h. rows_outcome rows h r.columns ≡ source_outcome r.rows r.columns)
      (LoadsAt m rows r.image (source_outcome r.rows r.columns)) refl
      (λ h l is. (l, ap (rows_outcome rows h) (sym fit.columns) ∙ is)) read.file.loads read.rows_are

-- ROWS were loaded, and aren't opened
pub single_unopened : (m : List ℕ) (rows : Rows) (files later : FilesSeen) (r : ImageRows) → AreImageRows r → ImageRowsRead m rows files later r
    → (at : Moment) (e : NoInput) → (e ≡ input.Unread → ⊥) → Opens (source_outcome r.rows r.columns) files.broken later.broken (Err e) → IsCaused e
    → (run : SingleRun) → IfSome (second_of_single run) (λ seed. seed ≢ r.image.table.seed)
    → Performs (about (single_run m rows run)) (TaskOf (single_run m rows run)) files later at at (input_text (rows_name rows) e) (input_status e)
single_unopened m rows files later r fit read at e none opens caused single.Exec apart =
    rows_unopened ImageOf NotImage (λ v. graph_columns v.graph) (about (exec m rows)) (image_word m) rows not_none (inr (inl refl)) (λ w among. inr among)
    (λ n among. among) (Executed m rows) files later r.image r.columns r.rows fit.columns read at e none opens caused
single_unopened m rows files later r fit read at e none opens caused (single.Trace n) apart =
    rows_unopened ImageOf NotImage (λ v. graph_columns v.graph) (about (trace m rows n)) (image_word m) rows not_none (inr (inl refl)) (λ w among. inr among)
    (λ n among. among) (Traced m rows n) files later r.image r.columns r.rows fit.columns read at e none opens caused
single_unopened m rows files later r fit read at e none opens caused (single.Pair seed) apart =
    performs_by (about (pair m rows seed)) _ (TaskOf (pair m rows seed)) (apart_comes m rows seed) files later _ _ _ _
    (rows_unopened (ApartImage seed) NotImage (λ v. graph_columns v.graph) (about (pair m rows seed)) (image_word m) rows not_none (inr (inl refl))
    (λ w among. inr among) (λ n among. among) (Comparing rows) files later r.image r.columns r.rows fit.columns
    (rows_apart m seed rows files later r.image r.columns r.rows apart read) at e none opens caused)
