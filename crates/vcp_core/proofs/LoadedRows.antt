-- What a command comes to that reads P or M, and then ROWS, from what loading them gives.
use Rattle.std.proofs.Common.{ℕ, ◌≡◌, ◌≢◌, ◌≤◌, ◌⊎◌, inl, inr, true, refl, sym, ap, subst, ◌∙◌, List, [], Option, Ok, Err, IfSome, arith}
use Rattle.std.specs.Io.KnownBytes.{IsAtEnd}
use Rattle.vcp_base.specs.Limits.{most_rows_bytes}
use Rattle.vcp_base.specs.declared.columns.Column.{Column}
use Rattle.vcp_outside.specs.Counts.{Rose}
use Rattle.vcp_outside.specs.Held.{Held}
use Rattle.vcp_outside.specs.Seen.{FilesSeen}
use Rattle.input_rows.specs.RowsOf.{RowsLeft}
use Rattle.coded_machine.specs.Moments.{Moment}
use Rattle.vcp_inputs.specs.Forms.{Rows, file, cycles}
use Rattle.vcp_inputs.specs.Tables.{rows_name}
use Rattle.vcp_inputs.specs.declared.refusal.Refusal.{Refusal}
use Rattle.vcp_inputs.specs.declared.refusal.Refusal.TheVariants as refusal
use Rattle.vcp_inputs.specs.declared.refusal.NoInput.{NoInput}
use Rattle.vcp_inputs.specs.declared.refusal.NoInput.TheVariants as input
use Rattle.input_rows.specs.declared.source.RowsSource.{RowsSource}
use Rattle.vcp_inputs.specs.Files.{Loads}
use Rattle.vcp_inputs.specs.Lines.{input_text, input_status, refusal_text}
use Rattle.vcp_inputs.specs.RowsOutcome.{HasLongFile, Opens, RowsOutcome, begins, opened, rows_outcome, source_outcome}
use Rattle.vcp_inputs.specs.Refusals.{IsCaused}
use Rattle.vcp_inputs.specs.Abouts.{Among, About, FileWord, rows_others, rows_words}
use Rattle.vcp_inputs.specs.Clauses.{IsTooLong, MayName}
use Rattle.vcp_inputs.specs.FileTasks.{TakenFile, taken, OnRows, TakenRows}
use Rattle.vcp_inputs.specs.Kinds.{Task, lacks, lack_answer, refusal_task}
use Rattle.vcp_inputs.specs.Performing.{Reaches, done, unread, unmade, Performs}
use Rattle.vcp_core.specs.Loading.{FirstRead, BothRead}
use Rattle.vcp_core.proofs.Facts.{if_some_always, if_some_both, if_some_same, if_some_weaker}
use Rattle.vcp_core.proofs.Performing.{files_lost, still}

-- a refusal is that of too many bytes, or it isn't
bytes_or : (r : Refusal) → (r ≡ refusal.Bytes) ⊎ (r ≢ refusal.Bytes)
bytes_or refusal.Bytes = inl refl
bytes_or (refusal.Lexing why) = inr (λ e. cc)
bytes_or (refusal.Parsing why) = inr (λ e. cc)
bytes_or (refusal.Typing why) = inr (λ e. cc)
bytes_or (refusal.Rows why) = inr (λ e. cc)
bytes_or (refusal.Image why) = inr (λ e. cc)
bytes_or refusal.Audit = inr (λ e. cc)
bytes_or refusal.Trace = inr (λ e. cc)
bytes_or refusal.Seed = inr (λ e. cc)
bytes_or (refusal.Script why) = inr (λ e. cc)
bytes_or (refusal.Listing why) = inr (λ e. cc)
bytes_or (refusal.Wire why) = inr (λ e. cc)

-- the file of ROWS
rows_file : (rows : Rows) (columns : List Column) → begins rows columns ≡ true → (word : FileWord) × Among word (rows_words rows) × (word.name ≡ rows_name rows)
rows_file (file name) columns begun = (record { name = name; most = most_rows_bytes }, inl refl, refl)
rows_file (cycles n) columns begun = cc

-- lines may tell of ROWS by their name
pub rows_may : (c : About) (rows : Rows) → ((word : FileWord) → Among word (rows_words rows) → Among word c.files)
    → ((name : List ℕ) → Among name (rows_others rows) → Among name c.others) → MayName c (rows_name rows)
rows_may c (file name) more names =
    inl (record { name = name; most = most_rows_bytes }, more (record { name = name; most = most_rows_bytes }) (inl refl), refl)
rows_may c (cycles n) more names = inr (names (rows_name (cycles n)) (inl refl))

-- ROWS have too long a file
long_rows : (c : About) (rows : Rows) (rest : Option (List ℕ)) (held : Held) → ((word : FileWord) → Among word (rows_words rows) → Among word c.files)
    → HasLongFile rows rest held → IsTooLong c held rest (refusal_text (rows_name rows) refusal.Bytes)
long_rows c (file name) rest held named (bytes, found, l, left) = record {
  word = record { name = name; most = most_rows_bytes };
  named = named (record { name = name; most = most_rows_bytes }) (inl refl);
  bytes = bytes;
  found = found;
  long = l;
  left = left;
  line_is = refl;
}
long_rows c (cycles n) rest held named h = absurd h

-- why there are none, where the files that broke were so many before an earlier file
opens_before : (o : RowsOutcome) (b mid n : ℕ) (i : NoInput) → b ≤ mid → Opens o mid n (Err i) → Opens o b n (Err i)
opens_before o b mid n input.Unread later (inl is) = inl is
opens_before o b mid n input.Unread later (inr rose) = inr (omega (arith, later, rose))
opens_before o b mid n (input.Refused r) later is = is
opens_before o b mid n input.Memory later h = tt

stays_at_end : (mid rest : Option (List ℕ)) → IsAtEnd mid → rest ≡ mid → IsAtEnd rest
stays_at_end mid rest end same = rw same end

-- ---- a command that reads them: its file, how it is taken, and what comes then

module _ {V : Type 0} (Is : List ℕ → V → Type 0) (Why : List ℕ → Refusal → Type 0) (columns_of : V → List Column) (c : About) (word : FileWord) (rows : Rows)
    (reads : c.files ≢ []) (one : Among 1 c.ends) (more : (w : FileWord) → Among w (rows_words rows) → Among w c.files)
    (names : (n : List ℕ) → Among n (rows_others rows) → Among n c.others) (Then : Held → V → RowsLeft → Task → Type 0) where
  -- what the file comes to
  abbrev pub OnFile : Held → Task → Type 0
  OnFile held task = TakenFile Is Why word.most (λ v. TakenRows (Then held v) rows held (columns_of v)) word.name (held word.name) task

  -- the file was read, and these are the columns of its rows
  module _ (files mid : FilesSeen) (v : V) (columns : List Column) (columns_are : columns ≡ columns_of v)
      (read : FirstRead Is Why word.most word.name files mid v) where
    -- it comes to what ROWS come to
    rows_come : (held : Held) (o : RowsOutcome) (task : Task) → Loads Is Why held word.name word.most files.broken mid.broken (Ok v)
        → rows_outcome rows held columns ≡ o → OnRows (rows_name rows) (Then held v) o task → OnFile held task
    rows_come held o task (text, found, few, is) o_is comes =
        let own : rows_outcome rows held (columns_of v) ≡ o = ap (rows_outcome rows held) (sym columns_are) ∙ o_is in
        taken text v task found few is (subst (λ (x : RowsOutcome). OnRows (rows_name rows) (Then held v) x task) (sym own) comes)

    module _ (later : FilesSeen) where
      -- there is nothing of ROWS, and nothing was done
      rows_lost : (held : Held) (at : Moment) (o : RowsOutcome) (i : NoInput) → Loads Is Why held word.name word.most files.broken mid.broken (Ok v)
          → rows_outcome rows held columns ≡ o → (i ≡ input.Unread → begins rows columns ≡ true) → Opens o files.broken later.broken (Err i)
          → Reaches c (OnFile held) files later at at (input_text (rows_name rows) i) (input_status i)
      rows_lost held at o input.Unread l o_is begun (inl is) =
          let none : OnRows (rows_name rows) (Then held v) o (lacks (rows_name rows)) =
          subst (λ (x : RowsOutcome). OnRows (rows_name rows) (Then held v) x (lacks (rows_name rows))) (sym is) refl in
          done (lacks (rows_name rows)) (lack_answer (rows_name rows)) (rows_come held o (lacks (rows_name rows)) l o_is none) (refl, refl) (still at).out
          refl refl
      rows_lost held at o input.Unread l o_is begun (inr rose) =
          let w = rows_file rows columns (begun refl) in
          unread w.0 (more w.0 w.1) rose (still at) (ap (λ (n : List ℕ). input_text n input.Unread) (sym w.2)) refl
      rows_lost held at o (input.Refused r) l o_is begun is =
          let no : OnRows (rows_name rows) (Then held v) o (refusal_task (rows_name rows) r) =
          subst (λ (x : RowsOutcome). OnRows (rows_name rows) (Then held v) x (refusal_task (rows_name rows) r)) (sym is) refl in
          done (refusal_task (rows_name rows) r) (record { out = []; err = refusal_text (rows_name rows) r; status = 1 })
          (rows_come held o (refusal_task (rows_name rows) r) l o_is no) (refl, refl) (still at).out refl refl
      rows_lost held at o input.Memory l o_is begun h = unmade (still at) refl refl

      -- where they are refused, their file was read to its end, or it is too long
      rows_taken : (i : NoInput) → ((r : Refusal) → i ≡ input.Refused r → r ≢ refusal.Bytes → IsAtEnd later.rest)
          → (i ≡ input.Refused refusal.Bytes → IfSome mid.held (HasLongFile rows later.rest)) → input_status i ≡ 1
          → IfSome files.held (λ h. IsAtEnd later.rest ⊎ IsTooLong c h later.rest (input_text (rows_name rows) i))
      rows_taken input.Unread whole long is = absurd (omega (arith, is))
      rows_taken (input.Refused r) whole long is =
          elim (bytes_or r) [
            | inl bytes ↦
                if_some_same files.held mid.held _ read.held
                (if_some_weaker mid.held (HasLongFile rows later.rest) _
                (λ h l. inr (subst (λ (x : Refusal). IsTooLong c h later.rest (refusal_text (rows_name rows) x)) (sym bytes)
                (long_rows c rows later.rest h more l)))
                (long (ap input.Refused bytes)))
            | inr other ↦ if_some_always files.held _ (λ h. inl (whole r refl other))
          ]
      rows_taken input.Memory whole long is = absurd (omega (arith, is))

      -- ROWS aren't loaded
      pub rows_unloaded : later.held ≡ mid.held → (at : Moment) (i : NoInput)
          → IfSome mid.held (λ h. Opens (rows_outcome rows h columns) mid.broken later.broken (Err i)) → (i ≡ input.Unread → begins rows columns ≡ true)
          → (i ≡ input.Unread → Rose mid.faults later.faults) → (i ≢ input.Unread → later.faults ≡ mid.faults)
          → ((r : Refusal) → i ≡ input.Refused r → r ≢ refusal.Bytes → later.rest ≡ mid.rest)
          → (i ≡ input.Refused refusal.Bytes → IfSome mid.held (HasLongFile rows later.rest)) → IsCaused i →
          Performs c OnFile files later at at (input_text (rows_name rows) i) (input_status i)
      rows_unloaded held_later at i opens begun rose stayed rest long caused =
          files_lost c OnFile files later reads (held_later ∙ read.held) one at (rows_name rows) i
          (if_some_both files.held mid.held _ _ _ read.held
          (λ h l o. rows_lost h at (rows_outcome rows h columns) i l refl begun
          (opens_before (rows_outcome rows h columns) files.broken mid.broken later.broken i read.broken o))
          read.loads opens)
          (rows_taken i (λ r is other. stays_at_end mid.rest later.rest read.ended (rest r is other)) long) (λ is. omega (arith, read.faults, rose is))
          (λ no. stayed no ∙ read.faults) (λ is. let (w, among, name_is) = rows_file rows columns (begun is) in (w, more w among, sym name_is)) caused
          (rows_may c rows more names)

  -- ROWS were read too, from this source
  module _ (files later : FilesSeen) (v : V) (columns : List Column) (s : RowsSource) (columns_are : columns ≡ columns_of v)
      (read : BothRead Is Why word.most word.name rows files later v columns s) where
    -- where it was opened, the file comes to what comes of the rows that are left
    pub opened_comes : (left : RowsLeft) (task : Held → Task) → source_outcome s columns ≡ opened left → ((held : Held) → Then held v left (task held))
        → IfSome files.held (λ h. OnFile h (task h))
    opened_comes left task opens comes =
        if_some_both files.held files.held _ (λ h. rows_outcome rows h columns ≡ source_outcome s columns) _ refl
        (λ h l is. rows_come files later v columns columns_are read.file h (source_outcome s columns) (task h) l is
        (subst (λ (x : RowsOutcome). OnRows (rows_name rows) (Then h v) x (task h)) (sym opens) (comes h)))
        read.file.loads read.rows_are

    -- it wasn't opened
    pub rows_unopened : (at : Moment) (i : NoInput) → (i ≡ input.Unread → ⊥) → Opens (source_outcome s columns) files.broken later.broken (Err i)
        → IsCaused i → Performs c OnFile files later at at (input_text (rows_name rows) i) (input_status i)
    rows_unopened at i none opens caused =
        files_lost c OnFile files later reads read.file.held one at (rows_name rows) i
        (if_some_both files.held files.held _ (λ h. rows_outcome rows h columns ≡ source_outcome s columns) _ refl
        (λ h l is. rows_lost files later v columns columns_are read.file later h at (source_outcome s columns) i l is (λ e. absurd (none e)) opens)
        read.file.loads read.rows_are)
        (λ is. if_some_always files.held _ (λ h. inl read.file.ended)) (λ is. absurd (none is)) (λ no. read.file.faults) (λ is. absurd (none is)) caused
        (rows_may c rows more names)
