-- DemoRun: what the command `demo` comes to, from what its calls give; and what is summed up and printed of its run.
use Rattle.std.proofs.Common.{ℕ, ℤ, pos, negsuc, unsigned_abs, ◌+◌, ◌*◌, ◌^◌, ◌+ℤ◌, ◌≡◌, ◌≢◌, ◌≤◌, ◌<◌, refl, sym, ap, subst, ◌∙◌, arith, List, [], ◌∷◌, ◌++◌, length, Option, None, Result, Ok, Err}
use Rattle.vcp_base.specs.Limits.{most_cycles, most_source_bytes}
use Rattle.input_rows.specs.RowsOf.{RowsLeft}
use Rattle.program_maker.specs.MadeRows.{made_rows}
use Rattle.vcp_typed.specs.Fitting.{input_columns}
use Rattle.vcp_typed.specs.SourceRun.{Program}
use Rattle.vcp_inputs.specs.Forms.{demo}
use Rattle.vcp_inputs.specs.declared.refusal.Refusal.{Refusal}
use Rattle.vcp_inputs.specs.declared.refusal.NoInput.{NoInput}
use Rattle.vcp_inputs.specs.declared.refusal.NoInput.TheVariants as input
use Rattle.input_rows.specs.declared.source.RowsSource.TheVariants as origin
use Rattle.vcp_inputs.specs.Files.{Loads, NotLoaded}
use Rattle.vcp_inputs.specs.Lines.{input_status, input_text, refusal_text}
use Rattle.vcp_inputs.specs.Programs.{TypedOf, NotTyped}
use Rattle.vcp_inputs.specs.RowsOutcome.{Opens, RowsOutcome, opened, source_outcome}
use Rattle.vcp_inputs.specs.Abouts.{about, made_name}
use Rattle.vcp_inputs.specs.FileTasks.{OnRows, untaken}
use Rattle.vcp_inputs.specs.Kinds.{Task, refusal_task, runs}
use Rattle.vcp_inputs.specs.Seen.{Still}
use Rattle.vcp_inputs.specs.Performing.{Reaches, done, unmade}
use Rattle.vcp_outside.specs.Seen.{FilesSeen, SinkSeen}
use Rattle.coded_machine.specs.Moments.{Moment}
use Rattle.vcp_core.proofs.Performing.{file_takes}
use Rattle.vcp_outside.specs.declared.failed.Failed.{Failed}
use Rattle.input_rows.specs.declared.fault.RowFault.{RowFault}
use Rattle.op_graph.specs.Lists.{Lists}
use Rattle.coded_machine.specs.declared.cycle_end.CycleEnd.{CycleEnd}
use Rattle.coded_machine.specs.declared.cycle_end.CycleEnd.TheVariants as cycle
use Rattle.vcp_inputs.specs.Reports.{RunEnd, complete, end_read, output_names, refused, stopped}
use Rattle.vcp_inputs.specs.RunKind.{Job, numbers, run_read}
use Rattle.run_report.specs.SummaryLine.{summary_text}
use Rattle.vcp_core.specs.declared.ending.Ending.{Ending}
use Rattle.vcp_core.specs.MachineRun.{EndsAtStop, IsThere, PrintsLast}
use Rattle.vcp_core.proofs.JobRun.{complete-is}
use Rattle.coded_unit.specs.declared.call.Answer.{Answer as Given}
use Rattle.signature_table.specs.Signatures.{Numbers}
use Rattle.coded_machine.specs.Runs.{AllCycles, outcome_over}
use Rattle.vcp_core.proofs.WordsRun.{Counts, cycles-count, cycles-few}
use Rattle.std.proofs.lemmas.Int.{ints}
use Rattle.std.proofs.lemmas.List.{length-append}
use Rattle.std.specs.Int.{saturate_signed, w128}
use Rattle.vcp_core.specs.EndLines.{last_text}
use Rattle.vcp_inputs.specs.Printing.{Report, last_part}
use Rattle.vcp_core.specs.Demo.{AreSums, DemoTask, KeepsSums, first_value, last_value, made_held, sum_of, summary_job, summary_then, summed_text, summed_up}
use Rattle.vcp_core.specs.Shown.{RunCame, Shows}
use Rattle.coded_machine.specs.State.{State}

-- ---- the last value and the sum of rows, as a row comes behind them

last-behind : (rows : List (List ℤ)) (row : List ℤ) → last_value (rows ++ row ∷ []) ≡ first_value row
last-behind [] row = refl
last-behind (a ∷ []) row = refl
last-behind (a ∷ b ∷ rows) row = last-behind (b ∷ rows) row

added : (a b c : ℤ) → a +ℤ (b +ℤ c) ≡ (a +ℤ b) +ℤ c
added a b c = omega (arith, ints)

sum-behind : (rows : List (List ℤ)) (row : List ℤ) → sum_of (rows ++ row ∷ []) ≡ sum_of rows +ℤ first_value row
sum-behind [] row = let v = first_value row in omega (arith, ints)
sum-behind (a ∷ rows) row = ap (λ s. first_value a +ℤ s) (sum-behind rows row) ∙ added (first_value a) (sum_of rows) (first_value row)

-- a sum is no greater than its parts
parts : (a b : ℤ) → unsigned_abs (a +ℤ b) ≤ unsigned_abs a + unsigned_abs b
parts a b = grind (arith, ints)

-- a number of 128 bits is the nearest to itself
saturated : (z : ℤ) → unsigned_abs z < 2 ^ 127 → saturate_signed w128 z ≡ z
saturated (pos n) h = ap pos (omega (arith, h))
saturated (negsuc n) h = ap negsuc (omega (arith, h))

-- a row comes behind these
pub row-behind : (last sum next : ℤ) (rows : List (List ℤ)) (row : List ℤ) → KeepsSums last sum rows → next ≡ saturate_signed w128 (sum +ℤ first_value row)
    → unsigned_abs (first_value row) ≤ 2 ^ 63 → KeepsSums (first_value row) next (rows ++ row ∷ [])
row-behind last sum next rows row kept next_is value few =
    let many : length (rows ++ row ∷ []) ≡ length rows + 1 = length-append rows (row ∷ []) in
    let are : AreSums last sum rows = kept (omega (arith, few, many)) in
    let size : unsigned_abs (sum +ℤ first_value row) ≤ 2 ^ 63 * length rows + 2 ^ 63 = omega (arith, parts sum (first_value row), are.size, value) in
    let is : next ≡ sum +ℤ first_value row = next_is ∙ saturated (sum +ℤ first_value row) (omega (arith, size, few, many)) in
    record {
      last_is = sym (last-behind rows row);
      sum_is = is ∙ ap (λ s. s +ℤ first_value row) are.sum_is ∙ sym (sum-behind rows row);
      size = rw (is, many) (omega (arith, size));
    }

-- no rows have the sum 0
pub no-sums : KeepsSums (pos 0) (pos 0) []
no-sums few = record { last_is = refl; sum_is = refl; size = omega arith }

-- ---- rows

few-by : (e : CycleEnd) (released cycles rows : ℕ) → Counts released cycles e → cycles ≤ rows → released ≤ rows
few-by cycle.Released released cycles rows is few = omega (arith, is, few)
few-by (cycle.Stopped k why) released cycles rows is few = omega (arith, is, few)
few-by (cycle.Refused i f w) released cycles rows is few = omega (arith, is, few)

-- no more rows are released than were left
pub released-few : (g : Lists) (t : Numbers) (rows : List (List ℤ)) (cycles : List (List Given)) → AllCycles g t 0 rows cycles
    → length (outcome_over g t 0 cycles).rows ≤ length rows
released-few g t rows cycles all =
    few-by (outcome_over g t 0 cycles).end _ (length cycles) (length rows) (cycles-count g t 0 rows cycles all) (cycles-few g t 0 rows cycles all)

-- ---- what is printed of a run that is summed up

-- it is the run's last line, unless the run was released
early : (number : ℕ) (names : List (List ℕ)) (n : ℕ) (last sum : ℤ) (e : RunEnd) → e ≢ complete
    → last_text names n e None ≡ summary_then number names n last sum e None
early number names n last sum complete not = absurd (not refl)
early number names n last sum (stopped s) not = refl
early number names n last sum (refused i f w) not = refl

pub ended-early : (m : State) (names : List (List ℕ)) (number : ℕ) (last sum : ℤ) (e : CycleEnd) (a b : SinkSeen) (r : Result Ending Failed)
    → e ≢ cycle.Released → IsThere m.graph e → PrintsLast (last_text names m.cycles (end_read m.graph e) None) m.cycles m.graph e a b r
    → PrintsLast (summed_text m names number last sum e) m.cycles m.graph e a b r
ended-early m names number last sum e a b (Ok end) not there (w, status, stayed, stop) =
    let text = early number names m.cycles last sum (end_read m.graph e) (λ is. not (complete-is m.graph e there is)) in
    (rw text at w, status, stayed, subst (λ (l : List ℕ). EndsAtStop l m.cycles e) text stop)
ended-early m names number last sum e a b (Err why) not there (rose, part) =
    (rose, rw (early number names m.cycles last sum (end_read m.graph e) (λ is. not (complete-is m.graph e there is))) at part)

-- ---- the last part of what is printed

last-by : (number : ℕ) (names : List (List ℕ)) (n : ℕ) (last sum : ℤ) (r : Report) (e : RunEnd) (behind : Option RowFault) → n ≡ length r.rows
    → AreSums last sum r.rows → (e ≡ complete → behind ≡ None) → summary_then number names n last sum e None ≡ last_part (summed_up number) names r e behind
last-by number names n last sum r complete behind is sums h =
    ap (λ k. summary_text number k last sum) is ∙ ap (λ x. summary_text number (length r.rows) x sum) sums.last_is
    ∙ ap (λ x. summary_text number (length r.rows) (last_value r.rows) x) sums.sum_is
    ∙ ap (λ (b : Option RowFault). last_part (summed_up number) names r complete b) (sym (h refl))
last-by number names n last sum r (stopped s) behind is sums h = ap (λ k. summary_then number names k last sum (stopped s) None) is
last-by number names n last sum r (refused i f w) behind is sums h = ap (λ k. summary_then number names k last sum (refused i f w) None) is

-- so this is what is printed of a run that is summed up
module _ {R : Type 0} (Keeps : R → List (List ℤ) → Type 0) (kept : R) (last sum : R → ℤ)
    (sums-are : (now : R) (rows : List (List ℤ)) → Keeps now rows → KeepsSums (last now) (sum now) rows) (none : Keeps kept []) (number : ℕ) (p : Program)
    (left : RowsLeft) (g : Lists) (few : length left.rows ≤ most_cycles) where
  abbrev job : Job
  job = summary_job number p left

  summed-last : (now : R) (cycles : List (List Given)) (m : State) (e : CycleEnd) → RunCame Keeps kept now job g cycles m e
      → summed_text m (output_names p) number (last now) (sum now) e
      ≡ last_part (summed_up number) (output_names p) (run_read job g cycles) (end_read g e) left.refusal
  summed-last now cycles m e came =
      let released = released-few g (numbers job g) left.rows cycles came.came.all in
      let sums = sums-are now (outcome_over g (numbers job g) 0 cycles).rows (came.keeps [] none) (omega (arith, released, few)) in
      ap (λ (h : Lists). summary_then number (output_names p) m.cycles (last now) (sum now) (end_read h e) None) came.machine.graph
      ∙ last-by number (output_names p) m.cycles (last now) (sum now) (run_read job g cycles) (end_read g e) left.refusal came.machine.cycles sums
      (λ c. came.all_taken (complete-is g e came.there c))

  pub summed-shown : Shows (λ names. []) (λ cycle row. []) (λ now m names e. summed_text m names number (last now) (sum now) e) Keeps kept job g
  summed-shown = record { first_is = refl; row_is = refl; words_are = λ cycles right all. refl; last_is = summed-last }

-- ---- what the command comes to

module _ (number : ℕ) where
  -- what the made rows come to, for the columns of a program
  abbrev pub made_outcome : Program → RowsOutcome
  made_outcome p = source_outcome (origin.File (made_rows number)) (input_columns p.slots)

  -- a run of a program on rows that are left
  abbrev Runs : Program → RowsLeft → Task → Type 0
  Runs p left task = task ≡ runs (summary_job number p left)

  -- what a program comes to
  abbrev On : Program → Task → Type 0
  On p = OnRows made_name (Runs p) (made_outcome p)

  made_comes : (p : Program) (task : Task) (b n : ℕ) → Loads TypedOf NotTyped (made_held number) made_name most_source_bytes b n (Ok p) → On p task
      → DemoTask number task
  made_comes p task b n loads comes = file_takes TypedOf NotTyped most_source_bytes On made_name (made_held number) p task loads comes

  -- the rows were opened
  pub opened_comes : (p : Program) (left : RowsLeft) (b n : ℕ) → Loads TypedOf NotTyped (made_held number) made_name most_source_bytes b n (Ok p)
      → made_outcome p ≡ opened left → DemoTask number (runs (summary_job number p left))
  opened_comes p left b n loads is =
      made_comes p (runs (summary_job number p left)) b n loads
      (subst (λ (o : RowsOutcome). OnRows made_name (Runs p) o (runs (summary_job number p left))) (sym is) refl)

  module _ (files : FilesSeen) (before after : Moment) (s : Still before after) where
    -- a text is refused, and nothing was done
    refuses : (r : Refusal) → DemoTask number (refusal_task made_name r) →
        Reaches (about (demo number)) (DemoTask number) files files before after (refusal_text made_name r) 1
    refuses r comes =
        done (refusal_task made_name r) (record { out = []; err = refusal_text made_name r; status = 1 }) comes (s.unit, refl) s.out refl refl

    -- the source isn't taken
    pub source_lost : (i : NoInput) (b n : ℕ) → (i ≡ input.Unread → ⊥) → NotLoaded NotTyped (made_held number) made_name most_source_bytes b n i →
        Reaches (about (demo number)) (DemoTask number) files files before after (input_text made_name i) (input_status i)
    source_lost input.Unread b n read h = absurd (read refl)
    source_lost (input.Refused r) b n read (text, found, why) = refuses r (untaken text r found why)
    source_lost input.Memory b n read h = unmade s refl refl

    -- the rows aren't opened, of a source that was taken
    pub rows_lost : (p : Program) (i : NoInput) (b n : ℕ) → Loads TypedOf NotTyped (made_held number) made_name most_source_bytes b n (Ok p)
        → (i ≡ input.Unread → ⊥) → Opens (made_outcome p) b n (Err i) →
        Reaches (about (demo number)) (DemoTask number) files files before after (input_text made_name i) (input_status i)
    rows_lost p input.Unread b n loads read is = absurd (read refl)
    rows_lost p (input.Refused r) b n loads read is =
        refuses r
        (made_comes p (refusal_task made_name r) b n loads
        (subst (λ (o : RowsOutcome). OnRows made_name (Runs p) o (refusal_task made_name r)) (sym is) refl))
    rows_lost p input.Memory b n loads read h = unmade s refl refl
