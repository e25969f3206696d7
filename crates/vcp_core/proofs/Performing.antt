-- How far a command comes and what it keeps, from what its calls answer.
use Rattle.std.proofs.Common.{ℕ, ◌≡◌, ◌≢◌, ◌≤◌, ◌⊎◌, length, inl, inr, true, false, refl, sym, ap, subst, ◌∙◌, List, [], ◌∷◌, ◌++◌, Option, Some, Result, Ok, Err, IfSome, arith}
use Rattle.std.specs.Io.KnownBytes.{IsAtEnd}
use Rattle.vcp_base.specs.Limits.{most_source_bytes}
use Rattle.vcp_outside.specs.Counts.{Rose}
use Rattle.vcp_outside.specs.Held.{Held}
use Rattle.vcp_outside.specs.Seen.{FilesSeen, SinkSeen}
use Rattle.vcp_outside.specs.Written.{AppendsPart, WritesTo}
use Rattle.input_rows.specs.declared.fault.RowFault.{RowFault}
use Rattle.input_rows.specs.declared.fault.RowFault.TheVariants as row
use Rattle.vcp_typed.specs.SourceRun.{Program}
use Rattle.image_file.specs.Image.{image_of}
use Rattle.coded_unit.specs.Seen.{UnitSeen}
use Rattle.coded_machine.specs.Moments.{Moment, moment}
use Rattle.coded_machine.specs.Stops.{TellsSomeStop}
use Rattle.coded_machine.specs.declared.rows.fault.RunFault.{RunFault}
use Rattle.coded_machine.specs.declared.rows.fault.RunFault.TheVariants as run
use Rattle.run_report.specs.Lines.{stop_text}
use Rattle.vcp_inputs.specs.declared.refusal.Refusal.{Refusal}
use Rattle.vcp_inputs.specs.declared.refusal.Refusal.TheVariants as refusal
use Rattle.vcp_inputs.specs.declared.refusal.NoInput.{NoInput}
use Rattle.vcp_inputs.specs.declared.refusal.NoInput.TheVariants as input
use Rattle.vcp_inputs.specs.Files.{LeavesLong, NotLoaded}
use Rattle.vcp_inputs.specs.Forms.{Code, compile}
use Rattle.vcp_inputs.specs.GraphsOf.{IsImageFor, image_answer}
use Rattle.vcp_inputs.specs.Programs.{NotTyped, TypedOf}
use Rattle.vcp_inputs.specs.Lines.{input_text, input_status, memory_text, refusal_text, rows_text, write_fault_text}
use Rattle.vcp_inputs.specs.Refusals.{IsCaused, no_rows}
use Rattle.vcp_inputs.proofs.Causes.{row_caused}
use Rattle.vcp_inputs.specs.Answer.{printed}
use Rattle.vcp_inputs.specs.Abouts.{Among, About, FileWord, about}
use Rattle.vcp_inputs.specs.Clauses.{IsEnd, IsLine, IsTooLong, MayHold, MayName, NamesFile}
use Rattle.vcp_inputs.specs.FileTasks.{TakenFile, missing, taken, untaken}
use Rattle.vcp_inputs.specs.Kinds.{Task, compiles, lacks, lack_answer, prints, refusal_task, runs, Done, Left}
use Rattle.vcp_inputs.specs.Seen.{Still}
use Rattle.vcp_inputs.specs.Performing.{Reaches, done, cut, unread, unmade, Performs}
use Rattle.vcp_inputs.specs.Performing as reached
use Rattle.vcp_inputs.specs.RunKind.{Job}
use Rattle.vcp_core.specs.declared.ending.Ending.{Ending}
use Rattle.vcp_core.specs.declared.ending.Ending.TheVariants as end
use Rattle.vcp_core.specs.MachineRun.{RunsTo}
use Rattle.vcp_core.specs.Faults.{text_end}
use Rattle.vcp_core.specs.Loading.{FirstRead}
use Rattle.vcp_core.specs.Reach.{end_status, run_code, run_line, told_line, told_status}
use Rattle.vcp_core.specs.Tasks.{TaskOf}
use Rattle.vcp_core.proofs.Facts.{if_some_always, if_some_weaker, if_some_when}
use Rattle.vcp_core.proofs.PlainTurns.{appends-nothing}

-- ---- the statuses of inputs that aren't there

not_input : (i : NoInput) (n : ℕ) → input_status i ≡ n → n ≢ 1 → n ≢ 5 → n ≢ 7 → ⊥
not_input input.Unread n h one five seven = five (sym h)
not_input (input.Refused r) n h one five seven = one (sym h)
not_input input.Memory n h one five seven = seven (sym h)

unread_is : (i : NoInput) → input_status i ≡ 5 → i ≡ input.Unread
unread_is input.Unread h = refl
unread_is (input.Refused r) h = absurd (omega (arith, h))
unread_is input.Memory h = absurd (omega (arith, h))

not_two : (i : NoInput) → input_status i ≡ 2 → ⊥
not_two i h = not_input i 2 h (λ x. omega (arith, x)) (λ x. omega (arith, x)) (λ x. omega (arith, x))

not_three : (i : NoInput) → input_status i ≡ 3 → ⊥
not_three i h = not_input i 3 h (λ x. omega (arith, x)) (λ x. omega (arith, x)) (λ x. omega (arith, x))

not_six : (i : NoInput) → input_status i ≡ 6 → ⊥
not_six i h = not_input i 6 h (λ x. omega (arith, x)) (λ x. omega (arith, x)) (λ x. omega (arith, x))

-- an end is none of the other statuses
end_not : (code n : ℕ) → IsEnd code → code ≡ n → (0 ≡ n → ⊥) → (2 ≡ n → ⊥) → (3 ≡ n → ⊥) → ⊥
end_not code n (inl is) other zero two three = zero (sym is ∙ other)
end_not code n (inr (inl is)) other zero two three = two (sym is ∙ other)
end_not code n (inr (inr is)) other zero two three = three (sym is ∙ other)

no_end : (i : NoInput) → IsEnd (input_status i) → ⊥
no_end i (inl h) = not_input i 0 h (λ x. omega (arith, x)) (λ x. omega (arith, x)) (λ x. omega (arith, x))
no_end i (inr (inl h)) = not_two i h
no_end i (inr (inr h)) = not_three i h

-- a row is never unread
row_read : (f : RowFault) → no_rows f ≡ input.Unread → ⊥
row_read row.Header h = cc
row_read (row.Width n) h = cc
row_read (row.Cell n m) h = cc
row_read row.Form h = cc
row_read row.Cycles h = cc
row_read row.Cycle h = cc
row_read row.Memory h = cc

-- the line and the status of one that is refused
pub row_told : (name : List ℕ) (f : RowFault) → f ≢ row.Memory → (input_text name (no_rows f) ≡ rows_text name f) × (input_status (no_rows f) ≡ 1)
row_told name row.Header known = (refl, refl)
row_told name (row.Width n) known = (refl, refl)
row_told name (row.Cell n m) known = (refl, refl)
row_told name row.Form known = (refl, refl)
row_told name row.Cycles known = (refl, refl)
row_told name row.Cycle known = (refl, refl)
row_told name row.Memory known = absurd (known refl)

-- ---- the statuses of runs

two_stopped : (r : Result Ending RunFault) → run_code r ≡ 2 → r ≡ Ok end.Stopped
two_stopped (Ok end.Done) h = absurd (omega (arith, h))
two_stopped (Ok end.Stopped) h = refl
two_stopped (Ok end.Refused) h = absurd (omega (arith, h))
two_stopped (Err (run.Rows f)) h = absurd (not_two (no_rows f) h)
two_stopped (Err run.Write) h = absurd (omega (arith, h))
two_stopped (Err run.Memory) h = absurd (omega (arith, h))

three_refused : (r : Result Ending RunFault) → run_code r ≡ 3 → r ≡ Ok end.Refused
three_refused (Ok end.Done) h = absurd (omega (arith, h))
three_refused (Ok end.Stopped) h = absurd (omega (arith, h))
three_refused (Ok end.Refused) h = refl
three_refused (Err (run.Rows f)) h = absurd (not_three (no_rows f) h)
three_refused (Err run.Write) h = absurd (omega (arith, h))
three_refused (Err run.Memory) h = absurd (omega (arith, h))

never_five : (r : Result Ending RunFault) → run_code r ≡ 5 → ⊥
never_five (Ok end.Done) h = omega (arith, h)
never_five (Ok end.Stopped) h = omega (arith, h)
never_five (Ok end.Refused) h = omega (arith, h)
never_five (Err (run.Rows f)) h = row_read f (unread_is (no_rows f) h)
never_five (Err run.Write) h = omega (arith, h)
never_five (Err run.Memory) h = omega (arith, h)

six_write : (r : Result Ending RunFault) → run_code r ≡ 6 → r ≡ Err run.Write
six_write (Ok end.Done) h = absurd (omega (arith, h))
six_write (Ok end.Stopped) h = absurd (omega (arith, h))
six_write (Ok end.Refused) h = absurd (omega (arith, h))
six_write (Err (run.Rows f)) h = absurd (not_six (no_rows f) h)
six_write (Err run.Write) h = refl
six_write (Err run.Memory) h = absurd (omega (arith, h))

-- ---- the statuses of a command

among_front : (x : ℕ) (xs ys : List ℕ) → Among x xs → Among x (xs ++ ys)
among_front x [] ys h = absurd h
among_front x (y ∷ xs) ys (inl is) = inl is
among_front x (y ∷ xs) ys (inr h) = inr (among_front x xs ys h)

among_behind : (x : ℕ) (xs ys : List ℕ) → Among x ys → Among x (xs ++ ys)
among_behind x [] ys h = h
among_behind x (y ∷ xs) ys h = inr (among_behind x xs ys h)

module _ (ends : List ℕ) where
  abbrev all_ends : List ℕ
  all_ends = ends ++ 5 ∷ 6 ∷ 7 ∷ []

  six_among : Among 6 all_ends
  six_among = among_behind 6 ends (5 ∷ 6 ∷ 7 ∷ []) (inr (inl refl))

  seven_among : Among 7 all_ends
  seven_among = among_behind 7 ends (5 ∷ 6 ∷ 7 ∷ []) (inr (inr (inl refl)))

  module _ (one : Among 1 ends) where
    input_among : (i : NoInput) → Among (input_status i) all_ends
    input_among input.Unread = among_behind 5 ends (5 ∷ 6 ∷ 7 ∷ []) (inl refl)
    input_among (input.Refused r) = among_front 1 ends (5 ∷ 6 ∷ 7 ∷ []) one
    input_among input.Memory = seven_among

    run_among : (r : Result Ending RunFault) → ((e : Ending) → r ≡ Ok e → Among (end_status e) ends) → Among (run_code r) all_ends
    run_among (Ok e) own = among_front (end_status e) ends (5 ∷ 6 ∷ 7 ∷ []) (own e refl)
    run_among (Err (run.Rows f)) own = input_among (no_rows f)
    run_among (Err run.Write) own = six_among
    run_among (Err run.Memory) own = seven_among

-- ---- the line of each status

module _ (c : About) where
  -- none where the command came to its end
  pub no_line : (code : ℕ) → IsEnd code → IsLine c code []
  no_line code end = record {
    none = λ is. refl;
    refused = λ is. absurd (end_not code _ end is (λ e. omega (arith, e)) (λ e. omega (arith, e)) (λ e. omega (arith, e)));
    file = λ is. absurd (end_not code _ end is (λ e. omega (arith, e)) (λ e. omega (arith, e)) (λ e. omega (arith, e)));
    output = λ is. absurd (end_not code _ end is (λ e. omega (arith, e)) (λ e. omega (arith, e)) (λ e. omega (arith, e)));
    memory = λ is. absurd (end_not code _ end is (λ e. omega (arith, e)) (λ e. omega (arith, e)) (λ e. omega (arith, e)));
  }

  write_line : IsLine c 6 write_fault_text
  write_line = record {
    none = λ end. absurd (end_not 6 6 end refl (λ e. omega (arith, e)) (λ e. omega (arith, e)) (λ e. omega (arith, e)));
    refused = λ is. absurd (omega (arith, is));
    file = λ is. absurd (omega (arith, is));
    output = λ is. refl;
    memory = λ is. absurd (omega (arith, is));
  }

  memory_line : IsLine c 7 memory_text
  memory_line = record {
    none = λ end. absurd (no_end input.Memory end);
    refused = λ is. absurd (omega (arith, is));
    file = λ is. absurd (omega (arith, is));
    output = λ is. absurd (omega (arith, is));
    memory = λ is. refl;
  }

  -- that of an input that isn't there; one that is unread is a file that the command reads
  input_line : (name : List ℕ) (i : NoInput) → IsCaused i → MayName c name → (i ≡ input.Unread → NamesFile c name)
      → IsLine c (input_status i) (input_text name i)
  input_line name input.Unread caused may named = record {
    none = λ end. absurd (no_end input.Unread end);
    refused = λ is. absurd (omega (arith, is));
    file = λ is. (name, named refl, refl);
    output = λ is. absurd (omega (arith, is));
    memory = λ is. absurd (omega (arith, is));
  }
  input_line name (input.Refused r) caused may named = record {
    none = λ end. absurd (no_end (input.Refused r) end);
    refused = λ is. (name, r, may, caused, refl);
    file = λ is. absurd (omega (arith, is));
    output = λ is. absurd (omega (arith, is));
    memory = λ is. absurd (omega (arith, is));
  }
  input_line name input.Memory caused may named = memory_line

  run_lines : (name : List ℕ) → MayName c name → (r : Result Ending RunFault) → IsLine c (run_code r) (run_line name r)
  run_lines name may (Ok end.Done) = no_line 0 (inl refl)
  run_lines name may (Ok end.Stopped) = no_line 2 (inr (inl refl))
  run_lines name may (Ok end.Refused) = no_line 3 (inr (inr refl))
  run_lines name may (Err (run.Rows f)) = input_line name (no_rows f) (row_caused f) may (λ e. absurd (row_read f e))
  run_lines name may (Err run.Write) = write_line
  run_lines name may (Err run.Memory) = memory_line

-- each end of a run is one of its own
pub run_ends : (e : Ending) → Among (end_status e) (0 ∷ 1 ∷ 2 ∷ 3 ∷ [])
run_ends end.Done = inl refl
run_ends end.Stopped = inr (inr (inl refl))
run_ends end.Refused = inr (inr (inr (inl refl)))

-- ---- what is told

pub of_told : (o : Option Held) (P : Held → Type 0) → IfSome o P → (h : Held) → o ≡ Some h → P h
of_told o P told h is = subst (λ (x : Option Held). IfSome x P) is told

-- a command that reads files knows what they hold where they tell it
held_is : (c : About) (o : Option Held) (h : Held) → c.files ≢ [] → MayHold c o h → o ≡ Some h
held_is c o h reads (inl is) = is
held_is c o h reads (inr none) = absurd (reads none)

-- ---- how far it comes

-- nothing was done
pub still : (m : Moment) → Still m m
still m = record { unit = refl; out = appends-nothing m.out.written }

module _ (c : About) (files files_after : FilesSeen) (before after : Moment) where
  -- a file isn't taken, and nothing was done
  module _ {V : Type 0} (Is : List ℕ → V → Type 0) (Why : List ℕ → Refusal → Type 0) (most : ℕ) (Then : V → Task → Type 0) (name : List ℕ) (held : Held)
      (word : FileWord) (named : Among word c.files) (name_is : word.name ≡ name) (s : Still before after) where
    pub file_lost : (i : NoInput) → NotLoaded Why held name most files.broken files_after.broken i →
        Reaches c (λ task. TakenFile Is Why most Then name (held name) task) files files_after before after (input_text name i) (input_status i)
    file_lost input.Unread (inl none) = done (lacks name) (lack_answer name) (missing none) (s.unit, refl) s.out refl refl
    file_lost input.Unread (inr rose) =
        unread word named rose s (subst (λ (n : List ℕ). input_text name input.Unread ≡ input_text n input.Unread) (sym name_is) refl) refl
    file_lost (input.Refused r) (text, found, why) =
        done (refusal_task name r) (record { out = []; err = refusal_text name r; status = 1 }) (untaken text r found why) (s.unit, refl) s.out refl refl
    file_lost input.Memory h = unmade s refl refl

  -- a run of a job came so far
  pub ran : (Comes : Task → Type 0) (j : Job) (r : Result Ending RunFault) → c.late ≡ true → Comes (runs j) →
      (r ≡ Err run.Write → Rose before.out.faults after.out.faults) → RunsTo j before after r →
      Reaches c Comes files files_after before after (run_line j.rows_name r) (run_code r)
  ran Comes j (Ok e) late comes rose (x, d, w, line, status) = done (runs j) x comes d w line status
  ran Comes j (Err (run.Rows f)) late comes rose (x, d, w, line, status) = done (runs j) x comes d w line status
  ran Comes j (Err run.Write) late comes rose left = cut (runs j) comes left (rose refl) refl refl
  ran Comes j (Err run.Memory) late comes rose (inl s) = unmade s refl refl
  ran Comes j (Err run.Memory) late comes rose (inr left) = reached.wanting (runs j) comes left late refl refl

bytes_or_not : (r : Refusal) → (r ≡ refusal.Bytes) ⊎ (r ≢ refusal.Bytes)
bytes_or_not refusal.Bytes = inl refl
bytes_or_not (refusal.Lexing f) = inr (λ is. cc)
bytes_or_not (refusal.Parsing f) = inr (λ is. cc)
bytes_or_not (refusal.Typing f) = inr (λ is. cc)
bytes_or_not (refusal.Listing f) = inr (λ is. cc)
bytes_or_not (refusal.Rows f) = inr (λ is. cc)
bytes_or_not (refusal.Image f) = inr (λ is. cc)
bytes_or_not refusal.Audit = inr (λ is. cc)
bytes_or_not refusal.Trace = inr (λ is. cc)
bytes_or_not refusal.Seed = inr (λ is. cc)
bytes_or_not (refusal.Script f) = inr (λ is. cc)
bytes_or_not (refusal.Wire f) = inr (λ is. cc)

-- where it is refused, it was read to its end, or it is too long
pub file_taken : (c : About) (name : List ℕ) (held : Held) (word : FileWord) (named : Among word c.files) (name_is : word.name ≡ name) (i : NoInput)
    (rest : Option (List ℕ)) → ((r : Refusal) → i ≡ input.Refused r → r ≢ refusal.Bytes → IsAtEnd rest)
    → (i ≡ input.Refused refusal.Bytes → LeavesLong name word.most rest held) → input_status i ≡ 1 → IsAtEnd rest ⊎ IsTooLong c held rest (input_text name i)
file_taken c name held word named name_is input.Unread rest whole left is = absurd (omega (arith, is))
file_taken c name held word named name_is (input.Refused r) rest whole left is =
    elim (bytes_or_not r) [
      | inl same ↦
          let (bytes, here, more, rest_is) = left (ap input.Refused same) in
          inr (record {
            word = word;
            named = named;
            bytes = bytes;
            found = subst (λ (x : List ℕ). held x ≡ Some bytes) (sym name_is) here;
            long = more;
            left = rest_is;
            line_is = ap (refusal_text name) same ∙ ap (λ (x : List ℕ). refusal_text x refusal.Bytes) (sym name_is);
          })
      | inr other ↦ inl (whole r refl other)
    ]
file_taken c name held word named name_is input.Memory rest whole left is = absurd (omega (arith, is))

-- the file was taken
pub file_takes : {V : Type 0} (Is : List ℕ → V → Type 0) (Why : List ℕ → Refusal → Type 0) (most : ℕ) (Then : V → Task → Type 0) (name : List ℕ)
    (held : Held) (v : V) (task : Task) → ((text : List ℕ) × (held name ≡ Some text) × (length text ≤ most) × Is text v) → Then v task
    → TakenFile Is Why most Then name (held name) task
file_takes Is Why most Then name held v task (text, found, few, is) then = taken text v task found few is then

-- ---- how far it comes and what it keeps: of any command

module _ (c : About) (Comes : Held → Task → Type 0) (files later : FilesSeen) (held : later.held ≡ files.held) (stay : c.files ≡ [] → later ≡ files) where
  -- memory was wanted, and nothing was done
  pub wanted_performs : (before after : Moment) → Still before after → later.faults ≡ files.faults → after.out.faults ≡ before.out.faults
      → Performs c Comes files later before after memory_text 7
  wanted_performs before after s read written = record {
    reaches = λ h may. unmade s refl refl;
    statuses = seven_among c.ends;
    told = memory_line c;
    held = held;
    unit = λ no. s.unit;
    stay = stay;
    ended = λ some is. absurd (no_end input.Memory is);
    taken = λ some is. absurd (omega (arith, is));
    stopped = λ calls is. absurd (omega (arith, is));
    refused = λ is. absurd (omega (arith, is));
    read = λ is. absurd (omega (arith, is));
    write = λ is. absurd (omega (arith, is));
    no_read_fault = λ no. read;
    no_write_fault = λ no. written;
  }

  module _ (one : Among 1 c.ends) where
    -- there is nothing of an input, and nothing was done
    pub input_performs : (at : Moment) (name : List ℕ) (i : NoInput) →
        ((h : Held) → MayHold c files.held h → Reaches c (Comes h) files later at at (input_text name i) (input_status i)) →
        (c.files ≢ [] → input_status i ≡ 1 → IfSome files.held (λ h. IsAtEnd later.rest ⊎ IsTooLong c h later.rest (input_text name i))) →
        (i ≡ input.Unread → Rose files.faults later.faults) → (i ≢ input.Unread → later.faults ≡ files.faults) → (i ≡ input.Unread → NamesFile c name)
        → IsCaused i → MayName c name → Performs c Comes files later at at (input_text name i) (input_status i)
    input_performs at name i far all_taken rose stayed named caused may = record {
      reaches = far;
      statuses = input_among c.ends one i;
      told = input_line c name i caused may named;
      held = held;
      unit = λ no. refl;
      stay = stay;
      ended = λ some is. absurd (no_end i is);
      taken = all_taken;
      stopped = λ calls two. absurd (not_two i two);
      refused = λ three. absurd (not_three i three);
      read = λ five. rose (unread_is i five);
      write = λ six. absurd (not_six i six);
      no_read_fault = λ no. stayed (λ is. no (ap input_status is));
      no_write_fault = λ no. refl;
    }

    -- a run was done, or given up, behind all files
    pub run_performs : (before after : Moment) (name : List ℕ) (r : Result Ending RunFault) → ((e : Ending) → r ≡ Ok e → Among (end_status e) c.ends) →
        ((h : Held) → MayHold c files.held h → Reaches c (Comes h) files later before after (run_line name r) (run_code r)) →
        (c.files ≢ [] → IsAtEnd later.rest) → (c.calls ≡ false → after.unit ≡ before.unit) →
        (c.calls ≡ true → r ≡ Ok end.Stopped → TellsSomeStop stop_text before after) →
        (r ≡ Ok end.Refused → Rose before.unit.wrong after.unit.wrong) → (r ≡ Err run.Write → Rose before.out.faults after.out.faults) →
        later.faults ≡ files.faults → (r ≢ Err run.Write → after.out.faults ≡ before.out.faults) → MayName c name →
        Performs c Comes files later before after (run_line name r) (run_code r)
    run_performs before after name r own far end_is unit stopped refused write read written may = record {
      reaches = far;
      statuses = run_among c.ends one r own;
      told = run_lines c name may r;
      held = held;
      unit = unit;
      stay = stay;
      ended = λ some is. end_is some;
      taken = λ some is. if_some_always files.held _ (λ h. inl (end_is some));
      stopped = λ calls two. stopped calls (two_stopped r two);
      refused = λ three. refused (three_refused r three);
      read = λ five. absurd (never_five r five);
      write = λ six. write (six_write r six);
      no_read_fault = λ no. read;
      no_write_fault = λ no. written (λ is. no (ap run_code is));
    }

-- ---- of a command that reads files

module _ (c : About) (Comes : Held → Task → Type 0) (files later : FilesSeen) (reads : c.files ≢ []) (held : later.held ≡ files.held) where
  pub on_held : (P : Held → Type 0) → IfSome files.held P → (h : Held) → MayHold c files.held h → P h
  on_held P told h may = of_told files.held P told h (held_is c files.held h reads may)

  -- memory was wanted, and nothing was done
  pub files_wanted : (at : Moment) → later.faults ≡ files.faults → Performs c Comes files later at at memory_text 7
  files_wanted at read = wanted_performs c Comes files later held (λ none. absurd (reads none)) at at (still at) read refl

  -- there is nothing of one, or of ROWS, and nothing was done
  pub files_lost : Among 1 c.ends → (at : Moment) (name : List ℕ) (i : NoInput)
      → IfSome files.held (λ h. Reaches c (Comes h) files later at at (input_text name i) (input_status i)) →
      (input_status i ≡ 1 → IfSome files.held (λ h. IsAtEnd later.rest ⊎ IsTooLong c h later.rest (input_text name i))) →
      (i ≡ input.Unread → Rose files.faults later.faults) → (i ≢ input.Unread → later.faults ≡ files.faults) → (i ≡ input.Unread → NamesFile c name) →
      IsCaused i → MayName c name → Performs c Comes files later at at (input_text name i) (input_status i)
  files_lost one at name i far all_taken rose stayed named caused may =
      input_performs c Comes files later held (λ none. absurd (reads none)) one at name i
      (on_held (λ h. Reaches c (Comes h) files later at at (input_text name i) (input_status i)) far) (λ some. all_taken) rose stayed named caused may

  -- a run was done, or given up
  pub files_run : Among 1 c.ends → (before after : Moment) (name : List ℕ) (r : Result Ending RunFault) →
      ((e : Ending) → r ≡ Ok e → Among (end_status e) c.ends)
      → IfSome files.held (λ h. Reaches c (Comes h) files later before after (run_line name r) (run_code r)) → IsAtEnd later.rest →
      (c.calls ≡ false → after.unit ≡ before.unit) → (c.calls ≡ true → r ≡ Ok end.Stopped → TellsSomeStop stop_text before after) →
      (r ≡ Ok end.Refused → Rose before.unit.wrong after.unit.wrong) → (r ≡ Err run.Write → Rose before.out.faults after.out.faults) →
      later.faults ≡ files.faults → (r ≢ Err run.Write → after.out.faults ≡ before.out.faults) → MayName c name →
      Performs c Comes files later before after (run_line name r) (run_code r)
  files_run one before after name r own far end_is unit stopped refused write read written may =
      run_performs c Comes files later held (λ none. absurd (reads none)) one before after name r own
      (on_held (λ h. Reaches c (Comes h) files later before after (run_line name r) (run_code r)) far) (λ some. end_is) unit stopped refused write read
      written may

  module _ (before after : Moment) (end_is : IsAtEnd later.rest) (read : later.faults ≡ files.faults) where
    -- all was written
    pub whole_performs : Among 0 c.ends → (c.calls ≡ false → after.unit ≡ before.unit)
        → IfSome files.held (λ h. Reaches c (Comes h) files later before after [] 0) → after.out.faults ≡ before.out.faults
        → Performs c Comes files later before after [] 0
    whole_performs zero unit far written = record {
      reaches = on_held (λ h. Reaches c (Comes h) files later before after [] 0) far;
      statuses = among_front 0 c.ends (5 ∷ 6 ∷ 7 ∷ []) zero;
      told = no_line c 0 (inl refl);
      held = held;
      unit = unit;
      stay = λ none. absurd (reads none);
      ended = λ some is. end_is;
      taken = λ some is. absurd (omega (arith, is));
      stopped = λ calls is. absurd (omega (arith, is));
      refused = λ is. absurd (omega (arith, is));
      read = λ is. absurd (omega (arith, is));
      write = λ is. absurd (omega (arith, is));
      no_read_fault = λ no. read;
      no_write_fault = λ no. written;
    }

    -- a write failed
    pub part_performs : (c.calls ≡ false → after.unit ≡ before.unit) → Rose before.out.faults after.out.faults
        → IfSome files.held (λ h. Reaches c (Comes h) files later before after write_fault_text 6) →
        Performs c Comes files later before after write_fault_text 6
    part_performs unit rose far = record {
      reaches = on_held (λ h. Reaches c (Comes h) files later before after write_fault_text 6) far;
      statuses = six_among c.ends;
      told = write_line c;
      held = held;
      unit = unit;
      stay = λ none. absurd (reads none);
      ended = λ some is. end_is;
      taken = λ some is. absurd (omega (arith, is));
      stopped = λ calls is. absurd (omega (arith, is));
      refused = λ is. absurd (omega (arith, is));
      read = λ is. absurd (omega (arith, is));
      write = λ is. rose;
      no_read_fault = λ no. read;
      no_write_fault = λ no. absurd (no refl);
    }

    -- memory was wanted when some was written
    pub short_performs : (c.calls ≡ false → after.unit ≡ before.unit)
        → IfSome files.held (λ h. Reaches c (Comes h) files later before after memory_text 7) → after.out.faults ≡ before.out.faults
        → Performs c Comes files later before after memory_text 7
    short_performs unit far written = record {
      reaches = on_held (λ h. Reaches c (Comes h) files later before after memory_text 7) far;
      statuses = seven_among c.ends;
      told = memory_line c;
      held = held;
      unit = unit;
      stay = λ none. absurd (reads none);
      ended = λ some is. end_is;
      taken = λ some is. absurd (omega (arith, is));
      stopped = λ calls is. absurd (omega (arith, is));
      refused = λ is. absurd (omega (arith, is));
      read = λ is. absurd (omega (arith, is));
      write = λ is. absurd (omega (arith, is));
      no_read_fault = λ no. read;
      no_write_fault = λ no. written;
    }

    -- of a command without a unit that prints: it wrote its text, or the sink failed
    pub quiet_ended : {E : Type 0} → after.unit ≡ before.unit → Among 0 c.ends → (text : List ℕ) →
        IfSome files.held (λ h. (task : Task) × Comes h task × Done task before.unit after.unit (printed text)
        × (AppendsPart before.out.written after.out.written text → Left task AppendsPart before after)) →
        (result : Result (Unit {0}) E) → WritesTo before.out after.out text result →
        Performs c Comes files later before after (told_line (text_end result)) (told_status (text_end result))
    quiet_ended unit zero text comes (Ok _) w =
        whole_performs zero (λ no. unit)
        (if_some_weaker files.held _ _ (λ h (task, is, d, left). done task (printed text) is d w.whole refl refl) comes) w.cause.stayed
    quiet_ended unit zero text comes (Err e) w =
        part_performs (λ no. unit) w.cause.failed
        (if_some_weaker files.held _ _ (λ h (task, is, d, left). cut task is (left w.part) w.cause.failed refl refl) comes)

-- the one file isn't taken, or the first
pub quiet_lost : (c : About) {V : Type 0} (Is : List ℕ → V → Type 0) (Why : List ℕ → Refusal → Type 0) (Then : Held → V → Task → Type 0) (word : FileWord)
    (files later : FilesSeen) (at : Moment) (i : NoInput) → Among word c.files → c.files ≢ [] → Among 1 c.ends → later.held ≡ files.held
    → IfSome files.held (λ h. NotLoaded Why h word.name word.most files.broken later.broken i)
    → ((r : Refusal) → i ≡ input.Refused r → r ≢ refusal.Bytes → IsAtEnd later.rest) → (i ≡ input.Refused refusal.Bytes → IfSome files.held (LeavesLong word.name word.most later.rest))
    → (i ≡ input.Unread → Rose files.faults later.faults) → (i ≢ input.Unread → later.faults ≡ files.faults) → IsCaused i →
    Performs c (λ h task. TakenFile Is Why word.most (Then h) word.name (h word.name) task) files later at at (input_text word.name i) (input_status i)
quiet_lost c Is Why Then word files later at i named reads one held lost whole left rose stayed caused =
    files_lost c (λ h task. TakenFile Is Why word.most (Then h) word.name (h word.name) task) files later reads held one at word.name i
    (if_some_weaker files.held _ _ (λ h l. file_lost c files later at at Is Why word.most (Then h) word.name h word named refl (still at) i l) lost)
    (λ is. if_some_weaker files.held _ _ (λ h at_most. file_taken c word.name h word named refl i later.rest whole at_most is)
    (if_some_when (i ≡ input.Refused refusal.Bytes) files.held files.held (LeavesLong word.name word.most later.rest) refl left))
    rose stayed (λ is. (word, named, refl)) caused (inl (word, named, refl))

-- the one file was read, and the text of its value was written
pub quiet_printed : (c : About) {V E : Type 0} (Is : List ℕ → V → Type 0) (Why : List ℕ → Refusal → Type 0) (Then : V → Task → Type 0) (word : FileWord)
    (files later : FilesSeen) (v : V) → FirstRead Is Why word.most word.name files later v → c.files ≢ [] → Among 0 c.ends → (text : List ℕ)
    → Then v (prints text) → (unit : UnitSeen) (before after : SinkSeen) (result : Result (Unit {0}) E) → WritesTo before after text result
    → Performs c (λ h task. TakenFile Is Why word.most Then word.name (h word.name) task) files later (moment unit before) (moment unit after)
    (told_line (text_end result)) (told_status (text_end result))
quiet_printed c Is Why Then word files later v read reads zero text then unit before after result w =
    quiet_ended c (λ h task. TakenFile Is Why word.most Then word.name (h word.name) task) files later reads read.held (moment unit before)
    (moment unit after) read.ended read.faults refl zero text
    (if_some_weaker files.held _ _
    (λ h loads. (
      prints text,
      file_takes Is Why word.most Then word.name h v (prints text) loads then,
      (refl, refl),
      λ part. (refl, (printed text, refl, part)),
    )) read.loads)
    result w

-- the source was read, and the image for its program was written
pub compiled_performs : {E : Type 0} (p : List ℕ) (code : Code) (files later : FilesSeen) (t : Program)
    → FirstRead TypedOf NotTyped most_source_bytes p files later t → (unit : UnitSeen) (before after : SinkSeen) (text bytes : List ℕ) → IsImageFor t code text
    → bytes ≡ text → (result : Result (Unit {0}) E) → WritesTo before after bytes result
    → Performs (about (compile p code)) (TaskOf (compile p code)) files later (moment unit before) (moment unit after) (told_line (text_end result))
    (told_status (text_end result))
compiled_performs p code files later t read unit before after text bytes (graph, may, is) same result w =
    let image = image_of graph code.seed code.step in
    quiet_ended (about (compile p code)) (TaskOf (compile p code)) files later (λ none. cc) read.held (moment unit before) (moment unit after) read.ended
    read.faults refl (inl refl) image
    (if_some_weaker files.held _ _
    (λ h loads. (
      compiles t code,
      file_takes TypedOf NotTyped most_source_bytes (λ t x. x ≡ compiles t code) p h t (compiles t code) loads refl,
      (refl, (graph, may, refl)),
      λ part. (refl, (image_answer code graph, (graph, may, refl), part)),
    )) read.loads)
    result (subst (λ (b : List ℕ). WritesTo before after b result) (same ∙ is) w)
