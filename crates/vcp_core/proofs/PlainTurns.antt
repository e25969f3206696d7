-- The lines of a program's run, cycle by cycle.
use Rattle.std.proofs.Common.{◌≡◌, ◌≢◌, ℕ, suc, ◌+◌, ◌≤◌, add-one, ℤ, List, [], ◌∷◌, ◌++◌, append-nil, append_assoc, length, refl, sym, ap, subst, ◌∙◌, arith, Option, Some, None}
use Rattle.std.proofs.Common.{Result, Ok, Err}
use Rattle.std.specs.Io.KnownBytes.{Appends}
use Rattle.std.proofs.KnownBytes.{Appends-trans}
use Rattle.vcp_base.specs.Limits.{most_cycles}
use Rattle.vcp_outside.specs.Written.{AppendsFront, AppendsPart}
use Rattle.vcp_core.proofs.Written.{appends-appends, part-after}
use Rattle.vcp_typed.specs.Meaning.{Stop}
use Rattle.vcp_typed.specs.SourceRun.{Program, after_cycle, cycle, run_from, source_run, initial}
use Rattle.input_rows.specs.declared.fault.RowFault.{RowFault}
use Rattle.input_rows.specs.declared.fault.RowFault.TheVariants as row
use Rattle.input_rows.specs.RowsOf.{RowsLeft}
use Rattle.coded_machine.specs.Refusals.{given_up_by}
use Rattle.run_report.specs.Lines.{header_text, row_text, end_text}
use Rattle.coded_machine.specs.RowRuns.{texts_from}
use Rattle.vcp_inputs.specs.Reports.{output_names}
use Rattle.coded_machine.specs.declared.rows.fault.RunFault.{RunFault}
use Rattle.coded_machine.specs.declared.rows.fault.RunFault.TheVariants as fault
use Rattle.vcp_core.specs.declared.ending.Ending.{Ending}
use Rattle.vcp_core.specs.declared.ending.Ending.TheVariants as end
use Rattle.vcp_core.specs.PlainRun.{plain_last_line, plain_text, PrintsText, Prints, cycle_line, lines_from, rest_text, PrintsFrom}

pub appends-nothing : (old : Option (List ℕ)) → Appends old old []
appends-nothing None = tt
appends-nothing (Some bytes) = sym (append-nil bytes)

-- ---- what is printed of a text whose front was printed before

part-of : (old mid new : Option (List ℕ)) (front rest text : List ℕ) → text ≡ front ++ rest → Appends old mid front → AppendsPart mid new rest
    → AppendsPart old new text
part-of old mid new front rest text is before (some, more, cut, left, taken) =
    (front ++ some, more, is ∙ ap (λ t. front ++ t) cut ∙ sym (append_assoc front some more), left, Appends-trans old mid new front some before taken)

front-of : (old mid new : Option (List ℕ)) (front rest text : List ℕ) → text ≡ front ++ rest → Appends old mid front → AppendsFront mid new rest
    → AppendsFront old new text
front-of old mid new front rest text is before (some, more, cut, taken) =
    (front ++ some, more, is ∙ ap (λ t. front ++ t) cut ∙ sym (append_assoc front some more), Appends-trans old mid new front some before taken)

-- the rest was printed so, and so was the whole
pub prints-after : (stop : Option Stop) (refusal : Option RowFault) (old mid new : Option (List ℕ)) (front rest text : List ℕ) (r : Result Ending RunFault) →
    text ≡ front ++ rest → Appends old mid front → PrintsText rest stop refusal mid new r → PrintsText text stop refusal old new r
prints-after stop refusal old mid new front rest text (Ok end.Done) is before (e, f, w) = (e, f, appends-appends old mid new front rest text before w is)
prints-after stop refusal old mid new front rest text (Ok end.Stopped) is before (s, e, w) = (s, e, appends-appends old mid new front rest text before w is)
prints-after stop refusal old mid new front rest text (Ok end.Refused) is before h = absurd h
prints-after stop refusal old mid new front rest text (Err (fault.Rows f)) is before (e, behind, known, w) =
    (e, behind, known, appends-appends old mid new front rest text before w is)
prints-after stop refusal old mid new front rest text (Err fault.Write) is before w = part-of old mid new front rest text is before w
prints-after stop refusal old mid new front rest text (Err fault.Memory) is before w = front-of old mid new front rest text is before w

-- ---- one cycle

-- what is printed behind the line of a cycle
abbrev pub after_line : Program → ℕ → Result (List ℤ) Stop → RowsLeft → List ℕ
after_line p n (Ok m) left = rest_text p (suc n) m left
after_line p n (Err s) left = []

split-by : (p : Program) (n : ℕ) (r : Result (List ℤ) Stop) (left : RowsLeft) →
    lines_from p n (after_cycle p.slots (λ next. run_from p next left.rows) r).rows (after_cycle p.slots (λ next. run_from p next left.rows) r).end left.refusal
    ≡ cycle_line p.slots n r ++ after_line p n r left
split-by p n (Ok m) left = refl
split-by p n (Err s) left = sym (append-nil _)

-- the first line, and what is printed behind it
pub rest-split : (p : Program) (n : ℕ) (m row : List ℤ) (left : RowsLeft) →
    rest_text p n m (record left { rows = row ∷ left.rows }) ≡ cycle_line p.slots n (cycle p m row) ++ after_line p n (cycle p m row) left
rest-split p n m row left = split-by p n (cycle p m row) left

-- ---- the run between two of its cycles

-- a front was printed of what the run prints from the first cycle on, and the rest is what it prints from here on
pub record Going (p : Program) (first_values : List ℤ) (first : RowsLeft) (old now : Option (List ℕ)) (n : ℕ) (m : List ℤ) (left : RowsLeft) : Type 0 where
  pub front : List ℕ
  pub wrote : Appends old now front
  pub text : rest_text p 0 first_values first ≡ front ++ rest_text p n m left
  pub stop : (run_from p first_values first.rows).end ≡ (run_from p m left.rows).end
  pub refusal : first.refusal ≡ left.refusal
  pub counted : n + length left.rows ≤ most_cycles

-- what the rest prints from here on, the run prints from the first cycle on
pub going-ends : (p : Program) (m0 : List ℤ) (first : RowsLeft) (old now new : Option (List ℕ)) (n : ℕ) (m : List ℤ) (left : RowsLeft)
    (r : Result Ending RunFault) →
    Going p m0 first old now n m left → PrintsFrom p n m left now new r → PrintsFrom p 0 m0 first old new r
going-ends p m0 first old now new n m left r going prints =
    let from = prints-after (run_from p m left.rows).end left.refusal old now new going.front (rest_text p n m left)
    (rest_text p 0 m0 first) r going.text going.wrote prints in
    let S : Option Stop → Type 0 = λ s. PrintsText (rest_text p 0 m0 first) s left.refusal old new r in
    let F : Option RowFault → Type 0 = λ f. PrintsText (rest_text p 0 m0 first) (run_from p m0 first.rows).end f old new r in
    subst F (sym going.refusal) (subst S (sym going.stop) from)

stop-after : (p : Program) (r : Result (List ℤ) Stop) (m : List ℤ) (rows : List (List ℤ)) → r ≡ Ok m
    → (after_cycle p.slots (λ next. run_from p next rows) r).end ≡ (run_from p m rows).end
stop-after p r m rows is = ap (λ x. (after_cycle p.slots (λ next. run_from p next rows) x).end) is

stopped-after : (p : Program) (r : Result (List ℤ) Stop) (s : Stop) (rows : List (List ℤ)) → r ≡ Err s
    → (after_cycle p.slots (λ next. run_from p next rows) r).end ≡ Some s
stopped-after p r s rows is = ap (λ x. (after_cycle p.slots (λ next. run_from p next rows) x).end) is

-- a cycle, and its line
pub going-on : (p : Program) (m0 : List ℤ) (first : RowsLeft) (old now new : Option (List ℕ)) (n : ℕ) (m next row : List ℤ) (before left : RowsLeft) →
    Going p m0 first old now n m before → before ≡ record left { rows = row ∷ left.rows } → cycle p m row ≡ Ok next → Appends now new
    (cycle_line p.slots n (cycle p m row)) →
    Going p m0 first old new (n + 1) next left
going-on p m0 first old now new n m next row before left going taken is w =
    let here : rest_text p n m before ≡ cycle_line p.slots n (cycle p m row) ++ rest_text p (n + 1) next left =
    ap (rest_text p n m) taken ∙ rest-split p n m row left
    ∙ ap (λ t. cycle_line p.slots n (cycle p m row) ++ t) (ap (λ r. after_line p n r left) is ∙ ap (λ k. rest_text p k next left) (sym (add-one n))) in
    let many : length before.rows ≡ suc (length left.rows) = ap (λ (l : RowsLeft). length l.rows) taken in
    record {
      front = going.front ++ cycle_line p.slots n (cycle p m row);
      wrote = Appends-trans old now new _ _ going.wrote w;
      text = going.text ∙ ap (λ t. going.front ++ t) here ∙ sym (append_assoc going.front _ _);
      stop = going.stop ∙ ap (λ (l : RowsLeft). (run_from p m l.rows).end) taken ∙ stop-after p (cycle p m row) next left.rows is;
      refusal = going.refusal ∙ ap (λ (l : RowsLeft). l.refusal) taken;
      counted = omega (arith, going.counted, many);
    }

-- a cycle that stops
pub stops-here : (p : Program) (n : ℕ) (m row : List ℤ) (s : Stop) (before left : RowsLeft) (now new : Option (List ℕ)) →
    before ≡ record left { rows = row ∷ left.rows } → cycle p m row ≡ Err s → Appends now new
    (cycle_line p.slots n (cycle p m row)) → PrintsFrom p n m before now new (Ok end.Stopped)
stops-here p n m row s before left now new taken is w =
    let text : rest_text p n m before ≡ cycle_line p.slots n (cycle p m row) =
    ap (rest_text p n m) taken ∙ rest-split p n m row left ∙ ap (λ t. cycle_line p.slots n (cycle p m row) ++ t) (ap (λ r. after_line p n r left) is)
    ∙ append-nil _ in
    (s, ap (λ (l : RowsLeft). (run_from p m l.rows).end) taken ∙ stopped-after p (cycle p m row) s left.rows is, rw text w)

-- the line of a cycle could not be printed
pub fails-here : (p : Program) (n : ℕ) (m row : List ℤ) (before left : RowsLeft) (now new : Option (List ℕ)) →
    before ≡ record left { rows = row ∷ left.rows } → AppendsPart now new (cycle_line p.slots n (cycle p m row)) → PrintsFrom p n m before now new
    (Err fault.Write)
fails-here p n m row before left now new taken w =
    part-after now now new [] _ (after_line p n (cycle p m row) left) _ (appends-nothing now) w (ap (rest_text p n m) taken ∙ rest-split p n m row left)

-- ---- no more rows

-- no rows are left, with this refusal behind them or none
pub record NoRows (left : RowsLeft) (refusal : Option RowFault) : Type 0 where
  pub rows : left.rows ≡ []
  pub refusal_is : left.refusal ≡ refusal

pub text-without-rows : (p : Program) (n : ℕ) (m : List ℤ) (left : RowsLeft) (refusal : Option RowFault) → NoRows left refusal
    → rest_text p n m left ≡ plain_last_line p n None refusal
text-without-rows p n m left refusal none =
    ap (λ rows. lines_from p n (run_from p m rows).rows (run_from p m rows).end left.refusal) none.rows ∙ ap (plain_last_line p n None) none.refusal_is

pub end-fails : (p : Program) (n : ℕ) (m : List ℤ) (left : RowsLeft) (now new : Option (List ℕ)) → NoRows left None → AppendsPart now new (end_text n)
    → PrintsFrom p n m left now new (Err fault.Write)
end-fails p n m left now new none w = rw (text-without-rows p n m left None none) w

-- the number of the cycles was printed
pub ends-here : (p : Program) (n : ℕ) (m : List ℤ) (left : RowsLeft) (now new : Option (List ℕ)) → NoRows left None → Appends now new (end_text n)
    → PrintsFrom p n m left now new (Ok end.Done)
ends-here p n m left now new none w =
    (ap (λ rows. (run_from p m rows).end) none.rows, none.refusal_is, rw (text-without-rows p n m left None none) w)

-- the next row is refused
refused-row : (p : Program) (n : ℕ) (m : List ℤ) (left : RowsLeft) (now : Option (List ℕ)) (f : RowFault) → f ≢ row.Memory → NoRows left (Some f)
    → PrintsFrom p n m left now now (Err (fault.Rows f))
refused-row p n m left now f known none =
    (ap (λ rows. (run_from p m rows).end) none.rows, none.refusal_is, known, rw (text-without-rows p n m left (Some f) none) (appends-nothing now))

-- or memory was wanted for it
pub refused-here : (p : Program) (n : ℕ) (m : List ℤ) (left : RowsLeft) (now : Option (List ℕ)) (f : RowFault)
    → (f ≢ row.Memory → (left.rows ≡ []) × (left.refusal ≡ Some f)) → PrintsFrom p n m left now now (Err (given_up_by f))
refused-here p n m left now row.Memory none = ([], rest_text p n m left, refl, appends-nothing now)
refused-here p n m left now row.Header none =
    let (rows, is) = none (λ e. cc) in
    refused-row p n m left now _ (λ e. cc) (record { rows = rows; refusal_is = is })
refused-here p n m left now (row.Width k) none =
    let (rows, is) = none (λ e. cc) in
    refused-row p n m left now _ (λ e. cc) (record { rows = rows; refusal_is = is })
refused-here p n m left now (row.Cell k i) none =
    let (rows, is) = none (λ e. cc) in
    refused-row p n m left now _ (λ e. cc) (record { rows = rows; refusal_is = is })
refused-here p n m left now row.Form none =
    let (rows, is) = none (λ e. cc) in
    refused-row p n m left now _ (λ e. cc) (record { rows = rows; refusal_is = is })
refused-here p n m left now row.Cycles none =
    let (rows, is) = none (λ e. cc) in
    refused-row p n m left now _ (λ e. cc) (record { rows = rows; refusal_is = is })
refused-here p n m left now row.Cycle none =
    let (rows, is) = none (λ e. cc) in
    refused-row p n m left now _ (λ e. cc) (record { rows = rows; refusal_is = is })

-- a refused row is no failure of the sink
pub refused-unwritten : {T : Type 0} (f : RowFault) (r : Result T RunFault) → r ≡ Err (given_up_by f) → r ≡ Err fault.Write → ⊥
refused-unwritten row.Memory r is e = cc
refused-unwritten row.Header r is e = cc
refused-unwritten (row.Width k) r is e = cc
refused-unwritten (row.Cell k i) r is e = cc
refused-unwritten row.Form r is e = cc
refused-unwritten row.Cycles r is e = cc
refused-unwritten row.Cycle r is e = cc

-- ---- the whole

-- the lines from a cycle on are the lines of the rows, and then the last one
pub lines-are : (p : Program) (n : ℕ) (rows : List (List ℤ)) (stop : Option Stop) (refusal : Option RowFault)
    → lines_from p n rows stop refusal ≡ texts_from row_text n rows ++ plain_last_line p (n + length rows) stop refusal
lines-are p n [] stop refusal = ap (λ k. plain_last_line p k stop refusal) (omega arith)
lines-are p n (row ∷ rows) stop refusal =
    let shift : suc n + length rows ≡ n + length (row ∷ rows) = omega arith in
    ap (λ t. row_text n row ++ t) (lines-are p (suc n) rows stop refusal ∙ ap (λ k. texts_from row_text (suc n) rows ++ plain_last_line p k stop refusal) shift)
    ∙ sym (append_assoc (row_text n row) (texts_from row_text (suc n) rows) _)

-- the header, and the lines from the first cycle on
pub whole-is : (p : Program) (left : RowsLeft) → plain_text p left ≡ header_text (output_names p) ++ rest_text p 0 (initial p.slots) left
whole-is p left =
    let run = source_run p left.rows in
    ap (λ t. header_text (output_names p) ++ t)
    (ap (λ k. texts_from row_text 0 run.rows ++ plain_last_line p k run.end left.refusal) (omega arith) ∙ sym (lines-are p 0 run.rows run.end left.refusal))

-- the header was printed, and then the cycles from the first on
pub header-first : (p : Program) (left : RowsLeft) (old mid new : Option (List ℕ)) (r : Result Ending RunFault) →
    Appends old mid (header_text (output_names p)) → PrintsFrom p 0 (initial p.slots) left mid new r → Prints p left old new r
header-first p left old mid new r w prints = prints-after _ _ old mid new _ _ _ r (whole-is p left) w prints

-- the header could not be printed
pub header-fails : (p : Program) (left : RowsLeft) (old new : Option (List ℕ)) → AppendsPart old new (header_text (output_names p))
    → Prints p left old new (Err fault.Write)
header-fails p left old new w = part-after old old new [] _ (rest_text p 0 (initial p.slots) left) _ (appends-nothing old) w (whole-is p left)

-- nothing was printed where memory was wanted first
pub nothing-printed : (p : Program) (left : RowsLeft) (old : Option (List ℕ)) → Prints p left old old (Err fault.Memory)
nothing-printed p left old = ([], plain_text p left, refl, appends-nothing old)
