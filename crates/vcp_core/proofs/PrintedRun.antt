-- How far the run of a job came, from what running its graph leaves, whatever is printed of it.
use Rattle.std.proofs.Common.{ℕ, ℤ, suc, ◌+◌, ◌≡◌, ◌<◌, ◌-◌, ◌^◌, inr, refl, sym, ap, subst, ◌∙◌, List, [], ◌∷◌, ◌++◌, length, map, append_assoc, append-nil, Option, None, Ok, Err, IfSome, arith}
use Rattle.std.specs.Io.KnownBytes.{Appends}
use Rattle.vcp_outside.specs.Written.{AppendsFront, AppendsPart}
use Rattle.input_rows.specs.declared.fault.RowFault.{RowFault}
use Rattle.input_rows.specs.declared.fault.RowFault.TheVariants as row
use Rattle.input_rows.specs.RowsOf.{IsOfRecord, RowsLeft}
use Rattle.coded_unit.specs.declared.call.Answer.{Answer as UnitAnswer}
use Rattle.coded_unit.specs.Seen.{UnitSeen}
use Rattle.vcp_outside.specs.Seen.{SinkSeen}
use Rattle.op_graph.specs.Lists.{Lists}
use Rattle.op_graph.specs.GraphRun.{graph_run}
use Rattle.signature_table.specs.Signatures.{Numbers}
use Rattle.coded_machine.specs.State.{State}
use Rattle.coded_machine.specs.declared.cycle_end.CycleEnd.{CycleEnd}
use Rattle.coded_machine.specs.declared.cycle_end.CycleEnd.TheVariants as cycle
use Rattle.coded_machine.specs.Calls.{AllRight, Carried}
use Rattle.coded_machine.specs.CycleEnds.{outputs_of}
use Rattle.coded_machine.specs.Runs.{Outcome, AllCycles, outcome_over, outcome_for}
use Rattle.flat_expr.specs.Told.{Told, told_graph}
use Rattle.coded_machine.specs.declared.rows.fault.RunFault.{RunFault}
use Rattle.coded_machine.specs.declared.rows.fault.RunFault.TheVariants as given_up
use Rattle.coded_machine.specs.FirstRows.{FirstRowsFollow}
use Rattle.coded_machine.specs.RowRuns.{texts_from, IsFront, CameToEnd, RunsRows, SomeCycles}
use Rattle.vcp_inputs.specs.Lines.{rows_text}
use Rattle.vcp_inputs.specs.GraphsOf.{MayRun}
use Rattle.vcp_inputs.specs.Reports.{RunEnd, complete, stopped, refused, end_told, end_read, told_of, subject_outputs, behind_text, run_status}
use Rattle.run_report.specs.Lines.{header_text, row_text}
use Rattle.vcp_inputs.specs.Forms.{Code}
use Rattle.vcp_inputs.specs.Answer.{Subject}
use Rattle.vcp_core.specs.EndLines.{last_text}
use Rattle.vcp_core.specs.Shown.{Shows}
use Rattle.vcp_core.specs.Tasks.{rows_job}
use Rattle.vcp_inputs.specs.Printing.{Report, Printing, every_row, goes_on, no_report, run_text, run_then, last_part}
use Rattle.vcp_inputs.specs.RunKind.{Job, FirstAsMeant, RunLeft, numbers, calls_of, run_read, run_meant, job_answer}
use Rattle.coded_machine.specs.Moments.{Moment, moment}
use Rattle.vcp_core.specs.declared.ending.Ending.{Ending}
use Rattle.vcp_core.specs.Reach.{end_status}
use Rattle.vcp_core.specs.MachineRun.{IsThere, RunAnswers, RunsTo}
use Rattle.vcp_core.proofs.JobRun.{read-end, as-many, complete-is, earlier-rows, no-behind-by, status-by, record-of, grows-none, part-of, part-behind, append-all, front-of, no-last}

-- ---- texts

texts-more : (text : ℕ → List ℤ → List ℕ) (n : ℕ) (rows more : List (List ℤ))
    → texts_from text n (rows ++ more) ≡ texts_from text n rows ++ texts_from text (n + length rows) more
texts-more text n [] more = ap (λ k. texts_from text k more) (omega arith)
texts-more text n (row ∷ rows) more =
    let shift : suc n + length rows ≡ n + length (row ∷ rows) = omega arith in
    ap (λ t. text n row ++ t) (texts-more text (suc n) rows more ∙ ap (λ k. texts_from text (suc n) rows ++ texts_from text k more) shift)
    ∙ sym (append_assoc (text n row) (texts_from text (suc n) rows) _)

module _ (p : Printing) (names : List (List ℕ)) where
  -- what is printed first and of these rows
  abbrev front_text : List (List ℤ) → List ℕ
  front_text rows = p.header ++ texts_from p.row 0 rows

  front-more : (rows more : List (List ℤ)) → front_text (rows ++ more) ≡ front_text rows ++ texts_from p.row (0 + length rows) more
  front-more rows more = ap (λ t. p.header ++ t) (texts-more p.row 0 rows more) ∙ sym (append_assoc p.header (texts_from p.row 0 rows) _)

  -- what is printed of a run that released these rows and maybe more begins with them
  text-front : (rows more : List (List ℤ)) (e : RunEnd) (words : List ℤ) (behind : Option RowFault) →
      run_text p names (record { rows = rows ++ more; end = e; words = words }) behind
      ≡ front_text rows ++ (texts_from p.row (0 + length rows) more ++ last_part p names (record { rows = rows ++ more; end = e; words = words }) e behind)
  text-front rows more e words behind =
      sym (append_assoc p.header (texts_from p.row 0 (rows ++ more)) _)
      ∙ ap (λ t. t ++ last_part p names (record { rows = rows ++ more; end = e; words = words }) e behind) (front-more rows more)
      ∙ append_assoc (front_text rows) (texts_from p.row (0 + length rows) more) _

  -- and ends with the last part
  text-last : (r : Report) (behind : Option RowFault) → run_text p names r behind ≡ front_text r.rows ++ last_part p names r r.end behind
  text-last r behind = sym (append_assoc p.header (texts_from p.row 0 r.rows) _)

  -- a run that released these rows and wasn't ended, and then a later one
  later-text : (rows : List (List ℤ)) (e : RunEnd) (words : List ℤ) (later : Report) (behind : Option RowFault) → e ≡ complete →
      run_text p names (run_then (record { rows = rows; end = e; words = words }) later) behind
      ≡ front_text rows
      ++ (texts_from p.row (0 + length rows) later.rows
      ++ last_part p names (record { rows = rows ++ later.rows; end = later.end; words = words ++ later.words }) later.end behind)
  later-text rows e words later behind is =
      ap (λ (x : RunEnd). run_text p names (goes_on x (record { rows = rows; end = x; words = words }) later) behind) is
      ∙ text-front rows later.rows later.end (words ++ later.words) behind

-- only the end of a run that was released is followed by a later one
stays-by : (e : RunEnd) (rows : List (List ℤ)) (words : List ℤ) (later : Report) → (e ≡ complete → later ≡ no_report)
    → run_then (record { rows = rows; end = e; words = words }) later ≡ record { rows = rows; end = e; words = words }
stays-by complete rows words later h =
    ap (λ (l : Report). run_then (record { rows = rows; end = complete; words = words }) l) (h refl)
    ∙ ap (λ (rs : List (List ℤ)). record { rows = rs; end = complete; words = words ++ [] }) (append-nil rows)
    ∙ ap (λ (ws : List ℤ). record { rows = rows; end = complete; words = ws }) (append-nil words)
stays-by (stopped s) rows words later h = refl
stays-by (refused i f w) rows words later h = refl

-- a refusal of one record, behind the rows of a job
told-by : (j : Job) (f : RowFault) (before after : Moment) → IsOfRecord f → RunAnswers j (rows_text j.rows_name f) 1 before after
    → RunsTo j before after (Err (given_up.Rows f))
told-by j (row.Width n) before after of h = h
told-by j (row.Cell n m) before after of h = h
told-by j row.Cycles before after of h = h
told-by j row.Cycle before after of h = h
told-by j row.Header before after of h = absurd of
told-by j row.Form before after of h = absurd of
told-by j row.Memory before after of h = absurd of

-- ---- the job

module _ (j : Job) (g : Lists) (may : MayRun j.subject g) (agrees : told_graph g j.rows.rows ≡ told_of j.subject j.rows.rows)
    (words_right : (cycles : List (List UnitAnswer)) → AllRight (calls_of j g cycles) → AllCycles g (numbers j g) 0 j.rows.rows cycles
    → j.words.read cycles ≡ j.words.meant j.rows.rows)
    (first_rows : (cycles : List (List UnitAnswer)) → SomeCycles g (numbers j g) 0 j.rows.rows cycles → FirstRowsFollow g (numbers j g) j.rows.rows cycles)
    (u0 u1 : UnitSeen) where
  abbrev names : List (List ℕ)
  names = subject_outputs j.subject

  abbrev t : Numbers
  t = numbers j g

  abbrev outcome_is : List (List UnitAnswer) → Outcome
  outcome_is cycles = outcome_over g t 0 cycles

  -- what is printed first and of the rows of these cycles
  abbrev front_of : List (List UnitAnswer) → List ℕ
  front_of cycles = front_text j.printing names (outcome_is cycles).rows

  -- what is read off answers that stand for the graph's run is what is meant
  read-meant : (cycles : List (List UnitAnswer)) → AllRight (calls_of j g cycles) → AllCycles g t 0 j.rows.rows cycles
      → outcome_is cycles ≡ outcome_for (graph_run g j.rows.rows) → run_read j g cycles ≡ run_meant j
  read-meant cycles right all is =
      ap (λ (o : Outcome). record { rows = o.rows; end = end_read g o.end; words = j.words.read cycles }) is
      ∙ ap (λ (e : RunEnd). record { rows = (graph_run g j.rows.rows).rows; end = e; words = j.words.read cycles }) (read-end g (graph_run g j.rows.rows).end)
      ∙ ap (λ (x : Told). record { rows = x.rows; end = end_told x.end; words = j.words.read cycles }) agrees
      ∙ ap (λ (ws : List ℤ). record { rows = (told_of j.subject j.rows.rows).rows; end = end_told (told_of j.subject j.rows.rows).end; words = ws })
      (words_right cycles right all)

  -- so are the rows of the first cycles, where the answers in these are right
  first-meant : (cycles : List (List UnitAnswer)) → SomeCycles g t 0 j.rows.rows cycles → FirstAsMeant j g cycles
  first-meant cycles some first rest is right =
      let p = first_rows cycles some first rest is right in (p.0, sym (ap (λ (x : Told). x.rows) agrees) ∙ p.1)

  -- all was written of a run that came to its end
  reached : (cycles : List (List UnitAnswer)) (e : CycleEnd) (s0 s3 : SinkSeen) → Carried (calls_of j g cycles) u0.log u1.log u0.wrong u1.wrong
      → SomeCycles g t 0 j.rows.rows cycles → CameToEnd g t j.rows.rows cycles e →
      (u1.wrong ≡ u0.wrong → u0.wrong < 2 ^ 64 - 1 → outcome_is cycles ≡ outcome_for (graph_run g j.rows.rows)) →
      Appends s0.written s3.written (front_of cycles ++ last_part j.printing names (run_read j g cycles) (end_read g e) j.rows.refusal) →
      RunAnswers j (behind_text j.rows_name (end_read g e) j.rows.refusal) (run_status (end_read g e) j.rows.refusal) (moment u0 s0)
      (moment u1 s3)
  reached cycles e s0 s3 carried some came follows w =
      let text : run_text j.printing names (run_read j g cycles) j.rows.refusal
      ≡ front_of cycles ++ last_part j.printing names (run_read j g cycles) (end_read g e) j.rows.refusal =
      text-last j.printing names (run_read j g cycles) j.rows.refusal
      ∙ ap (λ (x : CycleEnd). front_of cycles ++ last_part j.printing names (run_read j g cycles) (end_read g x) j.rows.refusal) came.end_is in (
        job_answer j (run_read j g cycles),
        record {
          graph = g;
          cycles = cycles;
          may = may;
          all = came.all;
          log = carried.told;
          read = refl;
          front = first-meant cycles some;
          honest = λ h. read-meant cycles (carried.honest h.0 h.1) came.all (follows h.0 h.1);
        },
        subst (λ (l : List ℕ). Appends s0.written s3.written l) (sym text) w,
        ap (λ (x : CycleEnd). behind_text j.rows_name (end_read g x) j.rows.refusal) came.end_is,
        ap (λ (x : CycleEnd). run_status (end_read g x) j.rows.refusal) came.end_is,
      )

  -- what was written of the rows of all cycles has the rows of the earlier ones
  earlier-written : (cycles : List (List UnitAnswer)) (o0 o2 : Option (List ℕ)) (more : List ℕ) → Appends o0 o2 (front_of cycles ++ more)
      → (earlier : List (List UnitAnswer)) (rows : List (List ℤ)) → (outcome_is cycles).rows ≡ map (outputs_of g) earlier ++ rows →
      (rest : List ℕ) × Appends o0 o2 (front_text j.printing names (map (outputs_of g) earlier) ++ rest)
  earlier-written cycles o0 o2 more w earlier rows is =
      let first : List (List ℤ) = map (outputs_of g) earlier in
      let whole : front_of cycles ++ more
      ≡ front_text j.printing names first ++ (texts_from j.printing.row (0 + length first) rows ++ more) =
      ap (λ (rs : List (List ℤ)). front_text j.printing names rs ++ more) is ∙ ap (λ (l : List ℕ). l ++ more) (front-more j.printing names first rows)
      ∙ append_assoc (front_text j.printing names first) (texts_from j.printing.row (0 + length first) rows) more in
      (texts_from j.printing.row (0 + length first) rows ++ more, subst (λ (l : List ℕ). Appends o0 o2 l) whole w)

  -- what is meant, where its rows begin so
  meant-front : (o : Outcome) (front : IsFront g j.rows.rows o) →
      (more : List ℕ) × ((job_answer j (run_meant j)).out ≡ front_text j.printing names o.rows ++ more)
  meant-front o front =
      let m : Report = run_meant j in
      let rows_are : m.rows ≡ o.rows ++ front.more = sym (ap (λ (x : Told). x.rows) agrees) ∙ front.rows_are in (
        _,
        ap (λ (rs : List (List ℤ)). run_text j.printing names (record { rows = rs; end = m.end; words = m.words }) j.rows.refusal) rows_are
            ∙ text-front j.printing names o.rows front.more m.end m.words j.rows.refusal,
      )

  -- what is printed first couldn't be written
  pub header-left : (s0 s1 : SinkSeen) → AppendsPart s0.written s1.written j.printing.header
      → RunLeft j AppendsPart (moment u0 s0) (moment u0 s1)
  header-left s0 s1 part = record {
    graph = g;
    cycles = [];
    may = may;
    some = tt;
    log = grows-none u0.log;
    text = λ later comes. part-of s0.written s1.written j.printing.header _ _ part refl;
    earlier = λ earlier last is. no-last earlier last is;
    front = first-meant [] tt;
    honest = λ h. part-of s0.written s1.written j.printing.header _ _ part refl;
  }

  -- memory was wanted for a row
  wants-row : (s0 s1 s2 : SinkSeen) → Appends s0.written s1.written j.printing.header
      → RunsRows g t j.rows j.printing.row (moment u0 s1) (moment u1 s2) (Err given_up.Memory) →
      RunLeft j AppendsFront (moment u0 s0) (moment u1 s2)
  wants-row s0 s1 s2 head run =
      let o = outcome_is run.cycles in
      let w : Appends s0.written s2.written (front_of run.cycles) = append-all s0.written s1.written s2.written j.printing.header
      (texts_from j.printing.row 0 o.rows) _ head run.ends refl in
      record {
        graph = g;
        cycles = run.cycles;
        may = may;
        some = run.some;
        log = run.carried.told;
        text = λ later comes. front-of s0.written s2.written (front_of run.cycles) _ _ w
            (later-text j.printing names o.rows (end_read g o.end) (j.words.read run.cycles) later j.rows.refusal (ap (end_read g) run.given_up));
        earlier = λ earlier last is.
            let m = earlier-rows g t 0 j.rows.rows run.cycles earlier last run.some is in
            earlier-written run.cycles s0.written s2.written [] (subst (λ (l : List ℕ). Appends s0.written s2.written l)
            (sym (append-nil (front_of run.cycles))) w) earlier m.0 m.1;
        front = first-meant run.cycles run.some;
        honest = λ h. let m = meant-front o (run.follows h.0 h.1) in front-of s0.written s2.written (front_of run.cycles) m.0 _ w m.1;
      }

  -- a row of outputs couldn't be written
  row-left : (s0 s1 s2 : SinkSeen) → Appends s0.written s1.written j.printing.header
      → RunsRows g t j.rows j.printing.row (moment u0 s1) (moment u1 s2) (Err given_up.Write) →
      RunLeft j AppendsPart (moment u0 s0) (moment u1 s2)
  row-left s0 s1 s2 head run =
      let o = outcome_is run.cycles in
      let (rose, part, earlier_lines) = run.ends in
      let w : AppendsPart s0.written s2.written (front_of run.cycles) = part-behind s0.written s1.written s2.written j.printing.header
      (texts_from j.printing.row 0 o.rows) _ head part refl in
      record {
        graph = g;
        cycles = run.cycles;
        may = may;
        some = run.some;
        log = run.carried.told;
        text = λ later comes. part-of s0.written s2.written (front_of run.cycles) _ _ w
            (later-text j.printing names o.rows (end_read g o.end) (j.words.read run.cycles) later j.rows.refusal (ap (end_read g) run.given_up));
        earlier = λ earlier last is. let m = earlier_lines earlier last is in
            (m.0, append-all s0.written s1.written s2.written j.printing.header _ _ head m.1 (append_assoc j.printing.header _ m.0));
        front = first-meant run.cycles run.some;
        honest = λ h. let m = meant-front o (run.follows h.0 h.1) in part-of s0.written s2.written (front_of run.cycles) m.0 _ w m.1;
      }

  -- a row is refused behind the others
  row-refused : (f : RowFault) (s0 s1 s2 : SinkSeen) → Appends s0.written s1.written j.printing.header
      → RunsRows g t j.rows j.printing.row (moment u0 s1) (moment u1 s2) (Err (given_up.Rows f)) →
      RunAnswers j (rows_text j.rows_name f) 1 (moment u0 s0) (moment u1 s2)
  row-refused f s0 s1 s2 head run =
      let o = outcome_is run.cycles in
      let (came, is, lines) = run.ends in
      let w : Appends s0.written s2.written (front_of run.cycles) = append-all s0.written s1.written s2.written j.printing.header
      (texts_from j.printing.row 0 o.rows) _ head lines refl in
      let text : front_of run.cycles ++ last_part j.printing names (run_read j g run.cycles) complete j.rows.refusal ≡ front_of run.cycles =
      ap (λ (b : Option RowFault). front_of run.cycles ++ last_part j.printing names (run_read j g run.cycles) complete b) is ∙ append-nil _ in
      let all = reached run.cycles cycle.Released s0 s2 run.carried run.some came run.follows
      (subst (λ (l : List ℕ). Appends s0.written s2.written l) (sym text) w) in
      let line : behind_text j.rows_name complete j.rows.refusal ≡ rows_text j.rows_name f = ap (behind_text j.rows_name complete) is in
      let code_is : run_status complete j.rows.refusal ≡ 1 = ap (run_status complete) is in
      (all.0, all.1, all.2, all.3 ∙ line, all.4 ∙ code_is)

  -- the run was given up
  pub given-up-run : (why : RunFault) (s0 s1 s2 : SinkSeen) → IfSome j.rows.refusal IsOfRecord → Appends s0.written s1.written j.printing.header
      → RunsRows g t j.rows j.printing.row (moment u0 s1) (moment u1 s2) (Err why) →
      RunsTo j (moment u0 s0) (moment u1 s2) (Err why)
  given-up-run (given_up.Rows f) s0 s1 s2 of head run =
      told-by j f (moment u0 s0) (moment u1 s2) (record-of f j.rows.refusal of run.ends.1) (row-refused f s0 s1 s2 head run)
  given-up-run given_up.Write s0 s1 s2 of head run = row-left s0 s1 s2 head run
  given-up-run given_up.Memory s0 s1 s2 of head run = inr (wants-row s0 s1 s2 head run)

  -- ---- the run came to its end

  module _ (e : CycleEnd) (s0 s1 s2 s3 : SinkSeen) (head : Appends s0.written s1.written j.printing.header)
      (run : RunsRows g t j.rows j.printing.row (moment u0 s1) (moment u1 s2) (Ok e)) (there : IsThere g e) where
    -- what is printed when the rows were
    abbrev last_bytes : List ℕ
    last_bytes = last_part j.printing names (run_read j g run.cycles) (end_read g e) j.rows.refusal

    rows-written : Appends s0.written s2.written (front_of run.cycles)
    rows-written =
        let (came, none, lines) = run.ends in append-all s0.written s1.written s2.written j.printing.header
        (texts_from j.printing.row 0 (outcome_is run.cycles).rows) _ head lines refl

    -- the last part couldn't be written
    pub last-left : AppendsPart s2.written s3.written last_bytes → RunLeft j AppendsPart (moment u0 s0) (moment u1 s3)
    last-left part =
        let o = outcome_is run.cycles in
        let (came, none, lines) = run.ends in
        let ends : end_read g e ≡ complete → e ≡ cycle.Released = complete-is g e there in
        let whole : AppendsPart s0.written s3.written (job_answer j (run_read j g run.cycles)).out =
        part-behind s0.written s2.written s3.written (front_of run.cycles) _ _ rows-written part
        (text-last j.printing names (run_read j g run.cycles) j.rows.refusal
        ∙ ap (λ (x : CycleEnd). front_of run.cycles ++ last_part j.printing names (run_read j g run.cycles) (end_read g x) j.rows.refusal) came.end_is) in
        record {
          graph = g;
          cycles = run.cycles;
          may = may;
          some = run.some;
          log = run.carried.told;
          text = λ later comes.
              let stays : run_then (run_read j g run.cycles) later ≡ run_read j g run.cycles =
              stays-by (end_read g o.end) o.rows (j.words.read run.cycles) later
              (λ c. comes (as-many g t 0 j.rows.rows run.cycles came.all (came.end_is ∙ ends (ap (end_read g) (sym came.end_is) ∙ c)))) in
              subst (λ (r : Report). AppendsPart s0.written s3.written (job_answer j r).out) (sym stays) whole;
          earlier = λ earlier last is.
              let m = earlier-rows g t 0 j.rows.rows run.cycles earlier last run.some is in
              let (front, rest, cut, some, taken) = part in
              earlier-written run.cycles s0.written s3.written front (append-all s0.written s2.written s3.written (front_of run.cycles) front _
              rows-written taken refl) earlier m.0 m.1;
          front = first-meant run.cycles run.some;
          honest = λ h. subst (λ (r : Report). AppendsPart s0.written s3.written (job_answer j r).out)
              (read-meant run.cycles (run.carried.honest h.0 h.1) came.all (run.follows h.0 h.1)) whole;
        }

    -- the last part was written
    pub ended-run : (end : Ending) → Appends s2.written s3.written last_bytes → end_status end ≡ run_status (end_read g e) None →
        RunAnswers j [] (end_status end) (moment u0 s0) (moment u1 s3)
    ended-run end last status =
        let (came, none, lines) = run.ends in
        let behind : end_read g e ≡ complete → j.rows.refusal ≡ None = λ c. none (complete-is g e there c) in
        let all = reached run.cycles e s0 s3 run.carried run.some came run.follows
        (append-all s0.written s2.written s3.written (front_of run.cycles) _ _ rows-written last refl) in
        let line : behind_text j.rows_name (end_read g e) j.rows.refusal ≡ [] =
        no-behind-by g names j.rows_name (end_read g e) j.rows.refusal behind in
        let code_is : run_status (end_read g e) j.rows.refusal ≡ end_status end =
        sym (status ∙ status-by g names j.rows_name (end_read g e) j.rows.refusal behind) in
        (all.0, all.1, all.2, all.3 ∙ line, all.4 ∙ code_is)

-- ---- the last line, where each row was printed

last-by : (names : List (List ℕ)) (n : ℕ) (r : Report) (e : RunEnd) (behind : Option RowFault) → n ≡ length r.rows → (e ≡ complete → behind ≡ None)
    → last_text names n e None ≡ last_part (every_row names) names r e behind
last-by names n r complete behind is h =
    ap (λ (k : ℕ). last_text names k complete None) is ∙ ap (λ (b : Option RowFault). last_part (every_row names) names r complete b) (sym (h refl))
last-by names n r (stopped s) behind is h = ap (λ (k : ℕ). last_text names k (stopped s) None) is
last-by names n r (refused i f w) behind is h = ap (λ (k : ℕ). last_text names k (refused i f w) None) is

pub rows-last : (names : List (List ℕ)) (n : ℕ) (r : Report) (g : Lists) (e : CycleEnd) (behind : Option RowFault) → IsThere g e → n ≡ length r.rows
    → (e ≡ cycle.Released → behind ≡ None) → last_text names n (end_read g e) None ≡ last_part (every_row names) names r (end_read g e) behind
rows-last names n r g e behind there is none = last-by names n r (end_read g e) behind is (λ c. none (complete-is g e there c))

-- so this is what is printed of a run of which each row is printed
pub rows-shown : {R : Type 0} (Keeps : R → List (List ℤ) → Type 0) (kept : R) (s : Subject) (code : Code) (left : RowsLeft) (name : List ℕ) (g : Lists)
    → Shows header_text row_text (λ now m names e. last_text names m.cycles (end_read m.graph e) None) Keeps kept (rows_job name code s left) g
rows-shown Keeps kept s code left name g = record {
  first_is = refl;
  row_is = refl;
  words_are = λ cycles right all. refl;
  last_is = λ now cycles m e came. ap (λ (h : Lists). last_text (subject_outputs s) m.cycles (end_read h e) None) came.machine.graph
      ∙ rows-last (subject_outputs s) m.cycles (run_read (rows_job name code s left) g cycles) g e left.refusal came.there came.machine.cycles came.all_taken;
}

-- the same of an equal graph
pub shows_on : {R : Type 0} {first : List (List ℕ) → List ℕ} {row : ℕ → List ℤ → List ℕ} {last : R → State → List (List ℕ) → CycleEnd → List ℕ}
    {Keeps : R → List (List ℤ) → Type 0} {kept : R} {j : Job} {g h : Lists} → g ≡ h → Shows first row last Keeps kept j g
    → Shows first row last Keeps kept j h
shows_on same shows = rw same at shows
