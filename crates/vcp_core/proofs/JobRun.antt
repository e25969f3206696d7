-- How far the run of a job came, from what running its graph leaves.
use Rattle.std.proofs.Common.{ℕ, zero, suc, ◌≡◌, ◌≢◌, ◌<◌, refl, sym, ap, ◌∙◌, List, [], ◌∷◌, ◌++◌, length, map, append_assoc, append-nil, slice_get, slice_index_or, Option, Some, None, Result, IfSome, arith, ℤ, Ok, Err}
use Rattle.std.proofs.lemmas.List.{length-append}
use Rattle.std.specs.Io.KnownBytes.{Appends}
use Rattle.std.proofs.KnownBytes.{Appends-trans}
use Rattle.vcp_base.specs.Stops.{ToldStop, told_stop}
use Rattle.vcp_base.specs.declared.columns.Column.{Column}
use Rattle.vcp_base.specs.declared.kind.StopKind.{StopKind}
use Rattle.vcp_outside.specs.Written.{AppendsFront, AppendsPart, Writes, WritesTo}
use Rattle.vcp_outside.specs.declared.failed.Failed.{Failed}
use Rattle.input_rows.specs.declared.fault.RowFault.{RowFault}
use Rattle.input_rows.specs.RowsOf.{IsOfRecord}
use Rattle.run_report.specs.Lines.{stop_text}
use Rattle.coded_unit.specs.declared.call.Answer.{Answer as Given}
use Rattle.coded_unit.specs.Log.{Entry, GrowsBy}
use Rattle.op_graph.specs.declared.op.Op.{Op}
use Rattle.op_graph.specs.Lists.{Lists, turns_of}
use Rattle.op_graph.specs.GraphRun.{Stop}
use Rattle.signature_table.specs.Signatures.{Numbers}
use Rattle.coded_machine.specs.declared.cycle_end.CycleEnd.{CycleEnd}
use Rattle.coded_machine.specs.declared.cycle_end.CycleEnd.TheVariants as cycle
use Rattle.coded_machine.specs.CycleEnds.{end_of, outputs_of}
use Rattle.coded_machine.specs.Runs.{Outcome, AllCycles, outcome_over, end_of_run, followed_by as outcome_followed, unless_ended}
use Rattle.flat_expr.specs.Told.{graph_end, halted_at}
use Rattle.coded_machine.specs.RowRuns.{SomeCycles}
use Rattle.vcp_inputs.specs.Reports.{RunEnd, complete, stopped, refused, end_told, end_read, behind_text, run_status}
use Rattle.vcp_outside.specs.Seen.{SinkSeen}
use Rattle.vcp_core.specs.declared.ending.Ending.{Ending}
use Rattle.vcp_core.specs.Reach.{end_status}
use Rattle.vcp_core.specs.Faults.{line_end}
use Rattle.vcp_core.specs.EndLines.{last_text}
use Rattle.vcp_core.specs.MachineRun.{EndsAtStop, IsThere, PrintsLast}

-- ---- the graph's run as it is told

pub read-end : (g : Lists) (s : Option Stop) → end_read g (end_of_run s) ≡ end_told (graph_end g s)
read-end g None = refl
read-end g (Some s) = refl

-- ---- fronts and parts

pub front-of : (old new : Option (List ℕ)) (p more all : List ℕ) → Appends old new p → all ≡ p ++ more → AppendsFront old new all
front-of old new p more all w is = (p, more, is, w)

pub part-of : (old new : Option (List ℕ)) (p more all : List ℕ) → AppendsPart old new p → all ≡ p ++ more → AppendsPart old new all
part-of old new p more all (front, rest, is, some, w) whole =
    (front, rest ++ more, whole ∙ ap (λ t. t ++ more) is ∙ append_assoc front rest more, rw (length-append rest more) (omega (arith, some)), w)

pub part-behind : (a b c : Option (List ℕ)) (p q all : List ℕ) → Appends a b p → AppendsPart b c q → all ≡ p ++ q → AppendsPart a c all
part-behind a b c p q all before (front, rest, is, some, w) whole =
    (p ++ front, rest, whole ∙ ap (λ t. p ++ t) is ∙ sym (append_assoc p front rest), some, Appends-trans a b c p front before w)

pub append-all : (a b c : Option (List ℕ)) (p q all : List ℕ) → Appends a b p → Appends b c q → all ≡ p ++ q → Appends a c all
append-all a b c p q all first second is = rw is (Appends-trans a b c p q first second)

-- ---- ends

-- an operation that is there has its stop told
told-stop : (g : Lists) (why : StopKind) (o : Option Op) → o ≢ None → (s : ToldStop) × (end_told (halted_at g why o) ≡ stopped s)
told-stop g why None h = absurd (h refl)
told-stop g why (Some op) h = (_, refl)

-- as many cycles as rows, where each was released
released-step : (e : CycleEnd) (row : List ℤ) (o : Outcome) (More Other : Type 0) (P : Type 0) → unless_ended e More Other
    → (outcome_followed e row o).end ≡ cycle.Released → (More → o.end ≡ cycle.Released → P) → P
released-step cycle.Released row o More Other P h is go = go h is
released-step (cycle.Stopped k why) row o More Other P h is go = absurd cc
released-step (cycle.Refused i f w) row o More Other P h is go = absurd cc

pub as-many : (g : Lists) (t : Numbers) (n : ℕ) (rows : List (List ℤ)) (cycles : List (List Given)) → AllCycles g t n rows cycles
    → (outcome_over g t n cycles).end ≡ cycle.Released → length cycles ≡ length rows
as-many g t n [] [] all is = refl
as-many g t n [] (a ∷ cycles) all is = absurd all
as-many g t n (row ∷ rows) [] all is = absurd all
as-many g t n (row ∷ rows) (a ∷ cycles) all is =
    released-step (end_of g t n a) (outputs_of g a) (outcome_over g t (suc n) cycles) (AllCycles g t (suc n) rows cycles) (cycles ≡ [])
    (length (a ∷ cycles) ≡ length (row ∷ rows)) all.1 is
    (λ more rest. ap suc (as-many g t (suc n) rows cycles more rest))

-- ---- the rows of the cycles before the last one

no-cycle : (cycles earlier : List (List Given)) (last : List Given) → cycles ≡ [] → cycles ≡ earlier ++ last ∷ [] → ⊥
no-cycle cycles [] last none is = cc
no-cycle cycles (a ∷ earlier) last none is = cc

rows-step : (e : CycleEnd) (row : List ℤ) (o : Outcome) (More : Type 0) (cycles earlier : List (List Given)) (last : List Given) (rows : List (List ℤ))
    → unless_ended e More (cycles ≡ []) → cycles ≡ earlier ++ last ∷ [] →
    (More → (more : List (List ℤ)) × (o.rows ≡ rows ++ more)) → (more : List (List ℤ)) × ((outcome_followed e row o).rows ≡ (row ∷ rows) ++ more)
rows-step cycle.Released row o More cycles earlier last rows h is go = let m = go h in (m.0, ap (λ r. row ∷ r) m.1)
rows-step (cycle.Stopped k why) row o More cycles earlier last rows h is go = absurd (no-cycle cycles earlier last h is)
rows-step (cycle.Refused i f w) row o More cycles earlier last rows h is go = absurd (no-cycle cycles earlier last h is)

pub earlier-rows : (g : Lists) (t : Numbers) (n : ℕ) (rows : List (List ℤ)) (cycles earlier : List (List Given)) (last : List Given)
    → SomeCycles g t n rows cycles → cycles ≡ earlier ++ last ∷ [] →
    (more : List (List ℤ)) × ((outcome_over g t n cycles).rows ≡ map (outputs_of g) earlier ++ more)
earlier-rows g t n rows cycles [] last some is = ((outcome_over g t n cycles).rows, refl)
earlier-rows g t n rows [] (a ∷ earlier) last some is = absurd (no-cycle [] (a ∷ earlier) last refl is)
earlier-rows g t n [] (b ∷ cycles) (a ∷ earlier) last some is = absurd some
earlier-rows g t n (row ∷ rows) (b ∷ cycles) (a ∷ earlier) last some is =
    let first : b ≡ a = cc in
    let rest : cycles ≡ earlier ++ last ∷ [] = cc in
    let step = rows-step (end_of g t n b) (outputs_of g b) (outcome_over g t (suc n) cycles) (SomeCycles g t (suc n) rows cycles) cycles earlier last
    (map (outputs_of g) earlier) some.1 rest
    (λ more. earlier-rows g t (suc n) rows cycles earlier last more rest) in
    (step.0, step.1 ∙ ap (λ x. (outputs_of g x ∷ map (outputs_of g) earlier) ++ step.0) first)

-- ---- the last line

-- a cycle's end that is told as one that ends the run is told so whatever is behind the rows or comes later
module _ (g : Lists) (names : List (List ℕ)) (name : List ℕ) where
  pub no-behind-by : (e : RunEnd) (behind : Option RowFault) → (e ≡ complete → behind ≡ None) → behind_text name e behind ≡ []
  no-behind-by complete behind h = ap (behind_text name complete) (h refl)
  no-behind-by (stopped s) behind h = refl
  no-behind-by (refused i f w) behind h = refl

  pub status-by : (e : RunEnd) (behind : Option RowFault) → (e ≡ complete → behind ≡ None) → run_status e None ≡ run_status e behind
  status-by complete behind h = ap (run_status complete) (sym (h refl))
  status-by (stopped s) behind h = refl
  status-by (refused i f w) behind h = refl

pub not-there : (ops : List Op) (k : ℕ) → k < length ops → slice_get ops k ≢ None
not-there [] k below is = absurd (omega (arith, below))
not-there (op ∷ ops) zero below is = cc
not-there (op ∷ ops) (suc k) below is = not-there ops k (omega (arith, below)) is

-- only a release is told as the end of the rows, where the operation that stopped is there
pub complete-is : (g : Lists) (e : CycleEnd) → IsThere g e → end_read g e ≡ complete → e ≡ cycle.Released
complete-is g cycle.Released there is = refl
complete-is g (cycle.Stopped k why) there is =
    let s = told-stop g why (slice_get g.operations k) (not-there g.operations k there) in
    let e : stopped s.0 ≡ complete = sym s.1 ∙ is in cc
complete-is g (cycle.Refused i f w) there is = cc

pub grows-none : (log : Option (List Entry)) → GrowsBy log log []
grows-none None = tt
grows-none (Some entries) = sym (append-nil entries)

pub no-last : {P : Type 0} (earlier : List (List Given)) (last : List Given) → (let none : List (List Given) = [] in none ≡ earlier ++ last ∷ []) → P
no-last [] last is = cc
no-last (first ∷ earlier) last is = cc

-- ---- a row is refused

pub record-of : (f : RowFault) (o : Option RowFault) → IfSome o IsOfRecord → o ≡ Some f → IsOfRecord f
record-of f o h is = rw is at h

-- ---- the last line, as it is printed

-- the line of a stop of an operation that is there
module _ (g : Lists) (names : List (List ℕ)) (n : ℕ) (why : StopKind) (old new : Option (List ℕ)) (f h : ℕ) (r : Result (Unit {0}) Failed) where
  stop-by : (o : Option Op) → o ≢ None → IfSome o (λ op. Writes old new f h (stop_text n (told_stop g.names why op.spot (turns_of g op.turn))) r)
      → Writes old new f h (last_text names n (end_told (halted_at g why o)) None) r
  stop-by None some w = absurd (some refl)
  stop-by (Some op) some w = w

  pub stop-printed : (k : ℕ) → k < length g.operations
      → IfSome (slice_get g.operations k) (λ op. Writes old new f h (stop_text n (told_stop g.names why op.spot (turns_of g op.turn))) r) →
      Writes old new f h (last_text names n (end_read g (cycle.Stopped k why)) None) r
  stop-printed k below w = stop-by (slice_get g.operations k) (not-there g.operations k below) w

pub stop-status : (g : Lists) (k : ℕ) (why : StopKind) → k < length g.operations → 2 ≡ run_status (end_read g (cycle.Stopped k why)) None
stop-status g k why below = let s = told-stop g why (slice_get g.operations k) (not-there g.operations k below) in ap (λ e. run_status e None) (sym s.1)

-- what is printed last of a run that stopped is the line of that stop
ends-by : (g : Lists) (names : List (List ℕ)) (n : ℕ) (why : StopKind) (o : Option Op) → o ≢ None →
    (front : List ℕ) × (told : ToldStop) × (told.kind ≡ why) × (last_text names n (end_told (halted_at g why o)) None ≡ front ++ stop_text n told)
ends-by g names n why None some = absurd (some refl)
ends-by g names n why (Some op) some = ([], told_stop g.names why op.spot (turns_of g op.turn), refl, refl)

pub ends-at-stop : (g : Lists) (names : List (List ℕ)) (n : ℕ) (e : CycleEnd) → IsThere g e → EndsAtStop (last_text names n (end_read g e) None) n e
ends-at-stop g names n cycle.Released there = tt
ends-at-stop g names n (cycle.Stopped k why) there = ends-by g names n why (slice_get g.operations k) (not-there g.operations k there)
ends-at-stop g names n (cycle.Refused i f w) there = tt

-- the line was written, or a part of it
pub prints-last : (text : List ℕ) (n : ℕ) (g : Lists) (e : CycleEnd) (before after : SinkSeen) (end : Ending) (written : Result (Unit {0}) Failed)
    → WritesTo before after text written → end_status end ≡ run_status (end_read g e) None → EndsAtStop text n e
    → PrintsLast text n g e before after (line_end written end)
prints-last text n g e before after end (Ok _) w status stop = (w.whole, status, w.cause.stayed, stop)
prints-last text n g e before after end (Err f) w status stop = (w.cause.failed, w.part)

-- the name of an output
pub name-at : (columns : List Column) (i : ℕ) (c : Column) → slice_get columns i ≡ Some c → slice_index_or (map (λ (x : Column). x.name) columns) i [] ≡ c.name
name-at [] i c is = absurd cc
name-at (x ∷ columns) zero c is = cc
name-at (x ∷ columns) (suc i) c is = name-at columns i c is
