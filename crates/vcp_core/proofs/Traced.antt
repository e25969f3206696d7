-- Traced: what is printed of a machine's run of which the words of one cycle are shown, one part after another.
use Rattle.std.proofs.Common.{ℕ, ◌≡◌, ◌≢◌, ◌⊎◌, inl, inr, refl, sym, ap, ◌∙◌, List, ◌++◌, append_assoc, codes, None, Result, Ok, Err, arith}
use Rattle.std.proofs.KnownBytes.{Appends-trans}
use Rattle.std.proofs.lemmas.List.{length-append}
use Rattle.vcp_base.specs.declared.kind.StopKind.{StopKind}
use Rattle.vcp_outside.specs.Seen.{SinkSeen}
use Rattle.vcp_outside.specs.Written.{WritesTo}
use Rattle.vcp_outside.specs.declared.failed.Failed.{Failed}
use Rattle.coded_machine.specs.declared.cycle_end.CycleEnd.{CycleEnd}
use Rattle.coded_machine.specs.declared.cycle_end.CycleEnd.TheVariants as cycle
use Rattle.coded_machine.specs.State.{State}
use Rattle.run_report.specs.Lines.{stop_text}
use Rattle.vcp_inputs.specs.CycleWords.{word_lines}
use Rattle.vcp_inputs.specs.Reports.{RunEnd, complete, end_read, refused, stopped}
use Rattle.vcp_core.specs.Faults.{line_end}
use Rattle.vcp_core.specs.EndLines.{last_text}
use Rattle.vcp_core.specs.declared.ending.Ending.{Ending}
use Rattle.vcp_core.specs.declared.ending.Ending.TheVariants as ending
use Rattle.vcp_core.specs.MachineRun.{EndsAtStop, IsThere, PrintsLast}
use Rattle.vcp_core.specs.TraceRun.{answered_words, traced_text, words_then}
use Rattle.vcp_core.proofs.JobRun.{complete-is}

-- words' lines come first
lines-first : (lines : List ℕ) (names : List (List ℕ)) (k : ℕ) (e : RunEnd) → (more : List ℕ) × (words_then lines names k e None ≡ lines ++ more)
lines-first lines names k complete = (_, refl)
lines-first lines names k (stopped s) = (_, refl)
lines-first lines names k (refused i f w) = (_, refl)

-- and then the last line, unless the run was released
then-last : (lines : List ℕ) (names : List (List ℕ)) (k : ℕ) (e : RunEnd) → e ≢ complete → words_then lines names k e None ≡ lines ++ last_text names k e None
then-last lines names k complete not = absurd (not refl)
then-last lines names k (stopped s) not = refl
then-last lines names k (refused i f w) not = refl

-- a stop or a refused output is no release
pub not-released : (e : CycleEnd)
    → ((k : ℕ) × (why : StopKind) × (e ≡ cycle.Stopped k why)) ⊎ ((i : ℕ) × (found : ℕ) × (wanted : ℕ) × (e ≡ cycle.Refused i found wanted))
    → e ≢ cycle.Released
not-released e (inl (k, why, is)) released = let no : cycle.Stopped k why ≡ cycle.Released = sym is ∙ released in cc
not-released e (inr (i, found, wanted, is)) released = let no : cycle.Refused i found wanted ≡ cycle.Released = sym is ∙ released in cc

-- the line of a stop is the last behind other lines, too
stop-behind : (lines last text : List ℕ) (n : ℕ) (e : CycleEnd) → text ≡ lines ++ last → EndsAtStop last n e → EndsAtStop text n e
stop-behind lines last text n cycle.Released is h = tt
stop-behind lines last text n (cycle.Stopped k why) is h =
    (lines ++ h.0, h.1, h.2, is ∙ ap (λ l. lines ++ l) h.3 ∙ sym (append_assoc lines h.0 (stop_text n h.1)))
stop-behind lines last text n (cycle.Refused i f w) is h = tt

module _ (m : State) (names : List (List ℕ)) (n : ℕ) (a b c : SinkSeen) where
  -- the lines of the words in a machine
  abbrev lines : List ℕ
  lines = word_lines m.graph m.table n 0 m.graph.operations (answered_words m n)

  -- the words couldn't be written
  pub words-cut : (e : CycleEnd) (why : Failed) → WritesTo {T = Unit {0}} {E = Failed} a b lines (Err why)
      → PrintsLast (traced_text m names n e) m.cycles m.graph e a b (Err why)
  words-cut e why failure =
      let (more, all) = lines-first lines names m.cycles (end_read m.graph e) in
      let (front, rest, is, some, taken) = failure.part in
      let whole : traced_text m names n e ≡ front ++ (rest ++ more) = all ∙ ap (λ l. l ++ more) is ∙ append_assoc front rest more in
      (failure.cause.failed, (front, rest ++ more, whole, rw (length-append rest more) (omega (arith, some)), taken))

  -- the line of a release was written behind them, or a part of it
  pub released-on : (r : Result (Unit {0}) Failed) → WritesTo {T = Unit {0}} {E = Failed} a b lines (Ok tt) → WritesTo b c (codes "released\n") r
      → PrintsLast (traced_text m names n cycle.Released) m.cycles m.graph cycle.Released a c (line_end r ending.Done)
  released-on (Ok _) before after =
      (Appends-trans a.written b.written c.written lines (codes "released\n") before.whole after.whole, refl, after.cause.stayed ∙ before.cause.stayed, tt)
  released-on (Err why) before failure =
      let (front, rest, is, some, taken) = failure.part in
      let whole : traced_text m names n cycle.Released ≡ (lines ++ front) ++ rest = ap (λ l. lines ++ l) is ∙ sym (append_assoc lines front rest) in (
        omega (arith, before.cause.later, failure.cause.failed),
        (
          lines ++ front,
          rest,
          whole,
          some,
          Appends-trans a.written b.written c.written lines front
              before.whole taken,
        ),
      )

  -- the run's last line was written, or a part of it
  pub ended-on : (e : CycleEnd) (r : Result Ending Failed) → e ≢ cycle.Released → IsThere m.graph e → WritesTo {T = Unit {0}} {E = Failed} a b lines (Ok tt)
      → PrintsLast (last_text names m.cycles (end_read m.graph e) None) m.cycles m.graph e b c r
      → PrintsLast (traced_text m names n e) m.cycles m.graph e a c r
  ended-on e (Ok end) not there before (w, status, stayed, stop) =
      let text : traced_text m names n e ≡ lines ++ last_text names m.cycles (end_read m.graph e) None =
      then-last lines names m.cycles (end_read m.graph e) (λ is. not (complete-is m.graph e there is)) in (
        rw text (Appends-trans a.written b.written c.written lines (last_text names m.cycles (end_read m.graph e) None) before.whole w),
        status,
        stayed ∙ before.cause.stayed,
        stop-behind lines (last_text names m.cycles (end_read m.graph e) None) (traced_text m names n e) m.cycles e text stop,
      )
  ended-on e (Err why) not there before (rose, (front, rest, is, some, taken)) =
      let text : traced_text m names n e ≡ lines ++ last_text names m.cycles (end_read m.graph e) None =
      then-last lines names m.cycles (end_read m.graph e) (λ is. not (complete-is m.graph e there is)) in
      let whole : traced_text m names n e ≡ (lines ++ front) ++ rest = text ∙ ap (λ l. lines ++ l) is ∙ sym (append_assoc lines front rest) in
      (omega (arith, before.cause.later, rose), (lines ++ front, rest, whole, some, Appends-trans a.written b.written c.written lines front before.whole taken))
