-- How far the command `plain` comes, from what printing its run leaves.
use Rattle.std.proofs.Common.{ℕ, ℤ, ◌≡◌, inl, inr, refl, sym, ap, subst, List, [], ◌∷◌, ◌++◌, length, Option, Some, None, Result, Ok, Err}
use Rattle.std.specs.Io.KnownBytes.{Appends}
use Rattle.coded_unit.specs.Seen.{UnitSeen}
use Rattle.vcp_outside.specs.Counts.{Rose}
use Rattle.vcp_outside.specs.Written.{AppendsFront, AppendsPart}
use Rattle.input_rows.specs.declared.fault.RowFault.{RowFault}
use Rattle.input_rows.specs.RowsOf.{RowsLeft}
use Rattle.flat_expr.specs.Told.{told_source}
use Rattle.coded_machine.specs.RowRuns.{texts_from}
use Rattle.run_report.specs.Lines.{header_text, row_text}
use Rattle.vcp_typed.specs.SourceRun.{Program}
use Rattle.vcp_inputs.specs.Forms.{Rows, plain}
use Rattle.vcp_inputs.specs.Tables.{rows_name}
use Rattle.vcp_inputs.specs.Abouts.{about, Among}
use Rattle.vcp_inputs.specs.Answer.{Answer}
use Rattle.vcp_inputs.specs.Kinds.{Task, answers}
use Rattle.vcp_inputs.specs.Performing.{Reaches, done, cut, wanting}
use Rattle.vcp_inputs.specs.Printing.{every_row, last_part}
use Rattle.vcp_inputs.specs.Reports.{RunEnd, complete, stopped, refused, end_told, output_names}
use Rattle.vcp_core.specs.EndLines.{last_text}
use Rattle.vcp_outside.specs.Seen.{FilesSeen, SinkSeen}
use Rattle.coded_machine.specs.Moments.{moment}
use Rattle.vcp_core.specs.declared.ending.Ending.{Ending}
use Rattle.vcp_core.specs.declared.ending.Ending.TheVariants as end
use Rattle.coded_machine.specs.declared.rows.fault.RunFault.{RunFault}
use Rattle.coded_machine.specs.declared.rows.fault.RunFault.TheVariants as fault
use Rattle.vcp_core.specs.Tasks.{plain_answer}
use Rattle.vcp_core.specs.PlainRun.{Prints, plain_text}
use Rattle.vcp_core.specs.Reach.{end_status, run_code, run_line}
use Rattle.vcp_core.proofs.Performing.{row_told}

-- what is printed of the run, one way and the other
last_same : (names : List (List ℕ)) (rows : List (List ℤ)) (words : List ℤ) (e : RunEnd) (behind : Option RowFault) →
    last_part (every_row names) names (record { rows = rows; end = e; words = words }) e behind ≡ last_text names (length rows) e behind
last_same names rows words complete None = refl
last_same names rows words complete (Some why) = refl
last_same names rows words (stopped s) behind = refl
last_same names rows words (refused output found wanted) behind = refl

text_same : (name : List ℕ) (t : Program) (left : RowsLeft) → (plain_answer name t left).out ≡ plain_text t left
text_same name t left =
    ap (λ (l : List ℕ). header_text (output_names t) ++ (texts_from row_text 0 (told_source t left.rows).rows ++ l))
    (last_same (output_names t) (told_source t left.rows).rows [] (end_told (told_source t left.rows).end) left.refusal)

module _ (t : Program) (left : RowsLeft) (before after : SinkSeen) where
  -- a run without a unit ends with its rows or at a stop
  pub plain_ends : (r : Result Ending RunFault) → Prints t left before.written after.written r → (e : Ending) → r ≡ Ok e → Among (end_status e) (0 ∷ 1 ∷ 2 ∷ [])
  plain_ends (Ok end.Done) h e is = let same : end.Done ≡ e = cc in subst (λ (x : Ending). Among (end_status x) (0 ∷ 1 ∷ 2 ∷ [])) same (inl refl)
  plain_ends (Ok end.Stopped) h e is =
      let same : end.Stopped ≡ e = cc in subst (λ (x : Ending). Among (end_status x) (0 ∷ 1 ∷ 2 ∷ [])) same (inr (inr (inl refl)))
  plain_ends (Ok end.Refused) h e is = absurd h
  plain_ends (Err why) h e is = absurd cc

  -- no output is refused
  pub plain_refuses : (r : Result Ending RunFault) → Prints t left before.written after.written r → r ≡ Ok end.Refused → ⊥
  plain_refuses (Ok end.Done) h is = cc
  plain_refuses (Ok end.Stopped) h is = cc
  plain_refuses (Ok end.Refused) h is = h
  plain_refuses (Err why) h is = cc

  module _ (p : List ℕ) (rows : Rows) (Comes : Task → Type 0) (files later : FilesSeen) (unit : UnitSeen)
      (takes : Comes (answers (plain_answer (rows_name rows) t left))) where
    abbrev a : Answer
    a = plain_answer (rows_name rows) t left

    -- the run was printed, or the printing of it was ended
    pub plain_reaches : (r : Result Ending RunFault) → Prints t left before.written after.written r → (r ≡ Err fault.Write → Rose before.faults after.faults) →
        Reaches (about (plain p rows)) Comes files later (moment unit before) (moment unit after) (run_line (rows_name rows) r)
        (run_code r)
    plain_reaches (Ok end.Done) (stop, none, w) rose =
        done (answers a) a takes (refl, refl) (subst (λ (l : List ℕ). Appends before.written after.written l) (sym (text_same (rows_name rows) t left)) w)
        (rw (stop, none) refl)
        (rw (stop, none) refl)
    plain_reaches (Ok end.Stopped) (s, stop, w) rose =
        done (answers a) a takes (refl, refl) (subst (λ (l : List ℕ). Appends before.written after.written l) (sym (text_same (rows_name rows) t left)) w)
        (rw stop refl)
        (rw stop refl)
    plain_reaches (Ok end.Refused) h rose = absurd h
    plain_reaches (Err (fault.Rows w)) (stop, some, known, out) rose =
        done (answers a) a takes (refl, refl) (subst (λ (l : List ℕ). Appends before.written after.written l) (sym (text_same (rows_name rows) t left)) out)
        (rw (stop, some) (sym (row_told (rows_name rows) w known).0)) (rw (stop, some) (sym (row_told (rows_name rows) w known).1))
    plain_reaches (Err fault.Write) part rose =
        cut (answers a) takes (
          refl,
          (
            a,
            refl,
            subst (λ (l : List ℕ). AppendsPart before.written after.written l) (sym (text_same (rows_name rows) t left))
                part,
          ),
        )
        (rose refl) refl refl
    plain_reaches (Err fault.Memory) some rose =
        wanting (answers a) takes (
          refl,
          (
            a,
            refl,
            subst (λ (l : List ℕ). AppendsFront before.written after.written l)
                (sym (text_same (rows_name rows) t left)) some,
          ),
        )
        refl refl refl
