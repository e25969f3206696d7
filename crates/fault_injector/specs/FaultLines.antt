-- The lines of a script of faults. Each ends with LF.
use Rattle.std.specs.Prelude.{ℕ, ℤ, ◌+◌, List, [], ◌∷◌, ◌++◌, Option, Some, None, slice_get, decimal, codes, map, flat_map}
use Rattle.std.specs.Fmt.{signed_decimal}
use Rattle.vcp_base.specs.declared.kind.StopKind.{StopKind}
use Rattle.vcp_base.specs.Stops.{told_turn}
use Rattle.op_graph.specs.declared.op.Op.{Op}
use Rattle.op_graph.specs.Lists.{Lists, turns_of}
use Rattle.fault_script.specs.declared.act.Fault.{Fault}
use Rattle.fault_script.specs.Groups.{line_of}
use Rattle.fault_injector.specs.declared.verdicts.Verdict.{Verdict}
use Rattle.fault_injector.specs.declared.verdicts.Verdict.TheVariants as verdict
use Rattle.fault_injector.specs.declared.lines.Totals.{Totals}
use Rattle.run_report.specs.Variables.{output_name}
use Rattle.run_report.specs.Lines.{cause_text, turn_text, refused_front}

-- why an operation stopped, its place in the source, and the turns round it, outermost first
abbrev pub stopped_at : Lists → StopKind → Option Op → List ℕ
stopped_at g kind None = []
stopped_at g kind (Some op) = cause_text kind op.spot ++ flat_map turn_text (map (told_turn g.names) (turns_of g op.turn))

-- an output is released with one value in place of another
abbrev pub wrong_text : ℕ → List ℕ → ℤ → ℤ → List ℕ
wrong_text cycle name got want =
    codes "wrong " ++ (decimal cycle ++ (codes " " ++ (name ++ (codes " got " ++ (signed_decimal got ++ (codes " want " ++ signed_decimal want))))))

-- the run goes on where the one without the fault stops
abbrev pub ran_on_text : ℕ → List ℕ
ran_on_text cycle = codes "ran-on " ++ decimal cycle

-- the run stops at an operation
abbrev pub stopped_text : Lists → ℕ → ℕ → StopKind → List ℕ
stopped_text g cycle op kind =
    codes "stopped " ++ (decimal cycle ++ (codes " " ++ (decimal op ++ (codes " " ++ stopped_at g kind (slice_get g.operations op)))))

-- a verdict: in which cycle the fault shows, at which output or operation, and by what
abbrev pub what_shows : Lists → Verdict → List ℕ
what_shows g verdict.Same = codes "same"
what_shows g (verdict.Wrong cycle output got want) = wrong_text cycle (output_name g output) got want
what_shows g (verdict.RanOn cycle) = ran_on_text cycle
what_shows g (verdict.Refused cycle output found wanted) = refused_front cycle (output_name g output) found wanted
what_shows g (verdict.Stopped cycle op kind) = stopped_text g cycle op kind

-- the verdict of a fault, after the number of the script's line on which it stands
abbrev pub verdict_text : Lists → ℕ → Verdict → List ℕ
verdict_text g line v = decimal line ++ (codes " " ++ (what_shows g v ++ codes "\n"))

-- ---- all verdicts of a script

-- how many there are
abbrev pub faults : Totals → ℕ
faults t = t.same + t.wrong + t.ran_on + t.refused + t.stopped

-- one more
abbrev pub counted : Totals → Verdict → Totals
counted t verdict.Same = record t { same = t.same + 1 }
counted t (verdict.Wrong cycle output got want) = record t { wrong = t.wrong + 1 }
counted t (verdict.RanOn cycle) = record t { ran_on = t.ran_on + 1 }
counted t (verdict.Refused cycle output found wanted) = record t { refused = t.refused + 1 }
counted t (verdict.Stopped cycle op kind) = record t { stopped = t.stopped + 1 }

-- before any
abbrev pub no_verdicts : Totals
no_verdicts = record { same = 0; wrong = 0; ran_on = 0; refused = 0; stopped = 0 }

-- the totals of verdicts
abbrev pub totals_after : Totals → List Verdict → Totals
totals_after t [] = t
totals_after t (v ∷ vs) = totals_after (counted t v) vs

abbrev pub totals_of : List Verdict → Totals
totals_of vs = totals_after no_verdicts vs

-- how many faults a script has, and how many of each verdict
abbrev pub totals_front : Totals → List ℕ
totals_front t =
    codes "faults "
    ++ (decimal (faults t) ++ (codes " same " ++ (decimal t.same ++ (codes " wrong " ++ (decimal t.wrong ++ (codes " ran-on " ++ (decimal t.ran_on
    ++ (codes " refused " ++ (decimal t.refused ++ (codes " stopped " ++ decimal t.stopped))))))))))

-- their line
abbrev pub totals_text : Totals → List ℕ
totals_text t = totals_front t ++ codes "\n"

-- ---- a whole campaign

-- lines, group by group, each with the number of its group's line
abbrev pub lines_by : {V : Type 0} → (ℕ → V → List ℕ) → List (List Fault) → List V → List ℕ
lines_by text [] vs = []
lines_by text (group ∷ groups) [] = []
lines_by text (group ∷ groups) (v ∷ vs) = text (line_of group) v ++ lines_by text groups vs

-- those of verdicts
abbrev pub verdict_lines : Lists → List (List Fault) → List Verdict → List ℕ
verdict_lines g groups vs = lines_by (verdict_text g) groups vs

-- all of it: a line for each verdict, and then their totals
abbrev pub campaign_text : Lists → List (List Fault) → List Verdict → List ℕ
campaign_text g groups vs = verdict_lines g groups vs ++ totals_text (totals_of vs)
