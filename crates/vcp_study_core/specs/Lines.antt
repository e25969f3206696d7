-- Lines: the lines of what this program alone refuses. Each begins with a file's name, and ends with LF.
use Rattle.std.specs.Prelude.{ℕ, List, ◌++◌, codes}
use Rattle.input_rows.specs.declared.fault.RowFault.TheVariants as rows
use Rattle.pictures.specs.declared.waves.fault.RunTextFault.{RunTextFault}
use Rattle.pictures.specs.declared.waves.fault.RunTextFault.TheVariants as fault
use Rattle.fault_sites.specs.declared.named.refused.Why.{Why}
use Rattle.fault_sites.specs.declared.named.refused.Why.TheVariants as reason
use Rattle.vcp_inputs.specs.Lines.{memory_text, place_text, rows_text}
use Rattle.verdict_tables.specs.declared.fault.VerdictsFault.{VerdictsFault}
use Rattle.verdict_tables.specs.declared.fault.VerdictsFault.TheVariants as verdicts
use Rattle.vcp_study_core.specs.declared.fault.StudyRefusal.{StudyRefusal}
use Rattle.vcp_study_core.specs.declared.fault.StudyRefusal.TheVariants as why
use Rattle.vcp_study_core.specs.declared.telling.Said.{Said}
use Rattle.vcp_study_core.specs.declared.telling.Said.TheVariants as said

-- of a file that is no run, by its first fault; what rows are refused for too has their lines
abbrev pub run_text : List ℕ → RunTextFault → List ℕ
run_text name fault.Header = rows_text name rows.Header
run_text name fault.Names = name ++ codes ":1 L3 Names\n"
run_text name (fault.Line number) = place_text name number (codes "V1 Line")
run_text name (fault.Width number) = rows_text name (rows.Width number)
run_text name (fault.Cell number column) = rows_text name (rows.Cell number column)
run_text name fault.Cycles = rows_text name rows.Cycles
run_text name fault.End = name ++ codes " V2 End\n"
run_text name (fault.Rest number) = place_text name number (codes "V3 Rest")
run_text name fault.Cut = name ++ codes " V4 Cut\n"
run_text name fault.Memory = memory_text

-- of a text that doesn't have the verdicts of a script, by its first refused line
abbrev pub verdicts_text : List ℕ → VerdictsFault → List ℕ
verdicts_text name (verdicts.Group line) = place_text name line (codes "U2 Group")
verdicts_text name (verdicts.Verdict line) = place_text name line (codes "U3 Verdict")
verdicts_text name (verdicts.End line) = place_text name line (codes "U4 End")
verdicts_text name (verdicts.Totals line) = place_text name line (codes "U5 Totals")
verdicts_text name (verdicts.Rest line) = place_text name line (codes "U6 Rest")
verdicts_text name verdicts.Memory = memory_text

-- of a line that names faults
abbrev pub refused_words : Why → List ℕ
refused_words reason.Form = codes "F1 Form"
refused_words reason.Site = codes "F2 Site"
refused_words reason.Early = codes "F3 Early"
refused_words reason.Kind = codes "F4 Kind"
refused_words reason.Faults = codes "L5 Faults"
refused_words reason.Unknown = codes "N1 Unknown"
refused_words reason.Several = codes "N2 Several"
refused_words reason.Held = codes "N3 Held"
refused_words reason.Image = codes "N4 Image"

abbrev pub refused_line_text : List ℕ → ℕ → Why → List ℕ
refused_line_text name line r = place_text name line (refused_words r)

-- of the file under a name, by the reason
abbrev pub own_text : List ℕ → StudyRefusal → List ℕ
own_text name (why.Run f) = run_text name f
own_text name why.Sites = name ++ codes " L9 Sites\n"
own_text name why.Image = name ++ codes ":1 U1 Image\n"
own_text name (why.Verdicts f) = verdicts_text name f
own_text name why.Text = name ++ codes " Q7 Text\n"
own_text name (why.Named r) = refused_line_text name r.line r.why

-- what a line says of the file under a name
abbrev pub said_text : List ℕ → Said → List ℕ
said_text name (said.Rows f) = rows_text name f
said_text name (said.At line words) = place_text name line words.now
said_text name (said.Of words) = name ++ (words.now ++ codes "\n")
said_text name said.Memory = memory_text
