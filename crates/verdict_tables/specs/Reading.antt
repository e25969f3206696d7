-- Reading: which verdicts a text tells that was printed for the groups of a script, or why it tells none.
use Rattle.std.specs.Prelude.{ℕ, ◌+◌, Bool, cond, List, [], ◌∷◌, ◌++◌, bytes_eq, codes, decimal, Option, Some, None, Result, Ok, Err}
use Rattle.std.specs.Str.Lines.{lines}
use Rattle.op_graph.specs.Lists.{Lists}
use Rattle.vcp_base.specs.Words.{words}
use Rattle.fault_script.specs.declared.act.Fault.{Fault}
use Rattle.fault_script.specs.Groups.{line_of}
use Rattle.fault_injector.specs.declared.verdicts.Verdict.{Verdict}
use Rattle.fault_injector.specs.declared.lines.Totals.{Totals}
use Rattle.fault_injector.specs.FaultLines.{verdict_text, counted, no_verdicts, totals_text}
use Rattle.verdict_tables.specs.declared.fault.VerdictsFault.{VerdictsFault}
use Rattle.verdict_tables.specs.declared.fault.VerdictsFault.TheVariants as fault
use Rattle.verdict_tables.specs.Outcome.{meant}

-- ---- one line, without its LF

-- the line with its LF
abbrev pub ended : List ℕ → List ℕ
ended line = line ++ codes "\n"

-- so it is this text
abbrev pub is_line : List ℕ → List ℕ → Bool
is_line line text = bytes_eq (ended line) text

-- the verdict that its words may mean, where the line is what is printed of it for the group of line `at` of the script
abbrev pub confirmed : Lists → ℕ → List ℕ → Option Verdict → Option Verdict
confirmed g at line None = None
confirmed g at line (Some v) = cond (is_line line (verdict_text g at v)) (Some v) None

abbrev pub verdict_or : ℕ → Option Verdict → Result Verdict VerdictsFault
verdict_or number None = Err (fault.Verdict number)
verdict_or number (Some v) = Ok v

-- by its words: the first is the number of the group's line, and those behind it mean a verdict
abbrev pub verdict_by : Lists → ℕ → ℕ → List ℕ → List (List ℕ) → Result Verdict VerdictsFault
verdict_by g at number line [] = Err (fault.Group number)
verdict_by g at number line (w ∷ more) =
    cond (bytes_eq w (decimal at)) (verdict_or number (confirmed g at line (meant g more))) (Err (fault.Group number))

-- the verdict that line `number` tells of the group of line `at` of the script
abbrev pub verdict_on : Lists → ℕ → ℕ → List ℕ → Result Verdict VerdictsFault
verdict_on g at number line = verdict_by g at number line (words line)

-- ---- the next line

-- a verdict, and the lines behind it
pub record Next : Type 0 where
  pub verdict : Verdict
  pub more : List (List ℕ)

abbrev pub followed : List (List ℕ) → Result Verdict VerdictsFault → Result Next VerdictsFault
followed more (Ok v) = Ok (record { verdict = v; more = more })
followed more (Err why) = Err why

-- what the next line tells of the group of line `at` of the script
abbrev pub next_of : Lists → ℕ → ℕ → List (List ℕ) → Result Next VerdictsFault
next_of g at number [] = Err (fault.End number)
next_of g at number (line ∷ more) = followed more (verdict_on g at number line)

-- ---- all lines

-- nothing stands behind the totals
abbrev pub behind_totals : ℕ → List (List ℕ) → Result (List Verdict) VerdictsFault
behind_totals number [] = Ok []
behind_totals number (line ∷ more) = Err (fault.Rest number)

-- the last line is that of these totals
abbrev pub totals_then : Totals → ℕ → List (List ℕ) → Result (List Verdict) VerdictsFault
totals_then t number [] = Err (fault.End number)
totals_then t number (line ∷ more) = cond (is_line line (totals_text t)) (behind_totals (number + 1) more) (Err (fault.Totals number))

-- verdicts before later ones, unless one of the later lines is refused
abbrev pub behind : List Verdict → Result (List Verdict) VerdictsFault → Result (List Verdict) VerdictsFault
behind vs (Ok more) = Ok (vs ++ more)
behind vs (Err why) = Err why

-- what comes of the next verdict
abbrev pub goes_on : (Next → Result (List Verdict) VerdictsFault) → Result Next VerdictsFault → Result (List Verdict) VerdictsFault
goes_on rest (Ok next) = rest next
goes_on rest (Err why) = Err why

-- The verdicts of lines, the first of which has this number, for these groups behind others with these totals: a line for each group, and then the
-- totals of all. Or the first line that is refused.
abbrev pub verdicts_from : Lists → Totals → ℕ → List (List Fault) → List (List ℕ) → Result (List Verdict) VerdictsFault
verdicts_from g t number [] ls = totals_then t number ls
verdicts_from g t number (faults ∷ groups) ls =
    goes_on (λ next. behind (next.verdict ∷ []) (verdicts_from g (counted t next.verdict) (number + 1) groups next.more)) (next_of g (line_of faults) number ls)

-- The verdicts that a text tells of the groups of a script. Lines end at LF, and a CR before it is dropped.
abbrev pub verdicts_in : Lists → List (List Fault) → List ℕ → Result (List Verdict) VerdictsFault
verdicts_in g groups text = verdicts_from g no_verdicts 1 groups (lines text)
