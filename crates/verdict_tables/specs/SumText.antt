-- SumText: the tables of a campaign's verdicts, as they are printed. Each line ends with LF.
use Rattle.std.specs.Prelude.{ℕ, zero, suc, ◌==◌, ◌||◌, not, Bool, true, false, cond, nat_lt, List, [], ◌++◌, length, slice_get, Option, Some, None, decimal, codes, flat_map}
use Rattle.op_graph.specs.Lists.{Lists}
use Rattle.run_report.specs.Variables.{output_name}
use Rattle.fault_script.specs.declared.act.Fault.{Fault}
use Rattle.fault_script.specs.Groups.{line_of}
use Rattle.fault_sites.specs.Sites.{site}
use Rattle.fault_sites.specs.SiteText.{site_line}
use Rattle.fault_injector.specs.declared.verdicts.Verdict.{Verdict}
use Rattle.fault_injector.specs.declared.verdicts.Verdict.TheVariants as verdict
use Rattle.fault_injector.specs.declared.lines.Totals.{Totals}
use Rattle.fault_injector.specs.FaultLines.{faults as faults_in, verdict_text, totals_of, totals_text}
use Rattle.verdict_tables.specs.declared.parts.Part.{Part}
use Rattle.verdict_tables.specs.declared.tables.Table.{Table}
use Rattle.verdict_tables.specs.declared.tables.Table.TheVariants as table
use Rattle.verdict_tables.specs.Parts.{all_verdicts, mark_of, mark_text, totals_over}
use Rattle.verdict_tables.specs.Places.{operation_text}
use Rattle.verdict_tables.specs.Tables.{own_delays, rows}

-- ---- the tables

-- the act of row n
abbrev pub act_name : ℕ → List ℕ
act_name n =
    cond (n == 0) (codes "operand add")
    (cond (n == 1) (codes "operand from")
    (cond (n == 2) (codes "operand stale")
    (cond (n == 3) (codes "result add")
    (cond (n == 4) (codes "operator")
    (codes "skip")))))

-- the last row of the delays has all those that no other row has
abbrev pub more_text : ℕ → List ℕ
more_text n = cond (nat_lt n own_delays) [] (codes " or more")

-- the row of a number of cycles
abbrev pub delay_text : ℕ → List ℕ
delay_text n = codes "after " ++ (decimal n ++ more_text n)

-- what row n of a table counts
abbrev pub row_name : Lists → Table → ℕ → List ℕ
row_name g table.Acts n = act_name n
row_name g table.Operations n = operation_text g n (slice_get g.operations n)
row_name g table.Outputs n = codes "output " ++ output_name g n
row_name g table.Delays n = delay_text n

-- a number at the right end of a column of eight, or, of more than seven digits, behind a blank
abbrev pub blanks_before : ℕ → List ℕ
blanks_before n =
    cond (nat_lt n 10) (codes "       ")
    (cond (nat_lt n 100) (codes "      ")
    (cond (nat_lt n 1000) (codes "     ")
    (cond (nat_lt n 10000) (codes "    ")
    (cond (nat_lt n 100000) (codes "   ")
    (cond (nat_lt n 1000000) (codes "  ")
    (codes " "))))))

abbrev pub column_text : ℕ → List ℕ
column_text n = blanks_before n ++ decimal n

-- how many groups there are, and how many of them have which verdict
abbrev pub columns_text : Totals → List ℕ
columns_text t =
    column_text (faults_in t) ++ (column_text t.same ++ (column_text t.wrong ++ (column_text t.ran_on ++ (column_text t.refused ++ column_text t.stopped))))

-- a row with these totals; none where nothing is counted
abbrev pub row_text : List ℕ → Totals → List ℕ
row_text name t = cond (faults_in t == 0) [] (columns_text t ++ (codes "  " ++ (name ++ codes "\n")))

-- the rows of a table below row n
abbrev pub rows_below : Lists → Table → List Part → ℕ → List ℕ
rows_below g t parts zero = []
rows_below g t parts (suc n) = rows_below g t parts n ++ row_text (row_name g t n) (totals_over t n parts)

-- what the rows of a table are about
abbrev pub title : Table → List ℕ
title table.Acts = codes "by what the fault does"
title table.Operations = codes "by where it stands"
title table.Outputs = codes "by where it shows"
title table.Delays = codes "by how many cycles later it shows"

-- the names of the columns, before what the rows are about
abbrev pub heading_of : List ℕ → List ℕ
heading_of name = codes "  faults    same   wrong  ran-on refused stopped  " ++ (name ++ codes "\n")

abbrev pub heading_text : Table → List ℕ
heading_text t = heading_of (title t)

abbrev pub table_text : Lists → Table → List Part → List ℕ
table_text g t parts = heading_text t ++ rows_below g t parts (rows g t)

-- ---- the faults that are not seen

-- a run goes on with a wrong value, or where it is to stop
abbrev pub is_unseen : Verdict → Bool
is_unseen verdict.Same = false
is_unseen (verdict.Wrong cycle output got want) = true
is_unseen (verdict.RanOn cycle) = true
is_unseen (verdict.Refused cycle output found wanted) = false
is_unseen (verdict.Stopped cycle op kind) = false

-- a fault of a group: as it stands in a script, and its operation
abbrev pub fault_text : Lists → Fault → List ℕ
fault_text g f =
    codes "  " ++ (site_line (site f.cycle f.op f.act) ++ (codes ": " ++ (operation_text g f.op (slice_get g.operations f.op) ++ codes "\n")))

-- the verdict of a group and its faults, where it isn't seen, behind the mark of its part
abbrev pub unseen_text : Lists → Option ℕ → Option (List Fault) → Option Verdict → List ℕ
unseen_text g mark None v = []
unseen_text g mark (Some faults) None = []
unseen_text g mark (Some faults) (Some v) =
    cond (is_unseen v) (mark_text mark ++ (verdict_text g (line_of faults) v ++ flat_map (fault_text g) faults)) []

-- the same of the groups below group n
abbrev pub unseen_below : Lists → Option ℕ → List (List Fault) → List Verdict → ℕ → List ℕ
unseen_below g mark groups vs zero = []
unseen_below g mark groups vs (suc n) = unseen_below g mark groups vs n ++ unseen_text g mark (slice_get groups n) (slice_get vs n)

-- of a part
abbrev pub unseen_in : Lists → Option ℕ → Option Part → List ℕ
unseen_in g mark None = []
unseen_in g mark (Some p) = unseen_below g mark p.script p.verdicts (length p.verdicts)

-- and of the parts below part n
abbrev pub unseen_parts : Lists → List Part → ℕ → List ℕ
unseen_parts g parts zero = []
unseen_parts g parts (suc n) = unseen_parts g parts n ++ unseen_in g (mark_of (length parts) n) (slice_get parts n)

-- ---- the whole text

-- all tables
abbrev pub tables_text : Lists → List Part → List ℕ
tables_text g parts =
    table_text g table.Acts parts ++ (table_text g table.Operations parts ++ (table_text g table.Outputs parts ++ table_text g table.Delays parts))

-- the tables, the verdicts that aren't seen, and the totals, of all groups of all parts
abbrev pub sum_text : Lists → List Part → List ℕ
sum_text g parts = tables_text g parts ++ (unseen_parts g parts (length parts) ++ totals_text (totals_of (all_verdicts parts)))

-- a fault shows, and isn't seen
abbrev pub shows_unseen : Totals → Bool
shows_unseen t = not (t.wrong == 0) || not (t.ran_on == 0)
