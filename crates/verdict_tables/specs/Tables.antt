-- Tables: verdicts counted by what the faults of their groups do, where these are, at which output they show, and how late.
use Rattle.std.specs.Prelude.{ℕ, ◌+◌, ◌-◌, ◌==◌, min, Bool, false, cond, nat_lt, nat_le, List, [], ◌∷◌, length, Option, Some, None}
use Rattle.std.specs.List.{list_any}
use Rattle.vcp_base.specs.Limits.{most_cycles}
use Rattle.op_graph.specs.Lists.{Lists}
use Rattle.fault_script.specs.declared.act.Act.{Act}
use Rattle.fault_script.specs.declared.act.Act.TheVariants as act
use Rattle.fault_script.specs.declared.act.Fault.{Fault}
use Rattle.fault_injector.specs.declared.verdicts.Verdict.{Verdict}
use Rattle.fault_injector.specs.declared.verdicts.Verdict.TheVariants as verdict
use Rattle.fault_injector.specs.declared.lines.Totals.{Totals}
use Rattle.fault_injector.specs.FaultLines.{totals_of}
use Rattle.verdict_tables.specs.declared.tables.Table.{Table}
use Rattle.verdict_tables.specs.declared.tables.Table.TheVariants as table

-- ---- what a row of a table has

-- the acts in the order of their rows, from 0
abbrev pub act_number : Act → ℕ
act_number (act.OperandAdd j e) = 0
act_number (act.OperandFrom j r) = 1
act_number (act.OperandStale j) = 2
act_number (act.ResultAdd e) = 3
act_number (act.Operator other) = 4
act_number act.Skip = 5

-- a fault is one of row n: by its act, or by the operation at which it stands
abbrev pub is_fault_in : Table → ℕ → Fault → Bool
is_fault_in table.Acts n f = act_number f.act == n
is_fault_in table.Operations n f = f.op == n
is_fault_in table.Outputs n f = false
is_fault_in table.Delays n f = false

-- a verdict shows at output n: with a wrong value, or refused
abbrev pub shows_at : ℕ → Verdict → Bool
shows_at n verdict.Same = false
shows_at n (verdict.Wrong cycle output got want) = output == n
shows_at n (verdict.RanOn cycle) = false
shows_at n (verdict.Refused cycle output found wanted) = output == n
shows_at n (verdict.Stopped cycle op kind) = false

-- the cycle in which a verdict shows
abbrev pub shown_in : Verdict → Option ℕ
shown_in verdict.Same = None
shown_in (verdict.Wrong cycle output got want) = Some cycle
shown_in (verdict.RanOn cycle) = Some cycle
shown_in (verdict.Refused cycle output found wanted) = Some cycle
shown_in (verdict.Stopped cycle op kind) = Some cycle

-- the first of cycle n and those in which these faults stand
abbrev pub first_before : ℕ → List Fault → ℕ
first_before n [] = n
first_before n (f ∷ faults) = first_before (min n f.cycle) faults

-- the first cycle in which a group has a fault
abbrev pub first_cycle : List Fault → ℕ
first_cycle faults = first_before most_cycles faults

-- the delays with a row of their own are the numbers below this one, and all others have one row
abbrev pub own_delays : ℕ
own_delays = 16

-- row n has this number of cycles
abbrev pub is_delay : ℕ → ℕ → Bool
is_delay n d = cond (nat_lt n own_delays) (d == n) (nat_le own_delays d)

-- row n has a group whose verdict shows in this cycle, by how many cycles it comes behind its first fault
abbrev pub is_late : ℕ → List Fault → Option ℕ → Bool
is_late n faults None = false
is_late n faults (Some cycle) = is_delay n (cycle - first_cycle faults)

-- a group with its verdict is in row n of a table
abbrev pub is_in : Table → ℕ → List Fault → Verdict → Bool
is_in table.Acts n faults v = list_any (is_fault_in table.Acts n) faults
is_in table.Operations n faults v = list_any (is_fault_in table.Operations n) faults
is_in table.Outputs n faults v = shows_at n v
is_in table.Delays n faults v = is_late n faults (shown_in v)

-- ---- the counts

-- how many rows a table has
abbrev pub rows : Lists → Table → ℕ
rows g table.Acts = 6
rows g table.Operations = length g.operations
rows g table.Outputs = length g.outputs
rows g table.Delays = own_delays + 1

-- the verdicts of the groups in row n
abbrev pub picked : Table → ℕ → List (List Fault) → List Verdict → List Verdict
picked t n [] vs = []
picked t n (faults ∷ groups) [] = []
picked t n (faults ∷ groups) (v ∷ vs) = cond (is_in t n faults v) (v ∷ picked t n groups vs) (picked t n groups vs)

-- their totals
abbrev pub totals_in : Table → ℕ → List (List Fault) → List Verdict → Totals
totals_in t n groups vs = totals_of (picked t n groups vs)
