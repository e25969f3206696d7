-- Parts: a campaign in parts, each a script with the verdicts of its groups; and what is said of all groups of all parts, in their order.
use Rattle.std.specs.Prelude.{ℕ, ◌≡◌, ◌≤◌, ◌+◌, ◌==◌, cond, List, [], ◌++◌, length, flat_map, decimal, codes, All, Option, Some, None}
use Rattle.op_graph.specs.Lists.{Lists}
use Rattle.fault_script.specs.Groups.{GroupFits}
use Rattle.fault_script.specs.ScriptOf.{most_faults}
use Rattle.fault_injector.specs.declared.verdicts.Verdict.{Verdict}
use Rattle.fault_injector.specs.declared.lines.Totals.{Totals}
use Rattle.fault_injector.specs.FaultLines.{totals_of}
use Rattle.fault_injector.specs.Names.{Names}
use Rattle.verdict_tables.specs.declared.parts.Part.{Part}
use Rattle.verdict_tables.specs.declared.tables.Table.{Table}
use Rattle.verdict_tables.specs.Tables.{picked}

-- how many parts there may be
abbrev pub most_parts : ℕ
most_parts = 10000

-- a part has a verdict of each of its groups, and no more groups than a script may have
pub record IsWhole (p : Part) : Type 0 where
  pub many : length p.verdicts ≡ length p.script
  pub few : length p.script ≤ most_faults

-- its groups fit a graph, and its verdicts name outputs and operations that the graph has
pub record PartFits (g : Lists) (p : Part) : Type 0 where
  pub fits : All (GroupFits g) p.script
  pub names : All (Names (length g.outputs) (length g.operations)) p.verdicts

-- ---- all groups of all parts

-- their verdicts
abbrev pub all_verdicts : List Part → List Verdict
all_verdicts parts = flat_map (λ (p : Part). p.verdicts) parts

-- the verdicts of those in row n of a table
abbrev pub picked_over : Table → ℕ → List Part → List Verdict
picked_over t n parts = flat_map (λ (p : Part). picked t n p.script p.verdicts) parts

-- and the totals of these
abbrev pub totals_over : Table → ℕ → List Part → Totals
totals_over t n parts = totals_of (picked_over t n parts)

-- ---- the number of a part

-- Of so many parts, the number of part n, counted from 0, by which a line that names one of its groups begins: they count from 1, and a part that is the
-- only one has none.
abbrev pub mark_of : ℕ → ℕ → Option ℕ
mark_of many n = cond (many == 1) None (Some (n + 1))

abbrev pub mark_text : Option ℕ → List ℕ
mark_text None = []
mark_text (Some n) = decimal n ++ codes ":"
