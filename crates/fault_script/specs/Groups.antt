-- Groups: faults that are carried out in one run.
use Rattle.std.specs.Prelude.{◌≡◌, ℕ, ◌<◌, ◌==◌, Bool, false, ◌&&◌, List, [], ◌∷◌, length, All}
use Rattle.std.specs.List.{list_any, sum_by}
use Rattle.op_graph.specs.Lists.{Lists}
use Rattle.fault_script.specs.declared.act.Fault.{Fault}
use Rattle.fault_script.specs.Fits.{Fits}

-- the line of a group: that of its first fault
abbrev pub line_of : List Fault → ℕ
line_of [] = 0
line_of (f ∷ faults) = f.line

-- two faults stand at one operation in one cycle
abbrev pub same_place : Fault → Fault → Bool
same_place f other = f.cycle == other.cycle && f.op == other.op

-- one of these faults stands where this one does
abbrev pub is_taken : Fault → List Fault → Bool
is_taken f faults = list_any (same_place f) faults

-- no two of these faults stand at one operation in one cycle
abbrev pub Apart : List Fault → Type 0
Apart [] = Unit {0}
Apart (f ∷ faults) = (is_taken f faults ≡ false) × Apart faults

-- A group fits the graph: it has a fault, each of its faults may stand in a script of its own, and no two of them stand at one operation in one
-- cycle.
pub record GroupFits (g : Lists) (faults : List Fault) : Type 0 where
  pub some : 0 < length faults
  pub fits : All (Fits g) faults
  pub apart : Apart faults

-- how many faults groups have
abbrev pub fault_count : List (List Fault) → ℕ
fault_count groups = sum_by (λ faults. length faults) groups
