-- Sweeping: what the numbers of a list mean, while it is swept from the last operation to the first.
use Rattle.std.specs.Option.{is_some}
use Rattle.std.specs.Prelude.{◌≡◌, ℕ, suc, ◌<◌, ◌==◌, cond, Bool, true, false, ℤ, pos, ◌+ℤ◌, List, length, slice_get, slice_index_or, Some, ◌+◌}
use Rattle.vcp_base.specs.declared.code.Profile.{Profile}
use Rattle.vcp_base.specs.Values.{at}
use Rattle.op_graph.specs.declared.op.Cell.{Cell}
use Rattle.op_graph.specs.declared.op.Op.{Op}
use Rattle.op_graph.specs.Lists.{Lists}
use Rattle.op_graph.specs.Reads.{named, Reads}
use Rattle.op_graph.specs.Rules.{reads_as}
use Rattle.coded_unit.specs.Words.{modulo}
use Rattle.weight_audit.specs.Audit.{Distance}
use Rattle.weight_audit.specs.Weights.{sums}
use Rattle.weight_audit.specs.Paths.{Crosses, Reached}

-- the number at place k; 0 where there is none
abbrev pub number : List ℕ → ℕ → ℕ
number numbers k = slice_index_or numbers k 0

-- the mark at place k; none where there is no such place
abbrev pub mark : List Bool → ℕ → Bool
mark marks k = slice_index_or marks k false

-- the numbers are the residues of these integers
pub record AreResidues (p : Profile) (count : ℕ) (integers : ℕ → ℤ) (numbers : List ℕ) : Type 0 where
  pub many : length numbers ≡ count
  pub each : (k : ℕ) → k < count → number numbers k ≡ modulo p (integers k)

-- these integers, with one of them greater by z
abbrev pub greater : (ℕ → ℤ) → ℕ → ℤ → ℕ → ℤ
greater integers n z k = integers k +ℤ cond (k == n) z (pos 0)

-- the numbers are the weights of the operations at the OUT, after so many borders
abbrev pub AreWeights : Lists → ℕ → ℕ → List ℕ → Type 0
AreWeights g out borders numbers = AreResidues g.profile (length g.operations) (at (sums g out borders)) numbers

-- across one border more than the numbers `later`, for whatever OUT and number of borders these are the weights
pub record WeightsBefore (g : Lists) (later numbers : List ℕ) : Type 0 where
  pub are : (out borders : ℕ) → AreWeights g out borders later → AreWeights g out (suc borders) numbers

-- the operation reads operation k
pub record Takes (op : Op) (k : ℕ) : Type 0 where
  pub place : ℕ
  pub operand : is_some (reads_as op.kind op.from place) ≡ true
  pub names : named op place ≡ k

-- operation q is marked, and reads operation k
pub record MarksRead (ops : List Op) (marks : List Bool) (q k : ℕ) : Type 0 where
  pub place : ℕ
  pub reads : Reads ops q k place
  pub marked : mark marks q ≡ true

-- the LOAD of the cell is marked, and operation k is its STORE
pub record MarksStore (marks : List Bool) (cell : Cell) (k : ℕ) : Type 0 where
  pub store : k ≡ cell.store
  pub marked : mark marks cell.load ≡ true

-- operation k is the STORE of a cell whose LOAD is marked
pub record CrossesMarked (held : List Cell) (marks : List Bool) (k : ℕ) : Type 0 where
  pub load : ℕ
  pub crosses : Crosses held k load
  pub marked : mark marks load ≡ true

-- the marks tell which operations a path leads from to the OUT, across so many borders
pub record AreMarks (g : Lists) (out borders : ℕ) (marks : List Bool) : Type 0 where
  pub many : length marks ≡ length g.operations
  pub sound : (k : ℕ) → mark marks k ≡ true → Reached g out borders k
  pub complete : (k : ℕ) → Reached g out borders k → mark marks k ≡ true

-- across one border more than the marks `later`, for whatever OUT and number of borders these are
pub record MarksBefore (g : Lists) (later marks : List Bool) : Type 0 where
  pub are : (out borders : ℕ) → AreMarks g out borders later → AreMarks g out (suc borders) marks

-- what is kept is the weights and the marks of the operations
pub record IsDistance (g : Lists) (out borders : ℕ) (d : Distance) : Type 0 where
  pub weights : AreWeights g out borders d.weights
  pub reached : AreMarks g out borders d.reached

-- a distance for each number of borders up to the horizon
pub record AreDistances (g : Lists) (out horizon : ℕ) (ds : List Distance) : Type 0 where
  pub many : length ds ≡ horizon + 1
  pub each : (borders : ℕ) (d : Distance) → slice_get ds borders ≡ Some d → IsDistance g out borders d
