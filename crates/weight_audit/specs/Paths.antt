-- Paths: the data paths of a graph, from an operation to an output's OUT.
use Rattle.std.specs.Prelude.{◌≡◌, ℕ, zero, suc, List, [], ◌∷◌, slice_get, Some}
use Rattle.op_graph.specs.declared.op.Cell.{Cell}
use Rattle.op_graph.specs.Lists.{Lists, cells}
use Rattle.op_graph.specs.Reads.{Reads}
use Rattle.weight_audit.specs.Weights.{weight}

-- A step from an operation: to one that reads it, as this operand of its; or, from a STORE, across a cycle border to the LOAD
-- of the same cell.
pub data Step : Type 0 where
  Read : (reader operand : ℕ) → Step
  Cross : (load : ℕ) → Step

-- operation k is the STORE, and operation l the LOAD, of one cell
pub record Crosses (held : List Cell) (k l : ℕ) : Type 0 where
  pub number : ℕ
  pub cell : Cell
  pub there : slice_get held number ≡ Some cell
  pub store : cell.store ≡ k
  pub load : cell.load ≡ l

-- the steps lead from operation k to the OUT, across so many cycle borders
abbrev pub Leads : Lists → ℕ → ℕ → ℕ → List Step → Type 0
Leads g out borders k [] = (k ≡ out) × (borders ≡ 0)
Leads g out borders k (Step.Read q j ∷ steps) = Reads g.operations q k j × Leads g out borders q steps
Leads g out zero k (Step.Cross l ∷ steps) = ⊥
Leads g out (suc borders) k (Step.Cross l ∷ steps) = Crosses (cells g) k l × Leads g out borders l steps

-- there is a data path from operation k to the OUT, across so many cycle borders
abbrev pub Reached : Lists → ℕ → ℕ → ℕ → Type 0
Reached g out borders k = (steps : List Step) × Leads g out borders k steps

-- operation k is blind: paths lead from it to the OUT, but what they carry cancels
pub record Blind (g : Lists) (out borders k : ℕ) : Type 0 where
  pub reached : Reached g out borders k
  pub cancels : weight g out borders k ≡ 0
