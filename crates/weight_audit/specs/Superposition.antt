-- Superposition: the differences of all acts of a run add up, each along the data paths from its operation.
use Rattle.std.specs.Prelude.{◌≡◌, ℕ, zero, suc, ◌+◌, ◌-◌, length, slice_get, Option, Some, None, ℤ, pos, ◌+ℤ◌, ◌-ℤ◌, ◌*ℤ◌}
use Rattle.vcp_base.specs.Values.{at}
use Rattle.coded_unit.specs.Words.{modulo}
use Rattle.op_graph.specs.declared.op.Op.{Op}
use Rattle.op_graph.specs.Lists.{Lists}
use Rattle.signature_table.specs.Signatures.{Numbers}
use Rattle.fault_script.specs.Changes.{Acts}
use Rattle.fault_script.specs.Differences.{brought, difference_at, frame}
use Rattle.weight_audit.specs.Paths.{Reached}
use Rattle.weight_audit.specs.Weights.{sums, weight}

-- f of each number below n, added up
abbrev pub sum_below : (ℕ → ℤ) → ℕ → ℤ
sum_below f zero = pos 0
sum_below f (suc n) = f 0 +ℤ sum_below (λ k. f (suc k)) n

-- what operation k has as its own difference in cycle n: all of its difference but what its operands bring
abbrev pub added_at : Numbers → Lists → Acts → ℕ → ℕ → Option Op → ℤ
added_at t g acts n k None = pos 0
added_at t g acts n k (Some op) = difference_at t g acts n k -ℤ brought (frame t g acts n) op op.kind

abbrev pub added : Numbers → Lists → Acts → ℕ → ℕ → ℤ
added t g acts n k = added_at t g acts n k (slice_get g.operations k)

-- What comes to an operation in cycle m: over each number of cycle borders, what each operation has as its own so many cycles before, times the
-- weight of that operation over these borders.
abbrev pub come : ℕ → (ℕ → ℕ → ℤ) → (ℕ → ℕ → ℤ) → ℕ → ℤ
come operations weight_of own m = sum_below (λ borders. sum_below (λ k. weight_of borders k *ℤ own (m - borders) k) operations) (m + 1)

-- For any acts at any operations, the difference of an operation, as an OUT, is what comes to it: as integers by the sums over paths, and modulo
-- the constant of the graph's code by the weights.
pub record Superposes (t : Numbers) (g : Lists) (acts : Acts) (m out : ℕ) : Type 0 where
  pub sum : difference_at t g acts m out ≡ come (length g.operations) (λ borders k. at (sums g out borders) k) (added t g acts) m
  pub residue : modulo g.profile (difference_at t g acts m out)
      ≡ modulo g.profile (come (length g.operations) (λ borders k. pos (weight g out borders k)) (added t g acts) m)

abbrev pub Superposition : Numbers → Lists → Type 0
Superposition t g = (acts : Acts) (m out : ℕ) → Superposes t g acts m out

-- an operation at which no act stands in a cycle has no difference of its own there
abbrev pub OwnIsOfActs : Numbers → Lists → Type 0
OwnIsOfActs t g = (acts : Acts) (n k : ℕ) → acts n k ≡ None → added t g acts n k ≡ pos 0

-- what isn't reached has no weight
abbrev pub WeightsAreOfPaths : Lists → Type 0
WeightsAreOfPaths g = (out borders k : ℕ) → (Reached g out borders k → ⊥) → at (sums g out borders) k ≡ pos 0
