-- Cycles: the equations of the differences of all cycles, where each operation has in each cycle a difference of its own.
use Rattle.std.proofs.Common.{◌≡◌, ℕ, suc, ◌+◌, ◌<◌, ◌==◌, ◌&&◌, cond, ℤ, pos, ◌+ℤ◌, ◌*ℤ◌, unsigned_abs, List, [], length, slice_get, Some}
use Rattle.vcp_base.specs.declared.kind.Kind.{Kind}
use Rattle.vcp_base.specs.declared.kind.Kind.TheVariants as kind
use Rattle.vcp_base.specs.Values.{at}
use Rattle.coded_unit.specs.Step.{weighed}
use Rattle.coded_unit.specs.Words.{modulo}
use Rattle.op_graph.specs.declared.op.Op.{Op}
use Rattle.op_graph.specs.Lists.{Lists}
use Rattle.op_graph.specs.Reads.{named}
use Rattle.fault_script.specs.Differences.{held_after}
use Rattle.weight_audit.specs.Weights.{sums, weight}

-- the difference of what an operand reads: that of its cell's word for LOAD, and else that of the answer of another operation
abbrev pub read_as : Kind → ℤ → ℤ → ℤ
read_as kind.Load held other = held
read_as _ held other = other

-- the difference of what an operation reads as operand j
abbrev pub read : List ℤ → List ℤ → Op → ℕ → ℤ
read held given op j = read_as op.kind (at held (unsigned_abs op.imm)) (at given (named op j))

-- that of an operation is the sum of its operands' differences, each times its multiplier, and what it has of its own
pub record AreOfCycle (g : Lists) (held : List ℤ) (own : ℕ → ℤ) (given : List ℤ) : Type 0 where
  pub many : length given ≡ length g.operations
  pub each : (k : ℕ) (op : Op) → slice_get g.operations k ≡ Some op
      → at given k ≡ weighed op.kind (read held given op 0) (read held given op 1) (read held given op 2) +ℤ own k

-- all cycles, where each operation has in each cycle this of its own
pub record AreDifferences (g : Lists) (own : ℕ → ℕ → ℤ) (given : ℕ → List ℤ) : Type 0 where
  pub first : AreOfCycle g (held_after g []) (own 0) (given 0)
  pub later : (n : ℕ) → AreOfCycle g (held_after g (given n)) (own (suc n)) (given (suc n))

-- operation k has a difference of its own, and in cycle n alone
abbrev pub alone : ℕ → ℕ → ℤ → ℕ → ℕ → ℤ
alone n k delta m i = cond ((m == n) && (i == k)) delta (pos 0)

-- what comes of it to an operation, as an OUT
pub record Closes (g : Lists) (n k : ℕ) (delta : ℤ) (given : ℕ → List ℤ) (out : ℕ) : Type 0 where
  pub before : (m : ℕ) → m < n → at (given m) out ≡ pos 0
  pub after : (borders : ℕ) → at (given (n + borders)) out ≡ at (sums g out borders) k *ℤ delta
  pub residue : (borders : ℕ) → modulo g.profile (at (given (n + borders)) out) ≡ modulo g.profile (pos (weight g out borders k) *ℤ delta)
