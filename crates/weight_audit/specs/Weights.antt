-- Weights: by how much a difference at an operation shows at an output, some cycle borders later.
use Rattle.std.specs.Option.{is_some}
use Rattle.std.specs.Prelude.{ℕ, zero, suc, ◌==◌, ◌&&◌, cond, ℤ, pos, ◌+ℤ◌, ◌*ℤ◌, List, [], ◌∷◌}
use Rattle.vcp_base.specs.Kinds.{multiplier}
use Rattle.vcp_base.specs.Values.{at}
use Rattle.op_graph.specs.declared.op.Cell.{Cell}
use Rattle.op_graph.specs.declared.op.Op.{Op}
use Rattle.op_graph.specs.Lists.{Lists, cells}
use Rattle.op_graph.specs.Reads.{named}
use Rattle.op_graph.specs.Rules.{reads_as}
use Rattle.coded_unit.specs.Words.{modulo}

-- the multiplier with which an operation takes operation k as its operand j; 0 where that operand isn't k
abbrev pub share : Op → ℕ → ℕ → ℤ
share op k j = cond (is_some (reads_as op.kind op.from j) && (k == named op j)) (multiplier op.kind j) (pos 0)

-- the multipliers with which an operation takes operation k, added up over its operands
abbrev pub factor : Op → ℕ → ℤ
factor op k = share op k 0 +ℤ share op k 1 +ℤ share op k 2

-- the weights of the operations that read operation k, each times the multipliers with which it does
abbrev pub by_readers : ℕ → List Op → List ℤ → ℤ
by_readers k [] weights = pos 0
by_readers k (op ∷ ops) [] = pos 0
by_readers k (op ∷ ops) (w ∷ weights) = factor op k *ℤ w +ℤ by_readers k ops weights

-- The weights of operations that are counted from k. A path ends at an operation or leaves it across a cycle border, which
-- brings what `leaving` says, or its first step goes to an operation that reads it, which comes later.
abbrev pub weights_from : (ℕ → ℤ) → ℕ → List Op → List ℤ
weights_from leaving k [] = []
weights_from leaving k (op ∷ ops) = (leaving k +ℤ by_readers k ops (weights_from leaving (suc k) ops)) ∷ weights_from leaving (suc k) ops

-- the path of no step, at the OUT
abbrev pub at_out : ℕ → ℕ → ℤ
at_out out k = cond (k == out) (pos 1) (pos 0)

-- a step across a cycle border goes from the STORE of a cell to its LOAD: the weight of that LOAD, where operation k is the
-- STORE of one of these cells
abbrev pub across : List Cell → List ℤ → ℕ → ℤ
across [] weights k = pos 0
across (c ∷ cells) weights k = cond (k == c.store) (at weights c.load) (pos 0) +ℤ across cells weights k

-- for each operation the sum, over the data paths from it to the OUT across so many cycle borders, of the products of the
-- multipliers met, by the paths' first steps
abbrev pub sums : Lists → ℕ → ℕ → List ℤ
sums g out zero = weights_from (at_out out) 0 g.operations
sums g out (suc borders) = weights_from (across (cells g) (sums g out borders)) 0 g.operations

-- the weight of operation k at the OUT after so many cycle borders, modulo the constant of the graph's code
abbrev pub weight : Lists → ℕ → ℕ → ℕ → ℕ
weight g out borders k = modulo g.profile (at (sums g out borders) k)
