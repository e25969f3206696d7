-- Pruning: what `prune` keeps. It is the least set of operations that has all that must stay, with each operation what it reads,
-- and with one operation of a cell the other.
use Rattle.std.specs.Prelude.{◌≡◌, ℕ, ◌<◌, Bool, true, false, ◌||◌, length, slice_get, Option, Some, None}
use Rattle.op_graph.specs.declared.op.Op.{Op}
use Rattle.op_graph.specs.declared.op.Loaded.{Loaded}
use Rattle.op_graph.specs.Lists.{Lists}
use Rattle.op_graph.specs.Reads.{Reads}
use Rattle.op_graph.specs.Rules.{IsGraph, is_out}
use Rattle.graph_passes.specs.Folding.{NoneFolds}
use Rattle.graph_passes.specs.Part.{Numbering, below, can_stop, part_of}
use Rattle.graph_passes.specs.SameRun.{MeansAs}
use Rattle.graph_passes.specs.Sharing.{NoneShares}

-- OUT, and what can stop: INPUT too
abbrev pub must_stay : Op → Bool
must_stay op = is_out op.kind || can_stop op.kind op.from op.ty

-- a set of operations that may be kept without the others
pub record MayBeKept (g : Lists) (kept : ℕ → Bool) : Type 0 where
  pub stays : (i : ℕ) (op : Op) → slice_get g.operations i ≡ Some op → must_stay op ≡ true → kept i ≡ true
  pub reads : (q k j : ℕ) → Reads g.operations q k j → kept q ≡ true → kept k ≡ true
  -- both operations of a cell are kept, or neither is
  pub cells : (k n : ℕ) (l : Loaded) → slice_get g.loads k ≡ Some l → slice_get g.stores k ≡ Some n → kept l.load ≡ kept n

-- the operation is in each such set
abbrev pub Needed : Lists → ℕ → Type 0
Needed g i = (kept : ℕ → Bool) → MayBeKept g kept → kept i ≡ true

-- no operation is left that `prune` does not keep
abbrev pub NonePrunes : Lists → Type 0
NonePrunes g = (i : ℕ) → i < length g.operations → Needed g i

-- a cell is kept where its LOAD is
abbrev pub load_kept : (ℕ → Bool) → Option Loaded → Bool
load_kept kept None = false
load_kept kept (Some l) = kept l.load

-- the numbers of what is kept: the old order, without the others
abbrev pub numbering : Lists → (ℕ → Bool) → Numbering
numbering g kept = record {
  kept = kept;
  stands = kept;
  number = below kept;
  kept_cell = λ k. load_kept kept (slice_get g.loads k);
  cell_number = below (λ k. load_kept kept (slice_get g.loads k));
}

-- Graph h is graph g pruned: the part of a set that may be kept, all of which is needed.
pub record IsPruned (g h : Lists) : Type 0 where
  pub kept : ℕ → Bool
  pub may : MayBeKept g kept
  pub needed : (i : ℕ) → kept i ≡ true → Needed g i
  pub part : h ≡ part_of (numbering g kept) g

-- The law of pruning. Each set that may be kept without the others means the same by itself; and a pruned graph is a graph that
-- means the same, of which nothing more is pruned, and nothing is folded or joined where nothing was.
pub record PruningLaw : Type 0 where
  pub kept_means : (g : Lists) (kept : ℕ → Bool) → IsGraph g → MayBeKept g kept → MeansAs g (part_of (numbering g kept) g)
  pub graph : (g h : Lists) → IsGraph g → IsPruned g h → IsGraph h
  pub means : (g h : Lists) → IsGraph g → IsPruned g h → MeansAs g h
  pub none_left : (g h : Lists) → IsGraph g → IsPruned g h → NonePrunes h
  pub folds_none : (g h : Lists) → IsGraph g → IsPruned g h → NoneFolds g → NoneFolds h
  pub shares_none : (g h : Lists) → IsGraph g → IsPruned g h → NoneShares g → NoneShares h
