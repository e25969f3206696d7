-- Sharing: what `share` joins. Two operations that do the same over the same operands give the same.
use Rattle.std.specs.Prelude.{◌≡◌, ℕ, ◌<◌, Bool, true, false, slice_get, Some}
use Rattle.vcp_base.specs.declared.kind.Kind.{Kind}
use Rattle.vcp_base.specs.declared.kind.Kind.TheVariants as kind
use Rattle.op_graph.specs.declared.op.Op.{Op}
use Rattle.op_graph.specs.Lists.{Lists}
use Rattle.op_graph.specs.Rules.{IsGraph}
use Rattle.graph_passes.specs.Folding.{NoneFolds}
use Rattle.graph_passes.specs.Part.{Numbering, below, moved, work, part_of, JoinedTo}
use Rattle.graph_passes.specs.SameRun.{MeansAs}

-- operations of the kind are joined: all but those of inputs, cells and outputs
abbrev pub joins : Kind → Bool
joins kind.Input = false
joins kind.Load = false
joins kind.Store = false
joins kind.Out = false
joins _ = true

-- no two operations are left that `share` joins: of equal kind, types, operands and own number
abbrev pub NoneShares : Lists → Type 0
NoneShares g = (i j : ℕ) (p q : Op) → i < j → slice_get g.operations i ≡ Some p → slice_get g.operations j ≡ Some q →
    joins q.kind ≡ true → work p ≡ work q → ⊥

-- Graph h is graph g shared: each operation is kept, or joined to an earlier one that is kept and does the same over what was joined
-- before; no two that are kept do the same; and every cell is kept.
pub record IsShared (g h : Lists) : Type 0 where
  pub numbers : Numbering
  pub all_stand : (i : ℕ) → numbers.stands i ≡ true
  pub kept_number : (i : ℕ) → numbers.kept i ≡ true → numbers.number i ≡ below numbers.kept i
  pub all_cells : (k : ℕ) → numbers.kept_cell k ≡ true
  pub cell_number : (k : ℕ) → numbers.cell_number k ≡ below numbers.kept_cell k
  pub first_number : numbers.number 0 ≡ 0
  pub entries : (i : ℕ) (op : Op) → slice_get g.operations i ≡ Some op → joins op.kind ≡ false → numbers.kept i ≡ true
  pub joined : (i : ℕ) (op : Op) → slice_get g.operations i ≡ Some op → numbers.kept i ≡ false → JoinedTo numbers g i op
  pub differ : (i j : ℕ) (p q : Op) → i < j → slice_get g.operations i ≡ Some p → slice_get g.operations j ≡ Some q →
      numbers.kept i ≡ true → numbers.kept j ≡ true → joins q.kind ≡ true → work (moved numbers p) ≡ work (moved numbers q) → ⊥
  pub part : h ≡ part_of numbers g

-- The law of sharing: a shared graph is a graph that means the same, in which nothing more is joined, and nothing is folded where
-- nothing was.
pub record SharingLaw : Type 0 where
  pub graph : (g h : Lists) → IsGraph g → IsShared g h → IsGraph h
  pub means : (g h : Lists) → IsGraph g → IsShared g h → MeansAs g h
  pub none_left : (g h : Lists) → IsGraph g → IsShared g h → NoneShares h
  pub folds_none : (g h : Lists) → IsGraph g → IsShared g h → NoneFolds g → NoneFolds h
