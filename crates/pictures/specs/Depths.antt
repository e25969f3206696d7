-- Depths: how deep operations are in a graph, and in which columns their boxes are.
use Rattle.std.specs.Option.{is_some}
use Rattle.std.specs.Prelude.{◌≡◌, ◌<◌, ℕ, ◌+◌, max, false, cond, List, [], ◌∷◌, ◌++◌, length, slice_get, slice_index_or, Option, Some, None}
use Rattle.vcp_base.specs.declared.kind.Kind.{Kind}
use Rattle.vcp_base.specs.declared.kind.Kind.TheVariants as kind
use Rattle.op_graph.specs.declared.op.Op.{Op}
use Rattle.op_graph.specs.Reads.{named}
use Rattle.op_graph.specs.Rules.{reads_as}
use Rattle.pictures.specs.declared.layout.BoxPlace.{BoxPlace}
use Rattle.pictures.specs.Constants.{is_constant}

-- one more than a depth that is there
abbrev pub one_deeper : Option ℕ → ℕ
one_deeper None = 0
one_deeper (Some depth) = depth + 1

-- the depth behind operand j of an operation, where that operand is an operation
abbrev pub depth_behind : List ℕ → Op → ℕ → ℕ
depth_behind depths op j = cond (is_some (reads_as op.kind op.from j)) (one_deeper (slice_get depths (named op j))) 0

-- the depth of an operation, where those before it have these depths: one more than the greatest depth of what it reads, and 0 where it reads nothing
abbrev pub depth_of : List ℕ → Op → ℕ
depth_of depths op = max (depth_behind depths op 0) (max (depth_behind depths op 1) (depth_behind depths op 2))

-- these depths, and behind them those of further operations
abbrev pub depths_behind : List ℕ → List Op → List ℕ
depths_behind depths [] = depths
depths_behind depths (op ∷ ops) = depths_behind (depths ++ depth_of depths op ∷ []) ops

-- the depth of each operation
abbrev pub depths_of : List Op → List ℕ
depths_of ops = depths_behind [] ops

-- each of these depths is less than their number
abbrev pub AreBelowTheirNumber : List ℕ → Type 0
AreBelowTheirNumber depths = (k depth : ℕ) → slice_get depths k ≡ Some depth → depth < length depths

-- the greatest of these depths, and 0 where there are none
abbrev pub deepest : List ℕ → ℕ
deepest [] = 0
deepest (depth ∷ depths) = max depth (deepest depths)

-- the column of a box of this depth: what leaves the cycle stands in the last one
abbrev pub column_of : Kind → ℕ → ℕ → ℕ
column_of kind.Out depth last = last
column_of kind.Store depth last = last
column_of _ depth last = depth

-- the depth of operation i of these, and the last column of their boxes
abbrev pub depth_at : List Op → ℕ → ℕ
depth_at ops i = slice_index_or (depths_of ops) i 0

abbrev pub last_column : List Op → ℕ
last_column ops = deepest (depths_of ops)

-- The box of each operation that is no constant stands in the column of the operation's depth, and that of what leaves the cycle in the last column.
abbrev pub StandByDepth : List Op → List BoxPlace → Type 0
StandByDepth ops places = (i : ℕ) (op : Op) (p : BoxPlace) → slice_get ops i ≡ Some op → is_constant op.kind ≡ false → slice_get places i ≡ Some p
    → p.column ≡ column_of op.kind (depth_at ops i) (last_column ops)
