-- Arrangement: where boxes are.
use Rattle.std.specs.Prelude.{◌≡◌, ◌≢◌, ◌⊎◌, ◌<◌, ◌≤◌, ◌+◌, ◌*◌, ℕ, false, List, length, slice_get, slice_index_or, Some}
use Rattle.op_graph.specs.declared.op.Op.{Op}
use Rattle.op_graph.specs.Lists.{Lists}
use Rattle.pictures.specs.declared.layout.BoxPlace.{BoxPlace}
use Rattle.pictures.specs.Constants.{is_constant}
use Rattle.pictures.specs.Depths.{StandByDepth}

-- the places of boxes, in order of operation, and the size of the picture in pixels
pub record Arrangement : Type 0 where
  pub places : List BoxPlace
  pub width : ℕ
  pub height : ℕ

abbrev pub first_place : BoxPlace
first_place = record { column = 0; row = 0 }

-- the place of box n
abbrev pub place_at : List BoxPlace → ℕ → BoxPlace
place_at places n = slice_index_or places n first_place

-- the size of a box, and the distances of its left and upper side, in pixels
abbrev pub box_width : ℕ
box_width = 96

abbrev pub box_height : ℕ
box_height = 50

abbrev pub left_of : BoxPlace → ℕ
left_of p = 8 + p.column * 108

abbrev pub top_of : BoxPlace → ℕ
top_of p = 40 + p.row * 58

-- two boxes of a column have different rows
abbrev pub HaveOwnRows : List BoxPlace → Type 0
HaveOwnRows places =
    (i j : ℕ) (p q : BoxPlace) → slice_get places i ≡ Some p → slice_get places j ≡ Some q → i ≢ j → p.column ≡ q.column → p.row ≢ q.row

-- one box ends above the other
abbrev pub DontOverlap : BoxPlace → BoxPlace → Type 0
DontOverlap p q = (top_of p + box_height < top_of q) ⊎ (top_of q + box_height < top_of p)

-- a place is in no later column and no later row than this one
abbrev pub IsWithin : BoxPlace → BoxPlace → Type 0
IsWithin corner p = (p.column ≤ corner.column) × (p.row ≤ corner.row)

-- a box is inside the picture
abbrev pub IsInside : Arrangement → BoxPlace → Type 0
IsInside a p = (left_of p + box_width ≤ a.width) × (top_of p + box_height ≤ a.height)

-- each operation has a place; the box of each that is no constant is inside the picture, and in the column of its depth; and no two boxes of a
-- column overlap
pub record IsArranged (g : Lists) (a : Arrangement) : Type 0 where
  pub many : length a.places ≡ length g.operations
  pub inside : (i : ℕ) (op : Op) (p : BoxPlace) → slice_get g.operations i ≡ Some op → is_constant op.kind ≡ false → slice_get a.places i ≡ Some p → IsInside a p
  pub apart : (i j : ℕ) (p q : BoxPlace) → slice_get a.places i ≡ Some p → slice_get a.places j ≡ Some q → i ≢ j → left_of p ≡ left_of q → DontOverlap p q
  pub columns : StandByDepth g.operations a.places
