-- Intervals: which values a range has.
use Rattle.std.specs.Prelude.{◌≡◌, ◌≢◌, ℕ, ◌<◌, Bool, true, ℤ, pos, ◌≤ℤ◌, List, length, slice_get, Some}
use Rattle.vcp_base.specs.declared.ty.Ty.{Ty}
use Rattle.vcp_base.specs.Types.{least, greatest}
use Rattle.vcp_base.specs.Values.{at}
use Rattle.range_walk.specs.declared.range.Bounds.{Bounds}
use Rattle.range_walk.specs.declared.range.Range.{Range}

-- v is between the two, and isn't 0 where 0 is left out
pub record Between (low high : ℤ) (nonzero : Bool) (v : ℤ) : Type 0 where
  pub at_least : low ≤ℤ v
  pub at_most : v ≤ℤ high
  pub not_zero : nonzero ≡ true → v ≢ pos 0

-- v is in the range
abbrev pub IsIn : Range → ℤ → Type 0
IsIn r v = Between r.low r.high r.nonzero v

-- the range lies within a type: it begins at no less than the type's least value, and ends at no more than its greatest
pub record LiesIn (ty : Ty) (r : Range) : Type 0 where
  pub low : least ty ≤ℤ r.low
  pub high : r.high ≤ℤ greatest ty

-- v is within the bounds
abbrev pub IsWithin : Bounds → ℤ → Type 0
IsWithin b v = Between b.low b.high b.nonzero v

-- each value is in the range at its place, where there is one
abbrev pub Fit : List Range → List ℤ → Type 0
Fit ranges values = (k : ℕ) (r : Range) → k < length values → slice_get ranges k ≡ Some r → IsIn r (at values k)

-- each cell holds a value in its range
abbrev pub Hold : List Range → List ℤ → Type 0
Hold cells held = (k : ℕ) (r : Range) → slice_get cells k ≡ Some r → IsIn r (at held k)

-- each input has a value in its range, where one is assumed of it: of the first ones, as many as there are
abbrev pub RowIn : List Range → List ℤ → Type 0
RowIn inputs row = (k : ℕ) (r : Range) → slice_get inputs k ≡ Some r → IsIn r (at row k)
