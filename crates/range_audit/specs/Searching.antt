-- Searching: what holds of the cells in every cycle, and of cycles that begin in boxes of cells.
use Rattle.std.specs.Prelude.{◌≡◌, ◌≢◌, ◌⊎◌, ℕ, zero, suc, ◌<◌, ℤ, ◌≤ℤ◌, Bool, true, false, List, Vec, length, slice_get, Err, Some, None}
use Rattle.std.specs.Global.{Global}
use Rattle.vcp_base.specs.declared.kind.StopKind.{StopKind}
use Rattle.vcp_base.specs.declared.kind.StopKind.TheVariants as stop
use Rattle.vcp_base.specs.Types.{fits}
use Rattle.vcp_base.specs.Values.{at}
use Rattle.op_graph.specs.declared.op.Loaded.{Loaded}
use Rattle.op_graph.specs.declared.op.Op.{Op}
use Rattle.op_graph.specs.Lists.{Lists}
use Rattle.op_graph.specs.GraphRun.{outcome_of, cycle, initial, stored}
use Rattle.range_walk.specs.declared.range.Range.{Range}
use Rattle.range_walk.specs.declared.range.Stops.{Stops}
use Rattle.range_walk.specs.Known.{KnownRanges, may_stop, is_named, NamesAble, LieInTypes}
use Rattle.range_walk.specs.Intervals.{IsIn, Fit, Hold, RowIn}
use Rattle.range_walk.specs.Walking.{Given, OwnFits, Parts}

-- the values with which a cell begins: the initial one, or those of its type
abbrev pub Loads : Bool → Loaded → ℤ → Type 0
Loads true m v = fits m.ty v ≡ true
Loads false m v = v ≡ m.init

-- each cell holds one of these
abbrev pub AreLoaded : Bool → List Loaded → List ℤ → Type 0
AreLoaded typed loads held = (k : ℕ) (m : Loaded) → slice_get loads k ≡ Some m → Loads typed m (at held k)

-- what the cells hold after n cycles that don't stop, on rows whose inputs are in these ranges
abbrev pub HeldAfter : Lists → List Range → ℕ → List ℤ → Type 0
HeldAfter g inputs zero held = held ≡ initial g
HeldAfter g inputs (suc n) held = (before : List ℤ) × (row : List ℤ) × HeldAfter g inputs n before × RowIn inputs row
    × ((cycle g before row).stop ≡ None) × (held ≡ stored g (cycle g before row).values)

-- what the cells hold at the beginning of a cycle, after whichever cycles
abbrev pub IsHeld : Lists → List Range → List ℤ → Type 0
IsHeld g inputs held = (n : ℕ) × HeldAfter g inputs n held

-- this holds of the cells at the beginning of each cycle
abbrev pub Always : Lists → List Range → (List ℤ → Type 0) → Type 0
Always g inputs Kept = (held : List ℤ) → IsHeld g inputs held → Kept held

-- where operation i stops in a cycle on a row whose inputs are in these ranges, and this holds of the cells, it may stop so
abbrev pub StopsFrom : List Op → List Range → (List ℤ → Type 0) → ℕ → Stops → Type 0
StopsFrom ops inputs Kept i s = (held row vs : List ℤ) (op : Op) (why : StopKind) → Kept held → RowIn inputs row → Given ops held row vs → length vs ≡ i
    → slice_get ops i ≡ Some op → OwnFits row op → why ≢ stop.Operand → outcome_of held row vs op ≡ Err why → may_stop why s ≡ true

-- the same where the operations before it are in these ranges, and the cells in these
abbrev pub StopsIn : List Op → List Range → List Range → ℕ → Stops → Type 0
StopsIn ops cells ranges i s = (held row vs : List ℤ) (op : Op) (why : StopKind) → Hold cells held → Given ops held row vs → length vs ≡ i
    → Fit ranges vs → slice_get ops i ≡ Some op → OwnFits row op → why ≢ stop.Operand → outcome_of held row vs op ≡ Err why → may_stop why s ≡ true

-- the values of a cycle on a row whose inputs are in these ranges, where this holds of the cells, are in those
abbrev pub FitsFrom : List Op → List Range → (List ℤ → Type 0) → List Range → Type 0
FitsFrom ops inputs Kept known = (held row vs : List ℤ) → Kept held → RowIn inputs row → Given ops held row vs → Fit known vs

-- the value of operation i in a cycle from cells in these ranges, where its operations are in those, is in r
abbrev pub IsAlwaysIn : List Op → List Range → List Range → ℕ → Range → Type 0
IsAlwaysIn ops cells known i r =
    (held row vs : List ℤ) → Hold cells held → Given ops held row vs → i < length vs → Fit known vs → IsIn r (at vs i)

-- each operation that stops in a cycle on such a row, where this holds of the cells, is named
abbrev pub NamesFrom : List Op → List Range → (List ℤ → Type 0) → List Stops → Type 0
NamesFrom ops inputs Kept stops =
    (held row vs : List ℤ) (op : Op) (why : StopKind) → Kept held → RowIn inputs row → Given ops held row vs
    → slice_get ops (length vs) ≡ Some op → OwnFits row op → why ≢ stop.Operand → outcome_of held row vs op ≡ Err why
    → is_named why (slice_get stops (length vs)) ≡ true

-- what is found of a cycle on such a row, where this holds of the cells
pub record IsFound (ops : List Op) (inputs : List Range) (Kept : List ℤ → Type 0) (a : KnownRanges) : Type 0 where
  pub fits : FitsFrom ops inputs Kept a.known
  pub names : NamesFrom ops inputs Kept a.stops

-- so much is found of all operations
pub record IsAllFound (ops : List Op) (inputs : List Range) (Kept : List ℤ → Type 0) (a : KnownRanges) : Type 0 where
  pub known : length a.known ≡ length ops
  pub stops : length a.stops ≡ length ops
  pub found : IsFound ops inputs Kept a

-- r has the values that both have, or one of the two; where both, it lies between the ends of the first
pub record IsCloser (both : Bool) (x y r : Range) : Type 0 where
  pub holds : (v : ℤ) → Parts both (IsIn x v) (IsIn y v) → IsIn r v
  pub low : both ≡ true → x.low ≤ℤ r.low
  pub high : both ≡ true → r.high ≤ℤ x.high

-- what may stop so by both, or by one of the two, may stop so by s; where both, what may by s may by the first
pub record IsJoined (both : Bool) (x y s : Stops) : Type 0 where
  pub holds : (why : StopKind) → Parts both (may_stop why x ≡ true) (may_stop why y ≡ true) → may_stop why s ≡ true
  pub first : both ≡ true → (why : StopKind) → may_stop why s ≡ true → may_stop why x ≡ true

-- r is found by both, or by one of the two
pub record IsFoundBy (both : Bool) (a b r : KnownRanges) : Type 0 where
  pub known : length r.known ≡ length a.known
  pub stops : length r.stops ≡ length a.known
  pub fits : (vs : List ℤ) → Parts both (Fit a.known vs) (Fit b.known vs) → Fit r.known vs
  pub named : (why : StopKind) (i : ℕ) → Parts both (is_named why (slice_get a.stops i) ≡ true) (is_named why (slice_get b.stops i) ≡ true)
      → is_named why (slice_get r.stops i) ≡ true
  pub types : both ≡ true → (ops : List Op) → LieInTypes ops a.known → LieInTypes ops r.known
  pub first : both ≡ true → (why : StopKind) (i : ℕ) → is_named why (slice_get r.stops i) ≡ true → is_named why (slice_get a.stops i) ≡ true

-- what is told of a graph's operations: what is found of each cycle, so that only what can stop is named, and each range lies within its type
pub record IsSound (g : Lists) (inputs : List Range) (a : KnownRanges) : Type 0 where
  pub known : length a.known ≡ length g.operations
  pub stops : length a.stops ≡ length g.operations
  pub found : IsFound g.operations inputs (IsHeld g inputs) a
  pub able : NamesAble g.operations a.stops
  pub types : LieInTypes g.operations a.known

-- there the value of operation j is in r
abbrev pub IsValueIn : List Op → List Range → List Range → ℕ → Range → Type 0
IsValueIn ops cells ranges j r =
    (held row vs : List ℤ) → Hold cells held → Given ops held row vs → length vs ≡ length ranges → Fit ranges vs → IsIn r (at vs j)

-- there the first operations, in these ranges, are in the low ones or in the high ones
pub record AreHalves (ops : List Op) (cells ranges low high : List Range) : Type 0 where
  pub low_many : length low ≡ length ranges
  pub high_many : length high ≡ length ranges
  pub one : (held row vs : List ℤ) → Hold cells held → Given ops held row vs → length vs ≡ length ranges → Fit ranges vs → Fit low vs ⊎ Fit high vs

-- where operation n is in r too, and the operations in the old ranges, they are in the new ones
pub record NarrowsTo (ops : List Op) (cells : List Range) (n : ℕ) (r : Range) (old new : List Range) : Type 0 where
  pub fits : (held row vs : List ℤ) → Hold cells held → Given ops held row vs → length vs ≡ length old → Fit old vs → IsIn r (at vs n) → Fit new vs

-- a box of cells: their ranges
abbrev pub Box : Type 0
Box = Vec Range Global

-- box k has these ranges
abbrev pub IsBoxAt : List Box → ℕ → List Range → Type 0
IsBoxAt boxes k cells = (b : Box) × (slice_get boxes k ≡ Some b) × (b.items ≡ cells)

-- the cells, so many, hold values in a box: in a range for each of them
abbrev pub IsInBox : ℕ → List Range → List ℤ → Type 0
IsInBox many cells held = (length cells ≡ many) × Hold cells held

-- more is found: of a cycle from cells in this box too
pub record IsMore (g : Lists) (inputs cells : List Range) (found more : KnownRanges) : Type 0 where
  pub known : length more.known ≡ length g.operations
  pub stops : length more.stops ≡ length g.operations
  pub fits : (vs : List ℤ) → Fit found.known vs → Fit more.known vs
  pub named : (why : StopKind) (i : ℕ) → is_named why (slice_get found.stops i) ≡ true → is_named why (slice_get more.stops i) ≡ true
  pub here : IsFound g.operations inputs (IsInBox (length g.stores) cells) more

-- the cells hold values in one of the boxes
abbrev pub InBox : List Box → ℕ → List ℤ → Type 0
InBox boxes many held = (k : ℕ) × (b : Box) × (slice_get boxes k ≡ Some b) × IsInBox many b.items held

-- a whole cycle from cells in these ranges, with values in these, ends in a box
abbrev pub EndsIn : Lists → List Range → List Range → List Box → Type 0
EndsIn g cells ranges boxes = (held row vs : List ℤ) → Hold cells held → Given g.operations held row vs → length vs ≡ length g.operations
    → Fit ranges vs → InBox boxes (length g.stores) (stored g vs)

-- a whole cycle from cells in this box, on a row whose inputs are in these ranges, ends in a box
abbrev pub EndsFrom : Lists → List Range → List Box → List Range → Type 0
EndsFrom g inputs boxes cells = (held row vs : List ℤ) → IsInBox (length g.stores) cells held → RowIn inputs row → Given g.operations held row vs
    → length vs ≡ length g.operations → InBox boxes (length g.stores) (stored g vs)
