-- Known: what is known of the operations of a graph: the ranges of their values, and why they may stop.
use Rattle.std.specs.Prelude.{◌≡◌, ℕ, Bool, true, false, ◌||◌, List, slice_get, Option, Some, None}
use Rattle.vcp_base.specs.declared.kind.Kind.{Kind}
use Rattle.vcp_base.specs.declared.kind.Kind.TheVariants as kind
use Rattle.vcp_base.specs.declared.ty.Ty.{Ty}
use Rattle.vcp_base.specs.declared.kind.StopKind.{StopKind}
use Rattle.vcp_base.specs.declared.kind.StopKind.TheVariants as stop
use Rattle.range_walk.specs.declared.range.Range.{Range}
use Rattle.range_walk.specs.declared.range.Stops.{Stops}
use Rattle.range_walk.specs.Intervals.{LiesIn}
use Rattle.op_graph.specs.declared.op.Op.{Op}
use Rattle.graph_passes.specs.Part.{can_stop}

-- what is told of each operation: the range of its values, and why it may stop
pub record KnownRanges : Type 0 where
  pub known : List Range
  pub stops : List Stops

-- why an operation may stop; an operand is never outside its type
abbrev pub may_stop : StopKind → Stops → Bool
may_stop stop.Range s = s.range
may_stop stop.DivZero s = s.div_zero
may_stop stop.Operand s = false

-- the operation is there, and may stop so
abbrev pub is_named : StopKind → Option Stops → Bool
is_named why None = false
is_named why (Some s) = may_stop why s

-- the operation is there, and may stop, however it may
abbrev pub is_any_named : Option Stops → Bool
is_any_named None = false
is_any_named (Some s) = s.range || s.div_zero

-- the kind divides
abbrev pub divides : Kind → Bool
divides kind.Div = true
divides kind.Mod = true
divides _ = false

-- By its kind and types, an operation's value can be outside its type where its operands are in theirs: that of arithmetic but MOD, whose
-- value is no larger than what is divided, and that of CONV to a narrower type. An INPUT's can't, on a row that fits.
abbrev pub can_leave : Kind → Ty → Ty → Bool
can_leave kind.Input from to = false
can_leave kind.Mod from to = false
can_leave k from to = can_stop k from to

-- by its kind and types, an operation can stop so on a row that fits
abbrev pub can_stop_so : StopKind → Op → Bool
can_stop_so stop.Range op = can_leave op.kind op.from op.ty
can_stop_so stop.DivZero op = divides op.kind
can_stop_so stop.Operand op = false

-- each operation that is named so can stop so by its kind and types
abbrev pub NamesAble : List Op → List Stops → Type 0
NamesAble ops stops = (i : ℕ) (op : Op) (why : StopKind) → slice_get ops i ≡ Some op → is_named why (slice_get stops i) ≡ true → can_stop_so why op ≡ true

-- each range lies within the type of its operation
abbrev pub LieInTypes : List Op → List Range → Type 0
LieInTypes ops known = (i : ℕ) (op : Op) (r : Range) → slice_get ops i ≡ Some op → slice_get known i ≡ Some r → LiesIn op.ty r
