-- Audit: what the ranges of a graph's operations say of its runs, and which of its operations may stop.
use Rattle.std.specs.Prelude.{◌≡◌, ℕ, zero, suc, ◌+◌, ℤ, true, cond, List, length, slice_get, Some, None, IfSome}
use Rattle.vcp_base.specs.declared.kind.StopKind.{StopKind}
use Rattle.vcp_base.specs.Types.{fits}
use Rattle.vcp_base.specs.Values.{at}
use Rattle.op_graph.specs.declared.op.Var.{Var}
use Rattle.op_graph.specs.Lists.{Lists}
use Rattle.op_graph.specs.GraphRun.{Cycle, cycle, cells_after, initial, graph_run}
use Rattle.range_walk.specs.declared.range.Range.{Range}
use Rattle.range_walk.specs.declared.range.Stops.{Stops}
use Rattle.range_walk.specs.Intervals.{Fit, RowIn}
use Rattle.range_walk.specs.Known.{KnownRanges, is_named, is_any_named, NamesAble, LieInTypes}

-- each input has a value of its type
abbrev pub RowFits : Lists → List ℤ → Type 0
RowFits g row = (k : ℕ) (v : Var) → slice_get g.inputs k ≡ Some v → fits v.ty (at row k) ≡ true

-- each row fits
abbrev pub RowsFit : Lists → List (List ℤ) → Type 0
RowsFit g rows = (n : ℕ) (row : List ℤ) → slice_get rows n ≡ Some row → RowFits g row

-- the cycle on a row, after the cycles on these rows
abbrev pub cycle_after : Lists → List (List ℤ) → List ℤ → Cycle
cycle_after g rows row = cycle g (cells_after g (initial g) rows) row

-- each value of each cycle is in the range of its operation, on any rows
abbrev pub Holds : Lists → List Range → Type 0
Holds g known = (rows : List (List ℤ)) (row : List ℤ) → Fit known (cycle_after g rows row).values

-- a cycle on a row that fits stops only at an operation that is named, and only so
abbrev pub NamesStops : Lists → List Stops → Type 0
NamesStops g stops = (rows : List (List ℤ)) (row : List ℤ) (why : StopKind) → RowFits g row → (cycle_after g rows row).stop ≡ Some why
    → is_named why (slice_get stops (length (cycle_after g rows row).values)) ≡ true

-- a run over rows that fit ends at an operation that is named, or where its rows end
abbrev pub EndsNamed : Lists → List Stops → Type 0
EndsNamed g stops = (rows : List (List ℤ)) → RowsFit g rows → IfSome (graph_run g rows).end (λ e. is_named e.kind (slice_get stops e.op) ≡ true)

-- what is told of a graph's operations, and what that says of the graph's runs
pub record IsRangeAudit (g : Lists) (a : KnownRanges) : Type 0 where
  pub known : length a.known ≡ length g.operations
  pub stops : length a.stops ≡ length g.operations
  pub holds : Holds g a.known
  pub names : NamesStops g a.stops
  pub ends : EndsNamed g a.stops
  pub able : NamesAble g.operations a.stops
  pub types : LieInTypes g.operations a.known

-- how many operations below operation n may stop
abbrev pub named_below : List Stops → ℕ → ℕ
named_below stops zero = 0
named_below stops (suc i) = named_below stops i + cond (is_any_named (slice_get stops i)) 1 0

-- each run over rows that fit ends where its rows end, and none at a stop
abbrev pub NeverStops : Lists → Type 0
NeverStops g = (rows : List (List ℤ)) → RowsFit g rows → (graph_run g rows).end ≡ None

-- ---- where ranges of inputs are assumed: the same of rows whose inputs are in them, and of no others

-- each row has its inputs in these ranges
abbrev pub RowsIn : List Range → List (List ℤ) → Type 0
RowsIn inputs rows = (n : ℕ) (row : List ℤ) → slice_get rows n ≡ Some row → RowIn inputs row

-- each value of each cycle is in the range of its operation, on such rows
abbrev pub HoldsWithin : Lists → List Range → List Range → Type 0
HoldsWithin g inputs known =
    (rows : List (List ℤ)) (row : List ℤ) → RowsIn inputs rows → RowIn inputs row → Fit known (cycle_after g rows row).values

-- a cycle on such a row that fits, after cycles on such rows, stops only at an operation that is named, and only so
abbrev pub NamesStopsWithin : Lists → List Range → List Stops → Type 0
NamesStopsWithin g inputs stops = (rows : List (List ℤ)) (row : List ℤ) (why : StopKind) → RowsIn inputs rows → RowIn inputs row → RowFits g row
    → (cycle_after g rows row).stop ≡ Some why → is_named why (slice_get stops (length (cycle_after g rows row).values)) ≡ true

-- a run over such rows that fit ends at an operation that is named, or where its rows end
abbrev pub EndsNamedWithin : Lists → List Range → List Stops → Type 0
EndsNamedWithin g inputs stops = (rows : List (List ℤ)) → RowsIn inputs rows → RowsFit g rows
    → IfSome (graph_run g rows).end (λ e. is_named e.kind (slice_get stops e.op) ≡ true)

-- what is told of a graph's operations where ranges of inputs are assumed, and what that says of the graph's runs over rows in them
pub record IsAuditWithin (g : Lists) (inputs : List Range) (a : KnownRanges) : Type 0 where
  pub known : length a.known ≡ length g.operations
  pub stops : length a.stops ≡ length g.operations
  pub holds : HoldsWithin g inputs a.known
  pub names : NamesStopsWithin g inputs a.stops
  pub ends : EndsNamedWithin g inputs a.stops
  pub able : NamesAble g.operations a.stops
  pub types : LieInTypes g.operations a.known

-- each run over such rows that fit ends where its rows end, and none at a stop
abbrev pub NeverStopsWithin : Lists → List Range → Type 0
NeverStopsWithin g inputs = (rows : List (List ℤ)) → RowsIn inputs rows → RowsFit g rows → (graph_run g rows).end ≡ None
