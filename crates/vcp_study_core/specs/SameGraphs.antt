-- SameGraphs: graphs that differ in places of the source alone.
use Rattle.std.specs.Prelude.{◌≡◌, map, Option, Some, None}
use Rattle.vcp_base.specs.Stops.{ToldStop}
use Rattle.vcp_base.specs.declared.spot.Spot.{Spot}
use Rattle.op_graph.specs.Lists.{Lists}
use Rattle.op_graph.specs.declared.op.Op.{Op}
use Rattle.flat_expr.specs.Told.{Told}

-- no place
abbrev nowhere : Spot
nowhere = record { line = 0; col = 0 }

-- an operation, without its place
abbrev pub unplaced : Op → Op
unplaced op = record op { spot = nowhere }

abbrev pub unplaced_graph : Lists → Lists
unplaced_graph g = record g { operations = map unplaced g.operations }

abbrev pub AreSameButForPlaces : Lists → Lists → Type 0
AreSameButForPlaces g h = unplaced_graph g ≡ unplaced_graph h

-- what is told of a run, without the place of its stop: its rows, and the stop's kind and turns
abbrev pub unplaced_end : Option ToldStop → Option ToldStop
unplaced_end None = None
unplaced_end (Some s) = Some (record s { spot = nowhere })

abbrev pub told_anywhere : Told → Told
told_anywhere t = record { rows = t.rows; end = unplaced_end t.end }
