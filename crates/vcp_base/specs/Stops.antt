-- Stops: a stop as it is reported: why, where, and in which turns of FORs, by the names of their control variables.
use Rattle.std.specs.Prelude.{ℕ, ℤ, List, [], map, slice_index_or}
use Rattle.vcp_base.specs.declared.kind.StopKind.{StopKind}
use Rattle.vcp_base.specs.declared.spot.Spot.{Spot}
use Rattle.vcp_base.specs.declared.turns.Turn.{Turn}

-- one turn of a FOR: its control variable's name, and the value
pub record ToldTurn : Type 0 where
  pub name : List ℕ
  pub value : ℤ

-- a stop: why, where in the source, and in which turns, outermost first
pub record ToldStop : Type 0 where
  pub kind : StopKind
  pub spot : Spot
  pub turns : List ToldTurn

-- a turn whose name is a place in a list of names
abbrev pub told_turn : List (List ℕ) → Turn → ToldTurn
told_turn names t = record { name = slice_index_or names t.name []; value = t.value }

-- a stop whose turns' names are places in a list of names
abbrev pub told_stop : List (List ℕ) → StopKind → Spot → List Turn → ToldStop
told_stop names kind spot turns = record { kind = kind; spot = spot; turns = map (told_turn names) turns }
