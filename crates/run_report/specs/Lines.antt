-- The printed lines of a run. Each ends with LF.
use Rattle.std.specs.Prelude.{ℕ, ◌<◌, List, ◌++◌, length, ℤ, decimal, codes, flat_map, All}
use Rattle.std.specs.Fmt.{signed_decimal}
use Rattle.vcp_base.specs.declared.kind.StopKind.{StopKind}
use Rattle.vcp_base.specs.declared.spot.Spot.{Spot}
use Rattle.vcp_base.specs.declared.turns.Turn.{Turn}
use Rattle.vcp_base.specs.Spellings.{stop_name}
use Rattle.vcp_base.specs.Stops.{ToldStop, ToldTurn}

-- a name after its comma
abbrev pub name_cell : List ℕ → List ℕ
name_cell name = codes "," ++ name

-- the header: `cycle`, and then the outputs' names
abbrev pub header_text : List (List ℕ) → List ℕ
header_text names = codes "cycle" ++ (flat_map name_cell names ++ codes "\n")

-- a value after its comma
abbrev pub value_cell : ℤ → List ℕ
value_cell value = codes "," ++ signed_decimal value

-- a row: the cycle's number, and then the outputs' values
abbrev pub row_text : ℕ → List ℤ → List ℕ
row_text cycle row = decimal cycle ++ (flat_map value_cell row ++ codes "\n")

-- the end of a run over all its rows, with their number
abbrev pub end_text : ℕ → List ℕ
end_text cycles = codes "end " ++ (decimal cycles ++ codes "\n")

-- a place in a source: its line and its column
abbrev pub place_text : Spot → List ℕ
place_text spot = decimal spot.line ++ (codes ":" ++ decimal spot.col)

-- each turn has a name among these
abbrev pub AreNamed : List Turn → List (List ℕ) → Type 0
AreNamed turns names = All (λ turn. turn.name < length names) turns

-- a turn of a FOR: the name of its control variable, and the value of that variable
abbrev pub turn_text : ToldTurn → List ℕ
turn_text turn = codes " " ++ (turn.name ++ (codes "=" ++ signed_decimal turn.value))

-- why a run stopped, and the place in the source
abbrev pub cause_text : StopKind → Spot → List ℕ
cause_text kind spot = stop_name kind ++ (codes " " ++ place_text spot)

-- a stop up to its turns: the cycle, the kind, and the place in the source
abbrev pub stop_front : ℕ → StopKind → Spot → List ℕ
stop_front cycle kind spot = codes "stop " ++ (decimal cycle ++ (codes " " ++ cause_text kind spot))

-- a stop: the cycle, the kind, the place in the source, and the turns round it, outermost first
abbrev pub stop_text : ℕ → ToldStop → List ℕ
stop_text cycle stop = stop_front cycle stop.kind stop.spot ++ (flat_map turn_text stop.turns ++ codes "\n")

-- an output that is refused, with the residue that was found and the expected one
abbrev pub refused_front : ℕ → List ℕ → ℕ → ℕ → List ℕ
refused_front cycle name found wanted =
    codes "refused " ++ (decimal cycle ++ (codes " " ++ (name ++ (codes " found " ++ (decimal found ++ (codes " expected " ++ decimal wanted))))))

abbrev pub refused_text : ℕ → List ℕ → ℕ → ℕ → List ℕ
refused_text cycle name found wanted = refused_front cycle name found wanted ++ codes "\n"
