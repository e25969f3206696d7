-- Drawn: what is drawn of a graph: a box for each operation, and a line for each pair of an operand and its reader.
use Rattle.std.specs.Option.{is_some}
use Rattle.std.specs.Prelude.{ℕ, cond, List, [], ◌∷◌, ◌++◌, length, Option, Some, None, slice_get, ℤ, unsigned_abs}
use Rattle.std.specs.Fmt.{signed_decimal}
use Rattle.vcp_base.specs.declared.kind.Kind.{Kind}
use Rattle.vcp_base.specs.declared.kind.Kind.TheVariants as kind
use Rattle.op_graph.specs.declared.op.Op.{Op}
use Rattle.op_graph.specs.Lists.{Lists}
use Rattle.op_graph.specs.Reads.{named}
use Rattle.op_graph.specs.Rules.{reads_as}
use Rattle.run_report.specs.Variables.{variable_name}
use Rattle.vcp_outside.specs.Drawing.{each_below}
use Rattle.pictures.specs.declared.layout.BoxPlace.{BoxPlace}
use Rattle.pictures.specs.Arrangement.{place_at}

-- the box of an operation: its number, the operation, its own name or value, how it looks, and where it stands
pub record Box (L : Type 0) : Type 0 where
  pub number : ℕ
  pub op : Op
  pub own : List ℕ
  pub look : L
  pub place : BoxPlace

-- the line from an operation to one that reads it, as this operand of it; and where the boxes of both stand
pub record Wire : Type 0 where
  pub operand : ℕ
  pub reader : ℕ
  pub which : ℕ
  pub from : BoxPlace
  pub to : BoxPlace

-- an operation's own name or value: the name of the input, cell or output, or the value of a constant
abbrev pub own_of : Lists → Kind → ℤ → List ℕ
own_of g kind.Const imm = signed_decimal imm
own_of g k imm = variable_name g k (unsigned_abs imm)

-- ---- boxes and lines

-- the box of operation n, with its look at its place; none where there is no such operation
abbrev pub box_of : {L : Type 0} → Lists → ℕ → L → BoxPlace → Op → Box L
box_of g n look place op = record { number = n; op = op; own = own_of g op.kind op.imm; look = look; place = place }

abbrev pub box_drawn : {L : Type 0} → Lists → ℕ → L → BoxPlace → Option Op → List (Box L)
box_drawn g n look place None = []
box_drawn g n look place (Some op) = box_of g n look place op ∷ []

-- the boxes of the operations below operation n, in order, where each looks so
abbrev pub box_at : {L : Type 0} → Lists → (ℕ → L) → List BoxPlace → ℕ → List (Box L)
box_at g looks places k = box_drawn g k (looks k) (place_at places k) (slice_get g.operations k)

abbrev pub boxes_below : {L : Type 0} → Lists → (ℕ → L) → List BoxPlace → ℕ → List (Box L)
boxes_below g looks places n = each_below (box_at g looks places) n

-- the line to operand j of operation n, where that operand is an operation
abbrev pub wire_of : List BoxPlace → ℕ → Op → ℕ → List Wire
wire_of places n op j =
    cond (is_some (reads_as op.kind op.from j))
    (record { operand = named op j; reader = n; which = j; from = place_at places (named op j); to = place_at places n } ∷ []) []

abbrev pub wires_of : List BoxPlace → ℕ → Option Op → List Wire
wires_of places n None = []
wires_of places n (Some op) = wire_of places n op 0 ++ (wire_of places n op 1 ++ wire_of places n op 2)

-- the lines to the operands of the operations below operation n, in order
abbrev pub wires_at : Lists → List BoxPlace → ℕ → List Wire
wires_at g places k = wires_of places k (slice_get g.operations k)

abbrev pub wires_below : Lists → List BoxPlace → ℕ → List Wire
wires_below g places n = each_below (wires_at g places) n

-- what is drawn of a graph, where its operations look so
pub record Drawing (L : Type 0) : Type 0 where
  pub wires : List Wire
  pub boxes : List (Box L)

abbrev pub drawing : {L : Type 0} → Lists → (ℕ → L) → List BoxPlace → Drawing L
drawing g looks places = record {
  wires = wires_below g places (length g.operations);
  boxes = boxes_below g looks places (length g.operations);
}
