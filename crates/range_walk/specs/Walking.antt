-- Walking: what holds of a walk over the operations of a cycle, from cells in given ranges.
use Rattle.std.specs.Prelude.{not, ◌≡◌, ◌≢◌, ◌⊎◌, ℕ, ◌<◌, ◌≤◌, ℤ, true, List, length, slice_get, take, Ok, Err, Some, unsigned_abs, nat_lt, false, pos, Bool}
use Rattle.vcp_base.specs.declared.kind.Kind.{Kind}
use Rattle.vcp_base.specs.declared.kind.Kind.TheVariants as kind
use Rattle.vcp_base.specs.declared.kind.StopKind.{StopKind}
use Rattle.vcp_base.specs.declared.kind.StopKind.TheVariants as stop
use Rattle.vcp_base.specs.Kinds.{operands}
use Rattle.vcp_base.specs.Types.{fits}
use Rattle.vcp_base.specs.Values.{at}
use Rattle.op_graph.specs.declared.op.Op.{Op}
use Rattle.op_graph.specs.GraphRun.{own, operand, outcome_of}
use Rattle.op_graph.specs.Rules.{is_input}
use Rattle.range_walk.specs.declared.range.Range.{Range}
use Rattle.range_walk.specs.declared.operand_ranges.Operands.{Operands}
use Rattle.range_walk.specs.declared.told.Told.{Told}
use Rattle.range_walk.specs.Known.{KnownRanges, may_stop, is_named, NamesAble, LieInTypes}
use Rattle.range_walk.specs.Intervals.{IsIn, Fit, Hold, RowIn}

-- the first values of a cycle, in which no operation has stopped yet: each is what its operation gives over those before it
pub record Given (ops : List Op) (held row vs : List ℤ) : Type 0 where
  pub few : length vs ≤ length ops
  pub each : (i : ℕ) (op : Op) → i < length vs → slice_get ops i ≡ Some op → outcome_of held row (take i vs) op ≡ Ok (at vs i)

-- an INPUT's value in the row is of its type
abbrev pub OwnFits : List ℤ → Op → Type 0
OwnFits row op = is_input op.kind ≡ true → fits op.ty (own row op.kind op.imm) ≡ true

-- the kind reads a cell
abbrev pub ReadsCell : Kind → Type 0
ReadsCell k = k ≡ kind.Load

-- a condition's value is what its truth says: 0 where it is false, and else another
abbrev pub Taken : Bool → ℤ → Type 0
Taken true v = v ≢ pos 0
Taken false v = v ≡ pos 0

-- a condition's value is what its truth says: 1 where it is true, and else another
abbrev pub Said : Bool → ℤ → Type 0
Said true v = v ≡ pos 1
Said false v = v ≢ pos 1

-- v, a condition that joins x and y, says t only where x does; where it says the other and y says t, x says the other
pub record Joins (t : Bool) (v x y : ℤ) : Type 0 where
  pub both : Said t v → Said t x
  pub rest : Said (not t) v → Said t y → Said (not t) x

-- a kind compares the values of two operations
abbrev pub Compares : Kind → Type 0
Compares k = (k ≡ kind.Lt) ⊎ (k ≡ kind.Eq)

-- both hold, or one of the two
abbrev pub Parts : Bool → Type 0 → Type 0 → Type 0
Parts true P Q = P × Q
Parts false P Q = P ⊎ Q

-- what is told of an operation holds of what it gives over these values
pub record Tells (held row vs : List ℤ) (op : Op) (t : Told) : Type 0 where
  pub value : (v : ℤ) → outcome_of held row vs op ≡ Ok v → IsIn t.range v
  pub stop : (why : StopKind) → OwnFits row op → why ≢ stop.Operand → outcome_of held row vs op ≡ Err why → may_stop why t.stops ≡ true

-- what is told of operation i holds, where the cells, the inputs of the row and the operations before it are in these ranges
abbrev pub TellsAt : List Op → List Range → List Range → List Range → ℕ → Told → Type 0
TellsAt ops cells inputs known i t = (held row vs : List ℤ) (op : Op) → slice_get ops i ≡ Some op → Hold cells held → RowIn inputs row → Given ops held row vs
    → Fit known vs → length vs ≡ i → Tells held row vs op t

-- three values are in the ranges of an operation's operands
pub record AreIn (o : Operands) (x y z : ℤ) : Type 0 where
  pub first : IsIn o.first x
  pub second : IsIn o.second y
  pub third : IsIn o.third z

-- what an operation reads is in these ranges
abbrev pub Reads : List ℤ → List ℤ → Op → Operands → Type 0
Reads held vs op o = AreIn o (operand held vs op 0 op.a) (operand held vs op 1 op.b) (operand held vs op 2 op.c)

-- the operand that an operation reads is there: among so many cells for LOAD, and else among so many operations
abbrev pub OperandIs : ℕ → ℕ → Kind → ℤ → ℕ → Type 0
OperandIs cells count kind.Load imm n = unsigned_abs imm < cells
OperandIs cells count _ imm n = n < count

-- what an operation reads is there
pub record OperandsAre (cells count : ℕ) (op : Op) : Type 0 where
  pub first : nat_lt 0 (operands op.kind) ≡ true → OperandIs cells count op.kind op.imm op.a
  pub second : nat_lt 1 (operands op.kind) ≡ true → OperandIs cells count op.kind op.imm op.b
  pub third : nat_lt 2 (operands op.kind) ≡ true → OperandIs cells count op.kind op.imm op.c

-- the kind reads an earlier operation as its operand j: a LOAD reads a cell
abbrev pub reads_earlier : Kind → ℕ → Bool
reads_earlier kind.Load j = false
reads_earlier k j = nat_lt j (operands k)

-- the operations that operation i reads are before it
pub record ReadsEarlier (i : ℕ) (op : Op) : Type 0 where
  pub first : reads_earlier op.kind 0 ≡ true → op.a < i
  pub second : reads_earlier op.kind 1 ≡ true → op.b < i
  pub third : reads_earlier op.kind 2 ≡ true → op.c < i

-- what a walk over the operations tells, from cells in these ranges, of rows whose inputs are in these
pub record IsWalk (ops : List Op) (cells inputs : List Range) (a : KnownRanges) : Type 0 where
  pub known_many : length a.known ≡ length ops
  pub stops_many : length a.stops ≡ length ops
  pub fits : (held row vs : List ℤ) → Hold cells held → RowIn inputs row → Given ops held row vs → Fit a.known vs
  pub names : (held row vs : List ℤ) (op : Op) (why : StopKind) → Hold cells held → RowIn inputs row → Given ops held row vs
      → slice_get ops (length vs) ≡ Some op → OwnFits row op → why ≢ stop.Operand → outcome_of held row vs op ≡ Err why
      → is_named why (slice_get a.stops (length vs)) ≡ true
  pub able : NamesAble ops a.stops
  pub types : LieInTypes ops a.known

-- where the cells are in these ranges, and the first operations of a cycle, as many as have ranges, in the old ones, they are in the new ones
abbrev pub Narrows : List Op → List Range → List Range → List Range → Type 0
Narrows ops cells old new =
    (held row vs : List ℤ) → Hold cells held → Given ops held row vs → length vs ≡ length old → Fit old vs → Fit new vs
