-- Whole: a drawing has each operation of the graph once, with a look that it may have, and each pair of an operand and its reader once.
use Rattle.std.specs.Prelude.{◌≡◌, ◌<◌, ℕ, ◌+◌, ◌==◌, ◌&&◌, Bool, cond, List, [], ◌∷◌, length, slice_get, Some}
use Rattle.op_graph.specs.declared.op.Op.{Op}
use Rattle.op_graph.specs.Lists.{Lists}
use Rattle.op_graph.specs.Reads.{Reads}
use Rattle.pictures.specs.declared.layout.BoxPlace.{BoxPlace}
use Rattle.pictures.specs.Arrangement.{place_at}
use Rattle.pictures.specs.Drawn.{Box, Wire, Drawing, own_of}

-- the box of operation n: with its number, what it is, its own name or value, a look that it may have, and at its place
pub record IsBoxOf {L : Type 0} (g : Lists) (MayLook : ℕ → L → Type 0) (places : List BoxPlace) (n : ℕ) (op : Op) (b : Box L) : Type 0 where
  pub number : b.number ≡ n
  pub operation : b.op ≡ op
  pub own : b.own ≡ own_of g op.kind op.imm
  pub look : MayLook n b.look
  pub place : b.place ≡ place_at places n

-- the boxes are those of the operations, one for each, in order
pub record DrawsOperations {L : Type 0} (g : Lists) (MayLook : ℕ → L → Type 0) (places : List BoxPlace) (boxes : List (Box L)) : Type 0 where
  pub many : length boxes ≡ length g.operations
  pub each : (n : ℕ) (op : Op) → slice_get g.operations n ≡ Some op → (b : Box L) × (slice_get boxes n ≡ Some b) × IsBoxOf g MayLook places n op b

-- the line of operand j of operation q, which is operation k
abbrev pub is_line : ℕ → ℕ → ℕ → Wire → Bool
is_line q k j w = w.which == j && (w.reader == q && w.operand == k)

-- how often that line is drawn
abbrev pub times : ℕ → ℕ → ℕ → List Wire → ℕ
times q k j [] = 0
times q k j (w ∷ wires) = cond (is_line q k j w) 1 0 + times q k j wires

-- each pair of an operand, of which an operation has at most three, and its reader has one line, and no other has any
pub record DrawsReads (g : Lists) (wires : List Wire) : Type 0 where
  pub once : (q k j : ℕ) → j < 3 → Reads g.operations q k j → times q k j wires ≡ 1
  pub only : (q k j : ℕ) → 0 < times q k j wires → Reads g.operations q k j

-- what is drawn of a graph is whole, where each operation may have such looks
pub record IsWhole {L : Type 0} (g : Lists) (MayLook : ℕ → L → Type 0) (places : List BoxPlace) (d : Drawing L) : Type 0 where
  pub operations : DrawsOperations g MayLook places d.boxes
  pub reads : DrawsReads g d.wires
