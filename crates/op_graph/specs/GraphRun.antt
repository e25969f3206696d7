-- GraphRun: the run of a graph on plain integers. It has no word, no signature and no stamp.
use Rattle.std.specs.Prelude.{◌≡◌, ℕ, ◌<◌, true, ℤ, pos, unsigned_abs, cond, nat_lt, List, [], ◌∷◌, ◌++◌, length, map, slice_get, Option, Some, None, Ok, Err}
use Rattle.vcp_base.specs.declared.kind.Kind.{Kind}
use Rattle.vcp_base.specs.declared.kind.Kind.TheVariants as kind
use Rattle.vcp_base.specs.declared.kind.StopKind.{StopKind}
use Rattle.vcp_base.specs.Kinds.{operands, Outcome, outcome}
use Rattle.vcp_base.specs.Types.{fits}
use Rattle.vcp_base.specs.Values.{at}
use Rattle.op_graph.specs.declared.op.Op.{Op}
use Rattle.op_graph.specs.declared.op.Loaded.{Loaded}
use Rattle.op_graph.specs.declared.op.Outlet.{Outlet}
use Rattle.op_graph.specs.Lists.{Lists}

-- the operation's own number: the value of its input in the row for INPUT, and else its `imm`
abbrev pub own : List ℤ → Kind → ℤ → ℤ
own row kind.Input imm = at row (unsigned_abs imm)
own row _ imm = imm

-- what an operand that reads operation n gets: the value of its cell for LOAD, and else the value of that operation
abbrev pub read : List ℤ → List ℤ → Kind → ℤ → ℕ → ℤ
read cells values kind.Load imm n = at cells (unsigned_abs imm)
read cells values _ imm n = at values n

-- the value of operand j, which reads operation n; 0 where there is no such operand
abbrev pub operand : List ℤ → List ℤ → Op → ℕ → ℕ → ℤ
operand cells values op j n = cond (nat_lt j (operands op.kind)) (read cells values op.kind op.imm n) (pos 0)

-- what an operation gives: the function of its kind on the values that it reads, or why it stops
abbrev pub outcome_of : List ℤ → List ℤ → List ℤ → Op → Outcome
outcome_of cells row values op =
    outcome op.kind op.from op.ty (own row op.kind op.imm)
    (operand cells values op 0 op.a)
    (operand cells values op 1 op.b)
    (operand cells values op 2 op.c)

-- One cycle: the values of the operations in order, up to the first that stops, and why that one stops.
pub record Cycle : Type 0 where
  pub values : List ℤ
  pub stop : Option StopKind

-- the cycle after an operation: it goes on with the operation's value, or ends at its stop
abbrev pub after : List ℤ → (ℤ → Cycle) → Outcome → Cycle
after values next (Ok v) = next v
after values next (Err why) = record { values = values; stop = Some why }

-- the cycle of operations, where those before them gave `values`
abbrev pub cycle_from : List ℤ → List ℤ → List ℤ → List Op → Cycle
cycle_from cells row values [] = record { values = values; stop = None }
cycle_from cells row values (op ∷ ops) = after values (λ v. cycle_from cells row (values ++ v ∷ []) ops) (outcome_of cells row values op)

-- the cycle of a graph on a row of inputs, where the cells hold these values
abbrev pub cycle : Lists → List ℤ → List ℤ → Cycle
cycle g cells row = cycle_from cells row [] g.operations

-- the values of the cells before the first cycle
abbrev pub initial : Lists → List ℤ
initial g = map (λ l. l.init) g.loads

-- the values of the cells after a cycle without a stop: each has that of its STORE
abbrev pub stored : Lists → List ℤ → List ℤ
stored g values = map (λ n. at values n) g.stores

-- the row of outputs of a cycle without a stop: each has the value of its OUT
abbrev pub outputs : Lists → List ℤ → List ℤ
outputs g values = map (λ o. at values o.op) g.outputs

-- a stop: the number of the operation, and why
pub record Stop : Type 0 where
  pub op : ℕ
  pub kind : StopKind

-- A run: the rows of outputs, and the stop that ended it, or none where the rows of inputs ended.
pub record Run : Type 0 where
  pub rows : List (List ℤ)
  pub end : Option Stop

-- the run after a cycle of these values: it goes on with what the cells hold then, or ends at the cycle's stop
abbrev pub after_cycle : Lists → List ℤ → (List ℤ → Run) → Option StopKind → Run
after_cycle g values next None = record { rows = outputs g values ∷ (next (stored g values)).rows; end = (next (stored g values)).end }
after_cycle g values next (Some why) = record { rows = []; end = Some (record { op = length values; kind = why }) }

-- the run over rows of inputs, where the cells hold these values
abbrev pub run_from : Lists → List ℤ → List (List ℤ) → Run
run_from g cells [] = record { rows = []; end = None }
run_from g cells (row ∷ rows) = after_cycle g (cycle g cells row).values (λ held. run_from g held rows) (cycle g cells row).stop

-- the run of a graph over rows of inputs
abbrev pub graph_run : Lists → List (List ℤ) → Run
graph_run g rows = run_from g (initial g) rows

-- each cell holds a value of its type
abbrev pub CellsFit : Lists → List ℤ → Type 0
CellsFit g cells = (k : ℕ) (l : Loaded) → slice_get g.loads k ≡ Some l → fits l.ty (at cells k) ≡ true

-- the value of each output's OUT is in the output's type
abbrev pub OutputsFit : Lists → List ℤ → Type 0
OutputsFit g values = (k : ℕ) (o : Outlet) → slice_get g.outputs k ≡ Some o → fits o.ty (at values o.op) ≡ true

-- each value of a cycle is in the type of its operation
abbrev pub ValuesFit : Lists → List ℤ → Type 0
ValuesFit g values = (i : ℕ) (op : Op) → i < length values → slice_get g.operations i ≡ Some op → fits op.ty (at values i) ≡ true

-- The values that the cells hold after the cycles of these rows, up to the first that stops: a stop ends it, and the cells hold
-- what they held before that cycle.
abbrev pub unless_stopped : List ℤ → List ℤ → (List ℤ → List ℤ) → Option StopKind → List ℤ
unless_stopped held next later None = later next
unless_stopped held next later (Some why) = held

abbrev pub cells_after : Lists → List ℤ → List (List ℤ) → List ℤ
cells_after g held [] = held
cells_after g held (row ∷ rows) =
    unless_stopped held (stored g (cycle g held row).values) (λ next. cells_after g next rows) (cycle g held row).stop
