-- FaultRun: the run of a graph under acts, on plain integers. Where an act adds a number to a word, the value goes by the residue that the word
-- has, with its difference; no word is in it.
use Rattle.std.specs.Prelude.{◌≡◌, ℕ, zero, suc, cond, List, [], ◌∷◌, ◌++◌, length, Option, Some, None, option_map, slice_get, ℤ}
use Rattle.vcp_base.specs.Kinds.{Outcome}
use Rattle.vcp_base.specs.Types.{fits}
use Rattle.vcp_base.specs.Values.{at}
use Rattle.vcp_base.specs.declared.kind.StopKind.TheVariants as stop
use Rattle.op_graph.specs.declared.op.Op.{Op}
use Rattle.op_graph.specs.declared.op.Outlet.{Outlet}
use Rattle.op_graph.specs.GraphRun.{Cycle, Stop, after, initial, outcome_of, stored}
use Rattle.op_graph.specs.Lists.{Lists}
use Rattle.op_graph.specs.Rules.{IsGraph}
use Rattle.signature_table.specs.Signatures.{Numbers}
use Rattle.fault_script.specs.declared.act.Act.{Act}
use Rattle.fault_script.specs.declared.act.Fault.{Fault}
use Rattle.fault_script.specs.Changes.{Acts, acts_of}
use Rattle.fault_script.specs.Differences.{Frame, no_frame, frame}
use Rattle.fault_script.specs.Fits.{Fits}
use Rattle.fault_injector.specs.Stepping.{Course, outcome_under}

-- What a cycle under acts begins with: the graph and the numbers of its code, the cycle's number and its row of inputs, its acts, the values of
-- the whole cycle before and of the cells now, and the differences of the cycle before and of this one.
pub record Begun : Type 0 where
  pub graph : Lists
  pub table : Numbers
  pub cycle : ℕ
  pub row : List ℤ
  pub acts : ℕ → Option Act
  pub past : Frame
  pub held : List ℤ
  pub past_differences : Frame
  pub differences : Frame

-- what stands when an operation is done, where those before it gave `values`
abbrev pub course : Begun → List ℤ → Course
course b values = record { past = b.past; now = record { held = b.held; given = values }; past_differences = b.past_differences; differences = b.differences }

-- what the next operation gives
abbrev pub given_by : Begun → List ℤ → Op → Outcome
given_by b values op = outcome_under b.table b.graph b.cycle b.row (course b values) (length values) op (b.acts (length values))

-- the cycle of operations, where those before them gave `values`
abbrev pub cycle_under_from : Begun → List ℤ → List Op → Cycle
cycle_under_from b values [] = record { values = values; stop = None }
cycle_under_from b values (op ∷ ops) = after values (λ v. cycle_under_from b (values ++ v ∷ []) ops) (given_by b values op)

-- a cycle under acts: the values of its operations in order, up to the first that stops, and why that one stops
abbrev pub cycle_under : Begun → Cycle
cycle_under b = cycle_under_from b [] b.graph.operations

-- ---- where a cycle stops

-- the stop of an operation, which comes after those that gave values
abbrev pub operation_stop : Cycle → Option Stop
operation_stop c = option_map (λ why. record { op = length c.values; kind = why }) c.stop

-- the first of these outputs whose OUT has a value outside the output's type
abbrev pub outside : List ℤ → List Outlet → Option Stop
outside values [] = None
outside values (o ∷ outputs) = cond (fits o.ty (at values o.op)) (outside values outputs) (Some (record { op = o.op; kind = stop.Operand }))

abbrev pub stop_or : Option Stop → Option Stop → Option Stop
stop_or (Some s) later = Some s
stop_or None later = later

-- A cycle under acts stops at the first operation that stops; where none does, at the first OUT whose value isn't in its output's type.
abbrev pub stop_under : Lists → Cycle → Option Stop
stop_under g c = stop_or (operation_stop c) (outside c.values g.outputs)

-- ---- runs

-- the differences of the cycle before cycle n: none before cycle 0
abbrev pub frame_before : Numbers → Lists → Acts → ℕ → Frame
frame_before t g acts zero = no_frame
frame_before t g acts (suc n) = frame t g acts n

-- what cycle n of a run under acts begins with
abbrev pub begun : Numbers → Lists → Acts → ℕ → Frame → List ℤ → List ℤ → Begun
begun t g acts n past held row = record {
  graph = g;
  table = t;
  cycle = n;
  row = row;
  acts = acts n;
  past = past;
  held = held;
  past_differences = frame_before t g acts n;
  differences = frame t g acts n;
}

-- the later cycles of a run come where this one doesn't stop
abbrev pub unless_stopped : Option Stop → List Cycle → List Cycle
unless_stopped None later = later
unless_stopped (Some s) later = []

-- a cycle, and the later ones unless it stops
abbrev pub followed : (Cycle → Option Stop) → (Cycle → List Cycle) → Cycle → List Cycle
followed stops next c = c ∷ unless_stopped (stops c) (next c)

-- the cycles of a run under acts, from cycle n on, one for each row up to the first that stops
abbrev pub cycles_from : Numbers → Lists → Acts → ℕ → Frame → List ℤ → List (List ℤ) → List Cycle
cycles_from t g acts n past held [] = []
cycles_from t g acts n past held (row ∷ rows) =
    followed (stop_under g) (λ c. cycles_from t g acts (suc n) (record { held = held; given = c.values }) (stored g c.values) rows)
    (cycle_under (begun t g acts n past held row))

-- the cycles of the run of a graph under acts
abbrev pub run_under : Numbers → Lists → Acts → List (List ℤ) → List Cycle
run_under t g acts rows = cycles_from t g acts 0 no_frame (initial g) rows

-- the run of a graph with a group of faults
abbrev pub fault_run : Numbers → Lists → List Fault → List (List ℤ) → List Cycle
fault_run t g faults rows = run_under t g (acts_of faults) rows

-- ---- one fault alone

-- what stands when an operation is done, but for differences, of which there are none
abbrev pub undisturbed : Course → Course
undisturbed c = record c { past_differences = no_frame; differences = no_frame }

-- One fault alone: no difference stands before it. At its operation the outcome is that of its act where the residues of the operation's operands and
-- of its answer are those of their signatures and the stamp; at every other operation, and in every other cycle, it is that of the graph on the values
-- that are there.
pub record OneFaultRun (t : Numbers) (g : Lists) (f : Fault) : Type 0 where
  pub there : (op : Op) (past : Frame) (held row values : List ℤ) → slice_get g.operations f.op ≡ Some op → length values ≡ f.op →
      given_by (begun t g (acts_of (f ∷ [])) f.cycle past held row) values op
      ≡ outcome_under t g f.cycle row (undisturbed (course (begun t g (acts_of (f ∷ [])) f.cycle past held row) values)) f.op op (Some f.act)
  pub elsewhere : (n : ℕ) (op : Op) (past : Frame) (held row values : List ℤ) → acts_of (f ∷ []) n (length values) ≡ None →
      given_by (begun t g (acts_of (f ∷ [])) n past held row) values op ≡ outcome_of held row values op

-- the law of one fault: for every graph, numbers and fault that fits
abbrev pub OneFaultRuns : Type 0
OneFaultRuns = (t : Numbers) (g : Lists) (f : Fault) → IsGraph g → Fits g f → OneFaultRun t g f
