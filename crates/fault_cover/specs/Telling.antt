-- Telling: what becomes of a fault in every run, as it is reported from the graph, the numbers of its code and the operations that may stop.
use Rattle.std.specs.Prelude.{◌≡◌, ◌⊎◌, ℕ, ◌+◌, ◌<◌, ◌≤◌, Bool, true, false, ◌&&◌, ◌||◌, List, slice_get, Option, Some, None}
use Rattle.std.specs.List.{Contains}
use Rattle.vcp_base.specs.declared.kind.Kind.{Kind}
use Rattle.vcp_base.specs.declared.kind.Kind.TheVariants as kind
use Rattle.op_graph.specs.declared.op.Op.{Op}
use Rattle.op_graph.specs.declared.op.Outlet.{Outlet}
use Rattle.op_graph.specs.Lists.{Lists}
use Rattle.signature_table.specs.Signatures.{Numbers}
use Rattle.fault_script.specs.declared.act.Act.TheVariants as act
use Rattle.weight_audit.specs.Paths.{Reached}
use Rattle.range_walk.specs.declared.range.Stops.{Stops}
use Rattle.range_walk.specs.Known.{is_any_named}
use Rattle.fault_cover.specs.declared.disturbance.Disturbance.{Disturbance}
use Rattle.fault_cover.specs.declared.disturbance.Disturbance.TheVariants as disturbance
use Rattle.fault_cover.specs.declared.effect.Effect.{Effect}
use Rattle.fault_cover.specs.declared.effect.Effect.TheVariants as told
use Rattle.fault_cover.specs.Sources.{Source, sources, is_any, comes, Refuses}

-- what faults are judged over: a graph, the numbers of its code, which of its operations may stop, and across how many cycle borders is looked
pub record Subject : Type 0 where
  pub graph : Lists
  pub table : Numbers
  pub stops : List Stops
  pub horizon : ℕ

abbrev pub subject : Lists → Numbers → ℕ → List Stops → Subject
subject g t horizon stops = record { graph = g; table = t; stops = stops; horizon = horizon }

-- ---- what is reached

-- an operation is reached from one of the sources, so many cycle borders behind the cycle of the fault
pub record Reaches (g : Lists) (from : List Source) (borders target : ℕ) : Type 0 where
  pub source : Source
  pub among : Contains from source
  pub more : ℕ
  pub borders_are : source.borders + more ≡ borders
  pub path : Reached g target more source.op

-- output i is reached
pub record ReachesOutput (g : Lists) (from : List Source) (borders i : ℕ) : Type 0 where
  pub output : Outlet
  pub there : slice_get g.outputs i ≡ Some output
  pub reaches : Reaches g from borders output.op

-- operation q is reached, and may stop
pub record ReachesStop (s : Subject) (from : List Source) (borders q : ℕ) : Type 0 where
  pub may : is_any_named (slice_get s.stops q) ≡ true
  pub reaches : Reaches s.graph from borders q

abbrev pub NoOutputBefore : Subject → List Source → ℕ → Type 0
NoOutputBefore s from borders = (m i : ℕ) → m < borders → ReachesOutput s.graph from m i → ⊥

abbrev pub NoStopBefore : Subject → List Source → ℕ → Type 0
NoStopBefore s from borders = (m q : ℕ) → m < borders → ReachesStop s from m q → ⊥

-- an output is reached across so many borders and no more than the horizon, none across fewer, and nothing that may stop across fewer
pub record FirstReached (s : Subject) (from : List Source) (borders : ℕ) : Type 0 where
  pub within : borders ≤ s.horizon
  pub outputs : NoOutputBefore s from borders
  pub stops : NoStopBefore s from borders

-- output i is reached across so many borders, and what arrives at it is refused there
pub record RefusedAt (s : Subject) (any : Bool) (from : List Source) (borders i : ℕ) : Type 0 where
  pub output : Outlet
  pub there : slice_get s.graph.outputs i ≡ Some output
  pub reaches : Reaches s.graph from borders output.op
  pub refuses : Refuses s.graph.profile any (comes s.graph output.op borders from)

-- ---- the five answers

-- `refused`: some output that is reached first refuses what arrives at it
pub record RefusedWhenReached (s : Subject) (any : Bool) (from : List Source) (borders : ℕ) : Type 0 where
  pub first : FirstReached s from borders
  pub output : ℕ
  pub refused : RefusedAt s any from borders output

-- `shows`: none of the outputs that are reached first does, and this is the first of them
pub record Shows (s : Subject) (any : Bool) (from : List Source) (borders output : ℕ) : Type 0 where
  pub first : FirstReached s from borders
  pub reached : ReachesOutput s.graph from borders output
  pub lowest : (i : ℕ) → i < output → ReachesOutput s.graph from borders i → ⊥
  pub none : (i : ℕ) → RefusedAt s any from borders i → ⊥

-- `runs-on`: an operation that may stop is reached before any output is, or without one within the horizon; it is the first of those that are
-- reached across the fewest borders
pub record RunsOn (s : Subject) (from : List Source) (borders q : ℕ) : Type 0 where
  pub within : borders ≤ s.horizon
  pub outputs : (m i : ℕ) → m ≤ borders → ReachesOutput s.graph from m i → ⊥
  pub stops : NoStopBefore s from borders
  pub reached : ReachesStop s from borders q
  pub lowest : (p : ℕ) → p < q → ReachesStop s from borders p → ⊥

-- `nothing`: no output and nothing that may stop is reached, across any number of borders
pub record Nowhere (s : Subject) (from : List Source) : Type 0 where
  pub outputs : (m i : ℕ) → ReachesOutput s.graph from m i → ⊥
  pub stops : (m q : ℕ) → ReachesStop s from m q → ⊥

-- `beyond`: an output or an operation that may stop is reached, but across more borders than the horizon alone
pub record Beyond (s : Subject) (from : List Source) : Type 0 where
  pub somewhere : ((m : ℕ) × (i : ℕ) × ReachesOutput s.graph from m i) ⊎ ((m : ℕ) × (q : ℕ) × ReachesStop s from m q)
  pub outputs : (m i : ℕ) → m ≤ s.horizon → ReachesOutput s.graph from m i → ⊥
  pub stops : (m q : ℕ) → m ≤ s.horizon → ReachesStop s from m q → ⊥

-- what is reported of what spreads from these sources
abbrev pub TellsOf : Subject → Bool → List Source → Effect → Type 0
TellsOf s any from (told.Refused borders) = RefusedWhenReached s any from borders
TellsOf s any from told.Nothing = Nowhere s from
TellsOf s any from (told.Shows borders output) = Shows s any from borders output
TellsOf s any from (told.RunsOn borders q) = RunsOn s from borders q
TellsOf s any from told.Beyond = Beyond s from

-- ---- another kind that does the same

-- an INPUT and a CONST give their own number, and have no operand
abbrev pub gives_own : Kind → Bool
gives_own kind.Input = true
gives_own kind.Const = true
gives_own _ = false

-- a LOAD, a STORE, an OUT and a CONV give their operand, with the multiplier 1
abbrev pub copies : Kind → Bool
copies kind.Load = true
copies kind.Store = true
copies kind.Out = true
copies kind.Conv = true
copies _ = false

-- the two kinds have the same multipliers and the same function
abbrev pub does_as : Kind → Kind → Bool
does_as one other = gives_own one && gives_own other || copies one && copies other

-- the operation is done as one of another kind that does the same
abbrev pub does_the_same : Kind → Disturbance → Bool
does_the_same own disturbance.AddToResult = false
does_the_same own (disturbance.AddToOperand j) = false
does_the_same own (disturbance.AddToRest right) = false
does_the_same own (disturbance.Late j r) = false
does_the_same own (disturbance.Does (act.OperandAdd j e)) = false
does_the_same own (disturbance.Does (act.OperandFrom j r)) = false
does_the_same own (disturbance.Does (act.OperandStale j)) = false
does_the_same own (disturbance.Does (act.ResultAdd e)) = false
does_the_same own (disturbance.Does (act.Operator other)) = does_as own other
does_the_same own (disturbance.Does act.Skip) = false

-- ---- what is reported of a fault

-- `nothing` where the fault changes nothing at its operation, and else what is reported of what spreads from there
abbrev pub UnlessSame : Bool → Effect → Type 0 → Type 0
UnlessSame true answer spreads = answer ≡ told.Nothing
UnlessSame false answer spreads = spreads

abbrev pub TellsAt : Subject → ℕ → Disturbance → Effect → Option Op → Type 0
TellsAt s k d answer None = ⊥
TellsAt s k d answer (Some op) = UnlessSame (does_the_same op.kind d) answer (TellsOf s (is_any d) (sources s.table s.graph k op d) answer)

-- this is reported of what is amiss at operation k
abbrev pub Tells : Subject → ℕ → Disturbance → Effect → Type 0
Tells s k d answer = TellsAt s k d answer (slice_get s.graph.operations k)
