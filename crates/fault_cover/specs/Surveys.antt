-- Surveys: what faults are judged by.
use Rattle.std.specs.Prelude.{◌≡◌, ℕ, suc, ◌-◌, ◌<◌, ◌≤◌, cond, Bool, true, List, drop, length, slice_get, slice_index_or, Option, Some, None, pos, ◌+ℤ◌}
use Rattle.vcp_base.specs.Code.{modulus}
use Rattle.coded_unit.specs.Words.{modulo}
use Rattle.op_graph.specs.declared.op.Outlet.{Outlet}
use Rattle.op_graph.specs.Lists.{Lists}
use Rattle.range_audit.specs.Audit.{NamesStops}
use Rattle.range_walk.specs.declared.range.Stops.{Stops}
use Rattle.range_walk.specs.Known.{is_any_named}
use Rattle.weight_audit.specs.Audit.{Audit, IsAudit}
use Rattle.fault_cover.specs.declared.nearest.Nearest.{Nearest}
use Rattle.fault_cover.specs.declared.rests.Rest.{Rest}
use Rattle.fault_cover.specs.declared.starts.Start.{Start}
use Rattle.fault_cover.specs.Beginnings.{AreReadings, start_at, starts_at}
use Rattle.fault_cover.specs.Firsts.{IsFirstOf}
use Rattle.fault_cover.specs.Sources.{Source, comes, part}
use Rattle.fault_cover.specs.Telling.{Subject}
use Rattle.fault_cover.specs.Walks.{AreNearest, is_nearer, is_wanted}

-- The weights, what is reached first from each operation of the outputs' OUTs and of the operations that may stop, the number of the output of
-- each OUT, the readings of each word, and what the later of them come to.
pub record Surveyed : Type 0 where
  pub horizon : ℕ
  pub weights : Audit
  pub outputs : List (Option Nearest)
  pub stops : List (Option Nearest)
  pub numbers : List ℕ
  pub readings : List (List Start)
  pub rests : List (List Rest)

-- operation q is the OUT of an output
abbrev pub IsOutOf : Lists → ℕ → Type 0
IsOutOf g q = (i : ℕ) × (o : Outlet) × (slice_get g.outputs i ≡ Some o) × (o.op ≡ q)

-- these are the OUTs of outputs
pub record AreOuts (g : Lists) (wanted : List Bool) : Type 0 where
  pub sound : (q : ℕ) → is_wanted wanted q ≡ true → IsOutOf g q
  pub complete : (i : ℕ) (o : Outlet) → slice_get g.outputs i ≡ Some o → is_wanted wanted o.op ≡ true

-- the OUT of each output has its number
pub record AreNumbers (g : Lists) (numbers : List ℕ) : Type 0 where
  pub many : length numbers ≡ length g.operations
  pub each : (i : ℕ) (o : Outlet) → slice_get g.outputs i ≡ Some o → slice_index_or numbers o.op 0 ≡ i

-- these are the operations that may stop
abbrev pub AreAble : List Stops → List Bool → Type 0
AreAble stops wanted = (q : ℕ) → is_wanted wanted q ≡ is_any_named (slice_get stops q)

-- of the OUTs of outputs, the first that is reached from each operation
pub record AreOutputs (g : Lists) (found : List (Option Nearest)) : Type 0 where
  pub outs : List Bool
  pub are : AreOuts g outs
  pub nearest : AreNearest g outs found

-- of the operations that may stop, the first that is reached from each operation
pub record AreStops (g : Lists) (found : List (Option Nearest)) : Type 0 where
  pub stops : List Stops
  pub names : NamesStops g stops
  pub able : List Bool
  pub are : AreAble stops able
  pub nearest : AreNearest g able found

-- what the later readings of words are summed by
pub record AreMaps (g : Lists) (v : Surveyed) : Type 0 where
  pub weights : IsAudit g v.horizon v.weights
  pub outs : List Bool
  pub outs_are : AreOuts g outs
  pub outputs : AreNearest g outs v.outputs
  pub numbers : AreNumbers g v.numbers
  pub able : List Bool
  pub stops : AreNearest g able v.stops
  pub readings : AreReadings g v.readings

-- ---- what the later readings of a word come to

-- this output's OUT is n
abbrev pub IsOutputOf : Lists → Surveyed → Nearest → Outlet → Type 0
IsOutputOf g v n o = slice_get g.outputs (slice_index_or v.numbers n.op 0) ≡ Some o

-- what is reached first from these starts, and what comes from them to the output that is
pub record IsRest (g : Lists) (v : Surveyed) (starts : List Start) (x : Rest) : Type 0 where
  pub output : IsFirstOf v.outputs starts x.output
  pub stop : IsFirstOf v.stops starts x.stop
  pub below : x.sum < modulus g.profile
  pub sum : (n : Nearest) (o : Outlet) → x.output ≡ Some n → IsOutputOf g v n o → n.borders ≤ v.horizon → (from : List Source)
      → starts ≡ starts_at g.profile from → x.sum ≡ modulo g.profile (comes g o.op n.borders from)

-- of the readings of a word: those from the last one on, those from the last but one on, and so on
pub record AreRests (g : Lists) (v : Surveyed) (starts : List Start) (rests : List Rest) : Type 0 where
  pub many : length rests ≡ length starts
  pub each : (j : ℕ) (x : Rest) → slice_get rests j ≡ Some x → IsRest g v (drop (length starts - suc j) starts) x

-- of each word
pub record AreWordRests (g : Lists) (v : Surveyed) (rests : List (List Rest)) : Type 0 where
  pub many : length rests ≡ length v.readings
  pub each : (k : ℕ) (starts : List Start) (of : List Rest) → slice_get v.readings k ≡ Some starts → slice_get rests k ≡ Some of → AreRests g v starts of

-- what came to the output that is reached first with one more start, from which this is reached first: 0 where it wasn't the first before
abbrev pub before_of : Option Nearest → ℕ → Option Nearest → ℕ
before_of None sum near = 0
before_of (Some first) sum None = sum
before_of (Some first) sum (Some near) = cond (is_nearer near first) 0 sum

-- this comes from a start to the output of what is reached first, beside what came before
abbrev pub SumsTo : Lists → Surveyed → ℕ → Option Nearest → Start → ℕ → Type 0
SumsTo g v before output start sum = (n : Nearest) (o : Outlet) (s : Source) → output ≡ Some n → IsOutputOf g v n o → n.borders ≤ v.horizon
    → start ≡ start_at g.profile s → sum ≡ modulo g.profile (pos before +ℤ part g o.op n.borders s)

-- ---- all

-- what is surveyed whatever the operations that may stop
pub record IsMapped (g : Lists) (v : Surveyed) : Type 0 where
  pub maps : AreMaps g v
  pub rests : AreWordRests g v v.rests

pub record IsSurvey (s : Subject) (v : Surveyed) : Type 0 where
  pub horizon : v.horizon ≡ s.horizon
  pub mapped : IsMapped s.graph v
  pub able_are : AreAble s.stops mapped.maps.able

-- a survey of a graph up to a horizon
pub record IsSurveyOf (g : Lists) (horizon : ℕ) (v : Surveyed) : Type 0 where
  pub horizon_is : v.horizon ≡ horizon
  pub mapped : IsMapped g v
  pub stops : List Stops
  pub names : NamesStops g stops
  pub able_are : AreAble stops mapped.maps.able
