-- Certain: what it says of every run that a fault is reported as refused, or to do nothing.
-- A run is one of acts: at the fault's operation alone, none before its cycle, in that cycle the one of the fault, and later whatever there is. So a
-- fault that stays, or comes and goes at its operation, is among them. The rows are any whose values are in the types of their inputs.
use Rattle.std.specs.Prelude.{◌≡◌, ◌≢◌, ℕ, suc, ◌+◌, ◌<◌, ◌≤◌, true, false, List, drop, slice_get, Some, None, ℤ, pos, ◌+ℤ◌, ◌-ℤ◌, ◌*ℤ◌}
use Rattle.std.specs.List.{Contains}
use Rattle.coded_unit.specs.Words.{modulo}
use Rattle.vcp_base.specs.declared.kind.Kind.{Kind}
use Rattle.op_graph.specs.declared.op.Op.{Op}
use Rattle.op_graph.specs.declared.op.Outlet.{Outlet}
use Rattle.op_graph.specs.GraphRun.{Cycle, initial, operand, stored}
use Rattle.op_graph.specs.Lists.{Lists}
use Rattle.op_graph.specs.Reads.{named}
use Rattle.op_graph.specs.Rules.{IsGraph}
use Rattle.vcp_base.specs.Values.{at}
use Rattle.signature_table.specs.Signatures.{Numbers, IsTable, IsTableOf, signature, stamp}
use Rattle.range_audit.specs.Audit.{NamesStops, RowsFit}
use Rattle.fault_script.specs.declared.act.Act.{Act}
use Rattle.fault_script.specs.declared.act.Act.TheVariants as act
use Rattle.fault_script.specs.Changes.{Acts}
use Rattle.fault_script.specs.Differences.{origin}
use Rattle.fault_script.specs.Fits.{is_timely}
use Rattle.fault_injector.specs.FaultRun.{run_under, stop_under}
use Rattle.fault_injector.specs.Stepping.{word_of}
use Rattle.fault_injector.specs.declared.verdicts.Verdict.{Verdict}
use Rattle.fault_injector.specs.declared.verdicts.Verdict.TheVariants as verdict
use Rattle.fault_injector.specs.Verdicts.{compared, plain_cycles}
use Rattle.fault_cover.specs.declared.disturbance.Disturbance.{Disturbance}
use Rattle.fault_cover.specs.declared.disturbance.Disturbance.TheVariants as disturbance
use Rattle.fault_cover.specs.declared.effect.Effect.TheVariants as told
use Rattle.fault_cover.specs.Additions.{Addends, AreAdded, run_with, verdict_with}
use Rattle.fault_cover.specs.Sources.{Reading, readings, sources, comes}
use Rattle.fault_cover.specs.Telling.{Subject, Tells, does_the_same}

-- ---- the runs

-- the verdict on a run under acts
abbrev pub verdict_under : Numbers → Lists → Acts → List (List ℤ) → Verdict
verdict_under t g acts rows = compared t g acts 0 (run_under t g acts rows) (plain_cycles g (initial g) rows)

-- this act is at operation k in cycle n; other acts are there alone, and later
pub record StandsAt (acts : Acts) (n k : ℕ) (a : Act) : Type 0 where
  pub first : acts n k ≡ Some a
  pub before : (m : ℕ) → m < n → acts m k ≡ None
  pub alone : (m q : ℕ) → q ≢ k → acts m q ≡ None

-- The word that operation r answered in the cycle before cycle n is greater by e than the one that operand j of operation k reads in cycle n, in the
-- run without faults, which releases that cycle before and reaches the operation.
pub record IsLate (t : Numbers) (g : Lists) (rows : List (List ℤ)) (n k j r : ℕ) (e : ℤ) : Type 0 where
  pub before : ℕ
  pub cycle : n ≡ suc before
  pub past : Cycle
  pub past_is : slice_get (plain_cycles g (initial g) rows) before ≡ Some past
  pub now : Cycle
  pub now_is : slice_get (plain_cycles g (initial g) rows) n ≡ Some now
  pub op : Op
  pub there : slice_get g.operations k ≡ Some op
  pub word : e ≡ word_of t (at past.values r) (pos (signature t.profile t.seed r) +ℤ pos (stamp t.step before))
      -ℤ word_of t (operand (stored g past.values) now.values op j (named op j)) (origin t g op j +ℤ pos (stamp t.step n))

-- the act is one of the fault in cycle n, and what its difference is for each 1 of what the source says is `size`
abbrev pub IsActOf : Subject → List (List ℤ) → ℕ → ℕ → Disturbance → Act → ℤ → Type 0
IsActOf s rows n k disturbance.AddToResult a size = (a ≡ act.ResultAdd size) × (modulo s.graph.profile size ≢ 0)
IsActOf s rows n k (disturbance.AddToOperand j) a size = (a ≡ act.OperandAdd j size) × (modulo s.graph.profile size ≢ 0)
IsActOf s rows n k (disturbance.AddToRest right) a size = ⊥
IsActOf s rows n k (disturbance.Late j r) a size = (e : ℤ) × (a ≡ act.OperandAdd j e) × IsLate s.table s.graph rows n k j r e × (size ≡ pos 1)
IsActOf s rows n k (disturbance.Does b) a size = (a ≡ b) × (is_timely n b ≡ true) × (size ≡ pos 1)

-- a number, which is no multiple of the constant, is added to the word of operation k in each of its readings but the first ones, and nothing else is
pub record StandsAtRest (g : Lists) (adds : Addends) (n k right : ℕ) (e : ℤ) : Type 0 where
  pub unknown : modulo g.profile e ≢ 0
  pub each : (r : Reading) → Contains (drop right (readings g k)) r → adds (n + r.borders) r.op r.operand ≡ e
  pub alone : (m q j : ℕ) → ((r : Reading) → Contains (drop right (readings g k)) r → r.op ≡ q → r.operand ≡ j → n + r.borders ≡ m → ⊥)
      → adds m q j ≡ pos 0

-- ---- what is certain

-- no wrong output is released, and the run goes past no stop of the run without faults
abbrev pub IsSafe : Verdict → Type 0
IsSafe verdict.Same = Unit {0}
IsSafe (verdict.Wrong cycle output got want) = ⊥
IsSafe (verdict.RanOn cycle) = ⊥
IsSafe (verdict.Refused cycle output found wanted) = Unit {0}
IsSafe (verdict.Stopped cycle op kind) = Unit {0}

-- no output differs: the run ends as the run without faults does, or at a stop
abbrev pub IsQuiet : Verdict → Type 0
IsQuiet verdict.Same = Unit {0}
IsQuiet (verdict.Wrong cycle output got want) = ⊥
IsQuiet (verdict.RanOn cycle) = ⊥
IsQuiet (verdict.Refused cycle output found wanted) = ⊥
IsQuiet (verdict.Stopped cycle op kind) = Unit {0}

-- this is the first output at which something arrives that is no multiple of the constant
abbrev pub Differs : Subject → ℕ → Disturbance → Op → ℤ → ℕ → Outlet → Type 0
Differs s k d op size borders o =
    modulo s.graph.profile (comes s.graph o.op borders (sources s.table s.graph k op d) *ℤ size) ≢ 0

pub record FirstToDiffer (s : Subject) (k : ℕ) (d : Disturbance) (size : ℤ) (borders output : ℕ) : Type 0 where
  pub op : Op
  pub there : slice_get s.graph.operations k ≡ Some op
  pub outlet : Outlet
  pub outlet_is : slice_get s.graph.outputs output ≡ Some outlet
  pub differs : Differs s k d op size borders outlet
  pub first : (i : ℕ) (o : Outlet) → i < output → slice_get s.graph.outputs i ≡ Some o → Differs s k d op size borders o → ⊥

-- The run without faults begins the cycle, and so releases those before it; and the run with the fault stops in none up to it.
pub record ComesTo (g : Lists) (run : List Cycle) (rows : List (List ℤ)) (n : ℕ) : Type 0 where
  pub cycle : Cycle
  pub begun : slice_get (plain_cycles g (initial g) rows) n ≡ Some cycle
  pub going : (m : ℕ) (c : Cycle) → m ≤ n → slice_get run m ≡ Some c → stop_under g c ≡ None

-- Reported as refused: no wrong output is ever released, and no stop is passed. Where the run is refused, it is so in that cycle, at the first output that
-- the fault reaches; and it is, unless it ends before.
pub record RefusedMeans (s : Subject) (run : List Cycle) (v : Verdict) (rows : List (List ℤ)) (n k : ℕ) (d : Disturbance) (size : ℤ) (borders : ℕ) : Type 0
  where
    pub safe : IsSafe v
    pub where_refused : (cycle output found wanted : ℕ) → v ≡ verdict.Refused cycle output found wanted
        → (cycle ≡ n + borders) × FirstToDiffer s k d size borders output
    pub refused : ComesTo s.graph run rows (n + borders) → (output : ℕ) × (found : ℕ) × (wanted : ℕ) × (v ≡ verdict.Refused (n + borders) output found wanted)

-- what the two answers mean of the cycles of a run with the fault, on which this is the verdict
pub record Means (s : Subject) (run : List Cycle) (v : Verdict) (rows : List (List ℤ)) (n k : ℕ) (d : Disturbance) (size : ℤ) : Type 0 where
  pub refused : (borders : ℕ) → Tells s k d (told.Refused borders) → RefusedMeans s run v rows n k d size borders
  pub nothing : (op : Op) → slice_get s.graph.operations k ≡ Some op → does_the_same op.kind d ≡ false → Tells s k d told.Nothing → IsQuiet v

-- of a run under acts
abbrev pub ActsMean : Subject → Acts → List (List ℤ) → ℕ → ℕ → Disturbance → ℤ → Type 0
ActsMean s acts rows n k d size = Means s (run_under s.table s.graph acts rows) (verdict_under s.table s.graph acts rows) rows n k d size

-- a subject is of one graph
pub record IsSubject (s : Subject) : Type 0 where
  pub graph : IsGraph s.graph
  pub table : IsTable s.table
  pub table_is : IsTableOf s.table s.graph
  pub stops : NamesStops s.graph s.stops

-- ---- the theorem

-- Over every subject, rows that fit, fault at one operation, and acts that are there alone, the first of which is the fault's.
abbrev pub CertainAtOperation : Type 0
CertainAtOperation = (s : Subject) (acts : Acts) (rows : List (List ℤ)) (n k : ℕ) (d : Disturbance) (a : Act) (size : ℤ) → IsSubject s → RowsFit s.graph rows
    → StandsAt acts n k a → IsActOf s rows n k d a size → ActsMean s acts rows n k d size

-- Of a number that is added to the later readings of a word: over the run in which it is added to these alone.
abbrev pub CertainAtRest : Type 0
CertainAtRest = (s : Subject) (adds : Addends) (rows : List (List ℤ)) (n k right : ℕ) (e : ℤ) → IsSubject s → RowsFit s.graph rows
    → StandsAtRest s.graph adds n k right e
    → Means s (run_with s.table s.graph adds rows) (verdict_with s.table s.graph adds rows) rows n k (disturbance.AddToRest right) e

-- An operation that is done once as one of another kind that does the same changes nothing.
abbrev pub CertainOfSameKind : Type 0
CertainOfSameKind = (s : Subject) (acts : Acts) (rows : List (List ℤ)) (n k : ℕ) (other : Kind) (op : Op) → IsSubject s → StandsAt acts n k (act.Operator other)
    → slice_get s.graph.operations k ≡ Some op → does_the_same op.kind (disturbance.Does (act.Operator other)) ≡ true → ((m : ℕ) → n < m → acts m k ≡ None)
    → verdict_under s.table s.graph acts rows ≡ verdict.Same

-- Where one operand an operation and cycle is added to, the run with these additions is one under acts.
abbrev pub AdditionsAreActs : Type 0
AdditionsAreActs = (t : Numbers) (g : Lists) (acts : Acts) (adds : Addends) (rows : List (List ℤ)) → IsGraph g → IsTableOf t g → AreAdded acts adds
    → (run_with t g adds rows ≡ run_under t g acts rows) × (verdict_with t g adds rows ≡ verdict_under t g acts rows)
