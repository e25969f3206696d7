-- Beginnings: what the code has for sources: the same operation and borders, and the residue of the amount.
use Rattle.std.specs.Prelude.{◌≡◌, ℕ, ◌<◌, ◌≤◌, List, [], ◌∷◌, map, length, slice_get, Some, None, Option, ℤ, pos}
use Rattle.vcp_base.specs.Code.{modulus}
use Rattle.vcp_base.specs.Kinds.{multiplier}
use Rattle.coded_unit.specs.Words.{modulo}
use Rattle.vcp_base.specs.declared.code.Profile.{Profile}
use Rattle.op_graph.specs.declared.op.Op.{Op}
use Rattle.op_graph.specs.Lists.{Lists}
use Rattle.signature_table.specs.Signatures.{Numbers}
use Rattle.fault_script.specs.Differences.{made}
use Rattle.fault_cover.specs.declared.disturbance.Disturbance.{Disturbance}
use Rattle.fault_cover.specs.declared.disturbance.Disturbance.TheVariants as disturbance
use Rattle.fault_cover.specs.declared.starts.Start.{Start}
use Rattle.fault_cover.specs.Sources.{Reading, Source, as_source, late_made, readings, sources}

abbrev pub start_at : Profile → Source → Start
start_at p s = record { op = s.op; borders = s.borders; amount = modulo p s.amount }

abbrev pub starts_at : Profile → List Source → List Start
starts_at p from = map (start_at p) from

-- ---- readings

-- the starts that readings are
abbrev pub starts_of : Profile → List Reading → List Start
starts_of p rs = starts_at p (map as_source rs)

-- the readings of each operation's word
pub record AreReadings (g : Lists) (by_word : List (List Start)) : Type 0 where
  pub many : length by_word ≡ length g.operations
  pub each : (k : ℕ) (starts : List Start) → slice_get by_word k ≡ Some starts → starts ≡ starts_of g.profile (readings g k)

-- ---- what is amiss at one place

-- how many readings come before, where a word changes between two of its readings
abbrev pub rest_of : Disturbance → Option ℕ
rest_of disturbance.AddToResult = None
rest_of (disturbance.AddToOperand j) = None
rest_of (disturbance.AddToRest right) = Some right
rest_of (disturbance.Late j r) = None
rest_of (disturbance.Does a) = None

-- how much what is amiss makes at its operation, but for a word that changes between two readings
abbrev pub amount_of : Numbers → Lists → Op → Disturbance → ℤ
amount_of t g op disturbance.AddToResult = pos 1
amount_of t g op (disturbance.AddToOperand j) = multiplier op.kind j
amount_of t g op (disturbance.AddToRest right) = pos 0
amount_of t g op (disturbance.Late j r) = late_made t g op j r
amount_of t g op (disturbance.Does a) = made t g op a

-- where what is amiss at operation k begins, where that is one place
abbrev pub IsStart : Numbers → Lists → ℕ → Disturbance → Start → Type 0
IsStart t g k d start = (op : Op) → slice_get g.operations k ≡ Some op → start ∷ [] ≡ starts_at g.profile (sources t g k op d)

-- ---- many

-- a start is at an operation of so many, at most one border later, and its amount is a residue
pub record IsPlaced (p : Profile) (operations : ℕ) (s : Start) : Type 0 where
  pub op : s.op < operations
  pub borders : s.borders ≤ 1
  pub amount : s.amount < modulus p

abbrev pub ArePlaced : Profile → ℕ → List Start → Type 0
ArePlaced p operations starts = (i : ℕ) (s : Start) → slice_get starts i ≡ Some s → IsPlaced p operations s
