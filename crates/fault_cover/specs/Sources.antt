-- Sources: what is amiss at an operation, in whatever cycle, and from where and as how much of a difference it spreads. No value of the program is in
-- it: the answer is made of multipliers, signatures and the step.
use Rattle.std.specs.Prelude.{◌≡◌, ◌≢◌, ℕ, ◌-◌, nat_le, cond, Bool, true, false, List, [], ◌∷◌, drop, map, ℤ, pos, ◌+ℤ◌, ◌-ℤ◌, ◌*ℤ◌}
use Rattle.vcp_base.specs.declared.code.Profile.{Profile}
use Rattle.vcp_base.specs.Kinds.{multiplier}
use Rattle.coded_unit.specs.Words.{modulo}
use Rattle.op_graph.specs.declared.op.Op.{Op}
use Rattle.op_graph.specs.Lists.{Lists}
use Rattle.signature_table.specs.Signatures.{Numbers, signature}
use Rattle.fault_script.specs.Differences.{made, origin}
pub use Rattle.fault_sites.specs.declared.reading.Reading.{Reading}
pub use Rattle.fault_sites.specs.Readings.{reading_across, reading_as, readings, readings_across, readings_by, readings_from}
use Rattle.weight_audit.specs.Weights.{weight}
use Rattle.fault_cover.specs.declared.disturbance.Disturbance.{Disturbance}
use Rattle.fault_cover.specs.declared.disturbance.Disturbance.TheVariants as disturbance

-- ---- sources

-- Words of operation `op` differ from the ones that they should be, so many cycle borders behind the cycle of the fault, where nothing else is
-- amiss: by `amount`, or where a number is added that isn't known, by `amount` for each 1 of it.
pub record Source : Type 0 where
  pub op : ℕ
  pub borders : ℕ
  pub amount : ℤ

abbrev pub source_at : ℕ → ℕ → ℤ → Source
source_at op borders amount = record { op = op; borders = borders; amount = amount }

-- ---- the readings of a word

-- the source that a reading is where a number is added to the word that it reads
abbrev pub as_source : Reading → Source
as_source r = source_at r.op r.borders r.multiplier

-- ---- what is amiss

-- A number is added that isn't known: of it, that it is no multiple of the constant of the graph's code.
abbrev pub is_any : Disturbance → Bool
is_any disturbance.AddToResult = true
is_any (disturbance.AddToOperand j) = true
is_any (disturbance.AddToRest right) = true
is_any (disturbance.Late j r) = false
is_any (disturbance.Does a) = false

-- Operand j is the word that operation r answered in the cycle before: by the signatures of the two and the step, which the stamp of that cycle is
-- less by, its residue is another.
abbrev pub late_made : Numbers → Lists → Op → ℕ → ℕ → ℤ
late_made t g op j r = multiplier op.kind j *ℤ (pos (signature t.profile t.seed r) -ℤ pos t.step -ℤ origin t g op j)

-- the sources of what is amiss at operation k, which is `op`
abbrev pub sources : Numbers → Lists → ℕ → Op → Disturbance → List Source
sources t g k op disturbance.AddToResult = source_at k 0 (pos 1) ∷ []
sources t g k op (disturbance.AddToOperand j) = source_at k 0 (multiplier op.kind j) ∷ []
sources t g k op (disturbance.AddToRest right) = map as_source (drop right (readings g k))
sources t g k op (disturbance.Late j r) = source_at k 0 (late_made t g op j r) ∷ []
sources t g k op (disturbance.Does a) = source_at k 0 (made t g op a) ∷ []

-- ---- what comes of it

-- what comes from one source to an OUT, so many cycle borders behind the cycle of the fault: the amount times the weight over the borders that are left
abbrev pub part : Lists → ℕ → ℕ → Source → ℤ
part g out borders s = cond (nat_le s.borders borders) (s.amount *ℤ pos (weight g out (borders - s.borders) s.op)) (pos 0)

abbrev pub comes : Lists → ℕ → ℕ → List Source → ℤ
comes g out borders [] = pos 0
comes g out borders (s ∷ more) = part g out borders s +ℤ comes g out borders more

-- an integer has an inverse modulo the constant of a code
abbrev pub HasInverse : Profile → ℤ → Type 0
HasInverse p z = (y : ℤ) × (modulo p (z *ℤ y) ≡ 1)

-- What arrives at an output is refused there: it is no multiple of the constant; where the number that is added isn't known, what comes for each 1 of it
-- has an inverse, so that no multiple comes of a number that is none. Nothing rests on the constant being prime.
abbrev pub Refuses : Profile → Bool → ℤ → Type 0
Refuses p true z = HasInverse p z
Refuses p false z = modulo p z ≢ 0
