-- Sited: what may be amiss at an operation.
use Rattle.std.specs.Prelude.{◌≡◌, ℕ, nat_lt, Bool, true, length}
use Rattle.op_graph.specs.Lists.{Lists}
use Rattle.fault_cover.specs.declared.disturbance.Disturbance.{Disturbance}
use Rattle.fault_cover.specs.declared.disturbance.Disturbance.TheVariants as disturbance
use Rattle.fault_cover.specs.Sources.{readings}

-- where a word changes between two of its readings, some are left behind those that come before
abbrev pub is_sited_at : Lists → ℕ → Disturbance → Bool
is_sited_at g k disturbance.AddToResult = true
is_sited_at g k (disturbance.AddToOperand j) = true
is_sited_at g k (disturbance.AddToRest right) = nat_lt right (length (readings g k))
is_sited_at g k (disturbance.Late j r) = true
is_sited_at g k (disturbance.Does a) = true

abbrev pub IsSited : Lists → ℕ → Disturbance → Type 0
IsSited g k d = is_sited_at g k d ≡ true
