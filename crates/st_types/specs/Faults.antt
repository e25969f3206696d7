-- Faults: their order, by line, then column, then rule.
use Rattle.std.specs.Prelude.{◌≡◌, ℕ, ◌<◌, ◌≤◌, ◌⊎◌}
use Rattle.vcp_base.specs.declared.spot.Spot.{Spot}
use Rattle.st_types.specs.declared.fault.Rule.{Rule}
use Rattle.st_types.specs.declared.fault.Rule.TheVariants as rule
use Rattle.st_types.specs.declared.fault.Fault.{Fault}

abbrev pub number : Rule → ℕ
number rule.Duplicate = 1
number rule.Unknown = 2
number rule.Mismatch = 3
number rule.Assign = 4
number rule.Bound = 5
number rule.Label = 6
number rule.Call = 7
number rule.Literal = 8

abbrev pub fault : Rule → Spot → Fault
fault r spot = record { rule = r; spot = spot }

-- g doesn't come before f
abbrev pub AtMost : Fault → Fault → Type 0
AtMost f g =
    (f.spot.line < g.spot.line) ⊎ ((f.spot.line ≡ g.spot.line) ×
    ((f.spot.col < g.spot.col) ⊎ ((f.spot.col ≡ g.spot.col) × (number f.rule ≤ number g.rule))))

-- the least of the faults F
abbrev pub IsLeast : (Fault → Type 0) → Fault → Type 0
IsLeast F f = F f × ((g : Fault) → F g → AtMost f g)
