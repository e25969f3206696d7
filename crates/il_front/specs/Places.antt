-- Places: where the results are kept, as the code keeps it.
use Rattle.std.specs.Prelude.{ℕ, ◌+◌, Bool}
use Rattle.vcp_base.specs.declared.ty.Ty.{Ty}
use Rattle.vcp_base.specs.declared.ty.Ty.TheVariants as ty
use Rattle.il_front.specs.declared.places.Places.{Places}
use Rattle.il_front.specs.TypedForm.{used_before, all_types}

-- the types whose results are kept
abbrev pub used_in : Places → Ty → Bool
used_in p ty.Bool = p.bools
used_in p ty.Int = p.ints
used_in p ty.Dint = p.dints
used_in p ty.Lint = p.lints

-- the number of the slot that keeps a result of the type, behind n declared variables
abbrev pub place_behind : ℕ → (Ty → Bool) → Ty → ℕ
place_behind n used t = n + used_before used t all_types

-- the number of the slot that keeps a result of the type
abbrev pub place_in : Places → Ty → ℕ
place_in p = place_behind p.declared (used_in p)
