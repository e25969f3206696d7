-- The constants of the two codes, and the types that each has words of.
use Rattle.std.specs.Prelude.{ℕ, Bool, true, false}
use Rattle.vcp_base.specs.declared.code.Profile.{Profile}
use Rattle.vcp_base.specs.declared.code.Profile.TheVariants as profile
use Rattle.vcp_base.specs.declared.ty.Ty.{Ty}
use Rattle.vcp_base.specs.declared.ty.Ty.TheVariants as ty

-- the constant by which a word is split into its value part and its residue, A
abbrev pub modulus : Profile → ℕ
modulus profile.Narrow = 2147483647
modulus profile.Wide = 2305843009213693951

abbrev pub is_wide : Profile → Bool
is_wide profile.Narrow = false
is_wide profile.Wide = true

-- the code has words of the type: the narrow one has none of LINT
abbrev pub admits : Profile → Ty → Bool
admits p ty.Bool = true
admits p ty.Int = true
admits p ty.Dint = true
admits p ty.Lint = is_wide p
