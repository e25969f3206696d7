-- Codes: which version, type and kind the numbers of a format mean.
use Rattle.std.specs.Prelude.{ℕ, zero, suc, cond, Option, Some, None, slice_get}
use Rattle.std.specs.Int.{Width, w32, w64}
use Rattle.vcp_base.specs.declared.code.Profile.{Profile}
use Rattle.vcp_base.specs.declared.code.Profile.TheVariants as profile
use Rattle.vcp_base.specs.declared.ty.Ty.{Ty}
use Rattle.vcp_base.specs.declared.kind.Kind.{Kind}
use Rattle.vcp_base.specs.Code.{admits}
use Rattle.vcp_base.specs.Spellings.{kinds, types}

-- the version of the format, which is that of a graph's code: 1 for the narrow one, and 2 for the wide one
abbrev pub version_code : Profile → ℕ
version_code profile.Narrow = 1
version_code profile.Wide = 2

abbrev pub version_of : ℕ → Option Profile
version_of zero = None
version_of (suc zero) = Some profile.Narrow
version_of (suc (suc zero)) = Some profile.Wide
version_of _ = None

-- the width of a correction: four bytes in version 1, and eight in version 2
abbrev pub correction_width : Profile → Width
correction_width profile.Narrow = w32
correction_width profile.Wide = w64

-- the type, where the code has words of it
abbrev pub admitted : Profile → Option Ty → Option Ty
admitted p None = None
admitted p (Some t) = cond (admits p t) (Some t) None

-- the type with this code, which version 1 has for BOOL, INT and DINT, and version 2 for LINT too
abbrev pub type_of : Profile → ℕ → Option Ty
type_of p n = admitted p (slice_get types n)

-- the kind with this code
abbrev pub kind_of : ℕ → Option Kind
kind_of n = slice_get kinds n
