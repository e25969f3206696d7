-- Multiples: values times the constant of a code, by which the processor finds each value a second time.
use Rattle.std.specs.Prelude.{◌≡◌, ℤ, pos, negsuc, ◌*ℤ◌, ◌≤ℤ◌, ◌^◌}
use Rattle.vcp_base.specs.declared.code.Profile.{Profile}
use Rattle.vcp_base.specs.Code.{modulus}

-- a value times the constant, which is the word of that value and the residue 0
unfoldable pub multiple : Profile → ℤ → ℤ
multiple p v = pos (modulus p) *ℤ v

-- z is far from the ends of 128 bits, so that two such integers are added without overflow
abbrev pub Wide : ℤ → Type 0
Wide z = (negsuc (2 ^ 124) ≤ℤ z) × (z ≤ℤ pos (2 ^ 124))

-- m is that of a value v, and far from the ends of 128 bits
abbrev pub IsMultiple : Profile → ℤ → ℤ → Type 0
IsMultiple p m v = (m ≡ multiple p v) × Wide m
