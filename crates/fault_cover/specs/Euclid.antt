-- Euclid: the greatest common divisor of two numbers, and a factor by which a residue becomes it.
use Rattle.std.specs.Prelude.{◌≡◌, ℕ, pos, ◌*ℤ◌}
use Rattle.std.specs.Int.{IsGcd}
use Rattle.vcp_base.specs.declared.code.Profile.{Profile}
use Rattle.coded_unit.specs.Words.{modulo}

-- z becomes the number by this factor, modulo the constant of the code
abbrev pub ComesTo : Profile → ℕ → ℕ → ℕ → Type 0
ComesTo p z number factor = modulo p (pos z *ℤ pos factor) ≡ modulo p (pos number)

pub record IsBezout (p : Profile) (z first second divisor factor : ℕ) : Type 0 where
  pub gcd : IsGcd first second divisor
  pub comes : ComesTo p z divisor factor
