-- Measures: what one walk over a program finds, from one part to the next.
-- How the walk works, and no promise: what it promises is in Size and Wide.
use Rattle.std.specs.Prelude.{◌≡◌, ℕ, ◌+◌, Bool, ◌||◌}
use Rattle.vcp_typed.specs.declared.measure.Measure.{Measure}
use Rattle.vcp_typed.specs.Size.{cut}

-- the measure of what came before, and that with a part of this Size, which has values of LINT or not
pub record Grows (old new : Measure) (part : ℕ) (wide : Bool) : Type 0 where
  pub size : (n : ℕ) → old.size ≡ cut n → new.size ≡ cut (n + part)
  pub found : new.wide ≡ (old.wide || wide)
