-- Notes: the least fault so far.
-- How the typing works, and no promise: what it promises is in Typing.
use Rattle.std.specs.Prelude.{◌≡◌, ◌⊎◌, Option, Some, None}
use Rattle.st_types.specs.declared.fault.Fault.{Fault}
use Rattle.st_types.specs.Faults.{AtMost}

-- there is a least fault, and f doesn't come before it
abbrev pub UpTo : Option Fault → Fault → Type 0
UpTo None f = ⊥
UpTo (Some g) f = AtMost g f

-- The least fault so far, before and after the faults F are met: after them it is the one before or one of F, and
-- neither the one before nor one of F comes before it.
pub record Notes (old new : Option Fault) (F : Fault → Type 0) : Type 0 where
  pub from : (f : Fault) → new ≡ Some f → (old ≡ Some f) ⊎ F f
  pub keeps : (f : Fault) → old ≡ Some f → UpTo new f
  pub finds : (f : Fault) → F f → UpTo new f
