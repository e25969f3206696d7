use Rattle.std.proofs.Common.{◌≡◌, ◌++◌, drop}
use Rattle.fault_cover.specs.Beginnings.{starts_of}
use Rattle.fault_cover.proofs.starts.starts_by.Given as goal

abbrev pub invariant-readings : goal.invariant-readings
invariant-readings l = l.starts ++ starts_of l.profile (drop l.i l.readings) ≡ starts_of l.profile l.readings
