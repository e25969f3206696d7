use Rattle.std.proofs.Common.{take}
use Rattle.fault_cover.specs.Leftovers.{IsLeast}
use Rattle.fault_cover.proofs.left.least_from.Given as goal

abbrev pub invariant-keys : goal.invariant-keys
invariant-keys l = IsLeast (take l.i l.keys) l.from l.most l.best
