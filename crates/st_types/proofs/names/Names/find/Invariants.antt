use Rattle.std.proofs.Common.{◌≡◌, drop}
use Rattle.st_types.specs.Scope.{find}
use Rattle.st_types.proofs.names.Names.find.Given as goal

abbrev pub invariant-entries : goal.invariant-entries
invariant-entries l = find l.entries l.name ≡ find (drop l.i l.entries) l.name
