use Rattle.std.proofs.Common.{◌≡◌, drop, map}
use Rattle.st_tree.specs.ProgramViews.{declared_tree}
use Rattle.il_front.specs.TypedForm.{first_reserved}
use Rattle.il_front.proofs.head.among_names.Given as goal

abbrev pub invariant-each : goal.invariant-each
invariant-each l = first_reserved (map declared_tree (drop l.d-index l.names)) ≡ first_reserved (map declared_tree l.names)
