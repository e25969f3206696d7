use Rattle.std.proofs.Common.{◌≡◌, drop}
use Rattle.std.specs.List.{list_all}
use Rattle.vcp_base.specs.declared.ty.Ty.TheVariants as ty
use Rattle.vcp_base.specs.Types.{fits}
use Rattle.telegram.proofs.script.lines.are_dints.Given as goal

abbrev pub invariant-values : goal.invariant-values
invariant-values l = list_all (fits ty.Dint) l.values ≡ list_all (fits ty.Dint) (drop l.i l.values)
