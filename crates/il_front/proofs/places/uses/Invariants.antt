use Rattle.std.proofs.Common.{◌≡◌, drop}
use Rattle.vcp_base.specs.declared.ty.Ty.TheVariants as ty
use Rattle.il_front.specs.TypedForm.{uses}
use Rattle.il_front.proofs.places.uses.Given as goal

abbrev pub invariant-each : goal.invariant-each
invariant-each l = uses (drop l.i-index l.code) l.kept l.fn.ty ≡ uses l.code ty.Bool l.fn.ty
