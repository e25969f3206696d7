use Rattle.std.proofs.Common.{◌≡◌, drop}
use Rattle.vcp_base.specs.declared.ty.Ty.TheVariants as ty
use Rattle.vcp_typed.specs.TStmtViews.{tstmt_trees}
use Rattle.st_types.specs.Full.{UnlessFull}
use Rattle.il_front.specs.Places.{place_in}
use Rattle.il_front.specs.TypedForm.{statements}
use Rattle.il_front.proofs.PlaceLaws.{joined}
use Rattle.il_front.proofs.statements.statements.Given as goal

abbrev pub invariant-each : goal.invariant-each
invariant-each l =
    UnlessFull l.initial.full l.full
    (joined (tstmt_trees l.body.items.items) (statements (place_in l.places) l.ty (drop l.k l.code)) ≡ statements (place_in l.places) ty.Bool l.code)
