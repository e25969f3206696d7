use Rattle.std.proofs.Common.{refl, sym, subst}
use Rattle.vcp_base.specs.declared.ty.Ty.TheVariants as type_of
use Rattle.flat_expr.specs.State.{IsPlace, reserved}
use Rattle.flat_stmt.proofs.Rooms.{handed_on, none_more, part_of}
use Rattle.flat_stmt.proofs.branch.enter.Goals as goal

pub join-requires : goal.join-requires
join-requires c =
    record { outer = subst (IsPlace type_of.Bool c.args.flat.now.graph.operations) (sym c.condition-outer.ensures.value) c.condition-outer.ensures.state.path; k = c.requires }

pub set_condition-requires : goal.set_condition-requires
set_condition-requires c = c.in_ok-path.ensures.place

pub returns-in_err-path : goal.returns-in_err-path
returns-in_err-path c =
    handed_on _ _ c.args.flat.now c.args.flat.now 0 1 1 c.join.result c.from_residual.result _ c.in_err-path.was c.from_residual.ensures.1
    (none_more (reserved c.args.flat.now)) (part_of 1 0 1 refl) c.join.ensures

pub returns : goal.returns
returns c = record {
  before = c.condition-outer.ensures.state;
  outer = c.condition-outer.ensures.value;
  condition = refl;
  there = c.requires;
  joined = c.join.new.flat;
  path = c.in_ok-path.path;
  makes = c.in_ok-path.ensures;
  is = c.set_condition.ensures.is;
}
