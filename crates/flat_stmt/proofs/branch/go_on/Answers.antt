use Rattle.std.proofs.Common.{refl, sym, subst}
use Rattle.vcp_base.specs.declared.ty.Ty.TheVariants as type_of
use Rattle.flat_expr.specs.State.{reserved}
use Rattle.flat_stmt.specs.Moves.{Moves}
use Rattle.flat_stmt.specs.Branches.{Conditions, next_of}
use Rattle.flat_stmt.proofs.Algebra.{place_typed}
use Rattle.flat_stmt.proofs.Branches.{next_made}
use Rattle.flat_stmt.proofs.Rooms.{handed_on, none_more, part_of}
use Rattle.flat_stmt.proofs.branch.go_on.Goals as goal

pub join-requires : goal.join-requires
join-requires c =
    let no = c.in_ok-no.ensures in
    record { outer = place_typed c.args.flat.now c.deny.new.flat type_of.Bool c.args.branch.outer no.follows.typed c.requires.outer; k = no.place }

pub set_condition-requires : goal.set_condition-requires
set_condition-requires c = c.in_ok-next.ensures.place

pub returns : goal.returns
returns c = λ x o.
    subst (λ s. Moves c.args.flat.now s (Conditions c.args.branch.condition x c.args.branch.outer o) 2 (next_of x o)) (sym c.set_condition.ensures.is)
    (next_made c.laws_of_states.ensures c.args.flat.now c.deny.new.flat c.join.new.flat c.args.branch.condition c.in_ok-no.no c.in_ok-next.next c.args.branch.outer x o c.requires.condition c.requires.outer c.in_ok-no.ensures c.in_ok-next.ensures)

pub returns-in_err-no : goal.returns-in_err-no
returns-in_err-no c =
    handed_on _ _ c.args.flat.now c.args.flat.now 0 1 2 c.deny.result c.from_residual.result _ c.in_err-no.was c.from_residual.ensures.1
    (none_more (reserved c.args.flat.now)) (part_of 1 1 2 refl) c.deny.ensures

pub returns-in_err-next : goal.returns-in_err-next
returns-in_err-next c =
    handed_on _ _ c.args.flat.now c.deny.new.flat 1 1 2 c.join.result c.from_residual-in_err-next.result _ c.in_err-next.was
    c.from_residual-in_err-next.ensures.1 c.in_ok-no.ensures.count (part_of 2 0 2 refl) c.join.ensures
