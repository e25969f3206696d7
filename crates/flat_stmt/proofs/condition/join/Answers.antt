use Rattle.std.proofs.Common.{refl, subst}
use Rattle.vcp_base.specs.declared.ty.Ty.TheVariants as type_of
use Rattle.flat_expr.specs.State.{IsPlace, reserved}
use Rattle.flat_stmt.proofs.Conditions.{joined_alone, joined}
use Rattle.flat_stmt.proofs.Rooms.{last_made, none_more, part_of}
use Rattle.flat_stmt.proofs.condition.join.Goals as goal

pub add-requires : goal.add-requires
add-requires c =
    record { plain = refl; types = refl; from = refl; ty = refl; a = subst (IsPlace type_of.Bool c.args.flat.now.graph.operations) c.in-Some.is c.requires.outer; b = c.requires.k; c = refl }

pub returns-in-None : goal.returns-in-None
returns-in-None c =
    joined_alone c.laws_of_states.ensures c.args.flat.now c.args.outer c.args.k c.in-None.is c.condition-state.ensures.state c.requires.k

pub returns-in-Some : goal.returns-in-Some
returns-in-Some c =
    last_made _ _ c.args.flat.now c.args.flat.now c.add.new.self _ 0 1 1 c.add.result (none_more (reserved c.args.flat.now)) (part_of 1 0 1 refl)
    c.add.ensures.made c.add.ensures.refuses
    (λ j p. joined c.laws_of_states.ensures c.args.flat.now c.add.new.self c.args.outer c.in-Some.p c.args.k j c.args.spot c.in-Some.is c.requires.outer c.requires.k p)
