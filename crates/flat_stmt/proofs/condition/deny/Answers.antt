use Rattle.std.proofs.Common.{refl}
use Rattle.flat_expr.specs.State.{reserved}
use Rattle.flat_stmt.proofs.Conditions.{denied}
use Rattle.flat_stmt.proofs.Rooms.{last_made, none_more, part_of}
use Rattle.flat_stmt.proofs.condition.deny.Goals as goal

pub add-requires : goal.add-requires
add-requires c = record { plain = refl; types = refl; from = refl; ty = refl; a = c.requires; b = refl; c = refl }

pub returns : goal.returns
returns c =
    last_made _ _ c.args.flat.now c.args.flat.now c.add.new.self _ 0 1 1 c.add.result (none_more (reserved c.args.flat.now)) (part_of 1 0 1 refl)
    c.add.ensures.made c.add.ensures.refuses
    (λ j p. denied c.laws_of_states.ensures c.args.flat.now c.add.new.self c.args.k j c.args.spot c.requires p)
