use Rattle.std.proofs.Common.{refl, subst}
use Rattle.vcp_base.specs.declared.ty.Ty.TheVariants as type_of
use Rattle.vcp_typed.specs.Size.{label_size}
use Rattle.flat_expr.specs.State.{Makes, reserved}
use Rattle.flat_stmt.specs.Conditions.{alone_size, or_labelled}
use Rattle.flat_stmt.proofs.Conditions.{labelled_more, joined_size, alone_first, joined_fits}
use Rattle.flat_stmt.proofs.Rooms.{handed_on, last_made, none_more}
use Rattle.flat_stmt.proofs.condition.label_too.Goals as goal

pub label-requires : goal.label-requires
label-requires c = record { number = c.requires.number; code = c.requires.code; k = c.requires.k; label = c.requires.label }

pub add-requires : goal.add-requires
add-requires c =
    let r = c.in_ok-r.ensures in
    record { plain = refl; types = refl; from = refl; ty = refl; a = r.follows.typed type_of.Bool c.args.so_far c.requires.so_far; b = r.place; c = refl }

pub returns-in_err-r : goal.returns-in_err-r
returns-in_err-r c =
    handed_on _ _ c.args.flat.now c.args.flat.now 0 (alone_size c.args.next) (label_size c.args.next) c.label.result c.from_residual.result _
    c.in_err-r.was c.from_residual.ensures.1 (none_more (reserved c.args.flat.now)) (alone_first c.args.next) c.label.ensures

pub returns : goal.returns
returns c =
    last_made _ _ c.args.flat.now c.label.new.flat c.add.new.self _ (alone_size c.args.next) 1 (label_size c.args.next) c.add.result c.in_ok-r.ensures.count
    (joined_fits c.args.next) c.add.ensures.made c.add.ensures.refuses
    (λ q p. subst (λ n. Makes c.args.flat.now c.add.new.self type_of.Bool n (or_labelled c.args.so_far c.args.k c.args.next) q) (joined_size c.args.next)
    (labelled_more c.laws_of_states.ensures c.args.flat.now c.label.new.flat c.add.new.self c.args.ty (alone_size c.args.next) c.args.k c.args.so_far c.in_ok-r.r q c.args.next c.args.spot c.requires.k c.requires.so_far c.in_ok-r.ensures p))
