use Rattle.std.proofs.Common.{refl, subst, rules, w64, SFits}
use Rattle.std.proofs.lemmas.Int.{to_z-of_z}
use Rattle.flat_expr.specs.State.{Makes, giving, reserved}
use Rattle.flat_stmt.specs.Conditions.{alone_size}
use Rattle.flat_stmt.proofs.Conditions.{labelled_one, one_size}
use Rattle.flat_stmt.proofs.Rooms.{handed_refusal, last_made, none_more, part_of}
use Rattle.flat_stmt.proofs.Statements.{admitted_later}
use Rattle.flat_stmt.proofs.condition.equal.Goals as goal

pub add-requires : goal.add-requires
add-requires c =
    let value = c.in_ok-value.ensures.made in
    let f = value.follows in
    let code = admitted_later c.args.flat.now c.constant.new.self c.args.ty f.profile c.requires.code in
    record { plain = refl; types = refl; from = code; ty = refl; a = f.typed c.args.ty c.args.k c.requires.k; b = value.place; c = refl }

pub returns-in_err-value : goal.returns-in_err-value
returns-in_err-value c =
    handed_refusal _ c.args.flat.now c.args.flat.now c.constant.new.self _ 0 1 (alone_size c.args.label) c.constant.result c.from_residual.result _
    c.in_err-value.was c.from_residual.ensures.1 (none_more (reserved c.args.flat.now))
    (part_of 1 1 (alone_size c.args.label) (one_size c.args.label c.requires.one)) c.constant.ensures.refuses

pub returns : goal.returns
returns c =
    let f : SFits w64 c.args.label.first = search rules in
    let value = subst (λ v. Makes c.args.flat.now c.constant.new.self c.args.ty 1 (giving v) c.in_ok-value.value)
    (to_z-of_z w64 c.args.label.first f) c.in_ok-value.ensures.made in
    last_made _ _ c.args.flat.now c.constant.new.self c.add.new.self _ 1 1 (alone_size c.args.label) c.add.result c.in_ok-value.ensures.made.count
    (part_of 2 0 (alone_size c.args.label) (one_size c.args.label c.requires.one)) c.add.ensures.made c.add.ensures.refuses
    (λ r p. labelled_one c.laws_of_states.ensures c.args.flat.now c.constant.new.self c.add.new.self c.args.ty c.args.k c.in_ok-value.value r c.args.label c.requires.one (c.requires.label.one c.requires.one) c.requires.k value p)
