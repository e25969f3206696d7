use Rattle.std.proofs.Common.{◌≤◌, ◌+◌, ◌∙◌, refl, subst, rules, w64, SFits}
use Rattle.std.proofs.lemmas.Int.{to_z-of_z}
use Rattle.vcp_base.specs.declared.ty.Ty.TheVariants as type_of
use Rattle.flat_expr.specs.State.{Makes, giving, reserved}
use Rattle.flat_stmt.specs.Conditions.{alone_size}
use Rattle.flat_stmt.proofs.Conditions.{labelled_range, orders, range_size}
use Rattle.flat_stmt.proofs.Rooms.{handed_refusal, last_made, none_more, then_more, part_of}
use Rattle.flat_stmt.proofs.Statements.{admitted_later}
use Rattle.flat_stmt.proofs.condition.within.Goals as goal

-- ---- what the calls require

pub add-requires : goal.add-requires
add-requires c =
    let first = c.in_ok-first.ensures.made in
    let last = c.in_ok-last.ensures.made in
    let code = admitted_later c.args.flat.now c.constant-2.new.self c.args.ty (last.follows.profile ∙ first.follows.profile) c.requires.code in record { plain = refl; types = orders c.args.ty c.requires.number; from = code; ty = refl; a = last.follows.typed c.args.ty c.args.k (first.follows.typed c.args.ty c.args.k c.requires.k); b = last.follows.typed c.args.ty c.in_ok-first.first first.place; c = refl }

pub add-requires-2 : goal.add-requires-2
add-requires-2 c =
    let first = c.in_ok-first.ensures.made in
    let last = c.in_ok-last.ensures.made in
    let below = c.in_ok-below.ensures.made in
    let code = admitted_later c.args.flat.now c.add.new.self c.args.ty (below.follows.profile ∙ last.follows.profile ∙ first.follows.profile) c.requires.code in
    let k = below.follows.typed c.args.ty c.args.k (last.follows.typed c.args.ty c.args.k (first.follows.typed c.args.ty c.args.k c.requires.k)) in
    record { plain = refl; types = orders c.args.ty c.requires.number; from = code; ty = refl; a = below.follows.typed c.args.ty c.in_ok-last.last last.place; b = k; c = refl }

pub add-requires-3 : goal.add-requires-3
add-requires-3 c =
    let above = c.in_ok-above.ensures.made in
    record { plain = refl; types = refl; from = refl; ty = refl; a = above.follows.typed type_of.Bool c.in_ok-below.below c.in_ok-below.ensures.made.place; b = above.place; c = refl }

pub add-requires-4 : goal.add-requires-4
add-requires-4 c = record { plain = refl; types = refl; from = refl; ty = refl; a = c.in_ok-out.ensures.made.place; b = refl; c = refl }

-- ---- why there may be no room

pub returns-in_err-first : goal.returns-in_err-first
returns-in_err-first c =
    handed_refusal _ c.args.flat.now c.args.flat.now c.constant.new.self _ 0 1 (alone_size c.args.label) c.constant.result c.from_residual.result _ c.in_err-first.was c.from_residual.ensures.1 (none_more (reserved c.args.flat.now))
    (part_of 1 5 (alone_size c.args.label) (range_size c.args.label c.requires.range)) c.constant.ensures.refuses

pub returns-in_err-last : goal.returns-in_err-last
returns-in_err-last c =
    let most-1 : reserved c.constant.new.self ≤ reserved c.args.flat.now + 1 = c.in_ok-first.ensures.made.count in
    handed_refusal _ c.args.flat.now c.constant.new.self c.constant-2.new.self _ 1 1 (alone_size c.args.label) c.constant-2.result c.from_residual-in_err-last.result _ c.in_err-last.was c.from_residual-in_err-last.ensures.1 most-1
    (part_of 2 4 (alone_size c.args.label) (range_size c.args.label c.requires.range)) c.constant-2.ensures.refuses

pub returns-in_err-below : goal.returns-in_err-below
returns-in_err-below c =
    let most-1 : reserved c.constant.new.self ≤ reserved c.args.flat.now + 1 = c.in_ok-first.ensures.made.count in
    let most-2 : reserved c.constant-2.new.self ≤ reserved c.args.flat.now + 2 = then_more _ _ _ 1 1 most-1 c.in_ok-last.ensures.made.count in
    handed_refusal _ c.args.flat.now c.constant-2.new.self c.add.new.self _ 2 1 (alone_size c.args.label) c.add.result c.from_residual-in_err-below.result _ c.in_err-below.was c.from_residual-in_err-below.ensures.1 most-2
    (part_of 3 3 (alone_size c.args.label) (range_size c.args.label c.requires.range)) c.add.ensures.refuses

pub returns-in_err-above : goal.returns-in_err-above
returns-in_err-above c =
    let most-1 : reserved c.constant.new.self ≤ reserved c.args.flat.now + 1 = c.in_ok-first.ensures.made.count in
    let most-2 : reserved c.constant-2.new.self ≤ reserved c.args.flat.now + 2 = then_more _ _ _ 1 1 most-1 c.in_ok-last.ensures.made.count in
    let most-3 : reserved c.add.new.self ≤ reserved c.args.flat.now + 3 = then_more _ _ _ 2 1 most-2 c.in_ok-below.ensures.made.count in
    handed_refusal _ c.args.flat.now c.add.new.self c.add-2.new.self _ 3 1 (alone_size c.args.label) c.add-2.result c.from_residual-in_err-above.result _ c.in_err-above.was c.from_residual-in_err-above.ensures.1 most-3
    (part_of 4 2 (alone_size c.args.label) (range_size c.args.label c.requires.range)) c.add-2.ensures.refuses

pub returns-in_err-out : goal.returns-in_err-out
returns-in_err-out c =
    let most-1 : reserved c.constant.new.self ≤ reserved c.args.flat.now + 1 = c.in_ok-first.ensures.made.count in
    let most-2 : reserved c.constant-2.new.self ≤ reserved c.args.flat.now + 2 = then_more _ _ _ 1 1 most-1 c.in_ok-last.ensures.made.count in
    let most-3 : reserved c.add.new.self ≤ reserved c.args.flat.now + 3 = then_more _ _ _ 2 1 most-2 c.in_ok-below.ensures.made.count in
    let most-4 : reserved c.add-2.new.self ≤ reserved c.args.flat.now + 4 = then_more _ _ _ 3 1 most-3 c.in_ok-above.ensures.made.count in
    handed_refusal _ c.args.flat.now c.add-2.new.self c.add-3.new.self _ 4 1 (alone_size c.args.label) c.add-3.result c.from_residual-in_err-out.result _ c.in_err-out.was c.from_residual-in_err-out.ensures.1 most-4
    (part_of 5 1 (alone_size c.args.label) (range_size c.args.label c.requires.range)) c.add-3.ensures.refuses

pub returns : goal.returns
returns c =
    let f : SFits w64 c.args.label.first = search rules in
    let g : SFits w64 c.args.label.last = search rules in
    let most-1 : reserved c.constant.new.self ≤ reserved c.args.flat.now + 1 = c.in_ok-first.ensures.made.count in
    let most-2 : reserved c.constant-2.new.self ≤ reserved c.args.flat.now + 2 = then_more _ _ _ 1 1 most-1 c.in_ok-last.ensures.made.count in
    let most-3 : reserved c.add.new.self ≤ reserved c.args.flat.now + 3 = then_more _ _ _ 2 1 most-2 c.in_ok-below.ensures.made.count in
    let most-4 : reserved c.add-2.new.self ≤ reserved c.args.flat.now + 4 = then_more _ _ _ 3 1 most-3 c.in_ok-above.ensures.made.count in
    let most-5 : reserved c.add-3.new.self ≤ reserved c.args.flat.now + 5 = then_more _ _ _ 4 1 most-4 c.in_ok-out.ensures.made.count in
    let first = subst (λ v. Makes c.args.flat.now c.constant.new.self c.args.ty 1 (giving v) c.in_ok-first.first)
    (to_z-of_z w64 c.args.label.first f) c.in_ok-first.ensures.made in
    let last = subst (λ v. Makes c.constant.new.self c.constant-2.new.self c.args.ty 1 (giving v) c.in_ok-last.last)
    (to_z-of_z w64 c.args.label.last g) c.in_ok-last.ensures.made in
    last_made _ _ c.args.flat.now c.add-3.new.self c.add-4.new.self _ 5 1 (alone_size c.args.label) c.add-4.result most-5
    (part_of 6 0 (alone_size c.args.label) (range_size c.args.label c.requires.range)) c.add-4.ensures.made c.add-4.ensures.refuses
    (λ r p. labelled_range c.laws_of_states.ensures c.args.flat.now c.constant.new.self c.constant-2.new.self c.add.new.self c.add-2.new.self c.add-3.new.self c.add-4.new.self c.args.ty c.args.k c.in_ok-first.first c.in_ok-last.last c.in_ok-below.below c.in_ok-above.above c.in_ok-out.out r c.args.label c.requires.range c.requires.k
    first last c.in_ok-below.ensures.made c.in_ok-above.ensures.made c.in_ok-out.ensures.made p)
