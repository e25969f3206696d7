use Rattle.std.proofs.Common.{◌≡◌, ◌∙◌, refl, true, subst, sym, rules, w64, SFits}
use Rattle.std.proofs.lemmas.Int.{to_z-of_z}
use Rattle.vcp_base.specs.Types.{fits}
use Rattle.flat_expr.specs.State.{Makes, giving, reserved}
use Rattle.flat_stmt.proofs.Rooms.{handed_refusal, last_made, none_more, part_of}
use Rattle.flat_stmt.proofs.Statements.{slot_there}
use Rattle.flat_stmt.proofs.Turns.{assigned_constant}
use Rattle.flat_stmt.proofs.stmt.add_value.Goals as goal

pub constant-requires-clause-fits : goal.constant-requires-clause-fits
constant-requires-clause-fits c =
    let f : SFits w64 c.args.value = search rules in
    let x = slot_there c.args.flat.now.slots c.args.slot c.requires.slot in
    subst (λ v. fits c.type_of-ty.result v ≡ true) (sym (to_z-of_z w64 c.args.value f))
    (subst (λ t. fits t c.args.value ≡ true) (sym (c.type_of-ty.ensures.value x.0 x.1)) (c.requires.fits x.0 x.1))

pub returns-in_err-k : goal.returns-in_err-k
returns-in_err-k c =
    handed_refusal _ c.args.flat.now c.args.flat.now c.constant.new.self _ 0 1 2 c.constant.result c.from_residual.result _ c.in_err-k.was
    c.from_residual.ensures.1 (none_more (reserved c.args.flat.now)) (part_of 1 1 2 refl) c.constant.ensures.refuses

pub returns : goal.returns
returns c =
    let f : SFits w64 c.args.value = search rules in
    let value = subst (λ v. Makes c.args.flat.now c.constant.new.self c.type_of-ty.result 1 (giving v) c.in_ok-k.k)
    (to_z-of_z w64 c.args.value f) c.in_ok-k.ensures.made in
    last_made _ _ c.args.flat.now c.constant.new.self c.assign.new.self _ 1 1 2 c.assign.result c.in_ok-k.ensures.made.count (part_of 2 0 2 refl)
    c.assign.ensures.made c.assign.ensures.refuses
    (λ u g. record {
      does = assigned_constant c.laws_of_states.ensures c.args.flat.now c.constant.new.self c.assign.new.self c.type_of-ty.result c.args.value c.args.slot c.in_ok-k.k value g;
      nodes = g.nodes ∙ value.follows.turn_nodes;
    })
