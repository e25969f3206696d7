use Rattle.std.proofs.Common.{◌≡◌, refl, true, sym, ap, ap₂, ◌∙◌, subst, rules, w64, SFits, to_z, of_z, length, slice_get, Some, ◌<◌, ◌≤◌}
use Rattle.std.proofs.lemmas.Int.{to_z-of_z}
use Rattle.vcp_base.specs.Types.{fits}
use Rattle.flat_expr.specs.State.{State, Nests, reserved}
use Rattle.flat_stmt.specs.Steps.{Sets}
use Rattle.flat_stmt.proofs.Rooms.{last_added, part_of, same_more}
use Rattle.flat_stmt.proofs.Turns.{nest_there, slot_named}
use Rattle.flat_stmt.proofs.stmt.enter_turn.Goals as goal

pub turn-requires : goal.turn-requires
turn-requires c =
    let state = c.turn_now-outer.ensures.state in record {
      few = c.requires.room;
      fits = record {
        parent = subst (λ n. n ≤ length c.args.flat.now.graph.turn_nodes) (sym c.turn_now-outer.ensures.value) state.turn;
        name = slot_named c.args.flat.now c.args.slot state c.requires.slot;
      };
    }

pub set_turn-requires : goal.set_turn-requires
set_turn-requires c = nest_there c.args.flat.now c.turn.new.self _ c.in_ok-node.node c.in_ok-node.ensures.made

pub add_value-requires : goal.add_value-requires
add_value-requires c =
    let f : SFits w64 c.args.value = search rules in
    let slots = ap (λ (s : State). s.slots) c.set_turn.ensures.is ∙ ap (λ (s : State). s.slots) c.in_ok-node.ensures.made.is in
    record { slot = subst (λ xs. c.args.slot < length xs) (sym slots) c.requires.slot; fits = (λ x h. subst (λ v. fits x.ty v ≡ true) (sym (to_z-of_z w64 c.args.value f)) (c.requires.fits x (subst (λ xs. slice_get xs c.args.slot ≡ Some x) slots h))) }

pub returns : goal.returns
returns c =
    let f : SFits w64 c.args.value = search rules in
    let node : (record { parent = c.turn_now-outer.result; name = c.args.slot; value = to_z w64 (of_z w64 c.args.value) })
    ≡ (record { parent = c.args.flat.now.turn; name = c.args.slot; value = c.args.value }) =
    ap₂ (λ p x. record { parent = p; name = c.args.slot; value = x }) c.turn_now-outer.ensures.value (to_z-of_z w64 c.args.value f) in
    let nests = subst (λ n. Nests c.args.flat.now c.turn.new.self n c.in_ok-node.node) node c.in_ok-node.ensures.made in
    last_added _ _ c.args.flat.now c.set_turn.new.self 0 2 2 c.add_value.result
    (same_more (reserved c.args.flat.now) (reserved c.set_turn.new.self) (ap reserved c.set_turn.ensures.is ∙ ap reserved nests.is)) (part_of 2 0 2 refl)
    c.add_value.ensures
    (λ u sets. record {
      n = c.in_ok-node.node;
      nested = c.turn.new.self;
      nests = nests;
      sets = subst (λ x. Sets (record c.turn.new.self { turn = c.in_ok-node.node }) c.add_value.new.flat c.args.slot x) (to_z-of_z w64 c.args.value f)
          (subst (λ s. Sets s c.add_value.new.flat c.args.slot (to_z w64 (of_z w64 c.args.value))) c.set_turn.ensures.is sets);
    })
