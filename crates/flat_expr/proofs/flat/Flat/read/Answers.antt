use Rattle.std.proofs.Common.{◌≡◌, true, ◌<◌, ◌≤◌, length, slice_get, set, Some, None, sym, ap, ap₂, ◌∙◌, subst, rules, w64, arith, SFits}
use Rattle.std.proofs.lemmas.Int.{to_z-of_z}
use Rattle.std.proofs.lemmas.Option.{same_Some}
use Rattle.op_graph.specs.Lists.{Lists}
use Rattle.op_graph.specs.Rules.{IsPart}
use Rattle.op_graph.specs.Building.{with_load}
use Rattle.vcp_base.specs.Types.{fits}
use Rattle.vcp_typed.specs.declared.slot.Slot.{Slot}
use Rattle.flat_expr.specs.State.{State, IsState, Reads, unknown}
use Rattle.flat_expr.proofs.Loads.{cell_there, known_there, loading, load_state, loaded, name_there, place_read, unknown_set}
use Rattle.std.specs.Prelude.{IfErr}
use Rattle.std.proofs.lemmas.Result.{err_from_is_err_and}
use Rattle.flat_expr.specs.State.{Leaves, one_slot}
use Rattle.flat_expr.proofs.Refusals.{load_refuses}
use Rattle.flat_expr.proofs.flat.Flat.read.Goals as goal

pub index-requires : goal.index-requires
index-requires c =
    let a : State =
    record {
      slots = c.self.inside.slots.now.items.items;
      graph = c.self.inside.graph;
      known = c.self.inside.known.items;
      path = c.self.inside.path;
      turn = c.self.inside.turn;
      nought = c.self.inside.nought;
      unit = c.self.inside.unit;
    } in
    let inside = subst (λ (s : State). c.args.slot < length s.slots) (sym c.self.view_is) c.requires in
    let lt = known_there a c.args.slot c.self.invariant inside in
    omega (arith, lt)

pub at-variable-requires : goal.at-variable-requires
at-variable-requires c = subst (λ (s : State). c.args.slot < length s.slots) (sym c.self.view_is) c.requires

pub load-requires : goal.load-requires
load-requires c =
    let a : State =
    record {
      slots = c.self.inside.slots.now.items.items;
      graph = c.self.inside.graph;
      known = c.self.inside.known.items;
      path = c.self.inside.path;
      turn = c.self.inside.turn;
      nought = c.self.inside.nought;
      unit = c.self.inside.unit;
    } in
    let inside = subst (λ (s : State). c.args.slot < length s.slots) (sym c.self.view_is) c.requires in
    let v = c.at-variable.result.now in
    let none = place_read c.self.inside.known.items c.args.slot _ None (known_there a c.args.slot c.self.invariant inside) c.index.ensures c.in_default.is in
    let long : SFits w64 v.init = search rules in
    record {
      few = cell_there a c.args.slot c.self.invariant inside none;
      name = name_there a c.args.slot c.self.invariant inside;
      init = subst (λ z. fits v.ty z ≡ true) (sym (to_z-of_z w64 v.init long)) (c.self.invariant.inits c.args.slot v c.at-variable.ensures);
      ty = c.self.invariant.code c.args.slot v c.at-variable.ensures;
    }

pub invariant_of-self : goal.invariant_of-self
invariant_of-self c =
    let a : State =
    record {
      slots = c.self.inside.slots.now.items.items;
      graph = c.self.inside.graph;
      known = c.self.inside.known.items;
      path = c.self.inside.path;
      turn = c.self.inside.turn;
      nought = c.self.inside.nought;
      unit = c.self.inside.unit;
    } in
    subst (λ (g : Lists). IsState (record a { graph = g })) (sym c.in_err-k.ensures.err) c.self.invariant

pub index_mut-requires : goal.index_mut-requires
index_mut-requires c =
    let a : State =
    record {
      slots = c.self.inside.slots.now.items.items;
      graph = c.self.inside.graph;
      known = c.self.inside.known.items;
      path = c.self.inside.path;
      turn = c.self.inside.turn;
      nought = c.self.inside.nought;
      unit = c.self.inside.unit;
    } in
    let inside = subst (λ (s : State). c.args.slot < length s.slots) (sym c.self.view_is) c.requires in
    let lt = known_there a c.args.slot c.self.invariant inside in
    omega (arith, lt)

pub invariant_of-self-2 : goal.invariant_of-self-2
invariant_of-self-2 c =
    let a : State =
    record {
      slots = c.self.inside.slots.now.items.items;
      graph = c.self.inside.graph;
      known = c.self.inside.known.items;
      path = c.self.inside.path;
      turn = c.self.inside.turn;
      nought = c.self.inside.nought;
      unit = c.self.inside.unit;
    } in
    let v = c.at-variable.result.now in
    let inside = subst (λ (s : State). c.args.slot < length s.slots) (sym c.self.view_is) c.requires in
    let none = place_read c.self.inside.known.items c.args.slot _ None (known_there a c.args.slot c.self.invariant inside) c.index.ensures c.in_default.is in
    let long : SFits w64 v.init = search rules in
    let e : c.load.new.self ≡ with_load a.graph c.args.slot v.ty v.init v.spot =
    subst (λ n. c.load.new.self ≡ with_load a.graph c.args.slot v.ty n v.spot) (to_z-of_z w64 v.init long) c.in_ok-k.ensures.added in
    let is : record a { graph = c.load.new.self; known = set a.known c.args.slot (Some c.in_ok-k.k) } ≡ loading a c.args.slot v =
    ap₂ (λ g n. record a { graph = g; known = set a.known c.args.slot (Some n) }) e c.in_ok-k.ensures.number in
    subst IsState (sym is) (load_state a c.args.slot v c.self.invariant c.at-variable.ensures none (subst IsPart e c.load.ensures.rules))

pub returns-clause-made : goal.returns-clause-made
returns-clause-made c = λ x h.
    let a : State =
    record {
      slots = c.self.inside.slots.now.items.items;
      graph = c.self.inside.graph;
      known = c.self.inside.known.items;
      path = c.self.inside.path;
      turn = c.self.inside.turn;
      nought = c.self.inside.nought;
      unit = c.self.inside.unit;
    } in
    let v = c.at-variable.result.now in
    let inside = subst (λ (s : State). c.args.slot < length s.slots) (sym c.self.view_is) c.requires in
    let none = place_read c.self.inside.known.items c.args.slot _ None (known_there a c.args.slot c.self.invariant inside) c.index.ensures c.in_default.is in
    let long : SFits w64 v.init = search rules in
    let e : c.load.new.self ≡ with_load a.graph c.args.slot v.ty v.init v.spot =
    subst (λ n. c.load.new.self ≡ with_load a.graph c.args.slot v.ty n v.spot) (to_z-of_z w64 v.init long) c.in_ok-k.ensures.added in
    let is : record a { graph = c.load.new.self; known = set a.known c.args.slot (Some c.in_ok-k.k) } ≡ loading a c.args.slot v =
    ap₂ (λ g n. record a { graph = g; known = set a.known c.args.slot (Some n) }) e c.in_ok-k.ensures.number in
    let new = load_state a c.args.slot v c.self.invariant c.at-variable.ensures none (subst IsPart e c.load.ensures.rules) in
    let m = loaded a c.args.slot v c.self.invariant new c.at-variable.ensures none in
    let there : slice_get a.slots c.args.slot ≡ Some x = ap (λ (s : State). slice_get s.slots c.args.slot) c.self.view_is ∙ h in
    let same : Some v ≡ Some x = sym c.at-variable.ensures ∙ there in
    let vx = same_Some v x same in
    subst (λ (s : State). Reads s (record a { graph = c.load.new.self; known = set a.known c.args.slot (Some c.in_ok-k.k) }) c.args.slot x.ty c.in_ok-k.k) c.self.view_is
    (subst (λ (y : Slot). Reads a (record a { graph = c.load.new.self; known = set a.known c.args.slot (Some c.in_ok-k.k) }) c.args.slot y.ty c.in_ok-k.k) vx
    (subst (λ s. Reads a s c.args.slot v.ty c.in_ok-k.k) (sym is)
    (subst (λ n. Reads a (loading a c.args.slot v) c.args.slot v.ty n) (sym c.in_ok-k.ensures.number) m)))

pub returns-in_err-k-clause-refuses : goal.returns-in_err-k-clause-refuses
returns-in_err-k-clause-refuses c =
    let a : State =
    record {
      slots = c.self.inside.slots.now.items.items;
      graph = c.self.inside.graph;
      known = c.self.inside.known.items;
      path = c.self.inside.path;
      turn = c.self.inside.turn;
      nought = c.self.inside.nought;
      unit = c.self.inside.unit;
    } in
    let q = err_from_is_err_and c.from_residual.result c.from_residual.ensures.1 in
    let inside = subst (λ (s : State). c.args.slot < length s.slots) (sym c.self.view_is) c.requires in
    let none = place_read c.self.inside.known.items c.args.slot _ None (known_there a c.args.slot c.self.invariant inside) c.index.ensures c.in_default.is in
    let lt = known_there a c.args.slot c.self.invariant inside in
    let some : 1 ≤ unknown c.self.inside.known.items = omega (arith, unknown_set c.self.inside.known.items c.args.slot 0 lt none) in
    let h = load_refuses (one_slot c.args.slot) a c.load.new.self c.load.result c.self.invariant some c.load.ensures.err c.load.ensures.full in
    rw (q.1, q.2) (subst (λ r. IfErr r (λ e. Leaves c.args.self.now (record a { graph = c.load.new.self }) (one_slot c.args.slot) 0 e)) c.in_err-k.was
    (subst (λ (s : State). IfErr c.load.result (λ e. Leaves s (record a { graph = c.load.new.self }) (one_slot c.args.slot) 0 e)) c.self.view_is h))

pub returns-in_err-k-clause-made : goal.returns-in_err-k-clause-made
returns-in_err-k-clause-made c = rw (err_from_is_err_and c.from_residual.result c.from_residual.ensures.1).1 tt
