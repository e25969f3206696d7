use Rattle.std.proofs.Common.{◌≡◌, ◌<◌, length, set, Some, None, w64, SFits, rules, true, sym, subst, arith, get_or-set_same}
use Rattle.std.proofs.lemmas.Int.{to_z-of_z}
use Rattle.vcp_base.specs.Limits.{most_operations}
use Rattle.vcp_base.specs.Types.{fits}
use Rattle.op_graph.specs.Rules.{IsPart}
use Rattle.op_graph.specs.Building.{with_load}
use Rattle.flat_expr.specs.Closing.{Closes}
use Rattle.flat_expr.specs.State.{whole_size}
use Rattle.flat_expr.proofs.Closing.{closes_load, load_room, refused_by}
use Rattle.flat_expr.proofs.Ended.{admitted_so_far, cell_room, handed_refusal, known_inside, named}
use Rattle.flat_expr.proofs.Loads.{place_read}
use Rattle.flat_expr.proofs.ending.held.Goals as goal

pub index-requires : goal.index-requires
index-requires c =
    let s = c.requires.slot.0 in
    let inside = known_inside s c.args.slot 0 c.args.graph.now c.args.known.now.items c.args.slot c.args.variable.now c.requires.slot.1 c.requires.slot.2 in
    omega (arith, inside)

pub returns-in-Some : goal.returns-in-Some
returns-in-Some c = λ s h there.
    let inside = known_inside s c.args.slot 0 c.args.graph.now c.args.known.now.items c.args.slot c.args.variable.now h there in
    (h, place_read c.args.known.now.items c.args.slot _ (Some c.in-Some.k) inside c.index.ensures c.in-Some.is)

pub load-requires : goal.load-requires
load-requires c =
    let s = c.requires.slot.0 in
    let h = c.requires.slot.1 in
    let v = c.args.variable.now in
    let there = c.requires.slot.2 in
    let long : SFits w64 v.init = search rules in
    let inside = known_inside s c.args.slot 0 c.args.graph.now c.args.known.now.items c.args.slot c.args.variable.now h there in
    let none = place_read c.args.known.now.items c.args.slot _ None inside c.index.ensures c.in_default.is in
    record {
      few = cell_room s c.args.slot 0 c.args.graph.now c.args.known.now.items c.args.slot v h there none;
      name = named s c.args.slot 0 c.args.graph.now c.args.known.now.items c.args.slot v h there;
      init = subst (λ z. fits v.ty z ≡ true) (sym (to_z-of_z w64 v.init long)) (h.from.inits c.args.slot v there);
      ty = admitted_so_far s c.args.slot 0 c.args.graph.now c.args.known.now.items c.args.slot v h there;
    }

pub returns-in_err-k : goal.returns-in_err-k
returns-in_err-k c = λ s h there.
    let inside = known_inside s c.args.slot 0 c.args.graph.now c.args.known.now.items c.args.slot c.args.variable.now h there in
    let none = place_read c.args.known.now.items c.args.slot _ None inside c.index.ensures c.in_default.is in
    handed_refusal s _ c.load.result c.from_residual.result _ c.in_err-k.was c.from_residual.ensures.1
    (refused_by c.load.result (length c.args.graph.now.operations) (most_operations < whole_size s) c.load.ensures.full
    (load_room s c.args.slot 0 c.args.graph.now c.args.known.now.items c.args.variable.now most_operations h there c.requires.output none))

pub index_mut-requires : goal.index_mut-requires
index_mut-requires c =
    let s = c.requires.slot.0 in
    let inside = known_inside s c.args.slot 0 c.args.graph.now c.args.known.now.items c.args.slot c.args.variable.now c.requires.slot.1 c.requires.slot.2 in
    omega (arith, inside)

pub returns : goal.returns
returns c = λ s h there.
    let v = c.args.variable.now in
    let inside = known_inside s c.args.slot 0 c.args.graph.now c.args.known.now.items c.args.slot c.args.variable.now h there in
    let none = place_read c.args.known.now.items c.args.slot _ None inside c.index.ensures c.in_default.is in
    let long : SFits w64 v.init = search rules in
    let e : c.load.new.self ≡ with_load c.args.graph.now c.args.slot v.ty v.init v.spot =
    subst (λ z. c.load.new.self ≡ with_load c.args.graph.now c.args.slot v.ty z v.spot) (to_z-of_z w64 v.init long) c.in_ok-k.ensures.added in
    let m = closes_load s c.args.slot 0 c.args.graph.now c.args.known.now.items v there c.requires.output none (subst IsPart e c.load.ensures.rules) h in (
      subst (λ q. Closes s c.args.slot 0 c.load.new.self (set c.args.known.now.items c.args.slot (Some q))) (sym c.in_ok-k.ensures.number)
          (subst (λ g. Closes s c.args.slot 0 g (set c.args.known.now.items c.args.slot (Some (length c.args.graph.now.operations)))) (sym e) m),
      get_or-set_same c.args.known.now.items c.args.slot (Some c.in_ok-k.k) None
          (known_inside s c.args.slot 0 c.args.graph.now c.args.known.now.items c.args.slot v h there),
    )
