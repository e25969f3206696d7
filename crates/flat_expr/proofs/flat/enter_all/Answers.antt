use Rattle.std.proofs.Common.{◌≡◌, ◌+◌, ◌<◌, ◌≤◌, ◌++◌, ◌∷◌, [], true, length, take, slice_get, Some, All, sym, ap, ◌∙◌, subst, arith}
use Rattle.std.proofs.lemmas.List.{length-map, length-take-le, take_all, take_more}
use Rattle.std.proofs.lemmas.Option.{slice_get-get_or}
use Rattle.vcp_base.specs.Code.{admits}
use Rattle.op_graph.specs.declared.op.Var.{Var}
use Rattle.op_graph.specs.Lists.{Lists}
use Rattle.flat_expr.specs.Begin.{entered, held_from, inputs_from}
use Rattle.flat_expr.specs.Told.{names_of}
use Rattle.flat_expr.proofs.Beginning.{as_many, names_rise, enter_next, known_next}
use Rattle.flat_expr.proofs.flat.enter_all.Goals as goal

pub enter-requires-clause-front : goal.enter-requires-clause-front
enter-requires-clause-front c =
    let e = c.slots.invariant.graph in
    ap (λ (g : Lists). length g.inputs) e ∙ as_many 0 0 (take c.slots.i c.args.slots.now) ∙ sym (ap (λ (g : Lists). length g.operations) e)

pub enter-requires-clause-rises : goal.enter-requires-clause-rises
enter-requires-clause-rises c =
    let e = c.slots.invariant.graph in
    let le : c.slots.i ≤ length c.args.slots.now = omega (arith, c.slots-test.true) in
    subst (λ l. All (λ (v : Var). v.name < c.slots.i) l) (sym (ap (λ (g : Lists). g.inputs) e))
    (subst (λ n. All (λ (v : Var). v.name < n) (inputs_from 0 (take c.slots.i c.args.slots.now))) (length-take-le c.slots.i c.args.slots.now le)
    (names_rise (take c.slots.i c.args.slots.now)))

pub enter-requires-clause-code : goal.enter-requires-clause-code
enter-requires-clause-code c =
    let s = c.index-slots-i.result in
    let slots = c.args.slots.now in
    let there : slice_get slots c.slots.i ≡ Some s = slice_get-get_or slots c.slots.i s c.slots-test.true ∙ ap Some (sym c.index-slots-i.is) in
    let profile = ap (λ (g : Lists). g.profile) c.slots.invariant.graph in
    subst (λ p. admits p s.ty ≡ true) (sym profile) (c.requires.code c.slots.i s there)

pub slots-preserved : goal.slots-preserved
slots-preserved c =
    let s = c.index-slots-i.result in
    let slots = c.args.slots.now in
    let le : c.slots.i ≤ length slots = omega (arith, c.slots-test.true) in
    let more : take (c.slots.i + 1) slots ≡ take c.slots.i slots ++ s ∷ [] = take_more slots c.slots.i s c.slots-test.true
    ∙ ap (λ x. take c.slots.i slots ++ x ∷ []) (sym c.index-slots-i.is) in
    record {
      graph = enter_next c.args.graph.now.profile
          (names_of slots) slots c.slots.i s c.slots.graph c.enter.new.graph le more c.slots.invariant.graph c.in_ok-k.ensures.graph;
      known = known_next c.args.graph.now.profile slots c.slots.i s c.slots.graph (names_of slots) c.slots.known.items c.push.new.self.items c.in_ok-k.k more c.slots.invariant.graph c.slots.invariant.known c.in_ok-k.ensures.place c.in_ok-push.ensures.items;
    }

pub enter-requires-clause-name : goal.enter-requires-clause-name
enter-requires-clause-name c =
    let names = ap (λ (g : Lists). length g.names) c.slots.invariant.graph in
    let all = length-map c.args.slots.now (λ x. x.name) in
    omega (arith, c.slots-test.true, names, all)

pub returns-clause-graph : goal.returns-clause-graph
returns-clause-graph c =
    let all = take_all c.slots.i c.args.slots.now (omega (arith, c.slots-test.false)) in
    c.slots.invariant.graph ∙ ap (entered c.args.graph.now.profile (names_of c.args.slots.now)) all

pub returns-clause-known : goal.returns-clause-known
returns-clause-known c =
    let all = take_all c.slots.i c.args.slots.now (omega (arith, c.slots-test.false)) in
    c.slots.invariant.known ∙ ap (held_from 0) all
