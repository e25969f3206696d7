use Rattle.std.proofs.Common.{IfOk, ap, subst, ◌∙◌}
use Rattle.std.proofs.lemmas.Result.{on_err_weaker}
use Rattle.op_graph.specs.Lists.{Lists}
use Rattle.flat_expr.specs.State.{State, Nests}
use Rattle.flat_expr.proofs.Added.{turn_keeps, turn_made}
use Rattle.flat_expr.proofs.flat.Flat.turn.Goals as goal

pub invariant_of-self : goal.invariant_of-self
invariant_of-self c =
    let a : State =
    record {
      slots = c.self.inside.slots.now.items.items;
      graph = c.self.inside.graph;
      known = c.self.inside.known.items;
      path = c.self.inside.path;
      turn = c.self.inside.turn;
      nought = c.self.inside.nought;
      unit = c.self.inside.unit;
    } in
    turn_keeps c.turn.result a c.args.node c.turn.new.self c.self.invariant c.turn.ensures.rules c.entries_keep_their_rules.ensures.operation
    c.turn.ensures.added c.turn.ensures.err

pub returns-clause-made : goal.returns-clause-made
returns-clause-made c =
    let a : State =
    record {
      slots = c.self.inside.slots.now.items.items;
      graph = c.self.inside.graph;
      known = c.self.inside.known.items;
      path = c.self.inside.path;
      turn = c.self.inside.turn;
      nought = c.self.inside.nought;
      unit = c.self.inside.unit;
    } in
    subst (λ (s : State). IfOk c.turn.result (λ n. Nests s (record a { graph = c.turn.new.self }) c.args.node n)) c.self.view_is
    (turn_made c.turn.result a c.args.node c.turn.new.self c.self.invariant c.turn.ensures.rules c.entries_keep_their_rules.ensures.operation
    c.turn.ensures.number c.turn.ensures.added)

pub returns-clause-err : goal.returns-clause-err
returns-clause-err c =
    let a : State =
    record {
      slots = c.self.inside.slots.now.items.items;
      graph = c.self.inside.graph;
      known = c.self.inside.known.items;
      path = c.self.inside.path;
      turn = c.self.inside.turn;
      nought = c.self.inside.nought;
      unit = c.self.inside.unit;
    } in
    on_err_weaker c.turn.result (λ e. ap (λ (g : Lists). record a { graph = g }) e ∙ c.self.view_is) c.turn.ensures.err
