use Rattle.std.proofs.Common.{ℕ, ◌+◌, ◌∙◌, length, sym, ap, subst}
use Rattle.std.proofs.lemmas.Result.{IfOk-from_err}
use Rattle.op_graph.specs.Lists.{Lists}
use Rattle.op_graph.specs.Rules.{IsPart}
use Rattle.op_graph.proofs.Both.{adds_nothing, keeps_all, node_added, node_refused}
use Rattle.op_graph.proofs.Parts.{with_turn_node_fits}
use Rattle.op_graph.proofs.graph_builder.GraphBuilder.turn.Goals as goal

pub invariant_of-self : goal.invariant_of-self
invariant_of-self c =
    subst IsPart (sym (node_refused c.append.new.items.items c.self.view_is c.in_err-append.ensures.unchanged)) (subst IsPart c.self.view_is c.self.invariant)

pub returns-in_err-append : goal.returns-in_err-append
returns-in_err-append c = record {
  number = IfOk-from_err c.from_residual.result _ c.from_residual.ensures.0;
  added = adds_nothing _ c.from_residual.result c.from_residual.ensures.0;
  err = keeps_all c.from_residual.result (node_refused c.append.new.items.items c.self.view_is c.in_err-append.ensures.unchanged);
  rules = invariant_of-self c;
}

pub invariant_of-self-2 : goal.invariant_of-self-2
invariant_of-self-2 c =
    subst IsPart (sym (node_added c.args.node c.append.new.items.items c.self.view_is c.in_ok-append.ensures.items))
    (with_turn_node_fits c.args.self.now c.args.node (subst IsPart c.self.view_is c.self.invariant) c.requires.few c.requires.fits search)

pub returns : goal.returns
returns c = record {
  number = ap (λ (n : ℕ). n + 1) (c.len-k.ensures ∙ c.self.inside.turn_nodes.ok.0 ∙ ap (λ (x : Lists). length x.turn_nodes) c.self.view_is);
  added = node_added c.args.node c.append.new.items.items c.self.view_is c.in_ok-append.ensures.items;
  err = tt;
  rules = invariant_of-self-2 c;
}
