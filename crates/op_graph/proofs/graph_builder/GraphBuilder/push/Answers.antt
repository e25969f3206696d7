use Rattle.std.proofs.Common.{◌<◌, ◌∙◌, ℕ, length, refl, sym, ap, subst, arith}
use Rattle.vcp_base.specs.Limits.{most_operations}
use Rattle.op_graph.specs.Lists.{Lists}
use Rattle.op_graph.specs.Rules.{IsPart}
use Rattle.op_graph.proofs.Both.{full_seen, memory_seen, added_seen, op_added, op_refused}
use Rattle.op_graph.proofs.Parts.{with_op_fits}
use Rattle.op_graph.proofs.graph_builder.GraphBuilder.push.Goals as goal

pub returns-then-k-ge-MOST_OPERATIONS : goal.returns-then-k-ge-MOST_OPERATIONS
returns-then-k-ge-MOST_OPERATIONS c = record {
  number = tt;
  added = tt;
  full = full_seen c.len-k.result c.self.view_is (c.len-k.ensures ∙ c.self.inside.operations.ok.0) c.if-k-ge-MOST_OPERATIONS.true c.self.invariant;
  err = refl;
  rules = subst IsPart c.self.view_is c.self.invariant;
}

pub invariant_of-self-2 : goal.invariant_of-self-2
invariant_of-self-2 c =
    let added = op_added c.args.op c.append.new.items.items c.self.view_is c.in-Ok.ensures.items in
    let room = subst (λ (n : ℕ). n < most_operations) (c.len-k.ensures ∙ c.self.inside.operations.ok.0) c.if-k-ge-MOST_OPERATIONS.false in
    let few = subst (λ (x : Lists). length x.operations < most_operations) c.self.view_is room in
    subst IsPart (sym added)
    (with_op_fits c.args.self.now c.args.op (subst IsPart c.self.view_is c.self.invariant) few c.requires.fits (omega arith, omega arith) c.requires.types)

pub returns : goal.returns
returns c = record {
  number = c.len-k.ensures ∙ c.self.inside.operations.ok.0 ∙ ap (λ (x : Lists). length x.operations) c.self.view_is;
  added = op_added c.args.op c.append.new.items.items c.self.view_is c.in-Ok.ensures.items;
  full = added_seen c.len-k.result c.len-k.result c.self.view_is (c.len-k.ensures ∙ c.self.inside.operations.ok.0) c.if-k-ge-MOST_OPERATIONS.false;
  err = tt;
  rules = invariant_of-self-2 c;
}

pub invariant_of-self : goal.invariant_of-self
invariant_of-self c =
    subst IsPart (sym (op_refused c.append.new.items.items c.self.view_is c.in-Err.ensures.unchanged)) (subst IsPart c.self.view_is c.self.invariant)

pub returns-in-Err : goal.returns-in-Err
returns-in-Err c = record {
  number = tt;
  added = tt;
  full = memory_seen c.len-k.result c.self.view_is (c.len-k.ensures ∙ c.self.inside.operations.ok.0) c.if-k-ge-MOST_OPERATIONS.false;
  err = op_refused c.append.new.items.items c.self.view_is c.in-Err.ensures.unchanged;
  rules = invariant_of-self c;
}
