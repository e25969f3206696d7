use Rattle.std.proofs.Common.{◌≤◌, ◌+◌, length, drop, sym, ap, subst, ◌∙◌, arith}
use Rattle.std.proofs.lemmas.List.{length_push}
use Rattle.pictures.specs.Depths.{depths_behind, AreBelowTheirNumber}
use Rattle.pictures.proofs.ByDepth.{depths_none, depths_more, depths_all, low_none, low_more}
use Rattle.pictures.proofs.columns.depths_of.Goals as goal

pub operations-init : goal.operations-init
operations-init c = record {
  value = depths_none c.args.graph.now.operations c.new-depths.result.items c.new-depths.ensures.items;
  many = ap length c.new-depths.ensures.items;
  low = low_none c.new-depths.result.items c.new-depths.ensures.items;
}

pub depth-depth-requires : goal.depth-depth-requires
depth-depth-requires c = record {
  few =
      let count = ap length c.as_slice.ensures.value in
      omega (arith, count, c.operations.invariant.many, c.len-i-end.ensures.count, c.len-i-end.ensures.rules.part.few_operations);
  low = subst AreBelowTheirNumber (sym c.as_slice.ensures.value) c.operations.invariant.low;
}

pub operations-preserved : goal.operations-preserved
operations-preserved c =
    let ops = c.args.graph.now.operations in
    let depths = c.operations.depths.items in
    let d = c.depth-depth.result in
    let i = c.operations.invariant in
    let value = rw c.as_slice.ensures.value at c.depth-depth.ensures.value in
    let few = rw c.as_slice.ensures.value at c.depth-depth.ensures.few in
    record {
      value = ap (λ ds. depths_behind ds (drop (c.operations.i + 1) ops)) c.in_ok-push.ensures.items
          ∙ depths_more ops depths c.operations.i c.operation.result d c.operation.ensures value i.value;
      many = ap length c.in_ok-push.ensures.items ∙ (length_push depths d ∙ ap (λ n. n + 1) i.many);
      low = subst AreBelowTheirNumber (sym c.in_ok-push.ensures.items) (low_more depths d few i.low);
    }

pub returns : goal.returns
returns c =
    let i = c.operations.invariant in
    let all : length c.args.graph.now.operations ≤ c.operations.i = omega (arith, c.len-i-end.ensures.count) in
    record {
      value = depths_all c.args.graph.now.operations c.operations.depths.items c.operations.i all i.value;
      many = omega (arith, i.many, c.len-i-end.ensures.count);
      low = i.low;
    }
