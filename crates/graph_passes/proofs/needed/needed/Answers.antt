use Rattle.std.proofs.Common.{◌≤◌, List, Bool, false, length, replicate, sym, ap, subst, ◌∙◌, arith}
use Rattle.std.proofs.lemmas.Result.{IfOk-weaker}
use Rattle.vcp_base.specs.Limits.{most_operations}
use Rattle.graph_passes.specs.Marking.{AreNeeded}
use Rattle.graph_passes.specs.Tables.{IsNumbered}
use Rattle.graph_passes.proofs.Queueing.{given_back}
use Rattle.graph_passes.proofs.needed.needed.Goals as goal

pub mark_what_is_needed-requires : goal.mark_what_is_needed-requires
mark_what_is_needed-requires c = record {
  graph = c.len-count.ensures.rules;
  none = c.deref_mut.ensures.value ∙ c.in_ok-marks.ensures.items_if_clones_equal (λ y e. e) ∙ ap (λ n. replicate n false) c.len-count.ensures.count;
  empty = c.in_ok-queue.ensures.items;
  room = omega (arith, c.in_ok-queue.ensures.capacity, c.len-count.ensures.count);
}

-- the marks are as many as the operations, and so those that were lent
pub numbered-requires : goal.numbered-requires
numbered-requires c =
    let many = c.mark_what_is_needed.ensures.many in
    let same = given_back c.in_ok-marks.marks.len c.mark_what_is_needed.new.marks _ (c.in_ok-marks.ensures.len ∙ c.len-count.ensures.count ∙ sym many) in
    let few : length c.mark_what_is_needed.new.marks ≤ most_operations = omega (arith, many, c.len-count.ensures.rules.part.few_operations) in
    record { few = subst (λ (m : List Bool). length m ≤ most_operations) (sym same) few }

pub returns-clause-needed : goal.returns-clause-needed
returns-clause-needed c =
    let needed = c.mark_what_is_needed.ensures in
    let same = given_back c.in_ok-marks.marks.len c.mark_what_is_needed.new.marks _ (c.in_ok-marks.ensures.len ∙ c.len-count.ensures.count ∙ sym needed.many) in
    IfOk-weaker c.numbered.result _ _ (λ p is. subst (AreNeeded c.args.graph.now) (sym (is.kept ∙ same)) needed) c.numbered.ensures

pub returns-clause-numbered : goal.returns-clause-numbered
returns-clause-numbered c = IfOk-weaker c.numbered.result _ _ (λ p is. subst (λ (m : List Bool). IsNumbered m p) (sym is.kept) is) c.numbered.ensures
