use Rattle.std.proofs.Common.{◌≡◌, ◌++◌, length, take, drop, replicate, ap, sym, subst, ◌∙◌, arith}
use Rattle.std.proofs.Math.Seq.{take-append_seam}
use Rattle.weight_audit.specs.Sweeping.{WeightsBefore}
use Rattle.weight_audit.proofs.numbers.weights_before.Goals as goal

pub weigh_to_border-requires-clause-zeros : goal.weigh_to_border-requires-clause-zeros
weigh_to_border-requires-clause-zeros c =
    c.deref_mut.ensures.value ∙ (c.in_ok-numbers.ensures.items_if_clones_equal (λ y e. e) ∙ ap (λ n. replicate n 0) c.len.ensures.count)

pub returns : goal.returns
returns c =
    let new = c.weigh_to_border.new.numbers in
    let left = drop (length new) c.in_ok-numbers.numbers.items in
    let many : c.in_ok-numbers.numbers.len ≡ length new = omega (arith, c.weigh_to_border.auto.numbers, ap length c.deref_mut.ensures.value, c.in_ok-numbers.numbers.ok.0) in
    subst (λ xs. WeightsBefore c.args.graph.now c.args.later.now xs) (sym (ap (λ n. take n (new ++ left)) many ∙ take-append_seam new left)) c.weigh_to_border.ensures
