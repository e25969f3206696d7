use Rattle.std.proofs.Common.{◌≡◌, ◌∙◌, Some, true, ap, sym, arith, rules, w64, to_z, of_z}
use Rattle.std.proofs.lemmas.Int.{to_z-of_z}
use Rattle.vcp_base.specs.Kinds.{outcome}
use Rattle.std.proofs.lemmas.Grind.{common_steps}
use Rattle.graph_passes.specs.Folding.{computes, fixed_operand, value_unless_stop}
use Rattle.graph_passes.proofs.Folds.{fixed_from}
use Rattle.graph_passes.proofs.folding.fixed_value.Goals as goal

pub returns : goal.returns
returns c =
    let op = c.args.op.now in
    let before = c.args.before.now in
    let plain : computes op.kind ≡ true = first_of (cc, grind (arith, common_steps)) in
    let first : fixed_operand before op.kind 0 op.a ≡ Some c.in_ok-a.a = sym c.fixed_operand.ensures ∙ c.in_ok-a.was in
    let second : fixed_operand before op.kind 1 op.b ≡ Some c.in_ok-b.b = sym c.fixed_operand-2.ensures ∙ c.in_ok-b.was in
    let third : fixed_operand before op.kind 2 op.c ≡ Some c.in_ok-c.c = sym c.fixed_operand-3.ensures ∙ c.in_ok-c.was in
    let f = outcome op.kind op.from op.ty op.imm in
    let a : to_z w64 (of_z w64 c.in_ok-a.a) ≡ c.in_ok-a.a = to_z-of_z w64 c.in_ok-a.a (search rules) in
    let b : to_z w64 (of_z w64 c.in_ok-b.b) ≡ c.in_ok-b.b = to_z-of_z w64 c.in_ok-b.b (search rules) in
    let d : to_z w64 (of_z w64 c.in_ok-c.c) ≡ c.in_ok-c.c = to_z-of_z w64 c.in_ok-c.c (search rules) in
    c.value_given.ensures
    ∙ ap (λ x. value_unless_stop (f x (to_z w64 (of_z w64 c.in_ok-b.b)) (to_z w64 (of_z w64 c.in_ok-c.c)))) a
    ∙ ap (λ x. value_unless_stop (f c.in_ok-a.a x (to_z w64 (of_z w64 c.in_ok-c.c)))) b
    ∙ ap (λ x. value_unless_stop (f c.in_ok-a.a c.in_ok-b.b x)) d
    ∙ sym (fixed_from before op c.in_ok-a.a c.in_ok-b.b c.in_ok-c.c plain first second third)
