use Rattle.std.proofs.Common.{◌≡◌, [], map, sym, ap, ◌∙◌, arith}
use Rattle.std.proofs.lemmas.Grind.{common_steps}
use Rattle.vcp_typed.specs.TExprViews.{texpr_tree, texpr_trees}
use Rattle.st_types.specs.ExprSteps.{widened_to}
use Rattle.st_types.proofs.Wanted.{behind, behind-none, widened-more}
use Rattle.st_types.proofs.expression.widened_all.Goals as goal

pub each-preserved : goal.each-preserved
each-preserved c =
    widened-more c.each.ty c.args.rest (texpr_trees c.each.out.items.items) _ (texpr_tree c.in-Some.e) _
    (map texpr_tree c.next.new.self.rest.items) c.in-Ok.ensures c.in-Ok-push.ensures.tree
    ∙ ap (λ xs. behind (texpr_trees c.each.out.items.items) (widened_to c.each.ty c.args.rest (map texpr_tree xs))) (sym c.in-Some.ensures.steps.0)
    ∙ c.each.invariant

pub returns : goal.returns
returns c =
    let none : c.each.e-iterator.rest.items ≡ [] = grind (arith, common_steps) in
    sym (behind-none (texpr_trees c.each.out.items.items))
    ∙ sym (ap (λ xs. behind (texpr_trees c.each.out.items.items) (widened_to c.each.ty c.args.rest (map texpr_tree xs))) none)
    ∙ c.each.invariant
