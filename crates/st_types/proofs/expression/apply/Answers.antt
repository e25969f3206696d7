use Rattle.std.proofs.Common.{Some, option_map, map, sym, ap, ◌∙◌, subst}
use Rattle.vcp_typed.specs.Checked.{ty_of}
use Rattle.vcp_typed.specs.TExprViews.{texpr_tree}
use Rattle.st_types.specs.ExprSteps.{Applies}
use Rattle.st_types.specs.ExprTyping.{function_type}
use Rattle.st_types.specs.Full.{not-full, is-full}
use Rattle.st_types.proofs.Wanted.{applied}
use Rattle.st_types.proofs.expression.apply.Goals as goal

pub returns-in-Ok : goal.returns-in-Ok
returns-in-Ok c =
    not-full (subst (λ z. Applies c.args.fun c.args.spot (option_map (λ v. map texpr_tree v.items) z) c.args.noted.now.first c.args.noted.now.first
    (Some (texpr_tree c.call.result))) (sym c.in-Some.is)
    (applied c.args.fun c.args.spot _ _ _ _ _ _
    (c.in-Some-function_type.ensures ∙ ap (λ xs. function_type c.args.fun (map ty_of (map texpr_tree xs))) c.deref.ensures.value)
    c.first_wanted.ensures c.in-Ok.ensures c.call.ensures))

pub returns-in-Err : goal.returns-in-Err
returns-in-Err c = is-full
