use Rattle.std.proofs.Common.{sym, ap, ap₂, ◌∙◌}
use Rattle.vcp_typed.specs.TExprTree.{binary}
use Rattle.vcp_typed.specs.TExprViews.{texpr_tree}
use Rattle.vcp_typed.specs.TStmtTree.{assign}
use Rattle.st_types.specs.ExprTyping.{widened}
use Rattle.il_front.specs.Places.{place_in}
use Rattle.il_front.specs.TypedForm.{combining}
use Rattle.st_types.specs.Full.{so-three}
use Rattle.il_front.proofs.statements.combining.Goals as goal

pub returns-in-Some : goal.returns-in-Some
returns-in-Some c =
    let place = place_in c.args.places in
    let op = c.args.op in
    let spot = c.args.spot in
    let wide = c.in-Some.wide in
    so-three c.widened-left.ensures c.widened-right.ensures (c.made-value.ensures _ c.binary.ensures) (λ l r v.
    c.assign-in-Some.ensures
    ∙ ap₂ (λ k e. assign k e spot) (c.place-in-Some.ensures ∙ ap place c.result.ensures)
    (v ∙ ap₂ (λ a b. binary op wide a b spot) (l ∙ ap (widened wide c.args.ty) c.kept-in-Some.ensures) r)
    ∙ ap (combining place op spot c.args.ty (texpr_tree c.args.e) c.args.other) (sym c.in-Some.is ∙ c.common.ensures))
