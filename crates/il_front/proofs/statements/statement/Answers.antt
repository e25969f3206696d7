use Rattle.std.proofs.Common.{◌≡◌, sym, ap, ap₂, ◌∙◌, subst}
use Rattle.vcp_base.specs.declared.ty.Ty.TheVariants as ty
use Rattle.vcp_typed.specs.Rules.{common}
use Rattle.vcp_typed.specs.TExprTree.{unary}
use Rattle.vcp_typed.specs.TStmtTree.{assign}
use Rattle.vcp_typed.specs.TStmtViews.{tstmt_tree}
use Rattle.st_tree.specs.declared.expr.UnOp.TheVariants as un
use Rattle.il_front.specs.Places.{place_in}
use Rattle.il_front.specs.TypedForm.{action_stmt, combining, turned}
use Rattle.st_types.specs.Full.{so, so-two}
use Rattle.il_front.proofs.statements.statement.Goals as goal

pub place-requires : goal.place-requires
place-requires c = c.requires

pub returns-in-Load : goal.returns-in-Load
returns-in-Load c =
    let i = c.args.instruction in
    let place = place_in c.args.places in
    so c.turned-value.ensures (λ h.
    subst (λ a. tstmt_tree c.assign.result ≡ action_stmt place i.spot i.at c.args.ty a) (sym c.in-Load.is)
    (c.assign.ensures
    ∙ ap₂ (λ k e. assign k e i.spot) (c.place.ensures ∙ ap place c.operand_type.ensures)
    (h ∙ ap (turned c.in-Load.negated i.spot) c.operand_expr.ensures)))

pub stored-requires : goal.stored-requires
stored-requires c = c.requires

pub returns-in-Store : goal.returns-in-Store
returns-in-Store c =
    let i = c.args.instruction in
    so c.stored.ensures (λ h.
    subst (λ a. tstmt_tree c.assign-in-Store.result ≡ action_stmt (place_in c.args.places) i.spot i.at c.args.ty a) (sym c.in-Store.is)
    (c.assign-in-Store.ensures ∙ ap (λ e. assign c.in-Store.slot e i.at) h))

pub putting-requires : goal.putting-requires
putting-requires c = c.requires

pub returns-in-Put : goal.returns-in-Put
returns-in-Put c =
    let i = c.args.instruction in
    so c.putting.ensures
    (subst (λ a. tstmt_tree c.putting.result ≡ action_stmt (place_in c.args.places) i.spot i.at c.args.ty a) (sym c.in-Put.is))

pub returns-in-Complement : goal.returns-in-Complement
returns-in-Complement c =
    let i = c.args.instruction in
    so c.turned-value-in-Complement.ensures (λ h.
    subst (λ a. tstmt_tree c.assign-in-Complement.result ≡ action_stmt (place_in c.args.places) i.spot i.at c.args.ty a) (sym c.in-Complement.is)
    (c.assign-in-Complement.ensures
    ∙ ap₂ (λ k e. assign k e i.spot) c.place-in-Complement.ensures (h ∙ ap (λ e. unary un.Not ty.Bool e i.spot) c.kept.ensures)))

pub returns-in-Combine : goal.returns-in-Combine
returns-in-Combine c =
    let i = c.args.instruction in
    let place = place_in c.args.places in
    let op = c.in-Combine.op in
    so-two c.turned-e.ensures c.combining.ensures (λ h k.
    subst (λ a. tstmt_tree c.combining.result ≡ action_stmt place i.spot i.at c.args.ty a) (sym c.in-Combine.is)
    (k ∙ ap₂ (λ e u. combining place op i.spot c.args.ty e u (common op c.args.ty u))
    (h ∙ ap (turned c.in-Combine.negated i.spot) c.operand_expr-in-Combine.ensures) c.operand_type-in-Combine.ensures))
