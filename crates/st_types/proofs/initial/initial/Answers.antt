use Rattle.std.proofs.Common.{rules, sym, ap, ◌∙◌, subst, w64, None, refl}
use Rattle.std.proofs.lemmas.Int.{to_z-of_z}
use mir.Val.{SFits}
use Rattle.st_tree.specs.ExprTree.{literal, unary}
use Rattle.st_tree.specs.ExprViews.{expr_tree}
use Rattle.st_types.specs.DeclSteps.{Judges}
use Rattle.st_types.proofs.DeclNodes.{literal-judges, sign-judges, other-judges}
use Rattle.st_types.proofs.initial.initial.Goals as goal

pub returns-in-Lit : goal.returns-in-Lit
returns-in-Lit c =
    let fits : SFits w64 c.in-Lit.value = search rules in
    subst (λ e. Judges c.args.names.now e c.args.first.now c.args.first.now c.of_literal.result)
    (ap (λ v. literal c.in-Lit.ty v c.in-Lit.spot) (to_z-of_z w64 c.in-Lit.value fits) ∙ sym (ap expr_tree c.in-Lit.is))
    (literal-judges c.args.names.now c.in-Lit.ty _ c.in-Lit.spot c.args.first.now c.of_literal.result c.of_literal.ensures)

pub returns-in-Unary : goal.returns-in-Unary
returns-in-Unary c =
    subst (λ e. Judges c.args.names.now e c.args.first.now c.negative.new.first c.negative.result)
    (ap (λ x. unary c.in-Unary.op (expr_tree x) c.in-Unary.spot) c.deref.ensures ∙ sym (ap expr_tree c.in-Unary.is))
    (sign-judges c.args.names.now c.in-Unary.op _ c.in-Unary.spot _ _ _ _ c.negated.ensures c.negative.ensures.notes c.negative.ensures.gives)

pub returns-in-Binary : goal.returns-in-Binary
returns-in-Binary c =
    subst (λ e. Judges c.args.names.now e c.args.first.now c.note.new.first None) (sym (ap expr_tree c.in-Binary.is))
    (other-judges c.args.names.now _ c.in-Binary.spot _ _ refl refl refl c.note.ensures)

pub returns-in-Call : goal.returns-in-Call
returns-in-Call c =
    subst (λ e. Judges c.args.names.now e c.args.first.now c.note-in-Call.new.first None) (sym (ap expr_tree c.in-Call.is))
    (other-judges c.args.names.now _ c.in-Call.spot _ _ refl refl refl c.note-in-Call.ensures)
