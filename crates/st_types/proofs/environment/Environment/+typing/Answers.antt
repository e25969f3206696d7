use Rattle.std.proofs.Common.{rules, ◌≡◌, option_map, Some, None, sym, ap, ◌∙◌, subst, w64, drop, [], ◌∷◌, ◌+◌}
use Rattle.std.proofs.lemmas.Int.{to_z-of_z}
use Rattle.std.proofs.lemmas.List.{drop_all}
use mir.Val.{SFits}
use Rattle.st_tree.specs.ExprTree.{literal, name, call}
use Rattle.st_tree.specs.ExprViews.{expr_tree, expr_trees}
use Rattle.vcp_typed.specs.TExprViews.{texpr_tree}
use Rattle.st_types.specs.ExprTyping.{called, count, both}
use Rattle.st_types.specs.ExprSteps.{Types, TypesAll}
use Rattle.st_types.specs.Full.{not-full, so, so-two, so-three}
use Rattle.st_types.proofs.Items.{from-item}
use Rattle.st_types.proofs.ExprNodes.{cons, binary-types, unary-types, call-types, unknown-call, more-types, none-left}
use Rattle.st_types.proofs.Wanted.{glue-cons, glue-none, count-trees}
use Rattle.st_types.proofs.environment.Environment.+typing.Goals as goal

pub type_expression-returns-in-Lit : goal.type_expression-returns-in-Lit
type_expression-returns-in-Lit t c =
    let fits : SFits w64 c.in-Lit.value = search rules in
    not-full (subst (λ e. Types c.args.self.now.names.now e c.args.noted.now.first c.literal.new.first (option_map texpr_tree c.literal.result))
    (ap (λ v. literal c.in-Lit.ty v c.in-Lit.spot) (to_z-of_z w64 c.in-Lit.value fits) ∙ sym (ap expr_tree c.in-Lit.is))
    (c.literal.ensures c.args.self.now.names.now))

pub type_expression-returns-in-Name : goal.type_expression-returns-in-Name
type_expression-returns-in-Name t c =
    not-full (subst (λ e. Types c.args.self.now.names.now e c.args.noted.now.first c.known.new.first (option_map texpr_tree c.known.result))
    (ap (λ n. name n c.in-Name.spot) c.bytes.ensures ∙ sym (ap expr_tree c.in-Name.is)) c.known.ensures)

pub type_expression-returns-in-None : goal.type_expression-returns-in-None
type_expression-returns-in-None t c =
    so-two c.type_expression-operand.ensures c.sign.ensures (λ h k.
    let inner = subst
    (λ x. Types c.args.self.now.names.now (expr_tree x) c.args.noted.now.first c.type_expression-operand.new.noted.first
    (option_map texpr_tree c.type_expression-operand.result)) c.deref-in-None.ensures h in
    subst (λ e. Types c.args.self.now.names.now e c.args.noted.now.first c.sign.new.noted.first (option_map texpr_tree c.sign.result))
    (sym (ap expr_tree c.in-Unary.is))
    (unary-types _ _ _ _ _ _ _ _ _ (let e = c.in-None.ensures in sym (rw c.deref.ensures at e)) inner k))

pub type_expression-returns-in-Binary : goal.type_expression-returns-in-Binary
type_expression-returns-in-Binary t c =
    so-three c.type_expression-x.ensures c.type_expression-y.ensures c.operate.ensures (λ h k p.
    let left = subst
    (λ x. Types c.args.self.now.names.now (expr_tree x) c.args.noted.now.first c.type_expression-x.new.noted.first
    (option_map texpr_tree c.type_expression-x.result)) c.deref-in-Binary.ensures h in
    let right = subst
    (λ x. Types c.args.self.now.names.now (expr_tree x) c.type_expression-x.new.noted.first c.type_expression-y.new.noted.first
    (option_map texpr_tree c.type_expression-y.result)) c.deref-in-Binary-2.ensures k in
    subst (λ e. Types c.args.self.now.names.now e c.args.noted.now.first c.operate.new.noted.first (option_map texpr_tree c.operate.result))
    (sym (ap expr_tree c.in-Binary.is))
    (binary-types _ _ _ _ _ _ _ _ _ _ _ _ left right p))

pub type_expression-returns-in-Call : goal.type_expression-returns-in-Call
type_expression-returns-in-Call t c =
    so c.call.ensures (λ h.
    subst (λ e. Types c.args.self.now.names.now e c.args.noted.now.first c.call.new.noted.first (option_map texpr_tree c.call.result))
    (ap (λ n. call n (expr_trees c.deref-in-Call.result.now) c.in-Call.spot) c.bytes-in-Call.ensures
    ∙ ap (λ xs. call c.in-Call.name (expr_trees xs) c.in-Call.spot) c.deref-in-Call.ensures.value
    ∙ sym (ap expr_tree c.in-Call.is ∙ c.trees_of_nodes.ensures.call c.in-Call.name c.in-Call.args c.in-Call.spot)) h)

pub call-returns-in-None : goal.call-returns-in-None
call-returns-in-None t c =
    let is : called c.args.name.now (count (expr_trees c.args.args.now)) ≡ None = ap (called c.args.name.now) (count-trees c.args.args.now)
    ∙ sym c.in-None.ensures in
    so c.type_all-list.ensures (λ h. unknown-call _ _ _ _ _ _ _ _ is h c.note.ensures)

pub call-returns-in-Some : goal.call-returns-in-Some
call-returns-in-Some t c =
    let is : called c.args.name.now (count (expr_trees c.args.args.now)) ≡ Some c.in-Some.fun = ap (called c.args.name.now) (count-trees c.args.args.now)
    ∙ sym c.in-Some.ensures in
    so-two c.type_all-list.ensures c.apply.ensures (λ h k. call-types _ _ _ _ _ _ _ _ _ _ is h k)

pub type_all-each-preserved : goal.type_all-each-preserved
type_all-each-preserved t c = λ end r h.
    let d : drop c.each.e-index c.args.args.now ≡ c.e-item.result ∷ drop (c.each.e-index + 1) c.args.args.now = from-item _ _ _ c.each-test.true c.e-item.is in
    let all = c.each.invariant end (both cons (option_map texpr_tree c.type_expression-x.result) r)
    (so-three c.type_expression-x.ensures c.push-list.ensures h (λ x p rest.
    subst (λ xs. TypesAll c.args.self.now.names.now (expr_trees xs) c.each.noted.first end.first (both cons
    (option_map texpr_tree c.type_expression-x.result) r))
    (sym d) (more-types _ _ _ _ _ _ _ _ x rest))) in
    record {
      before = all.before;
      is = λ o. subst (λ q. TypesAll c.args.self.now.names.now (expr_trees c.args.args.now) c.args.noted.now.first end.first q)
          (glue-cons _ _ _ r (c.push-list.ensures.is (h.before o))) (all.is o);
    }

pub type_all-returns : goal.type_all-returns
type_all-returns t c =
    let d : drop c.each.e-index c.args.args.now ≡ [] = drop_all _ _ c.each-test.false in
    so (c.each.invariant c.each.noted (Some []) (not-full
    (subst (λ xs. TypesAll c.args.self.now.names.now (expr_trees xs) c.each.noted.first c.each.noted.first (Some [])) (sym d)
    (none-left c.args.self.now.names.now c.each.noted.first))))
    (λ h. subst (λ q. TypesAll c.args.self.now.names.now (expr_trees c.args.args.now) c.args.noted.now.first c.each.noted.first q) (glue-none _) h)
