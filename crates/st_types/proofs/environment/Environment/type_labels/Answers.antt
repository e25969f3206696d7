use Rattle.std.proofs.Common.{◌≡◌, [], ◌∷◌, ◌+◌, Some, sym, subst, drop}
use Rattle.std.proofs.lemmas.List.{drop_all}
use Rattle.st_tree.specs.StmtViews.{label_trees}
use Rattle.st_types.specs.ExprTyping.{both}
use Rattle.st_types.specs.StmtSteps.{TypesLabels}
use Rattle.st_types.specs.Full.{not-full, so, so-three}
use Rattle.st_types.proofs.Items.{from-item}
use Rattle.st_types.proofs.StmtNodes.{label_cons, more-labels, no-labels, labels-on, labels-end}
use Rattle.st_types.proofs.environment.Environment.type_labels.Goals as goal

pub each-preserved : goal.each-preserved
each-preserved c = λ end r h.
    let d : drop c.each.label-index c.args.labels.now ≡ c.label-item.result ∷ drop (c.each.label-index + 1) c.args.labels.now =
    from-item _ _ _ c.each-test.true c.label-item.is in
    let all = c.each.invariant end (both label_cons c.type_label-made.result r)
    (so-three c.type_label-made.ensures c.with_label-list.ensures h (λ x p rest.
    subst (λ xs. TypesLabels c.args.self.now.names.now c.args.ty (label_trees xs) c.each.noted.first end.first (both label_cons c.type_label-made.result r))
    (sym d) (more-labels _ _ _ _ _ _ _ _ _ x rest))) in
    record {
      before = all.before;
      is = λ o. subst (λ q. TypesLabels c.args.self.now.names.now c.args.ty (label_trees c.args.labels.now) c.args.noted.now.first end.first q)
          (labels-on _ _ _ r (c.with_label-list.ensures.is (h.before o))) (all.is o);
    }

pub returns : goal.returns
returns c =
    let d : drop c.each.label-index c.args.labels.now ≡ [] = drop_all _ _ c.each-test.false in
    so (c.each.invariant c.each.noted (Some []) (not-full
    (subst (λ xs. TypesLabels c.args.self.now.names.now c.args.ty (label_trees xs) c.each.noted.first c.each.noted.first (Some [])) (sym d)
    (no-labels c.args.self.now.names.now c.args.ty c.each.noted.first))))
    (λ h. subst (λ q. TypesLabels c.args.self.now.names.now c.args.ty (label_trees c.args.labels.now) c.args.noted.now.first c.each.noted.first q)
    (labels-end _) h)
