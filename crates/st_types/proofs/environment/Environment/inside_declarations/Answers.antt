use Rattle.std.proofs.Common.{◌≡◌, ◌+◌, drop, map, [], ◌∷◌, subst, sym}
use Rattle.std.proofs.lemmas.List.{drop_all}
use Rattle.st_tree.specs.ProgramViews.{decl_tree}
use Rattle.st_types.specs.Notes.{Notes}
use Rattle.st_types.specs.DeclSteps.{InitInside, DeclsInside}
use Rattle.st_types.specs.Full.{not-full, so-two}
use Rattle.st_types.proofs.Items.{from-item}
use Rattle.st_types.proofs.NoteLaws.{quiet, pair}
use Rattle.st_types.proofs.environment.Environment.inside_declarations.Goals as goal

pub each-preserved : goal.each-preserved
each-preserved c =
    let all = c.args.self.now.names.now in
    let d = decl_tree c.d-item.result in
    let ds = map decl_tree (drop (c.each.d-index + 1) c.args.decls.now) in
    let e : drop c.each.d-index c.args.decls.now ≡ c.d-item.result ∷ drop (c.each.d-index + 1) c.args.decls.now =
    from-item _ _ _ c.each-test.true c.d-item.is in
    λ end h. c.each.invariant end (so-two c.inside_init.ensures h (λ here rest.
    subst (λ xs. Notes c.each.noted.first end.first (DeclsInside all (map decl_tree xs))) (sym e)
    (pair c.each.noted.first c.inside_init.new.noted.first end.first (InitInside all d.init) (DeclsInside all ds) here rest)))

pub returns : goal.returns
returns c =
    let all = c.args.self.now.names.now in
    let e : drop c.each.d-index c.args.decls.now ≡ [] = drop_all _ _ c.each-test.false in
    c.each.invariant c.each.noted
    (not-full (subst (λ xs. Notes c.each.noted.first c.each.noted.first (DeclsInside all (map decl_tree xs))) (sym e)
    (quiet c.each.noted.first (DeclsInside all []) (λ f h. h))))
