use Rattle.std.proofs.Common.{◌≡◌, ◌+◌, drop, map, [], ◌∷◌, subst, sym}
use Rattle.std.proofs.lemmas.List.{drop_all}
use Rattle.st_tree.specs.ProgramViews.{decl_tree}
use Rattle.st_types.specs.DeclSteps.{made_by, MakesDecls}
use Rattle.st_types.specs.Full.{not-full, so-two}
use Rattle.st_types.proofs.Items.{from-item}
use Rattle.st_types.proofs.DeclNodes.{no-decls, one-decl}
use Rattle.st_types.proofs.declaration.add_declarations.Goals as goal

pub each-preserved : goal.each-preserved
each-preserved c =
    let e : drop c.each.d-index c.args.decls.now ≡ c.d-item.result ∷ drop (c.each.d-index + 1) c.args.decls.now =
    from-item _ _ _ c.each-test.true c.d-item.is in
    λ n end h. c.each.invariant n end (so-two c.add_declaration.ensures h (λ here rest.
    subst (λ ds. MakesDecls c.args.section (map decl_tree ds) (made_by c.each.made) n c.each.noted.first end.first) (sym e)
    (one-decl c.args.section (decl_tree c.d-item.result) (map decl_tree (drop (c.each.d-index + 1) c.args.decls.now)) (made_by c.each.made)
    (made_by c.add_declaration.new.made) n c.each.noted.first c.add_declaration.new.noted.first end.first here rest)))

pub returns : goal.returns
returns c =
    let e : drop c.each.d-index c.args.decls.now ≡ [] = drop_all _ _ c.each-test.false in
    c.each.invariant (made_by c.each.made) c.each.noted (not-full
    (subst (λ ds. MakesDecls c.args.section (map decl_tree ds) (made_by c.each.made) (made_by c.each.made) c.each.noted.first c.each.noted.first) (sym e)
    (no-decls c.args.section (made_by c.each.made) c.each.noted.first)))
