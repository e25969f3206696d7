use Rattle.std.proofs.Common.{◌≡◌, ◌+◌, drop, map, [], ◌∷◌, subst, sym}
use Rattle.std.proofs.lemmas.List.{drop_all}
use Rattle.st_tree.specs.ProgramViews.{block_tree, decl_tree}
use Rattle.st_types.specs.Notes.{Notes}
use Rattle.st_types.specs.DeclSteps.{DeclsInside, BlocksInside}
use Rattle.st_types.specs.Full.{not-full, so-two}
use Rattle.st_types.proofs.Items.{from-item}
use Rattle.st_types.proofs.NoteLaws.{quiet, pair}
use Rattle.st_types.proofs.environment.Environment.inside_blocks.Goals as goal

pub each-preserved : goal.each-preserved
each-preserved c =
    let all = c.args.self.now.names.now in
    let b = block_tree c.b-item.result in
    let bs = map block_tree (drop (c.each.b-index + 1) c.args.blocks.now) in
    let e : drop c.each.b-index c.args.blocks.now ≡ c.b-item.result ∷ drop (c.each.b-index + 1) c.args.blocks.now =
    from-item _ _ _ c.each-test.true c.b-item.is in
    λ end h. c.each.invariant end (so-two c.inside_declarations.ensures h (λ here rest.
    let block = subst (λ xs. Notes c.each.noted.first c.inside_declarations.new.noted.first (DeclsInside all (map decl_tree xs))) c.deref.ensures.value here in
    subst (λ xs. Notes c.each.noted.first end.first (BlocksInside all (map block_tree xs))) (sym e)
    (pair c.each.noted.first c.inside_declarations.new.noted.first end.first (DeclsInside all b.decls) (BlocksInside all bs) block rest)))

pub returns : goal.returns
returns c =
    let all = c.args.self.now.names.now in
    let e : drop c.each.b-index c.args.blocks.now ≡ [] = drop_all _ _ c.each-test.false in
    c.each.invariant c.each.noted
    (not-full (subst (λ xs. Notes c.each.noted.first c.each.noted.first (BlocksInside all (map block_tree xs))) (sym e)
    (quiet c.each.noted.first (BlocksInside all []) (λ f h. h))))
