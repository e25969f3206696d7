use Rattle.std.proofs.Common.{◌≡◌, ◌+◌, drop, map, [], ◌∷◌, subst, sym}
use Rattle.std.proofs.lemmas.List.{drop_all}
use Rattle.st_tree.specs.ProgramViews.{block_tree, decl_tree}
use Rattle.st_types.specs.DeclSteps.{made_by, MakesBlocks, MakesDecls}
use Rattle.st_types.specs.Full.{not-full, so-two}
use Rattle.st_types.proofs.Items.{from-item}
use Rattle.st_types.proofs.DeclNodes.{no-blocks, one-block}
use Rattle.st_types.proofs.declaration.add_blocks.Goals as goal

pub each-preserved : goal.each-preserved
each-preserved c =
    let e : drop c.each.b-index c.args.blocks.now ≡ c.b-item.result ∷ drop (c.each.b-index + 1) c.args.blocks.now =
    from-item _ _ _ c.each-test.true c.b-item.is in
    λ n end h. c.each.invariant n end (so-two c.add_declarations.ensures h (λ here rest.
    let made = subst
    (λ xs. MakesDecls c.b-item.result.section (map decl_tree xs) (made_by c.each.made)
    (made_by c.add_declarations.new.made) c.each.noted.first c.add_declarations.new.noted.first) c.deref.ensures.value here in
    subst (λ bs. MakesBlocks (map block_tree bs) (made_by c.each.made) n c.each.noted.first end.first) (sym e)
    (one-block (block_tree c.b-item.result) (map block_tree (drop (c.each.b-index + 1) c.args.blocks.now)) (made_by c.each.made)
    (made_by c.add_declarations.new.made) n c.each.noted.first c.add_declarations.new.noted.first end.first made rest)))

pub returns : goal.returns
returns c =
    let e : drop c.each.b-index c.args.blocks.now ≡ [] = drop_all _ _ c.each-test.false in
    c.each.invariant (made_by c.each.made) c.each.noted (not-full
    (subst (λ bs. MakesBlocks (map block_tree bs) (made_by c.each.made) (made_by c.each.made) c.each.noted.first c.each.noted.first) (sym e)
    (no-blocks (made_by c.each.made) c.each.noted.first)))
