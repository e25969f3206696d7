use Rattle.std.proofs.Common.{◌≡◌, ◌+◌, ◌∷◌, List, drop, map, ap, ◌∙◌, arith}
use Rattle.std.proofs.lemmas.Grind.{common_steps}
use Rattle.st_tree.specs.declared.program.Decl.{Decl}
use Rattle.st_tree.specs.ProgramViews.{block_tree, decl_tree}
use Rattle.il_front.specs.Heads.{decls_names}
use Rattle.il_front.specs.TypedForm.{first_reserved}
use Rattle.il_front.proofs.HeadLaws.{blocks-step, blocks-found}
use Rattle.il_front.proofs.head.among_blocks.Goals as goal

pub returns-in-Some : goal.returns-in-Some
returns-in-Some c =
    let bs = c.args.blocks.now in
    let i = c.each.b-index in
    let e : drop i bs ≡ c.b-item.result ∷ drop (i + 1) bs = grind (arith, common_steps) in
    blocks-found (map block_tree (drop i bs)) (map block_tree (drop (i + 1) bs)) (block_tree c.b-item.result) c.among_decls.result c.in-Some.spot
    (ap (map block_tree) e)
    (c.among_decls.ensures ∙ ap (λ (xs : List Decl). first_reserved (decls_names (map decl_tree xs))) c.deref.ensures.value) c.in-Some.is
    ∙ c.each.invariant

pub each-preserved : goal.each-preserved
each-preserved c =
    let bs = c.args.blocks.now in
    let i = c.each.b-index in
    let e : drop i bs ≡ c.b-item.result ∷ drop (i + 1) bs = grind (arith, common_steps) in
    blocks-step (map block_tree (drop i bs)) (map block_tree (drop (i + 1) bs)) (block_tree c.b-item.result) c.among_decls.result
    (ap (map block_tree) e)
    (c.among_decls.ensures ∙ ap (λ (xs : List Decl). first_reserved (decls_names (map decl_tree xs))) c.deref.ensures.value) c.in-None.is
    ∙ c.each.invariant
