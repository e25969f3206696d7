use Rattle.std.proofs.Common.{◌≡◌, ◌+◌, ◌∷◌, List, drop, map, ap, ◌∙◌, arith}
use Rattle.std.proofs.lemmas.Grind.{common_steps}
use Rattle.st_tree.specs.declared.program.Declared.{Declared}
use Rattle.st_tree.specs.ProgramViews.{decl_tree, declared_tree}
use Rattle.il_front.specs.TypedForm.{first_reserved}
use Rattle.il_front.proofs.HeadLaws.{decls-step, decls-found}
use Rattle.il_front.proofs.head.among_decls.Goals as goal

pub returns-in-Some : goal.returns-in-Some
returns-in-Some c =
    let ds = c.args.decls.now in
    let i = c.each.d-index in
    let e : drop i ds ≡ c.d-item.result ∷ drop (i + 1) ds = grind (arith, common_steps) in
    decls-found (map decl_tree (drop i ds)) (map decl_tree (drop (i + 1) ds)) (decl_tree c.d-item.result) c.among_names.result c.in-Some.spot
    (ap (map decl_tree) e)
    (c.among_names.ensures ∙ ap (λ (xs : List Declared). first_reserved (map declared_tree xs)) c.deref.ensures.value) c.in-Some.is
    ∙ c.each.invariant

pub each-preserved : goal.each-preserved
each-preserved c =
    let ds = c.args.decls.now in
    let i = c.each.d-index in
    let e : drop i ds ≡ c.d-item.result ∷ drop (i + 1) ds = grind (arith, common_steps) in
    decls-step (map decl_tree (drop i ds)) (map decl_tree (drop (i + 1) ds)) (decl_tree c.d-item.result) c.among_names.result
    (ap (map decl_tree) e)
    (c.among_names.ensures ∙ ap (λ (xs : List Declared). first_reserved (map declared_tree xs)) c.deref.ensures.value) c.in-None.is
    ∙ c.each.invariant
