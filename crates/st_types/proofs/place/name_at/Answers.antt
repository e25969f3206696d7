use Rattle.std.proofs.Common.{◌≡◌, ◌+◌, ◌++◌, drop, map, [], ◌∷◌, slice_get, subst, sym}
use Rattle.std.proofs.lemmas.List.{drop_all}
use Rattle.st_tree.specs.ProgramViews.{block_tree, decl_tree}
use Rattle.st_types.specs.Places.{IsAfter, IsAmong, decl_names, block_names}
use Rattle.st_types.proofs.Items.{from-item}
use Rattle.st_types.proofs.PlaceLaws.{among-here, after-here, whole, beyond}
use Rattle.st_types.proofs.place.name_at.Goals as goal

pub each-preserved : goal.each-preserved
each-preserved c = λ rest.
    let all = block_names (map block_tree c.args.blocks.now) in
    let later = block_names (map block_tree (drop (c.each.b-index + 1) c.args.blocks.now)) in
    let e : drop c.each.b-index c.args.blocks.now ≡ c.b-item.result ∷ drop (c.each.b-index + 1) c.args.blocks.now =
    from-item _ _ _ c.each-test.true c.b-item.is in
    after-here all (decl_names (block_tree c.b-item.result).decls) later rest c.args.n c.each.left c.in-Err.rest
    (subst (λ xs. slice_get (block_names (map block_tree xs) ++ rest) c.each.left ≡ slice_get (all ++ rest) c.args.n) e (c.each.invariant rest))
    (subst (λ xs. IsAfter (decl_names (map decl_tree xs)) c.each.left c.in-Err.rest) c.deref.ensures.value c.in-Err.ensures.err)

pub returns-in-Ok-clause-some : goal.returns-in-Ok-clause-some
returns-in-Ok-clause-some c =
    let all = block_names (map block_tree c.args.blocks.now) in
    let later = block_names (map block_tree (drop (c.each.b-index + 1) c.args.blocks.now)) in
    let e : drop c.each.b-index c.args.blocks.now ≡ c.b-item.result ∷ drop (c.each.b-index + 1) c.args.blocks.now =
    from-item _ _ _ c.each-test.true c.b-item.is in
    whole all c.args.n c.in-Ok.spot (λ rest.
    among-here all (decl_names (block_tree c.b-item.result).decls) later rest c.args.n c.each.left c.in-Ok.spot
    (subst (λ xs. slice_get (block_names (map block_tree xs) ++ rest) c.each.left ≡ slice_get (all ++ rest) c.args.n) e (c.each.invariant rest))
    (subst (λ xs. IsAmong (decl_names (map decl_tree xs)) c.each.left c.in-Ok.spot) c.deref.ensures.value c.in-Ok.ensures.ok))

pub returns-clause-none : goal.returns-clause-none
returns-clause-none c =
    let e : drop c.each.b-index c.args.blocks.now ≡ [] = drop_all _ _ c.each-test.false in
    beyond (block_names (map block_tree c.args.blocks.now)) c.args.n c.each.left (λ rest.
    sym (subst (λ xs. slice_get (block_names (map block_tree xs) ++ rest) c.each.left ≡ slice_get
    (block_names (map block_tree c.args.blocks.now) ++ rest) c.args.n) e (c.each.invariant rest)))
