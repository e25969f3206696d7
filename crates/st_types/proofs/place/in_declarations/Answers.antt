use Rattle.std.proofs.Common.{◌≡◌, ◌+◌, ◌++◌, drop, map, [], ◌∷◌, slice_get, subst, sym, arith}
use Rattle.std.proofs.lemmas.List.{drop_all}
use Rattle.st_tree.specs.ProgramViews.{decl_tree}
use Rattle.st_types.specs.Places.{decl_names}
use Rattle.st_types.proofs.Items.{from-item}
use Rattle.st_types.proofs.PlaceLaws.{among-here, after-here, here, later}
use Rattle.st_types.proofs.place.in_declarations.Goals as goal

pub each-preserved : goal.each-preserved
each-preserved c = λ rest.
    let all = decl_names (map decl_tree c.args.decls.now) in
    let others = decl_names (map decl_tree (drop (c.each.d-index + 1) c.args.decls.now)) in
    let e : drop c.each.d-index c.args.decls.now ≡ c.d-item.result ∷ drop (c.each.d-index + 1) c.args.decls.now =
    from-item _ _ _ c.each-test.true c.d-item.is in
    after-here all (decl_tree c.d-item.result).names others rest c.args.n c.each.left _
    (subst (λ xs. slice_get (decl_names (map decl_tree xs) ++ rest) c.each.left ≡ slice_get (all ++ rest) c.args.n) e
    (c.each.invariant rest))
    (later c.d-item.result.names.items.items c.each.left c.len-count.result c.len-count.ensures (grind arith))

pub returns-then-left-count-clause-ok : goal.returns-then-left-count-clause-ok
returns-then-left-count-clause-ok c = λ rest.
    let all = decl_names (map decl_tree c.args.decls.now) in
    let others = decl_names (map decl_tree (drop (c.each.d-index + 1) c.args.decls.now)) in
    let e : drop c.each.d-index c.args.decls.now ≡ c.d-item.result ∷ drop (c.each.d-index + 1) c.args.decls.now =
    from-item _ _ _ c.each-test.true c.d-item.is in
    among-here all (decl_tree c.d-item.result).names others rest c.args.n c.each.left c.at.result.now.spot
    (subst (λ xs. slice_get (decl_names (map decl_tree xs) ++ rest) c.each.left ≡ slice_get (all ++ rest) c.args.n) e
    (c.each.invariant rest)) (here c.d-item.result.names.items.items c.each.left c.at.result.now c.at.ensures)

pub returns-clause-err : goal.returns-clause-err
returns-clause-err c = λ rest.
    let e : drop c.each.d-index c.args.decls.now ≡ [] = drop_all _ _ c.each-test.false in
    sym (subst (λ xs. slice_get (decl_names (map decl_tree xs) ++ rest) c.each.left ≡ slice_get
    (decl_names (map decl_tree c.args.decls.now) ++ rest) c.args.n) e (c.each.invariant rest))
