use Rattle.std.proofs.Common.{◌≡◌, ◌+◌, drop, map, [], ◌∷◌, subst, sym}
use Rattle.std.proofs.lemmas.List.{drop_all}
use Rattle.st_tree.specs.ProgramViews.{declared_tree}
use Rattle.st_types.specs.DeclTyping.{value_or_zero}
use Rattle.st_types.specs.DeclSteps.{made_by, MakesNames}
use Rattle.st_types.specs.Full.{not-full, so-two}
use Rattle.st_types.proofs.Items.{from-item}
use Rattle.st_types.proofs.DeclNodes.{no-names, one-name}
use Rattle.st_types.proofs.declaration.add_names.Goals as goal

pub each-preserved : goal.each-preserved
each-preserved c =
    let k = c.args.kind in
    let e : drop c.each.d-index c.args.names.now ≡ c.d-item.result ∷ drop (c.each.d-index + 1) c.args.names.now =
    from-item _ _ _ c.each-test.true c.d-item.is in
    λ n end h. c.each.invariant n end (so-two c.add_name.ensures h (λ here rest.
    subst (λ ds. MakesNames k.section k.ty k.init (map declared_tree ds) (made_by c.each.made) n c.each.noted.first end.first) (sym e)
    (one-name k.section k.ty (value_or_zero k.init) k.init (declared_tree c.d-item.result) (map declared_tree (drop (c.each.d-index + 1) c.args.names.now))
    (made_by c.each.made) (made_by c.add_name.new.made) n c.each.noted.first c.add_name.new.noted.first c.note_misfit.new.first end.first
    here.notes here.gives c.note_misfit.ensures rest)))

pub returns : goal.returns
returns c =
    let k = c.args.kind in
    let e : drop c.each.d-index c.args.names.now ≡ [] = drop_all _ _ c.each-test.false in
    c.each.invariant (made_by c.each.made) c.each.noted (not-full
    (subst (λ ds. MakesNames k.section k.ty k.init (map declared_tree ds) (made_by c.each.made) (made_by c.each.made) c.each.noted.first c.each.noted.first)
    (sym e)
    (no-names k.section k.ty (value_or_zero k.init) k.init (made_by c.each.made) c.each.noted.first)))
