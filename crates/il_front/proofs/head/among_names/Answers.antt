use Rattle.std.proofs.Common.{◌≡◌, ◌+◌, ◌∷◌, drop, map, ap, ◌∙◌, arith}
use Rattle.std.proofs.lemmas.Grind.{common_steps}
use Rattle.st_tree.specs.ProgramViews.{declared_tree}
use Rattle.il_front.specs.TypedForm.{is_reserved}
use Rattle.il_front.proofs.HeadLaws.{names-step, names-found}
use Rattle.il_front.proofs.head.among_names.Goals as goal

pub returns-then-is_reserved : goal.returns-then-is_reserved
returns-then-is_reserved c =
    let ds = c.args.names.now in
    let i = c.each.d-index in
    let e : drop i ds ≡ c.d-item.result ∷ drop (i + 1) ds = grind (arith, common_steps) in
    names-found (map declared_tree (drop i ds)) (map declared_tree (drop (i + 1) ds)) (declared_tree c.d-item.result) c.is_reserved.result
    (ap (map declared_tree) e) (c.is_reserved.ensures ∙ ap is_reserved c.bytes.ensures) c.if-is_reserved.true
    ∙ c.each.invariant

pub each-preserved : goal.each-preserved
each-preserved c =
    let ds = c.args.names.now in
    let i = c.each.d-index in
    let e : drop i ds ≡ c.d-item.result ∷ drop (i + 1) ds = grind (arith, common_steps) in
    names-step (map declared_tree (drop i ds)) (map declared_tree (drop (i + 1) ds)) (declared_tree c.d-item.result) c.is_reserved.result
    (ap (map declared_tree) e) (c.is_reserved.ensures ∙ ap is_reserved c.bytes.ensures) c.if-is_reserved.false
    ∙ c.each.invariant
