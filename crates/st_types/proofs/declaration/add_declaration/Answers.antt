use Rattle.std.proofs.Common.{map, subst}
use Rattle.st_tree.specs.ProgramViews.{declared_tree, decl_tree}
use Rattle.st_types.specs.DeclSteps.{made_by, MakesNames}
use Rattle.st_types.specs.Full.{so}
use Rattle.st_types.proofs.DeclNodes.{one-init}
use Rattle.st_types.proofs.declaration.add_declaration.Goals as goal

pub returns : goal.returns
returns c = so c.add_names.ensures (λ h.
    one-init c.args.section (decl_tree c.args.d.now) (made_by c.args.made.now)
    (made_by c.add_names.new.made) c.args.noted.now.first c.initial_or_none-init.new.first c.add_names.new.noted.first c.initial_or_none-init.result
    c.initial_or_none-init.ensures
    (subst (λ xs. MakesNames c.args.section c.args.d.now.ty c.initial_or_none-init.result (map declared_tree xs) (made_by c.args.made.now)
    (made_by c.add_names.new.made) c.initial_or_none-init.new.first c.add_names.new.noted.first) c.deref.ensures.value h))
