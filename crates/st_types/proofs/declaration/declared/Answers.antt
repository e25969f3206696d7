use Rattle.std.proofs.Common.{◌≡◌, map, subst}
use Rattle.st_tree.specs.ProgramViews.{block_tree}
use Rattle.st_types.specs.DeclTyping.{after_blocks, nothing_made}
use Rattle.st_types.specs.DeclSteps.{made_by, MakesAll}
use Rattle.st_types.specs.Full.{so-two}
use Rattle.st_types.proofs.DeclNodes.{two-walks}
use Rattle.st_types.proofs.declaration.declared.Goals as goal

pub returns : goal.returns
returns c =
    let bs = map block_tree c.args.blocks.now in
    so-two c.add_blocks.ensures c.inside_blocks.ensures (λ h k.
    let none = made_by (record { names = c.new.result; slots = c.new-2.result }) in
    let is : none ≡ nothing_made = λ i. record { entries = c.new.ensures i; slots = c.new-2.ensures i } in
    subst (λ m. MakesAll bs m (made_by c.add_blocks.new.made) c.args.noted.now.first c.inside_blocks.new.noted.first) is
    (two-walks c.args.noted.now.first c.add_blocks.new.noted.first c.inside_blocks.new.noted.first c.add_blocks.new.made.names none
    (made_by c.add_blocks.new.made) (after_blocks none bs) bs h k))
