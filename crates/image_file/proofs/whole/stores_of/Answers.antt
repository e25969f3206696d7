use Rattle.std.proofs.Common.{◌∙◌, refl, ap, map, take_all}
use Rattle.image_file.specs.Image.{store_of}
use Rattle.image_file.proofs.Chains.{stays, and_then}
use Rattle.image_file.proofs.Loop.{one_mapped}
use Rattle.image_file.proofs.whole.stores_of.Goals as goal

pub cells-init : goal.cells-init
cells-init c = (stays refl, λ o. c.new-stores.ensures.items)

pub cells-preserved : goal.cells-preserved
cells-preserved c = (
  and_then c.cells.invariant.0 c.push.ensures.keeps,
  λ o. one_mapped store_of c.args.cells.now c.cells.i _ c.cells-test.true refl
      (c.cells.invariant.1 (c.push.ensures.keeps.before o)) (c.push.ensures.pushed o),
)

pub returns-clause-keeps : goal.returns-clause-keeps
returns-clause-keeps c = c.cells.invariant.0

pub returns-clause-stores : goal.returns-clause-stores
returns-clause-stores c = λ o. c.cells.invariant.1 o ∙ ap (map store_of) (take_all c.cells.i c.args.cells.now c.cells-test.false)
