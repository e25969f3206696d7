use Rattle.vcp_outside.specs.Elements.{given_text}
use Rattle.vcp_outside.specs.Pens.{one_more}
use Rattle.vcp_outside.proofs.svg.elements.then_attributes.Goals as goal

pub attributes-preserved : goal.attributes-preserved
attributes-preserved g c =
    one_more given_text c.args.attributes.now c.attributes.i _ c.attributes-test.true c.attributes.invariant c.then_attribute-pen.ensures
