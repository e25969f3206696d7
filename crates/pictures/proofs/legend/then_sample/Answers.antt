use Rattle.std.proofs.Common.{ap, ◌++◌}
use Rattle.vcp_outside.specs.Elements.{element_text}
use Rattle.pictures.specs.Elements.{swatch, caption}
use Rattle.pictures.proofs.Going.{one_drawn}
use Rattle.vcp_outside.specs.Pens.{and_then, same}
use Rattle.pictures.proofs.legend.then_sample.Goals as goal

pub returns : goal.returns
returns g c =
    let s = c.args.shown.now in
    same (and_then c.then_swatch-pen.ensures c.then_caption.ensures)
    (ap (λ t. element_text (swatch s.x s.class.now) ++ t) (one_drawn (caption s.x s.told.now s.many)))
