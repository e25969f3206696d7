use Rattle.std.proofs.Common.{codes, append_assoc}
use Rattle.vcp_outside.specs.Pens.{gathered}
use Rattle.vcp_outside.proofs.svg.elements.end_picture.Goals as goal

pub returns : goal.returns
returns g c sink name text is =
    rw (append_assoc text (codes "</svg>") (codes "\n")) at (c.end.ensures.writes _ _ _ (c.text.ensures.gathers _ _ _ (gathered is)))
