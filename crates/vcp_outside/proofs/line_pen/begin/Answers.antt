use Rattle.vcp_outside.proofs.line_pen.begin.Goals as goal

pub returns : goal.returns
returns g c = c.numbered.ensures _ _ _ c.new.ensures
