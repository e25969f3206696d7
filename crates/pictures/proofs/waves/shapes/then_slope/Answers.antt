use Rattle.pictures.proofs.waves.shapes.then_slope.Goals as goal

pub returns : goal.returns
returns g c = rw (c.start.ensures.begin, c.start-2.ensures.begin) at c.then_element.ensures
