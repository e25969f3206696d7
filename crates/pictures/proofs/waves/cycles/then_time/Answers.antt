use Rattle.pictures.specs.WavesElements.{time_element}
use Rattle.pictures.proofs.WavesGoing.{one_drawn}
use Rattle.pictures.proofs.waves.cycles.then_time.Goals as goal

pub returns-in-Some : goal.returns-in-Some
returns-in-Some g c =
    let told = rw (c.start.ensures.begin, c.top.ensures, c.thousandths-time.ensures, c.drawn_in.ensures) at c.then_text.ensures in
    rw c.in-Some.is (one_drawn (time_element c.args.layout c.args.columns c.in-Some.period c.args.cycle) told)
