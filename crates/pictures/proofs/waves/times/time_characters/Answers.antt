use Rattle.std.proofs.Common.{◌<◌, ◌^◌, arith}
use Rattle.pictures.specs.Times.{thousandths_at}
use Rattle.pictures.proofs.Timed.{no_longer}
use Rattle.pictures.proofs.waves.times.time_characters.Goals as goal

pub returns-clause-room : goal.returns-clause-room
returns-clause-room c = λ cycle less.
    let low : thousandths_at c.args.period c.args.cycles < 2 ^ 64 = omega (arith, c.thousandths.ensures) in
    let short = no_longer c.args.period cycle c.args.cycles less low in
    omega (arith, short, rw c.thousandths.ensures at c.digits_of.ensures.text)
