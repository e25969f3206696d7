use Rattle.std.proofs.Common.{◌<◌, ◌^◌, arith}
use Rattle.pictures.proofs.Numbers.{digits_grow}
use Rattle.pictures.proofs.Rooms.{room_in}
use Rattle.pictures.proofs.Timed.{if_there}
use Rattle.pictures.proofs.waves.layout.every.Goals as goal

pub returns-clause-numbers : goal.returns-clause-numbers
returns-clause-numbers c = λ cycle less.
    let few : c.args.cycles < 2 ^ 64 = omega arith in
    let short = digits_grow cycle c.args.cycles (omega (arith, less)) few in
    let room = room_in c.text_width-wide.result c.args.cell c.round.result (omega arith) c.round.ensures in
    omega (arith, short, room, c.text_width-wide.ensures, c.longest_mark.ensures.numbers)

pub returns-clause-times : goal.returns-clause-times
returns-clause-times c =
    let room = room_in c.text_width-wide.result c.args.cell c.round.result (omega arith) c.round.ensures in
    if_there c.args.period
    (λ period short cycle less. let here = short cycle less in omega (arith, here, room, c.text_width-wide.ensures)) c.longest_mark.ensures.times
