use Rattle.std.proofs.Common.{◌<◌, ◌≤◌, ◌*◌, arith}
use Rattle.std.proofs.Math.Nat.{div-mul-le_self, le-div_iff_mul-le}
use Rattle.pictures.proofs.Timed.{if_there}
use Rattle.pictures.proofs.waves.layout.layout_for.Goals as goal

pub returns : goal.returns
returns c =
    let cell = c.max-cell.result in
    let some : 0 < cell = omega (arith, c.max-cell.ensures, c.wanted.ensures.some) in
    let short : 1 * cell ≤ 1000 = omega (arith, c.max-cell.ensures, c.wanted.ensures.few, c.widest-widest.ensures.few) in
    let page = (le-div_iff_mul-le some).1 short in
    record {
      room = record {
        values = c.widest-widest.ensures.room cell (omega (arith, c.max-cell.ensures));
        marked = c.every.ensures.some;
        numbers = λ cycle less. c.every.ensures.numbers cycle (omega (arith, less, c.cycles-cycles.ensures.count));
        times = if_there c.args.period (λ period short cycle less. short cycle (omega (arith, less, c.cycles-cycles.ensures.count))) c.every.ensures.times;
        paged = omega (arith, page);
        names = div-mul-le_self 1000 cell;
      };
      every = c.every.ensures.some;
      page = omega (arith, page);
    }
