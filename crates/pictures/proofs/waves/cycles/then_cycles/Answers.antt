use Rattle.std.proofs.Common.{◌≡◌, length, arith}
use Rattle.pictures.specs.WavesElements.{cycle_elements}
use Rattle.pictures.proofs.WavesGoing.{text_more}
use Rattle.vcp_outside.specs.Pens.{unmoved, and_then, same}
use Rattle.pictures.proofs.waves.cycles.then_cycles.Goals as goal

pub cycles-init : goal.cycles-init
cycles-init g c = unmoved

pub cycles-preserved : goal.cycles-preserved
cycles-preserved g c = same (and_then c.cycles.invariant c.then_cycle-pen.ensures) (text_more (cycle_elements c.args.layout c.args.run.now c.args.period) c.cycles.cycle)

pub returns : goal.returns
returns g c =
    let all : c.cycles.cycle ≡ length c.args.run.now.rows = omega arith in
    rw all at c.cycles.invariant
