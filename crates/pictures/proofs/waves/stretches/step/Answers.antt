use Rattle.pictures.proofs.StretchEnds.{no_step, one_step, other_step}
use Rattle.pictures.proofs.waves.stretches.step.Goals as goal

pub returns-then-next-behind : goal.returns-then-next-behind
returns-then-next-behind c =
    one_step c.args.run.now c.args.column c.args.cycle c.cycles-cycles.result c.change-next.result c.change-behind.result
    (record { sfits = c.change-next.type_inv }) (record { sfits = c.change-behind.type_inv }) c.cycles-cycles.ensures.count c.if-cycle-cycles.true
    c.change-next.ensures.value c.change-behind.ensures.value c.if-next-behind.true

pub returns-else-next-behind : goal.returns-else-next-behind
returns-else-next-behind c =
    other_step c.args.run.now c.args.column c.args.cycle c.cycles-cycles.result c.change-next.result c.change-behind.result
    c.cycles-cycles.ensures.count c.if-cycle-cycles.true c.change-next.ensures.value c.change-behind.ensures.value c.if-next-behind.false

pub returns-else-cycle-cycles : goal.returns-else-cycle-cycles
returns-else-cycle-cycles c =
    no_step c.args.run.now c.args.column c.args.cycle c.cycles-cycles.result c.cycles-cycles.ensures.count c.if-cycle-cycles.false
