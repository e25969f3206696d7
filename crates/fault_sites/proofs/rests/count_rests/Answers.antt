use Rattle.fault_sites.proofs.Rising.{groups_many}
use Rattle.fault_sites.proofs.rests.count_rests.Goals as goal

pub returns : goal.returns
returns c =
    groups_many c.args.graph.now c.args.cycles c.args.readings.now.going.groups c.args.readings.now.last.groups c.requires.readings.going.groups
    c.requires.readings.last.groups c.if-cycles-eq0.false
