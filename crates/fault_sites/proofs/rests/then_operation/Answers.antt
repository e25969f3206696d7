use Rattle.std.proofs.Common.{sym, ◌∙◌}
use Rattle.fault_sites.proofs.GroupsGoing.{groups_at_is}
use Rattle.fault_sites.proofs.Spending.{spends_same}
use Rattle.fault_sites.proofs.rests.then_operation.Goals as goal

pub returns : goal.returns
returns g c =
    spends_same c.then_groups_by.ensures
    (groups_at_is c.args.graph.now c.args.more c.args.n c.args.k c.operation-op.result c.word_at.result.now c.operation-op.ensures
    (sym c.is_out.ensures ∙ c.if-is_out.false) (c.requires.readings.each c.args.k c.word_at.result.now c.word_at.ensures))
