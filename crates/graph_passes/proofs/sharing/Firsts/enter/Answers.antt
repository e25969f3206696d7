use Rattle.std.proofs.Common.{◌∙◌}
use Rattle.graph_passes.proofs.WorkTable.{equal_work, work_tells, entered_in}
use Rattle.graph_passes.proofs.sharing.Firsts.enter.Goals as goal

pub returns : goal.returns
returns c = c.in_ok-insert.ensures.entries
    ∙ entered_in equal_work work_tells c.self.inside.firsts.entries c.args.self.now c.self.view_is c.args.work c.args.number c.requires
