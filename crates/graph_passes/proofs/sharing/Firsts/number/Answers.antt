use Rattle.std.proofs.Common.{◌∙◌}
use Rattle.graph_passes.proofs.WorkTable.{equal_work, work_tells, found_in, absent_in}
use Rattle.graph_passes.proofs.sharing.Firsts.number.Goals as goal

pub returns : goal.returns
returns c =
    let entries = c.self.inside.firsts.entries in
    let is = c.copied.ensures ∙ c.get.ensures.value in
    record {
      found = found_in equal_work work_tells entries c.args.self.now c.self.view_is c.args.work.now c.copied.result is;
      none = absent_in equal_work work_tells entries c.args.self.now c.self.view_is c.args.work.now c.copied.result is;
    }
