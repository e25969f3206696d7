use Rattle.std.proofs.Common.{ap}
use Rattle.fault_sites.specs.declared.class.Classes.{Classes}
use Rattle.fault_sites.specs.Sites.{sites}
use Rattle.fault_sites.proofs.Going.{tells_both, tells_same}
use Rattle.fault_sites.proofs.writing.then_sites.Goals as goal

pub returns-in-All : goal.returns-in-All
returns-in-All g c =
    tells_same
    (tells_both c.then_class-told.ensures (tells_both c.then_class-told-in-All.ensures (tells_both c.then_class-told-in-All-2.ensures
    (tells_both c.then_class-told-in-All-3.ensures c.then_class-in-All.ensures))))
    (ap (λ (d : Classes). sites d c.args.graph.now c.args.cycles) c.in-All.is)
