use Rattle.std.proofs.Common.{◌≡◌, arith}
use Rattle.fault_sites.specs.Sites.{sites_in}
use Rattle.fault_sites.proofs.Going.{tells_none, sites_more}
use Rattle.fault_sites.proofs.writing.then_class.Goals as goal

pub cycles-init : goal.cycles-init
cycles-init g c = tells_none

pub cycles-preserved : goal.cycles-preserved
cycles-preserved g c =
    sites_more (λ n. sites_in c.args.class c.args.graph.now n) c.cycles.n c.cycles.invariant c.then_cycle_or_pass-told.ensures

pub returns : goal.returns
returns g c =
    let all : c.cycles.n ≡ c.args.cycles = omega arith in rw all at c.cycles.invariant
