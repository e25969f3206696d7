use Rattle.std.proofs.Common.{◌≡◌, refl, arith}
use Rattle.fault_sites.specs.NamedScript.{cycles_of}
use Rattle.fault_sites.proofs.NamedGoing.{one_more}
use Rattle.vcp_outside.specs.Pens.{unmoved, and_then, same}
use Rattle.fault_sites.proofs.named.writing.then_act.Goals as goal

pub cycles-init : goal.cycles-init
cycles-init g c = unmoved

pub cycles-preserved : goal.cycles-preserved
cycles-preserved g c = same (and_then c.cycles.invariant (and_then c.then_site.ensures c.text-pen.ensures)) (one_more c.args.k c.args.act c.args.span.first c.cycles.i _ refl)

pub returns : goal.returns
returns g c =
    let all : c.cycles.i ≡ cycles_of c.args.span = omega (arith, c.cycles-test.false, c.cycles.auto.i-end, c.cycles-i-end.ensures.count) in
    rw all at c.cycles.invariant
