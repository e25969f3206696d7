use Rattle.std.proofs.Common.{rules, w64}
use mir.Val.{SFits}
use Rattle.std.proofs.Math.Facts.{to_z-of_z}
use Rattle.fault_injector.proofs.lines.then_verdict.Goals as goal

pub output_name-requires : goal.output_name-requires
output_name-requires g c = rw c.in-Wrong.is at c.requires

pub output_name-requires-in-Refused : goal.output_name-requires-in-Refused
output_name-requires-in-Refused g c = rw c.in-Refused.is at c.requires

pub then_stopped-requires : goal.then_stopped-requires
then_stopped-requires g c = rw c.in-Stopped.is at c.requires

pub returns-in-Same : goal.returns-in-Same
returns-in-Same g c = rw c.in-Same.is c.text.ensures

pub returns-in-Wrong : goal.returns-in-Wrong
returns-in-Wrong g c =
    let got : SFits w64 c.in-Wrong.got = search rules in
    let want : SFits w64 c.in-Wrong.want = search rules in
    let told = rw (c.output_name.ensures, to_z-of_z {w = w64} {z = c.in-Wrong.got} got, to_z-of_z {w = w64} {z = c.in-Wrong.want} want) at c.then_wrong.ensures in
    rw c.in-Wrong.is told

pub returns-in-RanOn : goal.returns-in-RanOn
returns-in-RanOn g c = rw c.in-RanOn.is c.numbered.ensures

pub returns-in-Refused : goal.returns-in-Refused
returns-in-Refused g c = rw c.in-Refused.is (rw c.output_name-in-Refused.ensures at c.then_refused.ensures)

pub returns-in-Stopped : goal.returns-in-Stopped
returns-in-Stopped g c = rw c.in-Stopped.is c.then_stopped.ensures
