use Rattle.std.proofs.Common.{w64}
use mir.Val.{SFits}
use Rattle.std.proofs.Common.{rules}
use Rattle.std.proofs.Math.Facts.{to_z-of_z}
use Rattle.vcp_outside.specs.Pens.{unmoved, and_then}
use Rattle.fault_sites.proofs.lines.then_rest.Goals as goal

pub returns-in-OperandAdd : goal.returns-in-OperandAdd
returns-in-OperandAdd g c =
    let fits : SFits w64 c.in-OperandAdd.e = search rules in
    let value = rw (to_z-of_z {w = w64} {z = c.in-OperandAdd.e} fits) at c.signed.ensures in
    rw c.in-OperandAdd.is (and_then c.numbered.ensures value)

pub returns-in-OperandFrom : goal.returns-in-OperandFrom
returns-in-OperandFrom g c =
    rw c.in-OperandFrom.is (and_then c.numbered-in-OperandFrom.ensures c.numbered-in-OperandFrom-2.ensures)

pub returns-in-OperandStale : goal.returns-in-OperandStale
returns-in-OperandStale g c = rw c.in-OperandStale.is (and_then c.numbered-in-OperandStale.ensures c.text.ensures)

pub returns-in-ResultAdd : goal.returns-in-ResultAdd
returns-in-ResultAdd g c =
    let fits : SFits w64 c.in-ResultAdd.e = search rules in
    rw c.in-ResultAdd.is (rw (to_z-of_z {w = w64} {z = c.in-ResultAdd.e} fits) at c.signed-in-ResultAdd.ensures)

pub returns-in-Operator : goal.returns-in-Operator
returns-in-Operator g c = rw (c.in-Operator.is, ← c.kind_name.ensures) c.texts.ensures

pub returns-in-Skip : goal.returns-in-Skip
returns-in-Skip g c = rw c.in-Skip.is unmoved
