use Rattle.std.proofs.Common.{rules, w64}
use mir.Val.{SFits}
use Rattle.std.proofs.Math.Facts.{to_z-of_z}
use Rattle.run_report.proofs.operations.then_own_number.Goals as goal

pub returns-in-Input : goal.returns-in-Input
returns-in-Input g c =
    let fits : SFits w64 c.args.imm = search rules in rw c.in-Input.is (rw (to_z-of_z {w = w64} {z = c.args.imm} fits) at c.then_own.ensures)

pub returns-in-Const : goal.returns-in-Const
returns-in-Const g c =
    let fits : SFits w64 c.args.imm = search rules in rw c.in-Const.is (rw (to_z-of_z {w = w64} {z = c.args.imm} fits) at c.then_own-in-Const.ensures)

pub returns-in-Out : goal.returns-in-Out
returns-in-Out g c =
    let fits : SFits w64 c.args.imm = search rules in rw c.in-Out.is (rw (to_z-of_z {w = w64} {z = c.args.imm} fits) at c.then_own-in-Out.ensures)
