use Rattle.std.proofs.Common.{pos, negsuc, ◌≤ℤ◌, ◌^◌, arith}
use mir.Syntax.{w128}
use Rattle.coded_unit.proofs.Bits.{as_read}
use Rattle.coded_unit.proofs.Multiples.{number_fits}
use Rattle.std.proofs.lemmas.Int.{to_z-of_z}
use Rattle.coded_unit.proofs.table.long_answer.Goals as goal

pub returns-in-Ok : goal.returns-in-Ok
returns-in-Ok c = grind (arith, to_z-of_z)

pub returns-in-Err-Range : goal.returns-in-Err-Range
returns-in-Err-Range c = grind (arith, to_z-of_z)

pub returns-in-Err-DivZero : goal.returns-in-Err-DivZero
returns-in-Err-DivZero c = grind (arith, to_z-of_z)

pub returns-in-Err-Operand : goal.returns-in-Err-Operand
returns-in-Err-Operand c = grind (arith, to_z-of_z)

pub residue-requires : goal.residue-requires
residue-requires c = record { r = c.split-a.ensures.below; s = c.split-b.ensures.below; t = c.split-c.ensures.below; corr = c.requires }

pub packed-requires : goal.packed-requires
packed-requires c =
    let fits = number_fits c.in-Ok.v c.in-Ok.ensures.low c.in-Ok.ensures.high in
    record {
      low = as_read w128 (λ z. negsuc (2 ^ 63) ≤ℤ z) c.in-Ok.v fits c.in-Ok.ensures.low;
      high = as_read w128 (λ z. z ≤ℤ pos (2 ^ 63)) c.in-Ok.v fits c.in-Ok.ensures.high;
    }
