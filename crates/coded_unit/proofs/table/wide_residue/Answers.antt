use Rattle.std.proofs.Common.{arith, pos, negsuc, ◌≤ℤ◌, ◌^◌}
use mir.Syntax.{w128}
use Rattle.std.proofs.lemmas.Int.{to_z-of_z}
use Rattle.coded_unit.specs.Words.{Small}
use Rattle.coded_unit.proofs.Bits.{as_read}
use Rattle.coded_unit.proofs.Totals.{factor_read, share_read}
use Rattle.coded_unit.proofs.table.wide_residue.Goals as goal

pub scaled-first-requires : goal.scaled-first-requires
scaled-first-requires c =
    let ends = factor_read c.multiplier.result record { sfits = c.multiplier.type_inv } c.multiplier.ensures.low c.multiplier.ensures.high in
    record { low = ends.0; high = ends.1 }

pub scaled-second-requires : goal.scaled-second-requires
scaled-second-requires c =
    let ends = factor_read c.multiplier-2.result record { sfits = c.multiplier-2.type_inv } c.multiplier-2.ensures.low c.multiplier-2.ensures.high in
    record { low = ends.0; high = ends.1 }

pub scaled-third-requires : goal.scaled-third-requires
scaled-third-requires c =
    let ends = factor_read c.multiplier-3.result record { sfits = c.multiplier-3.type_inv } c.multiplier-3.ensures.low c.multiplier-3.ensures.high in
    record { low = ends.0; high = ends.1 }

pub scaled-share-requires : goal.scaled-share-requires
scaled-share-requires c =
    let ends = share_read c.stamp_share.result record { sfits = c.stamp_share.type_inv } c.stamp_share.ensures.low c.stamp_share.ensures.high in
    record { low = ends.0; high = ends.1 }

pub total-requires : goal.total-requires
total-requires c = record {
  first = as_read w128 Small c.scaled-first.result record { sfits = c.scaled-first.type_inv } c.scaled-first.ensures.small;
  second = as_read w128 Small c.scaled-second.result record { sfits = c.scaled-second.type_inv } c.scaled-second.ensures.small;
  third = as_read w128 Small c.scaled-third.result record { sfits = c.scaled-third.type_inv } c.scaled-third.ensures.small;
  share = as_read w128 Small c.scaled-share.result record { sfits = c.scaled-share.type_inv } c.scaled-share.ensures.small;
}

pub wide_remainder-requires : goal.wide_remainder-requires
wide_remainder-requires c = record {
  low = as_read w128 (λ z. negsuc (2 ^ 75) ≤ℤ z) c.total.result record { sfits = c.total.type_inv } c.total.ensures.low;
  high = as_read w128 (λ z. z ≤ℤ pos (2 ^ 75)) c.total.result record { sfits = c.total.type_inv } c.total.ensures.high;
}

pub returns-clause-value : goal.returns-clause-value
returns-clause-value c = grind (arith, to_z-of_z)
