use Rattle.std.proofs.Common.{w64, arith}
use Rattle.std.proofs.lemmas.Int.{to_z-of_z}
use Rattle.coded_unit.specs.Words.{Short}
use Rattle.coded_unit.proofs.Bits.{as_read}
use Rattle.coded_unit.proofs.Totals.{factor_read, share_read}
use Rattle.coded_unit.proofs.table.narrow_residue.Goals as goal

pub short_scaled-first-requires : goal.short_scaled-first-requires
short_scaled-first-requires c =
    let ends = factor_read c.multiplier.result record { sfits = c.multiplier.type_inv } c.multiplier.ensures.low c.multiplier.ensures.high in
    record { low = ends.0; high = ends.1 }

pub short_scaled-second-requires : goal.short_scaled-second-requires
short_scaled-second-requires c =
    let ends = factor_read c.multiplier-2.result record { sfits = c.multiplier-2.type_inv } c.multiplier-2.ensures.low c.multiplier-2.ensures.high in
    record { low = ends.0; high = ends.1 }

pub short_scaled-third-requires : goal.short_scaled-third-requires
short_scaled-third-requires c =
    let ends = factor_read c.multiplier-3.result record { sfits = c.multiplier-3.type_inv } c.multiplier-3.ensures.low c.multiplier-3.ensures.high in
    record { low = ends.0; high = ends.1 }

pub short_scaled-share-requires : goal.short_scaled-share-requires
short_scaled-share-requires c =
    let ends = share_read c.stamp_share.result record { sfits = c.stamp_share.type_inv } c.stamp_share.ensures.low c.stamp_share.ensures.high in
    record { low = ends.0; high = ends.1 }

pub short_total-requires : goal.short_total-requires
short_total-requires c = record {
  first = as_read w64 Short c.short_scaled-first.result record { sfits = c.short_scaled-first.type_inv } c.short_scaled-first.ensures.small;
  second = as_read w64 Short c.short_scaled-second.result record { sfits = c.short_scaled-second.type_inv } c.short_scaled-second.ensures.small;
  third = as_read w64 Short c.short_scaled-third.result record { sfits = c.short_scaled-third.type_inv } c.short_scaled-third.ensures.small;
  share = as_read w64 Short c.short_scaled-share.result record { sfits = c.short_scaled-share.type_inv } c.short_scaled-share.ensures.small;
}

pub returns-clause-value : goal.returns-clause-value
returns-clause-value c = grind (arith, to_z-of_z)
