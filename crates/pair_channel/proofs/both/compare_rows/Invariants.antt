use Rattle.std.proofs.Common.{◌≡◌, drop}
use Rattle.vcp_base.specs.Differences.{first_difference}
use Rattle.pair_channel.proofs.both.compare_rows.Given as goal

abbrev pub invariant-outputs : goal.invariant-outputs
invariant-outputs l = first_difference l.row l.other 0 ≡ first_difference (drop l.output l.row) (drop l.output l.other) l.output
