use Rattle.std.proofs.Common.{◌≡◌, length}
use Rattle.pair_channel.specs.PairLaws.{PairRunLaws}
use Rattle.pair_channel.specs.PairMoments.{pair_moment}
use Rattle.pair_channel.proofs.UpTo.{UpTo}
use Rattle.pair_channel.proofs.run.run_rows.Given as goal

abbrev pub invariant-cycles : goal.invariant-cycles
invariant-cycles g l = record {
  laws : PairRunLaws;
  inputs : length l.inputs ≡ length (g.S.RowReader.left l.rows).types;
  outputs : length l.outputs ≡ length l.graph.outputs;
  so_far :
      UpTo l.graph l.fn.pair.first.table l.fn.pair.second.table (g.S.RowReader.left l.fn.rows) (g.S.RowReader.left l.rows)
      (pair_moment (g.U.Unit.seen l.fn.first) (g.V.Unit.seen l.fn.second) (g.O.Sink.seen l.fn.out))
      (pair_moment (g.U.Unit.seen l.first) (g.V.Unit.seen l.second) (g.O.Sink.seen l.out)) l.pair;
}

abbrev pub decreases-cycles : goal.decreases-cycles
decreases-cycles g l = length (g.S.RowReader.left l.rows).rows
