use Rattle.std.proofs.Common.{◌<◌, length}
use Rattle.pair_channel.proofs.Last.{stop_written}
use Rattle.pair_channel.proofs.run.print_end.Goals as goal

pub returns-in-Stopped : goal.returns-in-Stopped
returns-in-Stopped g c =
    let there : c.in-Stopped.op < length c.args.graph.now.operations = rw c.in-Stopped.is at c.requires in
    rw c.in-Stopped.is (stop_written c.args.graph.now c.args.cycles c.in-Stopped.kind _ _ _ _ _ c.in-Stopped.op there c.graph_stop_line.ensures)

pub returns-in-Released : goal.returns-in-Released
returns-in-Released g c = rw c.in-Released.is c.end_line.ensures

pub returns-in-Parted : goal.returns-in-Parted
returns-in-Parted g c = rw c.in-Parted.is c.parted_line.ensures
