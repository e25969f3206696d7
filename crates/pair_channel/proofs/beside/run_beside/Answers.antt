use Rattle.pair_channel.proofs.Done.{Fair}
use Rattle.pair_channel.proofs.Processor.{runs_beside}
use Rattle.pair_channel.proofs.beside.run_beside.Goals as goal

pub returns-clause-ran : goal.returns-clause-ran
returns-clause-ran g c =
    let fair : Fair c.args.graph.now c.args.table.now c.args.other.now (g.S.RowReader.left c.args.rows.now) = record {
      graph = c.len-rules.ensures.rules;
      first = c.step-step.ensures.ranges;
      second = c.step-other.ensures.ranges;
      few = c.requires.few;
    } in
    runs_beside c.one_honest_channel_holds_the_pair.ensures c.args.graph.now c.args.table.now c.args.other.now (g.S.RowReader.left c.args.rows.now) fair _ _ _ _
    c.run_pair.result c.run_pair.ensures.ran
