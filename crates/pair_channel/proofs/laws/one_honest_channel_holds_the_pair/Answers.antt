use Rattle.std.proofs.Common.{arith, refl}
use Rattle.op_graph.specs.GraphRun.{initial, graph_run}
use Rattle.coded_machine.specs.CycleEnds.{initial_words}
use Rattle.pair_channel.specs.PairRuns.{pair_over}
use Rattle.pair_channel.proofs.Channels.{front_first, front_second, all_beside, graph_beside, honest_agree, whole_of}
use Rattle.pair_channel.proofs.laws.one_honest_channel_holds_the_pair.Goals as goal

pub returns : goal.returns
returns c =
    let law = c.right_answers_stand_for_values.ensures.cycle in
    let cells = c.right_answers_stand_for_values.ensures.cells_at_first in
    record {
      first = λ g t u rows ours theirs graph table many all right.
          front_first law g t u 0 rows ours theirs (initial_words g t.seed) (initial g) graph table
          (cells g t.seed t.step graph) (omega (arith, many)) all right;
      second = λ g t u rows ours theirs graph table many all right.
          front_second law g t u 0 rows ours theirs (initial_words g u.seed) (initial g) graph table
          (cells g u.seed u.step graph) (omega (arith, many)) all right;
      beside_graph = λ g t u rows ours theirs graph table many all right.
          graph_beside law g t u 0 rows ours theirs (initial_words g u.seed) (initial g) graph table
          (cells g u.seed u.step graph) (omega (arith, many)) all right;
      all_beside = λ g t u rows ours theirs graph table many all right.
          all_beside law g t u 0 rows ours theirs (initial_words g u.seed) (initial g) graph table
          (cells g u.seed u.step graph) (omega (arith, many)) all right;
      both_honest = λ g t u rows ours theirs graph one two many all right too.
          whole_of (pair_over g t u 0 ours theirs) (graph_run g rows) (pair_over g t u 0 ours theirs).end refl
          (honest_agree law g t u 0 rows ours theirs (initial_words g t.seed) (initial_words g u.seed) (initial g) graph one two (cells g t.seed t.step graph)
          (cells g u.seed u.step graph) (omega (arith, many)) all right too)
          (front_first law g t u 0 rows ours theirs (initial_words g t.seed) (initial g) graph one
          (cells g t.seed t.step graph) (omega (arith, many)) all right);
    }
