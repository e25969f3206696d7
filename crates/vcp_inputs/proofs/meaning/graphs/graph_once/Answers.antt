use Rattle.vcp_inputs.proofs.Reduced.{stands_for}
use Rattle.vcp_inputs.proofs.meaning.graphs.graph_once.Goals as goal

pub returns-in-Ok-reduce : goal.returns-in-Ok-reduce
returns-in-Ok-reduce c =
    stands_for c.in-Ok.flat c.in-Ok-reduce.graph c.in-Ok-reduce.ensures.means c.args.program.now c.in-Ok.ensures.means c.in-Ok.ensures.few
    c.len-rules.ensures.rules c.in-Ok-reduce.ensures.reduced
