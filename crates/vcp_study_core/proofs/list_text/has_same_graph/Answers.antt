use Rattle.std.proofs.Common.{[]}
use Rattle.vcp_study_core.proofs.ListTexts.{same_graph_of}
use Rattle.vcp_study_core.proofs.list_text.has_same_graph.Goals as goal

pub returns-in-Ok : goal.returns-in-Ok
returns-in-Ok c = same_graph_of c.args.program.now c.args.text.now c.in-Ok.other c.have_same_graph.result (c.in-Ok.ensures.loads [] 0) c.have_same_graph.ensures
