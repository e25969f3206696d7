use Rattle.vcp_study_core.proofs.list_text.have_same_graph.Goals as goal

pub returns-in-Ok-graph_of : goal.returns-in-Ok-graph_of
returns-in-Ok-graph_of c same = (c.in-Ok.graph, c.in-Ok-graph_of.beside, c.in-Ok.ensures, c.in-Ok-graph_of.ensures, c.same_but_for_places.ensures same)
