use Rattle.std.proofs.Common.{[], length}
use Rattle.op_graph.specs.Rules.{InputFits, OutputFits, LoadFits, StoreFits, TurnNodeFits}
use Rattle.op_graph.proofs.Fitting.{operation_fits}
use Rattle.op_graph.proofs.OperandLaw.{each_at}
use Rattle.op_graph.proofs.laws.entries_keep_their_rules.Goals as goal

pub returns : goal.returns
returns c = record {
  input = λ g k v part there. each_at (InputFits (length g.names)) [] g.inputs k v part.inputs there;
  output = λ g k o part there. each_at (OutputFits (length g.names) (length g.operations)) [] g.outputs k o part.outputs there;
  load = λ g k l part there. each_at (LoadFits (length g.names) (length g.operations)) [] g.loads k l part.loads there;
  store = λ g k n part there. each_at (StoreFits g.loads (length g.operations)) [] g.stores k n part.stores there;
  turn_node = λ g k t part there. each_at (TurnNodeFits (length g.names)) [] g.turn_nodes k t part.turn_nodes there;
  operation = operation_fits;
}
