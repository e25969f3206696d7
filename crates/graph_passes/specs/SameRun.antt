-- SameRun: two graphs whose runs report the same.
use Rattle.std.specs.Prelude.{◌≡◌, ◌≤◌, ℤ, List, length, map, slice_get, Option, Some, None}
use Rattle.op_graph.specs.declared.op.Op.{Op}
use Rattle.op_graph.specs.Lists.{Lists, output_column}
use Rattle.op_graph.specs.Rules.{IsGraph}
use Rattle.op_graph.specs.GraphRun.{Stop, graph_run}
use Rattle.graph_passes.specs.Part.{Numbering, part_of, IsClosed}

-- two operations stand for one place in the source, in one turn
abbrev pub SamePlace : Option Op → Option Op → Type 0
SamePlace None None = ⊥
SamePlace None (Some q) = ⊥
SamePlace (Some p) None = ⊥
SamePlace (Some p) (Some q) = (p.spot ≡ q.spot) × (p.turn ≡ q.turn)

-- both runs went on to the end of the rows, or both stopped for one reason, at one place in the source and in one turn
abbrev pub SameEnd : Lists → Lists → Option Stop → Option Stop → Type 0
SameEnd g h None None = Unit {0}
SameEnd g h None (Some t) = ⊥
SameEnd g h (Some s) None = ⊥
SameEnd g h (Some s) (Some t) = (s.kind ≡ t.kind) × SamePlace (slice_get g.operations s.op) (slice_get h.operations t.op)

-- over these rows of inputs both graphs give the same rows of outputs and the same end
pub record SameRun (g h : Lists) (rows : List (List ℤ)) : Type 0 where
  pub outputs : (graph_run g rows).rows ≡ (graph_run h rows).rows
  pub end : SameEnd g h (graph_run g rows).end (graph_run h rows).end

-- Graph h has the code, names, inputs, turn nodes and output columns of g, no more operations, and the same run over all rows.
pub record MeansAs (g h : Lists) : Type 0 where
  pub profile : h.profile ≡ g.profile
  pub names : h.names ≡ g.names
  pub inputs : h.inputs ≡ g.inputs
  pub columns : map (output_column h.names) h.outputs ≡ map (output_column g.names) g.outputs
  pub turn_nodes : h.turn_nodes ≡ g.turn_nodes
  pub no_more : length h.operations ≤ length g.operations
  pub runs : (rows : List (List ℤ)) → SameRun g h rows

-- The law of renumbering: a part of a graph, closed under what is read, means the same.
abbrev pub RenumberingLaw : Type 0
RenumberingLaw = (m : Numbering) (g : Lists) → IsGraph g → IsClosed m g → MeansAs g (part_of m g)
