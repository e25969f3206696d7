-- Reduced: a reduced graph in the place of the one that means the program.
use Rattle.std.proofs.Common.{◌≡◌, ◌≤◌, refl, sym, ap, ◌∙◌, arith, ℤ, List, length, slice_get, Option, None, Some}
use Rattle.vcp_base.specs.Code.{is_wide}
use Rattle.vcp_base.specs.Stops.{ToldStop}
use Rattle.vcp_base.specs.declared.kind.StopKind.{StopKind}
use Rattle.op_graph.specs.declared.op.Op.{Op}
use Rattle.op_graph.specs.GraphRun.{graph_run, Stop as Halt}
use Rattle.op_graph.specs.Lists.{Lists}
use Rattle.op_graph.specs.Rules.{IsGraph}
use Rattle.graph_passes.specs.Reduced.{IsReduced}
use Rattle.graph_passes.specs.SameRun.{MeansAs, SameEnd, SamePlace}
use Rattle.flat_expr.specs.Told.{Means, Told, graph_end, halted_at, told_graph}
use Rattle.vcp_typed.specs.Size.{size}
use Rattle.vcp_typed.specs.SourceRun.{Program}
use Rattle.vcp_inputs.specs.GraphsOf.{StandsFor}

abbrev told : List (List ℤ) → Option ToldStop → Told
told rows end = record { rows = rows; end = end }

module _ (g h : Lists) (same : MeansAs g h) where
  -- a stop at one place in the source and in one turn is told the same
  halted_same : (a b : StopKind) → a ≡ b → (o q : Option Op) → SamePlace o q → halted_at g a o ≡ halted_at h b q
  halted_same a b kinds None None place = absurd place
  halted_same a b kinds None (Some q) place = absurd place
  halted_same a b kinds (Some o) None place = absurd place
  halted_same a b kinds (Some o) (Some q) (spot, turn) = rw (same.names, same.turn_nodes, kinds, spot, turn) refl

  end_same : (o q : Option Halt) → SameEnd g h o q → graph_end g o ≡ graph_end h q
  end_same None None e = refl
  end_same None (Some t) e = absurd e
  end_same (Some s) None e = absurd e
  end_same (Some s) (Some t) (kinds, place) = halted_same s.kind t.kind kinds (slice_get g.operations s.op) (slice_get h.operations t.op) place

  told_same : (rows : List (List ℤ)) → told_graph h rows ≡ told_graph g rows
  told_same rows =
      let run = same.runs rows in
      let outputs : (graph_run g rows).rows ≡ (graph_run h rows).rows = run.outputs in
      let end : graph_end g (graph_run g rows).end ≡ graph_end h (graph_run h rows).end = end_same _ _ run.end in
      sym (ap (λ (r : List (List ℤ)). told r (graph_end g (graph_run g rows).end)) outputs ∙ ap (told (graph_run h rows).rows) end)

  -- what means as another graph means the program that the other means
  still_means : (p : Program) → Means g p → Means h p
  still_means p means = record {
    code = ap is_wide same.profile ∙ means.code;
    inputs = rw (same.names, same.inputs) means.inputs;
    outputs = same.columns ∙ means.outputs;
    runs = λ rows fit. told_same rows ∙ means.runs rows fit;
  }

  -- and stands for it
  pub stands_for : (p : Program) → Means g p → length g.operations ≤ size p → IsGraph h → IsReduced h → StandsFor p h
  stands_for p means few graph reduced = record {
    graph = graph;
    means = still_means p means;
    few = omega (arith, same.no_more, few);
    reduced = reduced;
  }
