-- InOrder: the graph that a pass answers, and one pass after another.
use Rattle.std.proofs.Common.{◌≡◌, Option, Some, None, Ok, Err, Result, IfOk, sym, subst, ◌∙◌, arith}
use Rattle.op_graph.specs.declared.op.Op.{Op}
use Rattle.op_graph.specs.Lists.{Lists}
use Rattle.op_graph.specs.GraphRun.{Stop, graph_run}
use Rattle.graph_passes.specs.Folding.{folded, NoneFolds}
use Rattle.graph_passes.specs.Pruning.{IsPruned, NonePrunes}
use Rattle.graph_passes.specs.Reduced.{IsReduced, IsReductionOf}
use Rattle.graph_passes.specs.SameRun.{SamePlace, SameEnd, MeansAs}
use Rattle.graph_passes.specs.Sharing.{IsShared, NoneShares}

-- what is proved of a graph holds where it is answered
pub holds : {E : Type 0} (P : Lists → Type 0) (r : Result Lists E) (g : Lists) → IfOk r (λ h. h ≡ g) → P g → IfOk r P
holds P (Ok h) g is p = subst P (sym is) p
holds P (Err e) g is p = tt

same_place : (o p q : Option Op) → SamePlace o p → SamePlace p q → SamePlace o q
same_place None None q a b = absurd a
same_place None (Some y) q a b = absurd a
same_place (Some x) None q a b = absurd a
same_place (Some x) (Some y) None a b = absurd b
same_place (Some x) (Some y) (Some z) a b = (a.0 ∙ b.0, a.1 ∙ b.1)

same_end : (f g h : Lists) (r s t : Option Stop) → SameEnd f g r s → SameEnd g h s t → SameEnd f h r t
same_end f g h None None None a b = tt
same_end f g h None None (Some z) a b = absurd b
same_end f g h None (Some y) t a b = absurd a
same_end f g h (Some x) None t a b = absurd a
same_end f g h (Some x) (Some y) None a b = absurd b
same_end f g h (Some x) (Some y) (Some z) a b = (a.0 ∙ b.0, same_place _ _ _ a.1 b.1)

-- what means as g does means as f does, where g does
pub means_on : (f g h : Lists) → MeansAs f g → MeansAs g h → MeansAs f h
means_on f g h a b = record {
  profile = b.profile ∙ a.profile;
  names = b.names ∙ a.names;
  inputs = b.inputs ∙ a.inputs;
  columns = b.columns ∙ a.columns;
  turn_nodes = b.turn_nodes ∙ a.turn_nodes;
  no_more = let first = a.no_more in let second = b.no_more in omega (arith, first, second);
  runs = λ rows.
      let first = a.runs rows in
      let second = b.runs rows in
      record {
        outputs = first.outputs ∙ second.outputs;
        end = same_end f g h (graph_run f rows).end (graph_run g rows).end (graph_run h rows).end first.end second.end;
      };
}

pub means_after : {E : Type 0} (f g : Lists) (r : Result Lists E) → MeansAs f g → IfOk r (λ h. MeansAs g h) → IfOk r (λ h. MeansAs f h)
means_after f g (Ok h) first second = means_on f g h first second
means_after f g (Err e) first second = tt

pub reduced_by : {E : Type 0} (r : Result Lists E) → IfOk r (λ h. NoneFolds h) → IfOk r (λ h. NoneShares h) → IfOk r (λ h. NonePrunes h)
    → IfOk r (λ h. IsReduced h)
reduced_by (Ok h) folds shares prunes = record { folds = folds; shares = shares; prunes = prunes }
reduced_by (Err e) folds shares prunes = tt

-- what is pruned of the graph that is shared of a folded graph
pub reduction_by : {E : Type 0} (g f s : Lists) (r : Result Lists E) → f ≡ folded g → IsShared f s → IfOk r (λ h. IsPruned s h)
    → IfOk r (λ h. IsReductionOf g h)
reduction_by g f s (Ok h) is shared pruned = record { joined = s; shared = subst (λ x. IsShared x s) is shared; pruned = pruned }
reduction_by g f s (Err e) is shared pruned = tt
