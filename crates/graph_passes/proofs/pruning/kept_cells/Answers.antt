use Rattle.std.proofs.Common.{◌++◌, ◌∷◌, [], length, map, take, sym, ap, ap₂, subst, ◌∙◌, arith}
use Rattle.std.proofs.lemmas.List.{length-map, map-append, take_all, take_more}
use Rattle.std.proofs.lemmas.Result.{IfOk-weaker}
use Rattle.op_graph.specs.declared.op.Loaded.{Loaded}
use Rattle.graph_passes.specs.Tables.{IsNumbered, marked}
use Rattle.graph_passes.proofs.pruning.kept_cells.Goals as goal

pub cells-preserved : goal.cells-preserved
cells-preserved c =
    let i = c.cells.loaded-index in
    let loads = c.args.loads.now in
    c.in_ok-push.ensures.items ∙ ap₂ (λ xs x. xs ++ x ∷ []) c.cells.invariant c.marked.ensures
    ∙ sym (ap (map (λ (x : Loaded). marked c.args.kept.now x.load)) (take_more loads i _ c.cells-test.true)
    ∙ map-append (λ (x : Loaded). marked c.args.kept.now x.load) (take i loads) _)

pub numbered-requires : goal.numbered-requires
numbered-requires c =
    let all = ap length (c.cells.invariant
    ∙ ap (map (λ (l : Loaded). marked c.args.kept.now l.load)) (take_all c.cells.loaded-index c.args.loads.now (omega (arith, c.cells-test.false)))) in
    omega (arith, all, length-map c.args.loads.now (λ (l : Loaded). marked c.args.kept.now l.load), c.requires)

pub returns : goal.returns
returns c =
    let all = c.cells.invariant
    ∙ ap (map (λ (l : Loaded). marked c.args.kept.now l.load)) (take_all c.cells.loaded-index c.args.loads.now (omega (arith, c.cells-test.false))) in
    IfOk-weaker c.numbered.result _ _ (λ p is. subst (λ m. IsNumbered m p) all is) c.numbered.ensures
