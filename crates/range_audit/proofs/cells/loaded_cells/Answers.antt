use Rattle.std.proofs.Common.{ℤ, sym, subst, ◌∙◌, arith}
use Rattle.std.proofs.lemmas.Option.{slice_get_within, same_Some}
use Rattle.op_graph.specs.declared.op.Loaded.{Loaded}
use Rattle.vcp_base.specs.Values.{at}
use Rattle.range_walk.specs.Intervals.{IsIn}
use Rattle.range_audit.specs.Searching.{Loads}
use Rattle.range_audit.proofs.Boxed.{LoadedAt}
use Rattle.range_audit.proofs.Steps.{get_there, none_at, one_more}
use Rattle.range_audit.proofs.cells.loaded_cells.Goals as goal

pub cells-init : goal.cells-init
cells-init c = none_at _ _ c.new-cells.ensures.items

pub cells-preserved : goal.cells-preserved
cells-preserved c =
    let range = c.loaded_range-range.result in
    let loaded = c.load_of-load.result in
    let here : LoadedAt c.args.typed c.args.graph.now.loads c.cells.k range = λ m there.
    let same = same_Some loaded m (sym c.load_of-load.ensures ∙ there) in
    subst (λ (l : Loaded). (v : ℤ) → Loads c.args.typed l v → IsIn range v) same c.loaded_range-range.ensures in
    one_more _ _ _ range c.cells.k c.cells.invariant here c.in_ok-push.ensures.items

pub returns-clause-many : goal.returns-clause-many
returns-clause-many c = omega (arith, c.cells.invariant.many, c.len-count.ensures.rules.all_stored, c.cells-test.false, c.cells.auto.k-end)

pub returns-clause-holds : goal.returns-clause-holds
returns-clause-holds c = λ held loaded k r there.
    let lt = slice_get_within c.cells.cells.items k r there in
    let m = get_there c.args.graph.now.loads k (omega (arith, lt, c.cells.invariant.many)) in
    c.cells.invariant.each k r there m.0 m.1 (at held k) (loaded k m.0 m.1)
