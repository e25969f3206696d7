use Rattle.std.proofs.Common.{◌≡◌, ◌<◌, ◌+◌, ◌++◌, ◌∷◌, [], ℕ, ℤ, List, pos, map, take, take_all, length, get_or, ap, sym, ◌∙◌, add-one, arith}
use Rattle.std.proofs.Math.Seq.{take-suc}
use Rattle.std.proofs.lemmas.List.{length-append, map-append}
use Rattle.vcp_base.specs.declared.ty.Ty.TheVariants as ty
use Rattle.op_graph.specs.declared.op.Loaded.{Loaded}
use Rattle.fault_sites.proofs.graph_values.begin.Goals as goal

one_more : (ls all : List Loaded) (i : ℕ) (d : Loaded) (cells new : List ℤ) → ls ≡ all → i < length ls → cells ≡ map (λ x. x.init) (take i all)
    → new ≡ cells ++ (get_or ls i d).init ∷ [] → new ≡ map (λ x. x.init) (take (i + 1) all)
one_more ls all i d cells new same inside was is =
    is ∙ (ap (λ xs. xs ++ (get_or ls i d).init ∷ []) (was ∙ ap (λ xs. map (λ x. x.init) (take i xs)) (sym same))
    ∙ (sym (map-append (λ x. x.init) (take i ls) (get_or ls i d ∷ [])) ∙ (ap (map (λ x. x.init)) (sym (take-suc ls i d inside))
    ∙ (ap (λ n. map (λ x. x.init) (take n ls)) (sym (add-one i)) ∙ ap (λ xs. map (λ x. x.init) (take (i + 1) xs)) same))))

pub cells-preserved : goal.cells-preserved
cells-preserved c =
    let d : Loaded = record { name = 0; ty = ty.Bool; init = pos 0; load = 0 } in
    let was = c.cells.invariant in
    record {
      first = one_more _ c.args.graph.now.loads c.cells.i d c.cells.cells.items c.append.new.values.items was.loads c.cells-test.true was.first c.append.ensures.items;
      room = omega (arith, was.room, c.append.ensures.capacity);
      given = ap length c.append.ensures.items ∙ (length-append c.cells.cells.items (_ ∷ []) ∙ omega (arith, was.given));
      loads = was.loads;
    }

pub append-requires : goal.append-requires
append-requires c =
    let was = c.cells.invariant in omega (arith, was.given, was.room, ap length was.loads, c.requires, c.cells-test.true)

pub returns-clause-cells : goal.returns-clause-cells
returns-clause-cells c =
    let was = c.cells.invariant in
    was.first ∙ ap (map (λ x. x.init)) (take_all c.cells.i c.args.graph.now.loads (omega (arith, c.cells-test.false, ap length was.loads)))

pub returns-clause-capacity : goal.returns-clause-capacity
returns-clause-capacity c = c.cells.invariant.room
