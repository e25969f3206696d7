-- Worked: the graph of `n := n + 1; y := n;` and its run, worked by hand.
use Rattle.std.proofs.Common.{refl, ◌≡◌, ℕ, List, ◌∷◌, [], ℤ, pos, false, Some, None}
use Rattle.vcp_base.specs.declared.spot.Spot.{Spot}
use Rattle.vcp_base.specs.declared.code.Profile.TheVariants as profile
use Rattle.vcp_base.specs.declared.ty.Ty.{Ty}
use Rattle.vcp_base.specs.declared.ty.Ty.TheVariants as ty
use Rattle.vcp_base.specs.declared.kind.Kind.{Kind}
use Rattle.vcp_base.specs.declared.kind.Kind.TheVariants as kind
use Rattle.vcp_base.specs.declared.kind.StopKind.TheVariants as stop
use Rattle.op_graph.specs.declared.op.Op.{Op}
use Rattle.op_graph.specs.declared.op.Outlet.{Outlet}
use Rattle.op_graph.specs.Rules.{entry, from_fits, ty_fits}
use Rattle.op_graph.specs.Walk.{passed, walked_to, next_passed}
use Rattle.op_graph.specs.Lists.{Lists, nothing, cells, turns_of}
use Rattle.op_graph.specs.Building.{with_turn_node}
use Rattle.op_graph.specs.Building.{with_name, with_load, with_op, with_output, with_store}
use Rattle.op_graph.specs.GraphRun.{graph_run, cells_after}

-- an operation on values of this type, which reads a and b
op_on : Ty → Kind → ℕ → ℕ → ℤ → Op
op_on t k a b imm = record { kind = k; from = t; ty = t; a = a; b = b; c = 0; imm = imm; spot = record { line = 0; col = 0 }; turn = 0 }

-- the counter, whose cell begins with this value
counter : Ty → ℤ → Lists
counter t first =
    let spot : Spot = record { line = 0; col = 0 } in
    let named = with_name (with_name (nothing profile.Narrow) (121 ∷ [])) (110 ∷ []) in
    let added = with_op (with_op (with_load named 1 t first spot) (op_on t kind.Const 0 0 (pos 1))) (op_on t kind.Add 0 1 (pos 0)) in
    with_store (with_output added 0 t 2 spot) t 2 spot

counter-cells : cells (counter ty.Dint (pos 0)) ≡ (record { name = 1; ty = ty.Dint; init = pos 0; load = 0; store = 4 }) ∷ []
unfolding counter op_on
counter-cells = refl

counts : graph_run (counter ty.Dint (pos 0)) ([] ∷ [] ∷ [] ∷ []) ≡ record { rows = (pos 1 ∷ []) ∷ (pos 2 ∷ []) ∷ (pos 3 ∷ []) ∷ []; end = None }
unfolding counter op_on
counts = refl

-- from 32766 on, an INT passes its greatest value in the second cycle, at the ADD
passes : graph_run (counter ty.Int (pos 32766)) ([] ∷ [] ∷ [] ∷ []) ≡ record { rows = (pos 32767 ∷ []) ∷ []; end = Some (record { op = 2; kind = stop.Range }) }
unfolding counter op_on
passes = refl

turns-are : turns_of
    (with_turn_node (with_turn_node (with_turn_node (nothing profile.Narrow) (record { parent = 0; name = 5; value = pos 1 }))
    (record { parent = 1; name = 6; value = pos 2 })) (record { parent = 1; name = 6; value = pos 3 })) 3 ≡ (record { name = 5; value = pos 1 })
    ∷ (record { name = 6; value = pos 3 }) ∷ []
turns-are = refl

cells-after : cells_after (counter ty.Dint (pos 0)) (pos 0 ∷ []) ([] ∷ [] ∷ []) ≡ pos 2 ∷ []
unfolding counter op_on
cells-after = refl

-- ---- walks and types

abbrev outs : List Outlet
outs = (record { name = 0; ty = ty.Int; op = 3 }) ∷ (record { name = 1; ty = ty.Dint; op = 5 }) ∷ []

walk-passes : passed (λ (o : Outlet). o.op) 5 outs ≡ 1
walk-passes = refl

walk-finds : walked_to (λ (o : Outlet). o.op) (λ o. o.ty) 5 outs ≡ Some (entry 1 ty.Dint)
walk-finds = refl

walk-finds-none : walked_to (λ (o : Outlet). o.op) (λ o. o.ty) 4 outs ≡ None
walk-finds-none = refl

walk-goes-on : next_passed (λ (o : Outlet). o.op) 3 outs ≡ 1
walk-goes-on = refl

-- `<` of BOOL is wrong in the type of its operands, whatever that of its result; CONV of INT to BOOL in that of its result
from-is-wrong : from_fits None kind.Lt ty.Bool ≡ false
from-is-wrong = refl

ty-is-wrong : ty_fits kind.Conv ty.Int ty.Bool ≡ false
ty-is-wrong = refl

-- an OUT has the type of its output
out-is-wrong : from_fits (Some (entry 0 ty.Int)) kind.Out ty.Dint ≡ false
out-is-wrong = refl
