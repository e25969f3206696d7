-- Worked: cycles of small graphs, worked by hand.
use Rattle.std.proofs.Common.{refl, ◌≡◌, ℕ, ◌∷◌, [], ℤ, pos, negsuc, Some, None}
use Rattle.vcp_base.specs.declared.spot.Spot.{Spot}
use Rattle.vcp_base.specs.declared.code.Profile.TheVariants as profile
use Rattle.vcp_base.specs.declared.ty.Ty.TheVariants as ty
use Rattle.vcp_base.specs.declared.kind.Kind.{Kind}
use Rattle.vcp_base.specs.declared.kind.Kind.TheVariants as kind
use Rattle.vcp_base.specs.declared.kind.StopKind.TheVariants as stop
use Rattle.op_graph.specs.declared.op.Op.{Op}
use Rattle.op_graph.specs.Lists.{Lists, nothing}
use Rattle.op_graph.specs.Building.{with_name, with_input, with_load, with_op, with_output, with_store}
use Rattle.range_audit.specs.Audit.{cycle_after}

abbrev here : Spot
here = record { line = 0; col = 0 }

-- an operation on INT values, which reads a and b
on_int : Kind → ℕ → ℕ → ℤ → Op
on_int k a b imm = record { kind = k; from = ty.Int; ty = ty.Int; a = a; b = b; c = 0; imm = imm; spot = here; turn = 0 }

-- `t := t + 1; y := t;`, where t begins with 32765: LOAD, CONST, ADD, OUT, STORE
counter : Lists
counter =
    let named = with_name (with_name (nothing profile.Narrow) (121 ∷ [])) (116 ∷ []) in
    let added = with_op (with_op (with_load named 1 ty.Int (pos 32765) here) (on_int kind.Const 0 0 (pos 1))) (on_int kind.Add 0 1 (pos 0)) in
    with_store (with_output added 0 ty.Int 2 here) ty.Int 2 here

-- the values of the second cycle, which is the last that doesn't stop
counter-second : cycle_after counter ([] ∷ []) [] ≡ record { values = pos 32766 ∷ pos 1 ∷ pos 32767 ∷ pos 32767 ∷ pos 32767 ∷ []; stop = None }
unfolding counter on_int
counter-second = refl

-- the third stops at the sum
counter-third : cycle_after counter ([] ∷ [] ∷ []) [] ≡ record { values = pos 32767 ∷ pos 1 ∷ []; stop = Some stop.Range }
unfolding counter on_int
counter-third = refl

-- after a stop the cells are as they were, and the same cycle stops again
counter-fourth : cycle_after counter ([] ∷ [] ∷ [] ∷ []) [] ≡ record { values = pos 32767 ∷ pos 1 ∷ []; stop = Some stop.Range }
unfolding counter on_int
counter-fourth = refl

-- `y := 7 / x`: INPUT, CONST, DIV, OUT
quotient : Lists
quotient =
    let named = with_name (with_name (nothing profile.Narrow) (121 ∷ [])) (120 ∷ []) in
    with_output (with_op (with_op (with_input named 1 ty.Int here) (on_int kind.Const 0 0 (pos 7))) (on_int kind.Div 1 0 (pos 0))) 0 ty.Int 2 here

quotient-by_three : cycle_after quotient [] (negsuc 2 ∷ []) ≡ record { values = negsuc 2 ∷ pos 7 ∷ negsuc 1 ∷ negsuc 1 ∷ []; stop = None }
unfolding quotient on_int
quotient-by_three = refl

quotient-by_zero : cycle_after quotient [] (pos 0 ∷ []) ≡ record { values = pos 0 ∷ pos 7 ∷ []; stop = Some stop.DivZero }
unfolding quotient on_int
quotient-by_zero = refl
