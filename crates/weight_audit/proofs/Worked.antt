-- Worked: the weights of small graphs, worked by hand.
use Rattle.std.proofs.Common.{refl, ◌≡◌, ℕ, ◌∷◌, [], ℤ, pos, negsuc}
use Rattle.vcp_base.specs.declared.spot.Spot.{Spot}
use Rattle.vcp_base.specs.declared.code.Profile.TheVariants as profile
use Rattle.vcp_base.specs.declared.ty.Ty.TheVariants as ty
use Rattle.vcp_base.specs.declared.kind.Kind.{Kind}
use Rattle.vcp_base.specs.declared.kind.Kind.TheVariants as kind
use Rattle.coded_unit.specs.Words.{modulo}
use Rattle.op_graph.specs.declared.op.Op.{Op}
use Rattle.op_graph.specs.Lists.{Lists, nothing}
use Rattle.op_graph.specs.Building.{with_name, with_input, with_load, with_op, with_output, with_store}
use Rattle.weight_audit.specs.Weights.{sums, weight}

abbrev here : Spot
here = record { line = 0; col = 0 }

-- an operation on DINT values, which reads a and b
on_dint : Kind → ℕ → ℕ → ℤ → Op
on_dint k a b imm = record { kind = k; from = ty.Dint; ty = ty.Dint; a = a; b = b; c = 0; imm = imm; spot = here; turn = 0 }

-- inputs and names: y, x
abbrev with_x : Lists
with_x = with_input (with_name (with_name (nothing profile.Narrow) (121 ∷ [])) (120 ∷ [])) 1 ty.Dint here

-- `y := x - x`: INPUT, SUB, OUT. The INPUT is blind: it enters the SUB once as it is, and once negated.
difference : Lists
difference = with_output (with_op with_x (on_dint kind.Sub 0 0 (pos 0))) 0 ty.Dint 1 here

sums-difference : sums difference 2 0 ≡ pos 0 ∷ pos 1 ∷ pos 1 ∷ []
unfolding difference on_dint
sums-difference = refl

-- `y := (x + x) - (x + x)`: the INPUT is blind, and the two sums aren't
two_sums : Lists
two_sums = with_output
    (with_op (with_op (with_op with_x (on_dint kind.Add 0 0 (pos 0))) (on_dint kind.Add 0 0 (pos 0))) (on_dint kind.Sub 1 2 (pos 0))) 0 ty.Dint 3 here

sums-two_sums : sums two_sums 4 0 ≡ pos 0 ∷ pos 1 ∷ negsuc 0 ∷ pos 1 ∷ pos 1 ∷ []
unfolding two_sums on_dint
sums-two_sums = refl

weight-two_sums : weight two_sums 4 0 2 ≡ 2147483646
unfolding two_sums on_dint modulo
weight-two_sums = refl

-- `n := n + 1; y := n;`: LOAD, CONST, ADD, OUT, STORE
counter : Lists
counter =
    let named = with_name (with_name (nothing profile.Narrow) (121 ∷ [])) (110 ∷ []) in
    let added = with_op (with_op (with_load named 1 ty.Dint (pos 0) here) (on_dint kind.Const 0 0 (pos 1))) (on_dint kind.Add 0 1 (pos 0)) in
    with_store (with_output added 0 ty.Dint 2 here) ty.Dint 2 here

sums-counter : sums counter 3 0 ≡ pos 1 ∷ pos 1 ∷ pos 1 ∷ pos 1 ∷ pos 0 ∷ []
unfolding counter on_dint
sums-counter = refl

sums-counter-later : sums counter 3 1 ≡ pos 1 ∷ pos 1 ∷ pos 1 ∷ pos 0 ∷ pos 1 ∷ []
unfolding counter on_dint
sums-counter-later = refl

-- `y := b; b := a; a := x;`, where a and b are cells: INPUT, LOAD b, LOAD a, OUT, STORE b, STORE a. What x is comes to y after two
-- borders, and after no other number of them.
chain : Lists
chain =
    let named = with_name (with_name with_x (97 ∷ [])) (98 ∷ []) in
    let loaded = with_load (with_load named 3 ty.Dint (pos 0) here) 2 ty.Dint (pos 0) here in
    with_store (with_store (with_output loaded 0 ty.Dint 1 here) ty.Dint 2 here) ty.Dint 0 here

sums-chain : sums chain 3 0 ∷ sums chain 3 1 ∷ sums chain 3 2 ∷ sums chain 3 3 ∷ [] ≡
    (pos 0 ∷ pos 1 ∷ pos 0 ∷ pos 1 ∷ pos 0 ∷ pos 0 ∷ [])
    ∷ (pos 0 ∷ pos 0 ∷ pos 1 ∷ pos 0 ∷ pos 1 ∷ pos 0 ∷ [])
    ∷ (pos 1 ∷ pos 0 ∷ pos 0 ∷ pos 0 ∷ pos 0 ∷ pos 1 ∷ [])
    ∷ (pos 0 ∷ pos 0 ∷ pos 0 ∷ pos 0 ∷ pos 0 ∷ pos 0 ∷ []) ∷ []
unfolding chain on_dint
sums-chain = refl

-- the multipliers of NOT and of SEL
factors : Lists
factors = with_output (with_op (with_op with_x (on_dint kind.Not 0 0 (pos 0))) (on_dint kind.Sel 1 0 (pos 0))) 0 ty.Dint 2 here

-- NOT is read as the first operand, and the INPUT by NOT and as the second and third
sums-factors : sums factors 3 0 ≡ pos 3 ∷ pos 18 ∷ pos 1 ∷ pos 1 ∷ []
unfolding factors on_dint
sums-factors = refl
