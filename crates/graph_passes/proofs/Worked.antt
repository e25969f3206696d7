-- Worked: small graphs folded and numbered anew, worked by hand.
use Rattle.std.proofs.Common.{refl, ◌≡◌, ℕ, List, ◌∷◌, [], ℤ, pos, Bool, true, false, Some, zero, suc, ap}
use Rattle.vcp_base.specs.declared.code.Profile.TheVariants as profile
use Rattle.vcp_base.specs.declared.ty.Ty.{Ty}
use Rattle.vcp_base.specs.declared.ty.Ty.TheVariants as ty
use Rattle.vcp_base.specs.declared.kind.Kind.{Kind}
use Rattle.vcp_base.specs.declared.kind.Kind.TheVariants as kind
use Rattle.op_graph.specs.declared.op.Op.{Op}
use Rattle.op_graph.specs.Lists.{Lists}
use Rattle.op_graph.specs.Rules.{same_type}
use Rattle.graph_passes.specs.Folding.{fixed_value, folded}
use Rattle.graph_passes.specs.Part.{below, can_stop, part_of, work}
use Rattle.graph_passes.specs.Pruning.{must_stay, numbering}

-- an operation on values of this type, which reads a and b, at this column
op_on : Ty → Kind → ℕ → ℕ → ℤ → ℕ → Op
op_on t k a b imm col = record { kind = k; from = t; ty = t; a = a; b = b; c = 0; imm = imm; spot = record { line = 3; col = col }; turn = 0 }

-- a graph of one output with these operations, of which the last is the OUT
graph_of : List Op → ℕ → Lists
graph_of ops out = record {
  profile = profile.Narrow;
  names = (121 ∷ []) ∷ [];
  inputs = [];
  outputs = (record { name = 0; ty = ty.Int; op = out }) ∷ [];
  loads = [];
  stores = [];
  turn_nodes = [];
  operations = ops;
}

-- `y := left OP right`
of_two : Kind → ℤ → ℤ → Lists
of_two k left right = graph_of (op_on ty.Int kind.Const 0 0 left 6 ∷ op_on ty.Int kind.Const 0 0 right 10 ∷ op_on ty.Int k 0 1
    (pos 0) 8 ∷ op_on ty.Int kind.Out 2 0 (pos 0) 1 ∷ []) 3

-- 2 + 3 is 5, at the place of the ADD
sum-folds : folded (of_two kind.Add (pos 2) (pos 3)) ≡ graph_of (op_on ty.Int kind.Const 0 0 (pos 2) 6 ∷ op_on ty.Int kind.Const 0 0
    (pos 3) 10 ∷ op_on ty.Int kind.Const 0 0 (pos 5) 8 ∷ op_on ty.Int kind.Out 2 0 (pos 0) 1 ∷ []) 3
unfolding of_two graph_of op_on
sum-folds = refl

-- 32767 + 1 is no INT, and stays; so does a division by zero
sum-stays : folded (of_two kind.Add (pos 32767) (pos 1)) ≡ of_two kind.Add (pos 32767) (pos 1)
unfolding of_two graph_of op_on
sum-stays = refl

division-stays : folded (of_two kind.Div (pos 1) (pos 0)) ≡ of_two kind.Div (pos 1) (pos 0)
unfolding of_two graph_of op_on
division-stays = refl

-- (2 + 3) * 4: the product reads what the sum has become
product-folds : folded (graph_of (op_on ty.Int kind.Const 0 0 (pos 2) 1 ∷ op_on ty.Int kind.Const 0 0 (pos 3) 2 ∷ op_on ty.Int kind.Add 0 1
    (pos 0) 3 ∷ op_on ty.Int kind.Const 0 0 (pos 4) 4 ∷ op_on ty.Int kind.Mul 2 3 (pos 0) 5 ∷ op_on ty.Int kind.Out 4 0 (pos 0) 6 ∷ []) 5) ≡
    graph_of (op_on ty.Int kind.Const 0 0 (pos 2) 1 ∷ op_on ty.Int kind.Const 0 0 (pos 3) 2 ∷ op_on ty.Int kind.Const 0 0
    (pos 5) 3 ∷ op_on ty.Int kind.Const 0 0 (pos 4) 4 ∷ op_on ty.Int kind.Const 0 0 (pos 20) 5 ∷ op_on ty.Int kind.Out 4 0 (pos 0) 6 ∷ []) 5
unfolding graph_of op_on
product-folds = refl

-- a comparison of INT values gives a CONST of BOOL
comparison-folds : fixed_value (op_on ty.Int kind.Const 0 0 (pos 2) 1 ∷ [])
    (record { kind = kind.Lt; from = ty.Int; ty = ty.Bool; a = 0; b = 0; c = 0; imm = pos 0; spot = record { line = 3; col = 2 }; turn = 0 }) ≡ Some (pos 0)
unfolding op_on
comparison-folds = refl

-- ---- a part, numbered anew

-- all but operations 0 and 2
but_two : ℕ → Bool
but_two zero = false
but_two (suc zero) = true
but_two (suc (suc zero)) = false
but_two (suc (suc (suc n))) = true

numbers-are : (below but_two 1 ∷ below but_two 3 ∷ below but_two 4 ∷ []) ≡ (0 ∷ 1 ∷ 2 ∷ [])
unfolding but_two
numbers-are = refl

-- CONSTs 0 and 2 are read by nothing
part-is : part_of (numbering (graph_of (op_on ty.Int kind.Const 0 0 (pos 7) 1 ∷ op_on ty.Int kind.Const 0 0 (pos 8) 2 ∷ op_on ty.Int kind.Const 0 0
    (pos 9) 3 ∷ op_on ty.Int kind.Neg 1 0 (pos 0) 4 ∷ op_on ty.Int kind.Out 3 0 (pos 0) 5 ∷ []) 4) but_two)
    (graph_of (op_on ty.Int kind.Const 0 0 (pos 7) 1 ∷ op_on ty.Int kind.Const 0 0 (pos 8) 2 ∷ op_on ty.Int kind.Const 0 0
    (pos 9) 3 ∷ op_on ty.Int kind.Neg 1 0 (pos 0) 4 ∷ op_on ty.Int kind.Out 3 0 (pos 0) 5 ∷ []) 4) ≡
    graph_of (op_on ty.Int kind.Const 0 0 (pos 8) 2 ∷ op_on ty.Int kind.Neg 0 0 (pos 0) 4 ∷ op_on ty.Int kind.Out 1 0 (pos 0) 5 ∷ []) 2
unfolding graph_of op_on but_two
part-is = refl

-- an ADD that nothing reads stays, since it can stop; a comparison need not
add-stays : must_stay (op_on ty.Int kind.Add 0 1 (pos 0) 1) ≡ true
unfolding op_on
add-stays = refl

equal-goes : must_stay (record { kind = kind.Eq; from = ty.Int; ty = ty.Bool; a = 0; b = 0; c = 0; imm = pos 0; spot = record { line = 3; col = 2 }; turn = 0 })
    ≡ false
equal-goes = refl

-- CONV stops from DINT to INT, from LINT to INT and from LINT to DINT alone
conversions-stop : (can_stop kind.Conv ty.Dint ty.Int ∷ can_stop kind.Conv ty.Lint ty.Int ∷ can_stop kind.Conv ty.Lint ty.Dint
    ∷ can_stop kind.Conv ty.Bool ty.Int ∷ can_stop kind.Conv ty.Int ty.Dint ∷ can_stop kind.Conv ty.Int ty.Lint ∷ can_stop kind.Conv ty.Dint ty.Lint ∷ []) ≡
    (true ∷ true ∷ true ∷ false ∷ false ∷ false ∷ false ∷ [])
conversions-stop = refl

-- ADDs of INT and of DINT do not the same
types-differ : work (op_on ty.Int kind.Add 0 1 (pos 0) 1) ≡ work (op_on ty.Dint kind.Add 0 1 (pos 0) 1) → ⊥
unfolding op_on
types-differ e = let same : true ≡ false = ap (λ (x : Op). same_type x.ty ty.Int) e in absurd cc
