-- Conversions: what is made of their types.
use Rattle.std.proofs.Common.{◌≡◌, ℕ, ℤ, pos, negsuc, true, false, List, Some, Ok, refl, sym, ap, ◌∙◌, subst, arith}
use Rattle.vcp_base.specs.declared.spot.Spot.{Spot}
use Rattle.vcp_base.specs.declared.ty.Ty.{Ty}
use Rattle.vcp_base.specs.declared.ty.Ty.TheVariants as ty
use Rattle.vcp_base.specs.declared.kind.Kind.TheVariants as kind
use Rattle.vcp_base.specs.Types.{fits, is_number}
use Rattle.vcp_base.specs.Values.{at}
use Rattle.op_graph.specs.declared.op.Op.{Op}
use Rattle.op_graph.specs.Lists.{turns_of}
use Rattle.op_graph.specs.Rules.{types_fit}
use Rattle.op_graph.proofs.OperandLaw.{operand_laws}
use Rattle.vcp_typed.specs.declared.expr.Fun.{Fun}
use Rattle.vcp_typed.specs.declared.expr.Fun.TheVariants as fun
use Rattle.vcp_typed.specs.Rules.{conversion}
use Rattle.vcp_typed.specs.Size.{function_size}
use Rattle.flat_expr.specs.State.{State, IsA, active, guarded, Makes, FunFits, has_all, last_type, applies, copies, narrows}
use Rattle.flat_expr.proofs.Steps.{weaker, as_good-is}
use Rattle.flat_expr.proofs.Operators.{in_range-fits, total_step}

bool_int : (v : ℤ) → fits ty.Bool v ≡ true → fits ty.Int v ≡ true
bool_int (pos n) h = grind (arith, h)
bool_int (negsuc n) h = absurd (grind (arith, h))

-- a value of the first type is one of the second
pub wider : (from to : Ty) → has_all from to ≡ true → (v : ℤ) → fits from v ≡ true → fits to v ≡ true
wider ty.Bool ty.Bool h v f = f
wider ty.Bool ty.Int h v f = bool_int v f
wider ty.Bool ty.Dint h v f = operand_laws.wider ty.Int ty.Dint v refl (bool_int v f)
wider ty.Bool ty.Lint h v f = operand_laws.wider ty.Int ty.Lint v refl (bool_int v f)
wider ty.Int to h v f = operand_laws.wider ty.Int to v h f
wider ty.Dint to h v f = operand_laws.wider ty.Dint to v h f
wider ty.Lint to h v f = operand_laws.wider ty.Lint to v h f

pub others_are_numbers : (from to : Ty) → has_all from to ≡ false → is_number from ≡ true
others_are_numbers ty.Bool to h = absurd cc
others_are_numbers ty.Int to h = refl
others_are_numbers ty.Dint to h = refl
others_are_numbers ty.Lint to h = refl

-- a copy of a value that is in the type
pub copied_whole : (s new : State) (from to : Ty) (a k : ℕ) (spot : Spot) → has_all from to ≡ true → IsA from s.graph.operations a
    → Makes s new to 2 (copies a) k → Makes s new to 2 (narrows s to a spot) k
copied_whole s new from to a k spot all h m =
    weaker s new to 2 2 (λ now vs. guarded (active s.path vs) (Ok (at vs a))) (narrows s to a spot) k (omega arith)
    (λ now vs types. as_good-is _ _
    (ap (guarded (active s.path vs)) (sym (in_range-fits to spot (turns_of s.graph s.turn) (at vs a) (wider from to all (at vs a) (types from a h))))))
    (total_step s new to (copies a) (λ vs. at vs a) 2 2 k (omega arith) (λ now vs types. refl) m)

-- ---- the functions

same_pair : (a b : Ty × Ty) → Some a ≡ Some b → a ≡ b
same_pair a b h = cc

-- what holds of each conversion
by_types : (P : Fun → Ty × Ty → Type 0) → P fun.IntToDint (ty.Int, ty.Dint) → P fun.IntToLint (ty.Int, ty.Lint) → P fun.DintToInt (ty.Dint, ty.Int)
    → P fun.DintToLint (ty.Dint, ty.Lint) → P fun.LintToInt (ty.Lint, ty.Int) → P fun.LintToDint (ty.Lint, ty.Dint) → P fun.BoolToInt (ty.Bool, ty.Int)
    → (f : Fun) (types : Ty × Ty) → conversion f ≡ Some types → P f types
by_types P id il di dl li ld bi fun.Abs types h = absurd cc
by_types P id il di dl li ld bi fun.Min types h = absurd cc
by_types P id il di dl li ld bi fun.Max types h = absurd cc
by_types P id il di dl li ld bi fun.Limit types h = absurd cc
by_types P id il di dl li ld bi fun.Sel types h = absurd cc
by_types P id il di dl li ld bi fun.IntToDint types h = subst (P fun.IntToDint) (same_pair _ types h) id
by_types P id il di dl li ld bi fun.IntToLint types h = subst (P fun.IntToLint) (same_pair _ types h) il
by_types P id il di dl li ld bi fun.DintToInt types h = subst (P fun.DintToInt) (same_pair _ types h) di
by_types P id il di dl li ld bi fun.DintToLint types h = subst (P fun.DintToLint) (same_pair _ types h) dl
by_types P id il di dl li ld bi fun.LintToInt types h = subst (P fun.LintToInt) (same_pair _ types h) li
by_types P id il di dl li ld bi fun.LintToDint types h = subst (P fun.LintToDint) (same_pair _ types h) ld
by_types P id il di dl li ld bi fun.BoolToInt types h = subst (P fun.BoolToInt) (same_pair _ types h) bi

-- CONV goes between its types
pub conversion_fits : (f : Fun) (types : Ty × Ty) → conversion f ≡ Some types → types_fit kind.Conv types.0 types.1 ≡ true
conversion_fits = by_types (λ f types. types_fit kind.Conv types.0 types.1 ≡ true) refl refl refl refl refl refl refl

pub conversion_size : (f : Fun) (types : Ty × Ty) → conversion f ≡ Some types → function_size f ≡ 2
conversion_size = by_types (λ f types. function_size f ≡ 2) refl refl refl refl refl refl refl

pub conversion_last : (t : Ty) (f : Fun) (types : Ty × Ty) → conversion f ≡ Some types → last_type f t ≡ types.0
conversion_last t = by_types (λ f types. last_type f t ≡ types.0) refl refl refl refl refl refl refl

pub argument_fits : (t : Ty) (ops : List Op) (a b c : ℕ) (f : Fun) (types : Ty × Ty) → conversion f ≡ Some types → FunFits f t ops a b c
    → (t ≡ types.1) × IsA types.0 ops a
argument_fits t ops a b c =
    by_types (λ f types. FunFits f t ops a b c → (t ≡ types.1) × IsA types.0 ops a) (λ h. h) (λ h. h) (λ h. h) (λ h. h) (λ h. h) (λ h. h) (λ h. h)

-- a value that is in the type of the argument, and so in that of the value
whole : (s new : State) (f : Fun) (from to : Ty) (a b c k : ℕ) (spot : Spot) → has_all from to ≡ true
    → applies s f to a b c spot ≡ (λ now vs. guarded (active s.path vs) (Ok (at vs a))) → IsA from s.graph.operations a
    → Makes s new to 2 (narrows s to a spot) k → Makes s new to 2 (applies s f to a b c spot) k
whole s new f from to a b c k spot all is h m =
    weaker s new to 2 2 (narrows s to a spot) (applies s f to a b c spot) k (omega arith)
    (λ now vs types. as_good-is _ _
    (ap (guarded (active s.path vs)) (in_range-fits to spot (turns_of s.graph s.turn) (at vs a) (wider from to all (at vs a) (types from a h)))
    ∙ sym (ap (λ q. q now vs) is))) m

pub converted : (s new : State) (a b c k : ℕ) (spot : Spot) (f : Fun) (types : Ty × Ty) → conversion f ≡ Some types → IsA types.0 s.graph.operations a
    → Makes s new types.1 2 (narrows s types.1 a spot) k → Makes s new types.1 2 (applies s f types.1 a b c spot) k
converted s new a b c k spot =
    by_types (λ f types. IsA types.0 s.graph.operations a → Makes s new types.1 2 (narrows s types.1 a spot) k
    → Makes s new types.1 2 (applies s f types.1 a b c spot) k)
    (whole s new fun.IntToDint ty.Int ty.Dint a b c k spot refl refl)
    (whole s new fun.IntToLint ty.Int ty.Lint a b c k spot refl refl)
    (λ h m. m)
    (whole s new fun.DintToLint ty.Dint ty.Lint a b c k spot refl refl)
    (λ h m. m)
    (λ h m. m)
    (whole s new fun.BoolToInt ty.Bool ty.Int a b c k spot refl refl)
