-- Stops: an operation that cannot stop gives a value, where its operands are in their types.
use Rattle.std.proofs.Common.{◌≡◌, ◌≢◌, ℕ, zero, suc, ℤ, pos, negsuc, ◌-ℤ◌, Bool, true, false, ◌&&◌, cond, List, Ok, Err, refl, sym, subst, ◌∙◌, arith}
use Rattle.std.proofs.lemmas.Bool.Decides.{nat_tests}
use Rattle.vcp_base.specs.declared.ty.Ty.{Ty}
use Rattle.vcp_base.specs.declared.ty.Ty.TheVariants as ty
use Rattle.vcp_base.specs.declared.kind.Kind.{Kind}
use Rattle.vcp_base.specs.declared.kind.Kind.TheVariants as kind
use Rattle.vcp_base.specs.declared.kind.StopKind.TheVariants as stop
use Rattle.vcp_base.specs.Types.{fits}
use Rattle.vcp_base.specs.Kinds.{takes, operands_fit, divides_by_zero, value, truth, same, outcome}
use Rattle.op_graph.specs.declared.op.Op.{Op}
use Rattle.op_graph.specs.Rules.{entry_of, same_type, from_fits, ty_fits, imm_fits, OpFits}
use Rattle.op_graph.specs.declared.rules.Place.{Place}
use Rattle.op_graph.specs.Laws.{OperandLaws}
use Rattle.graph_passes.specs.Part.{can_stop, narrows}

same_type_is : (s t : Ty) → same_type s t ≡ true → s ≡ t
same_type_is ty.Bool ty.Bool h = refl
same_type_is ty.Bool ty.Int h = absurd cc
same_type_is ty.Bool ty.Dint h = absurd cc
same_type_is ty.Bool ty.Lint h = absurd cc
same_type_is ty.Int ty.Bool h = absurd cc
same_type_is ty.Int ty.Int h = refl
same_type_is ty.Int ty.Dint h = absurd cc
same_type_is ty.Int ty.Lint h = absurd cc
same_type_is ty.Dint ty.Bool h = absurd cc
same_type_is ty.Dint ty.Int h = absurd cc
same_type_is ty.Dint ty.Dint h = refl
same_type_is ty.Dint ty.Lint h = absurd cc
same_type_is ty.Lint ty.Bool h = absurd cc
same_type_is ty.Lint ty.Int h = absurd cc
same_type_is ty.Lint ty.Dint h = absurd cc
same_type_is ty.Lint ty.Lint h = refl

truth_fits : (b : Bool) → fits ty.Bool (truth b) ≡ true
truth_fits true = refl
truth_fits false = refl

not_fits : (a : ℤ) → fits ty.Bool a ≡ true → fits ty.Bool (pos 1 -ℤ a) ≡ true
not_fits (pos zero) h = refl
not_fits (pos (suc zero)) h = refl
not_fits (pos (suc (suc n))) h = absurd (grind (arith, nat_tests))
not_fits (negsuc n) h = absurd (grind (arith, nat_tests))

bool_is_int : (a : ℤ) → fits ty.Bool a ≡ true → fits ty.Int a ≡ true
bool_is_int (pos n) h = grind (arith, nat_tests)
bool_is_int (negsuc n) h = absurd (grind (arith, nat_tests))

choice_fits : (t : Ty) (test : Bool) (b c : ℤ) → fits t b ≡ true → fits t c ≡ true → fits t (cond test b c) ≡ true
choice_fits t true b c h g = h
choice_fits t false b c h g = g

three : (a b c : Bool) → (a && b && c) ≡ true → (a ≡ true) × (b ≡ true) × (c ≡ true)
three true true true h = (refl, refl, refl)
three true true false h = absurd cc
three true false c h = absurd cc
three false true c h = absurd cc
three false false c h = absurd cc

conv_fits : (laws : OperandLaws) (from to : Ty) (a : ℤ) → ty_fits kind.Conv from to ≡ true → narrows from to ≡ false → fits from a ≡ true → fits to a ≡ true
conv_fits laws ty.Bool ty.Bool a t n h = h
conv_fits laws ty.Bool ty.Int a t n h = bool_is_int a h
conv_fits laws ty.Bool ty.Dint a t n h = absurd cc
conv_fits laws ty.Bool ty.Lint a t n h = absurd cc
conv_fits laws ty.Int ty.Bool a t n h = absurd cc
conv_fits laws ty.Int ty.Int a t n h = h
conv_fits laws ty.Int ty.Dint a t n h = laws.wider ty.Int ty.Dint a refl h
conv_fits laws ty.Int ty.Lint a t n h = laws.wider ty.Int ty.Lint a refl h
conv_fits laws ty.Dint ty.Bool a t n h = absurd cc
conv_fits laws ty.Dint ty.Int a t n h = absurd cc
conv_fits laws ty.Dint ty.Dint a t n h = h
conv_fits laws ty.Dint ty.Lint a t n h = laws.wider ty.Dint ty.Lint a refl h
conv_fits laws ty.Lint ty.Bool a t n h = absurd cc
conv_fits laws ty.Lint ty.Int a t n h = absurd cc
conv_fits laws ty.Lint ty.Dint a t n h = absurd cc
conv_fits laws ty.Lint ty.Lint a t n h = h

-- the result has the type of the operands
as_read : (from to : Ty) (v : ℤ) → same_type from to ≡ true → fits from v ≡ true → fits to v ≡ true
as_read from to v e h = subst (λ t. fits t v ≡ true) (same_type_is from to e) h

is_bool : (from to : Ty) (v : ℤ) → same_type from ty.Bool ≡ true → same_type from to ≡ true → fits ty.Bool v ≡ true → fits to v ≡ true
is_bool from to v f t h = subst (λ s. fits s v ≡ true) (sym (same_type_is from ty.Bool f) ∙ same_type_is from to t) h

-- the value is in the type of the result
value_fits : (laws : OperandLaws) (p : Place) (turns : ℕ) (before : List Op) (k : Kind) (from to : Ty) (imm own a b c : ℤ) →
    from_fits (entry_of p k) k from ≡ true → ty_fits k from to ≡ true → imm_fits (entry_of p k) k to imm ≡ true →
    (k ≡ kind.Const → own ≡ imm) → can_stop k from to ≡ false → takes k 0 from a ≡ true → takes k 1 from b ≡ true → takes k 2 from c ≡ true →
    fits to (value k own a b c) ≡ true
value_fits laws p turns before kind.Input from to imm own a b c f t i is never x y z = absurd cc
value_fits laws p turns before kind.Const from to imm own a b c f t i is never x y z = subst (λ v. fits to v ≡ true) (sym (is refl)) i
value_fits laws p turns before kind.Load from to imm own a b c f t i is never x y z = as_read from to a t x
value_fits laws p turns before kind.Store from to imm own a b c f t i is never x y z = as_read from to a t x
value_fits laws p turns before kind.Out from to imm own a b c f t i is never x y z = as_read from to a t x
value_fits laws p turns before kind.Conv from to imm own a b c f t i is never x y z = conv_fits laws from to a t never x
value_fits laws p turns before kind.Neg from to imm own a b c f t i is never x y z = absurd cc
value_fits laws p turns before kind.Not from to imm own a b c f t i is never x y z = is_bool from to (pos 1 -ℤ a) f t (not_fits a x)
value_fits laws p turns before kind.Add from to imm own a b c f t i is never x y z = absurd cc
value_fits laws p turns before kind.Sub from to imm own a b c f t i is never x y z = absurd cc
value_fits laws p turns before kind.Mul from to imm own a b c f t i is never x y z = absurd cc
value_fits laws p turns before kind.Div from to imm own a b c f t i is never x y z = absurd cc
value_fits laws p turns before kind.Mod from to imm own a b c f t i is never x y z = absurd cc
value_fits laws p turns before kind.Eq from to imm own a b c f t i is never x y z = subst (λ s. fits s (truth (same a b)) ≡ true) (sym
    (same_type_is to ty.Bool t)) (truth_fits (same a b))
value_fits laws p turns before kind.Lt from to imm own a b c f t i is never x y z = subst (λ s. fits s (value kind.Lt own a b c) ≡ true) (sym
    (same_type_is to ty.Bool t)) (truth_fits _)
value_fits laws p turns before kind.And from to imm own a b c f t i is never x y z = is_bool from to (value kind.And own a b c) f t (truth_fits _)
value_fits laws p turns before kind.Or from to imm own a b c f t i is never x y z = is_bool from to (value kind.Or own a b c) f t (truth_fits _)
value_fits laws p turns before kind.Xor from to imm own a b c f t i is never x y z = is_bool from to (value kind.Xor own a b c) f t (truth_fits _)
value_fits laws p turns before kind.Sel from to imm own a b c f t i is never x y z = as_read from to (value kind.Sel own a b c) t (choice_fits from (same a
    (pos 0)) b c y z)

no_division : (k : Kind) (from to : Ty) (b : ℤ) → can_stop k from to ≡ false → divides_by_zero k b ≡ false
no_division kind.Div from to b never = absurd cc
no_division kind.Mod from to b never = absurd cc
no_division _ from to b never = refl

given : (all zero_divisor good : Bool) (v : ℤ) → (cond all (cond zero_divisor (Err stop.DivZero) (cond good (Ok v) (Err stop.Range)))
    (Err stop.Operand)) ≢ Err stop.Operand →
    (all ≡ true → zero_divisor ≡ false) → (all ≡ true → good ≡ true) →
    (cond all (cond zero_divisor (Err stop.DivZero) (cond good (Ok v) (Err stop.Range))) (Err stop.Operand)) ≡ Ok v
given false z g v fair never fine = absurd (fair refl)
given true true g v fair never fine = absurd (let e : true ≡ false = never refl in cc)
given true false false v fair never fine = absurd (let e : false ≡ true = fine refl in cc)
given true false true v fair never fine = refl

pub gives_value : (laws : OperandLaws) (p : Place) (turns : ℕ) (before : List Op) (op : Op) (own a b c : ℤ) → OpFits p turns before op →
    (op.kind ≡ kind.Const → own ≡ op.imm) → can_stop op.kind op.from op.ty ≡ false → outcome op.kind op.from op.ty own a b c ≢ Err stop.Operand →
    outcome op.kind op.from op.ty own a b c ≡ Ok (value op.kind own a b c)
gives_value laws p turns before op own a b c fit is never fair =
    given (operands_fit op.kind op.from a b c) (divides_by_zero op.kind b) (fits op.ty (value op.kind own a b c)) (value op.kind own a b c) fair
    (λ all. no_division op.kind op.from op.ty b never)
    (λ all. let each = three (takes op.kind 0 op.from a) (takes op.kind 1 op.from b) (takes op.kind 2 op.from c) all in
    value_fits laws p turns before op.kind op.from op.ty op.imm own a b c fit.from fit.ty fit.imm is never each.0 each.1 each.2)
