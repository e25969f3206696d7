-- Allowed: what is told of an operation holds without what its kind and types rule out.
use Rattle.std.proofs.Common.{◌≡◌, ◌≢◌, ℕ, zero, suc, ℤ, pos, negsuc, ◌-ℤ◌, Bool, true, false, ◌&&◌, List, Option, Some, None, Err, refl, sym, subst, ◌∙◌, inl, inr, arith}
use Rattle.std.specs.Prelude.{int_rem}
use Rattle.std.proofs.lemmas.Bool.{and_parts, and_from, both_ways, cond_both, not-false, true_from_ne_false}
use Rattle.std.proofs.lemmas.Bool.Decides.{nat_tests}
use Rattle.vcp_base.specs.declared.ty.Ty.{Ty}
use Rattle.vcp_base.specs.declared.ty.Ty.TheVariants as ty
use Rattle.vcp_base.specs.declared.kind.Kind.{Kind}
use Rattle.vcp_base.specs.declared.kind.Kind.TheVariants as kind
use Rattle.vcp_base.specs.declared.kind.StopKind.{StopKind}
use Rattle.vcp_base.specs.declared.kind.StopKind.TheVariants as stop
use Rattle.vcp_base.specs.Types.{fits, least, greatest, within}
use Rattle.vcp_base.specs.Kinds.{takes, divides_by_zero, value, truth, same}
use Rattle.op_graph.specs.declared.op.Op.{Op}
use Rattle.op_graph.specs.declared.rules.Place.{Place}
use Rattle.op_graph.specs.GraphRun.{own, operand, outcome_of}
use Rattle.op_graph.specs.Laws.{OperandLaws}
use Rattle.op_graph.specs.Rules.{entry_of, same_type, from_fits, ty_fits, imm_fits, is_input, OpFits}
use Rattle.graph_passes.specs.Part.{narrows}
use Rattle.range_walk.specs.declared.range.Range.{Range}
use Rattle.range_walk.specs.declared.range.Stops.{Stops}
use Rattle.range_walk.specs.declared.told.Told.{Told}
use Rattle.range_walk.specs.Intervals.{IsIn}
use Rattle.range_walk.specs.Known.{may_stop, is_named, divides, can_leave, can_stop_so}
use Rattle.range_walk.specs.Walking.{OwnFits, Tells}
use Rattle.range_walk.proofs.Integers.{rest_shrinks}
use Rattle.range_walk.proofs.Outcomes.{ok_says, err_says, range_says}
use Rattle.range_walk.proofs.ValueBounds.{fits_between, between_fits}

-- ---- values of a type

as_read : (from to : Ty) (v : ℤ) → same_type from to ≡ true → fits from v ≡ true → fits to v ≡ true
as_read ty.Bool ty.Bool v t h = h
as_read ty.Int ty.Int v t h = h
as_read ty.Dint ty.Dint v t h = h
as_read ty.Lint ty.Lint v t h = h
as_read _ _ v t h = absurd cc

pub truth_fits : (to : Ty) (b : Bool) → same_type to ty.Bool ≡ true → fits to (truth b) ≡ true
truth_fits ty.Bool true t = refl
truth_fits ty.Bool false t = refl
truth_fits _ b t = absurd cc

-- what gives BOOL for BOOL
logic_fits : (from to : Ty) (v : ℤ) → same_type from ty.Bool ≡ true → same_type from to ≡ true → fits ty.Bool v ≡ true → fits to v ≡ true
logic_fits ty.Bool to v f t h = as_read ty.Bool to v t h
logic_fits _ to v f t h = absurd cc

not_fits : (a : ℤ) → fits ty.Bool a ≡ true → fits ty.Bool (pos 1 -ℤ a) ≡ true
not_fits (pos zero) h = refl
not_fits (pos (suc zero)) h = refl
not_fits (pos (suc (suc n))) h = absurd (grind (arith, nat_tests))
not_fits (negsuc n) h = absurd (grind (arith, nat_tests))

bool_is_int : (a : ℤ) → fits ty.Bool a ≡ true → fits ty.Int a ≡ true
bool_is_int (pos n) h = grind (arith, nat_tests)
bool_is_int (negsuc n) h = absurd (grind (arith, nat_tests))

conv_fits : OperandLaws → (from to : Ty) (a : ℤ) → ty_fits kind.Conv from to ≡ true → narrows from to ≡ false → fits from a ≡ true → fits to a ≡ true
conv_fits laws ty.Bool ty.Int a t n h = bool_is_int a h
conv_fits laws ty.Bool _ a t n h = absurd cc
conv_fits laws ty.Int to a t n h = laws.wider ty.Int to a (not-false (within ty.Int to) n) h
conv_fits laws ty.Dint to a t n h = laws.wider ty.Dint to a (not-false (within ty.Dint to) n) h
conv_fits laws ty.Lint to a t n h = laws.wider ty.Lint to a (not-false (within ty.Lint to) n) h

zero_fits : (t : Ty) → fits t (pos 0) ≡ true
zero_fits ty.Bool = refl
zero_fits ty.Int = refl
zero_fits ty.Dint = refl
zero_fits ty.Lint = refl

rest_fits : (t : Ty) (a b : ℤ) → fits t a ≡ true → fits t (int_rem a b) ≡ true
rest_fits t a b h =
    let zero = fits_between t (pos 0) (zero_fits t) in
    let here = fits_between t a h in
    let rest = rest_shrinks a b (least t) (greatest t) zero.at_least zero.at_most here.at_least here.at_most in
    between_fits t (int_rem a b) rest.at_least rest.at_most

-- The value is in the type of the operation, where the kind and the types can't take it out of it.
value_stays : OperandLaws → (p : Place) (k : Kind) (from to : Ty) (imm : ℤ) (row : List ℤ) (a b c : ℤ) → from_fits (entry_of p k) k from ≡ true
    → ty_fits k from to ≡ true → imm_fits (entry_of p k) k to imm ≡ true → (is_input k ≡ true → fits to (own row k imm) ≡ true)
    → can_leave k from to ≡ false → takes k 0 from a ≡ true → takes k 1 from b ≡ true → takes k 2 from c ≡ true
    → fits to (value k (own row k imm) a b c) ≡ true
value_stays laws p kind.Input from to imm row a b c f t i own stays x y z = own refl
value_stays laws p kind.Const from to imm row a b c f t i own stays x y z = i
value_stays laws p kind.Load from to imm row a b c f t i own stays x y z = as_read from to a t x
value_stays laws p kind.Store from to imm row a b c f t i own stays x y z = as_read from to a t x
value_stays laws p kind.Out from to imm row a b c f t i own stays x y z = as_read from to a t x
value_stays laws p kind.Conv from to imm row a b c f t i own stays x y z = conv_fits laws from to a t stays x
value_stays laws p kind.Not from to imm row a b c f t i own stays x y z = logic_fits from to (pos 1 -ℤ a) f t (not_fits a x)
value_stays laws p kind.Mod from to imm row a b c f t i own stays x y z = as_read from to (int_rem a b) t (rest_fits from a b x)
value_stays laws p kind.Eq from to imm row a b c f t i own stays x y z = truth_fits to (same a b) t
value_stays laws p kind.Lt from to imm row a b c f t i own stays x y z = truth_fits to _ t
value_stays laws p kind.And from to imm row a b c f t i own stays x y z = logic_fits from to (value kind.And imm a b c) f t (truth_fits ty.Bool _ refl)
value_stays laws p kind.Or from to imm row a b c f t i own stays x y z = logic_fits from to (value kind.Or imm a b c) f t (truth_fits ty.Bool _ refl)
value_stays laws p kind.Xor from to imm row a b c f t i own stays x y z = logic_fits from to (value kind.Xor imm a b c) f t (truth_fits ty.Bool _ refl)
value_stays laws p kind.Sel from to imm row a b c f t i own stays x y z =
    as_read from to (value kind.Sel imm a b c) t (cond_both (same a (pos 0)) b c (λ v. fits from v ≡ true) (λ e. y) (λ e. z))
value_stays laws p _ from to imm row a b c f t i own stays x y z = absurd cc

-- an operation that stops because its value is outside its type can do so by its kind and types
leaves : OperandLaws → (p : Place) (turns : ℕ) (before : List Op) (op : Op) → OpFits p turns before op → (held row vs : List ℤ) → OwnFits row op
    → outcome_of held row vs op ≡ Err stop.Range → can_leave op.kind op.from op.ty ≡ true
leaves laws p turns before op fit held row vs own e = true_from_ne_false (can_leave op.kind op.from op.ty) (λ stays.
    let a = operand held vs op 0 op.a in
    let b = operand held vs op 1 op.b in
    let c = operand held vs op 2 op.c in
    let says = range_says _ _ _ _ e in
    let rest = and_parts _ (takes op.kind 2 op.from c) says.0 in
    let each = and_parts (takes op.kind 0 op.from a) (takes op.kind 1 op.from b) rest.0 in
    both_ways _ says.2 (value_stays laws p op.kind op.from op.ty op.imm row a b c fit.from fit.ty fit.imm own stays each.0 each.1 rest.1))

-- and one that stops at a zero divisor divides
divisor_says : (k : Kind) (y : ℤ) → divides_by_zero k y ≡ true → divides k ≡ true
divisor_says kind.Div y h = refl
divisor_says kind.Mod y h = refl
divisor_says _ y h = absurd cc

by_reason : OperandLaws → (p : Place) (turns : ℕ) (before : List Op) (op : Op) → OpFits p turns before op → (held row vs : List ℤ) → OwnFits row op
    → (why : StopKind) → why ≢ stop.Operand → outcome_of held row vs op ≡ Err why → can_stop_so why op ≡ true
by_reason laws p turns before op fit held row vs own stop.Range other e = leaves laws p turns before op fit held row vs own e
by_reason laws p turns before op fit held row vs own stop.DivZero other e =
    elim (err_says _ _ _ _ stop.DivZero e other) [
      | inl s ↦ divisor_says op.kind (operand held vs op 1 op.b) s.0
      | inr s ↦ absurd (let none : stop.DivZero ≡ stop.Range = s.2 in cc)
    ]
by_reason laws p turns before op fit held row vs own stop.Operand other e = absurd (other refl)

-- ---- what is told, without what is ruled out

-- the reasons that are told and can be
pub record IsCut (op : Op) (told cut : Stops) : Type 0 where
  pub range : cut.range ≡ (told.range && can_leave op.kind op.from op.ty)
  pub div_zero : cut.div_zero ≡ (told.div_zero && divides op.kind)

pub is_cut : (op : Op) (told : Stops) (range div_zero leaves is_division : Bool) → leaves ≡ can_leave op.kind op.from op.ty → is_division ≡ divides op.kind
    → range ≡ (told.range && leaves) → div_zero ≡ (told.div_zero && is_division) → IsCut op told (record { range = range; div_zero = div_zero })
is_cut op told range div_zero leaves is_division l d r z = record {
  range = subst (λ b. range ≡ (told.range && b)) l r;
  div_zero = subst (λ b. div_zero ≡ (told.div_zero && b)) d z;
}

cut_may : (op : Op) (told cut : Stops) → IsCut op told cut → (why : StopKind) → may_stop why told ≡ true → can_stop_so why op ≡ true → may_stop why cut ≡ true
cut_may op told cut is stop.Range may can = is.range ∙ and_from told.range (can_leave op.kind op.from op.ty) may can
cut_may op told cut is stop.DivZero may can = is.div_zero ∙ and_from told.div_zero (divides op.kind) may can
cut_may op told cut is stop.Operand may can = may

pub cut_can : (op : Op) (told cut : Stops) → IsCut op told cut → (why : StopKind) → may_stop why cut ≡ true → can_stop_so why op ≡ true
cut_can op told cut is stop.Range may = (and_parts told.range (can_leave op.kind op.from op.ty) (sym is.range ∙ may)).1
cut_can op told cut is stop.DivZero may = (and_parts told.div_zero (divides op.kind) (sym is.div_zero ∙ may)).1
cut_can op told cut is stop.Operand may = may

pub cut_tells : OperandLaws → (p : Place) (turns : ℕ) (before : List Op) (op : Op) → OpFits p turns before op → (held row vs : List ℤ) (t : Told) (r : Range)
    (cut : Stops) → ((v : ℤ) → IsIn t.range v → fits op.ty v ≡ true → IsIn r v) → IsCut op t.stops cut → Tells held row vs op t
    → Tells held row vs op (record { range = r; stops = cut })
cut_tells laws p turns before op fit held row vs t r cut inside is tells = record {
  value = λ v e.
      let says = ok_says _ _ _ _ v e in
      inside v (tells.value v e) (subst (λ w. fits op.ty w ≡ true) says.2 says.1);
  stop = λ why own no e. cut_may op t.stops cut is why (tells.stop why own no e) (by_reason laws p turns before op fit held row vs own why no e);
}

-- ---- all operations

-- what is named is there, and can stop so
pub named_able : (op : Op) (why : StopKind) (o : Option Stops) → ((s : Stops) → o ≡ Some s → may_stop why s ≡ true → can_stop_so why op ≡ true)
    → is_named why o ≡ true → can_stop_so why op ≡ true
named_able op why None able named = absurd cc
named_able op why (Some s) able named = able s refl named
