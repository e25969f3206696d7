-- Checking: the statements of the typed program keep the rules of checked programs, where the actions take their types.
use Rattle.std.proofs.Common.{◌≡◌, ℕ, zero, suc, ◌+◌, Bool, true, false, cond, ◌||◌, List, [], ◌∷◌, ◌++◌, length, slice_get, Option, Some, None}
use Rattle.std.proofs.Common.{refl, sym, ap, subst, ◌∙◌, arith}
use Rattle.std.specs.Prelude.{IfSome}
use Rattle.vcp_base.specs.declared.spot.Spot.{Spot}
use Rattle.vcp_base.specs.declared.ty.Ty.{Ty}
use Rattle.vcp_base.specs.declared.ty.Ty.TheVariants as ty
use Rattle.vcp_base.specs.Types.{fits, within, same_type}
use Rattle.vcp_base.specs.Kinds.{truth}
use Rattle.st_tree.specs.declared.expr.BinOp.{BinOp}
use Rattle.vcp_typed.specs.declared.slot.Slot.{Slot}
use Rattle.vcp_typed.specs.TExprTree.{TExprTree}
use Rattle.vcp_typed.specs.Rules.{common, result}
use Rattle.vcp_typed.specs.Checked.{ty_of, HasType, IsExpr, MaySet, IsStmt, AreStmts}
use Rattle.st_types.specs.ExprTyping.{widened}
use Rattle.il_front.specs.declared.instruction.Operand.TheVariants as operand
use Rattle.il_front.specs.declared.instruction.Action.TheVariants as action
use Rattle.il_front.specs.Accumulator.{Operand, Action, Instruction, operand_type}
use Rattle.il_front.specs.Judging.{loads}
use Rattle.il_front.specs.TypedForm.{hidden_slot, hidden_slots, used_before, all_types, combined_type, next_type, uses, operand_expr, turned, kept}
use Rattle.il_front.specs.TypedForm.{combining}
use Rattle.il_front.specs.TypedForm.{action_stmt, statements}
use Rattle.il_front.proofs.HiddenSlots.{same_self, same_type_is, is_among, all_among, rest_among}
use Rattle.il_front.proofs.Beside.{or_true, or_rest}
use Rattle.il_front.proofs.Steps.{placed}

-- what typing says of the parts of checked expressions: a widened one keeps the rules, and operands widen to their common type
pub record PartLaws : Type 0 where
  pub widens_to : (slots : List Slot) (t u : Ty) (a : TExprTree) → ty_of a ≡ u → within u t ≡ true → IsExpr slots a
      → IsExpr slots (widened t u a) × (ty_of (widened t u a) ≡ t)
  pub meets : (op : BinOp) (x y : Ty) → IfSome (common op x y) (λ t. (within x t ≡ true) × (within y t ≡ true) × (common op t t ≡ Some t))

-- ---- actions that take their types

-- the operand is there, with its type
abbrev pub OperandFits : List Slot → Operand → Type 0
OperandFits slots (operand.Variable slot t) = HasType slots slot t
OperandFits slots (operand.Number t v) = fits t v ≡ true

-- an N is of a BOOL
abbrev pub OfBool : Bool → Ty → Type 0
OfBool negated t = negated ≡ true → t ≡ ty.Bool

-- the action takes a result of the type t
abbrev pub ActionFits : List Slot → Ty → Action → Type 0
ActionFits slots t (action.Load negated o) = OperandFits slots o × OfBool negated (operand_type o)
ActionFits slots t (action.Store negated slot u) = MaySet slots [] slot u × (within t u ≡ true) × OfBool negated t
ActionFits slots t (action.Put to slot u) = MaySet slots [] slot u × (t ≡ ty.Bool) × (u ≡ ty.Bool)
ActionFits slots t action.Complement = t ≡ ty.Bool
ActionFits slots t (action.Combine op negated o) = OperandFits slots o × OfBool negated (operand_type o)

abbrev pub AreFitting : List Slot → Ty → List Instruction → Type 0
AreFitting slots t [] = Unit {0}
AreFitting slots t (i ∷ is) = ActionFits slots t i.action × AreFitting slots (next_type t i.action) is

-- ---- slots

front_get : (xs ys : List Slot) (k : ℕ) (x : Slot) → slice_get xs k ≡ Some x → slice_get (xs ++ ys) k ≡ Some x
front_get [] ys k x e = absurd cc
front_get (y ∷ xs) ys zero x e = e
front_get (y ∷ xs) ys (suc k) x e = front_get xs ys k x e

behind_get : (xs ys : List Slot) (k : ℕ) → slice_get (xs ++ ys) (length xs + k) ≡ slice_get ys k
behind_get [] ys k = ap (λ (m : ℕ). slice_get ys m) (let e : 0 + k ≡ k = omega arith in e)
behind_get (x ∷ xs) ys k =
    ap (λ (m : ℕ). slice_get (x ∷ (xs ++ ys)) m) (let e : length (x ∷ xs) + k ≡ suc (length xs + k) = omega arith in e)
    ∙ behind_get xs ys k

-- b: the type is the first one; c: the first one is used
one_get : (used : Ty → Bool) (t v : Ty) (us : List Ty) (b c : Bool) → (b ≡ true → v ≡ t) → (b ≡ true → c ≡ true)
    → (b ≡ false → slice_get (hidden_slots used us) (used_before used t us) ≡ Some (hidden_slot t))
    → slice_get (cond c (hidden_slot v ∷ hidden_slots used us) (hidden_slots used us)) (cond b 0 (cond c 1 0 + used_before used t us))
    ≡ Some (hidden_slot t)
one_get used t v us true true s f g = ap (λ (x : Ty). let o : Option Slot = Some (hidden_slot x) in o) (s refl)
one_get used t v us true false s f g = absurd (let e : false ≡ true = f refl in cc)
one_get used t v us false true s f g =
    ap (λ (m : ℕ). slice_get (hidden_slot v ∷ hidden_slots used us) m)
    (let e : 1 + used_before used t us ≡ suc (used_before used t us) = omega arith in e)
    ∙ g refl
one_get used t v us false false s f g =
    ap (λ (m : ℕ). slice_get (hidden_slots used us) m) (let e : 0 + used_before used t us ≡ used_before used t us = omega arith in e)
    ∙ g refl

get_among : (used : Ty → Bool) (t : Ty) (us : List Ty) → used t ≡ true → is_among t us ≡ true
    → slice_get (hidden_slots used us) (used_before used t us) ≡ Some (hidden_slot t)
get_among used t [] u e = absurd cc
get_among used t (v ∷ us) u e =
    one_get used t v us (same_type v t) (used v) (same_type_is v t) (λ same. ap used (same_type_is v t same) ∙ u)
    (λ other. get_among used t us u (rest_among (same_type v t) (is_among t us) e other))

-- the slots with the hidden ones, and the place of each type's
abbrev with_hidden : List Slot → (Ty → Bool) → List Slot
with_hidden slots used = slots ++ hidden_slots used all_types

abbrev place : List Slot → (Ty → Bool) → Ty → ℕ
place slots used = placed (length slots) (λ t. used_before used t all_types)

hidden_get : (slots : List Slot) (used : Ty → Bool) (t : Ty) → used t ≡ true → slice_get (with_hidden slots used) (place slots used t) ≡ Some (hidden_slot t)
hidden_get slots used t u =
    behind_get slots (hidden_slots used all_types) (used_before used t all_types) ∙ get_among used t all_types u (all_among t)

hidden_set : (slots : List Slot) (used : Ty → Bool) (t : Ty) → used t ≡ true → MaySet (with_hidden slots used) [] (place slots used t) t
hidden_set slots used t u = record { of = hidden_slot t; there = hidden_get slots used t u; ty = refl; set = refl; free = refl }

still_set : (slots : List Slot) (used : Ty → Bool) (slot : ℕ) (t : Ty) → MaySet slots [] slot t → MaySet (with_hidden slots used) [] slot t
still_set slots used slot t h =
    record { of = h.of; there = front_get slots (hidden_slots used all_types) slot h.of h.there; ty = h.ty; set = h.set; free = h.free }

set_as : (slots : List Slot) (slot : ℕ) (t u : Ty) → u ≡ t → MaySet slots [] slot t → MaySet slots [] slot u
set_as slots slot t u e h = subst (λ (x : Ty). MaySet slots [] slot x) (sym e) h

-- ---- expressions

kept_made : (slots : List Slot) (used : Ty → Bool) (t : Ty) → used t ≡ true → IsExpr (with_hidden slots used) (kept (place slots used) t)
kept_made slots used t u = (hidden_slot t, hidden_get slots used t u, refl)

operand_made : (slots : List Slot) (used : Ty → Bool) (s : Spot) (o : Operand) → OperandFits slots o → IsExpr (with_hidden slots used) (operand_expr s o)
operand_made slots used s (operand.Variable slot t) h = (h.0, front_get slots (hidden_slots used all_types) slot h.0 h.1, h.2)
operand_made slots used s (operand.Number t v) h = h

operand_is : (s : Spot) (o : Operand) → ty_of (operand_expr s o) ≡ operand_type o
operand_is s (operand.Variable slot t) = refl
operand_is s (operand.Number t v) = refl

turned_made : (slots : List Slot) (negated : Bool) (s : Spot) (e : TExprTree) (t : Ty) → IsExpr slots e → ty_of e ≡ t → OfBool negated t
    → IsExpr slots (turned negated s e) × (ty_of (turned negated s e) ≡ t)
turned_made slots true s e t h is f = ((h, is ∙ f refl, refl), sym (f refl))
turned_made slots false s e t h is f = (h, is)

truth_fits : (b : Bool) → fits ty.Bool (truth b) ≡ true
truth_fits true = refl
truth_fits false = refl

-- ---- statements

combine_made : (laws : PartLaws) (slots : List Slot) (used : Ty → Bool) (op : BinOp) (s : Spot) (t : Ty) (e : TExprTree) (u : Ty) (c : Option Ty)
    → IfSome c (λ w. (within t w ≡ true) × (within u w ≡ true) × (common op w w ≡ Some w))
    → used t ≡ true → IsExpr (with_hidden slots used) e → ty_of e ≡ u → used (combined_type op t c) ≡ true
    → IsStmt (with_hidden slots used) [] (combining (place slots used) op s t e u c)
combine_made laws slots used op s t e u None m k h is r = (hidden_set slots used t k, kept_made slots used t k)
combine_made laws slots used op s t e u (Some w) m k h is r =
    let a = laws.widens_to (with_hidden slots used) w t (kept (place slots used) t) refl m.0 (kept_made slots used t k) in
    let b = laws.widens_to (with_hidden slots used) w u e is m.1 h in
    (hidden_set slots used (result op w) r, (a.0, b.0, a.1, b.1, m.2))

-- the statement of an action; LD doesn't look at the result
action_made : (laws : PartLaws) (slots : List Slot) (used : Ty → Bool) (spot s : Spot) (t : Ty) (a : Action) → ActionFits slots t a
    → (loads a ≡ false → used t ≡ true) → used (next_type t a) ≡ true → IsStmt (with_hidden slots used) [] (action_stmt (place slots used) spot s t a)
action_made laws slots used spot s t (action.Load negated o) h k r =
    let x = turned_made (with_hidden slots used) negated spot (operand_expr s o) (operand_type o) (operand_made slots used s o h.0) (operand_is s o) h.1 in (
      set_as (with_hidden slots used) (place slots used (operand_type o)) (operand_type o) (ty_of (turned negated spot (operand_expr s o))) x.1
          (hidden_set slots used (operand_type o) r),
      x.0,
    )
action_made laws slots used spot s t (action.Store negated slot u) h k r =
    let x = turned_made (with_hidden slots used) negated spot (kept (place slots used) t) t (kept_made slots used t (k refl)) refl h.2 in
    let y = laws.widens_to (with_hidden slots used) u t (turned negated spot (kept (place slots used) t)) x.1 h.1 x.0 in
    (set_as (with_hidden slots used) slot u (ty_of (widened u t (turned negated spot (kept (place slots used) t)))) y.1 (still_set slots used slot u h.0), y.0)
action_made laws slots used spot s t (action.Put to slot u) h k r =
    let set = set_as (with_hidden slots used) slot u ty.Bool (sym h.2) (still_set slots used slot u h.0) in
    ((kept_made slots used t (k refl), h.1, ((set, truth_fits to), tt), tt), tt)
action_made laws slots used spot s t action.Complement h k r =
    (set_as (with_hidden slots used) (place slots used t) t ty.Bool (sym h) (hidden_set slots used t (k refl)), (kept_made slots used t (k refl), h, refl))
action_made laws slots used spot s t (action.Combine op negated o) h k r =
    let x = turned_made (with_hidden slots used) negated spot (operand_expr s o) (operand_type o) (operand_made slots used s o h.0) (operand_is s o) h.1 in
    combine_made laws slots used op spot t (turned negated spot (operand_expr s o)) (operand_type o) (common op t (operand_type o))
    (laws.meets op t (operand_type o)) (k refl) x.0 x.1 r

-- the first instruction finds a used type where it looks at the result
abbrev pub FindsUsed : (Ty → Bool) → Ty → List Instruction → Type 0
FindsUsed used t [] = Unit {0}
FindsUsed used t (i ∷ is) = loads i.action ≡ false → used t ≡ true

always_used : (used : Ty → Bool) (t : Ty) (is : List Instruction) → used t ≡ true → FindsUsed used t is
always_used used t [] u = tt
always_used used t (i ∷ is) u = λ e. u

-- statements of instructions that take their types keep the rules
pub statements-made : (laws : PartLaws) (slots : List Slot) (used : Ty → Bool) (t : Ty) (is : List Instruction) → AreFitting slots t is
    → ((u : Ty) → uses is t u ≡ true → used u ≡ true) → FindsUsed used t is
    → AreStmts (with_hidden slots used) [] (statements (place slots used) t is)
statements-made laws slots used t [] f h k = tt
statements-made laws slots used t (i ∷ is) f h k =
    let next : Ty = next_type t i.action in
    let here : used next ≡ true = h next (ap (λ (b : Bool). b || uses is next next) (same_self next) ∙ or_true (uses is next next)) in (
      action_made laws slots used i.spot i.at t i.action f.0 k here,
      statements-made laws slots used next is f.1 (λ u e. h u (or_rest (same_type next u) (uses is next u) e)) (always_used used next is here),
    )
