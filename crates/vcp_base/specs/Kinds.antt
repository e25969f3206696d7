-- Kinds: the table of elementary operations. Each kind has its operand types, its function on integers and its multipliers.
use Rattle.std.specs.Prelude.{ℕ, ◌==◌, Bool, true, false, cond, ◌&&◌, ◌||◌, not, List, [], ◌∷◌, length, ℤ, pos, negsuc, neg_ℤ, ◌+ℤ◌, ◌-ℤ◌, ◌*ℤ◌, int_lt, int_le}
use Rattle.std.specs.Prelude.{int_div, int_rem, nat_lt, slice_index_or, Result, Ok, Err}
use Rattle.vcp_base.specs.declared.ty.Ty.{Ty}
use Rattle.vcp_base.specs.declared.ty.Ty.TheVariants as ty
use Rattle.vcp_base.specs.declared.kind.Kind.{Kind}
use Rattle.vcp_base.specs.declared.kind.Kind.TheVariants as kind
use Rattle.vcp_base.specs.declared.kind.StopKind.{StopKind}
use Rattle.vcp_base.specs.declared.kind.StopKind.TheVariants as stop
use Rattle.vcp_base.specs.Types.{fits}

-- the multipliers of a kind, one for each operand; `negsuc 0` is -1 and `negsuc 1` is -2
abbrev pub multipliers : Kind → List ℤ
multipliers kind.Input = []
multipliers kind.Const = []
multipliers kind.Load = pos 1 ∷ []
multipliers kind.Store = pos 1 ∷ []
multipliers kind.Out = pos 1 ∷ []
multipliers kind.Conv = pos 1 ∷ []
multipliers kind.Neg = negsuc 0 ∷ []
multipliers kind.Not = negsuc 1 ∷ []
multipliers kind.Add = pos 1 ∷ pos 1 ∷ []
multipliers kind.Sub = pos 1 ∷ negsuc 0 ∷ []
multipliers kind.Mul = pos 2 ∷ pos 3 ∷ []
multipliers kind.Div = pos 4 ∷ pos 5 ∷ []
multipliers kind.Mod = pos 6 ∷ pos 7 ∷ []
multipliers kind.Eq = pos 8 ∷ pos 9 ∷ []
multipliers kind.Lt = pos 10 ∷ pos 11 ∷ []
multipliers kind.And = pos 12 ∷ pos 13 ∷ []
multipliers kind.Or = pos 14 ∷ pos 15 ∷ []
multipliers kind.Xor = pos 16 ∷ pos 17 ∷ []
multipliers kind.Sel = pos 18 ∷ pos 19 ∷ pos 20 ∷ []

-- how many operands a kind has
abbrev pub operands : Kind → ℕ
operands k = length (multipliers k)

-- the multiplier of operand j, counted from 0, and 0 where there is no such operand
abbrev pub multiplier : Kind → ℕ → ℤ
multiplier k j = slice_index_or (multipliers k) j (pos 0)

-- two integers are one
abbrev pub same : ℤ → ℤ → Bool
same a b = int_le a b && int_le b a

-- 1 for true, 0 for false
abbrev pub truth : Bool → ℤ
truth b = cond b (pos 1) (pos 0)

-- The value of a kind, from the operation's own number and the values of its operands.
-- `int_div` cuts towards zero, and `int_rem a b` is a - (a/b)*b.
abbrev pub value : Kind → ℤ → ℤ → ℤ → ℤ → ℤ
value kind.Input imm a b c = imm
value kind.Const imm a b c = imm
value kind.Load imm a b c = a
value kind.Store imm a b c = a
value kind.Out imm a b c = a
value kind.Conv imm a b c = a
value kind.Neg imm a b c = neg_ℤ a
value kind.Not imm a b c = pos 1 -ℤ a
value kind.Add imm a b c = a +ℤ b
value kind.Sub imm a b c = a -ℤ b
value kind.Mul imm a b c = a *ℤ b
value kind.Div imm a b c = int_div a b
value kind.Mod imm a b c = int_rem a b
value kind.Eq imm a b c = truth (same a b)
value kind.Lt imm a b c = truth (int_lt a b)
value kind.And imm a b c = truth (same a (pos 1) && same b (pos 1))
value kind.Or imm a b c = truth (same a (pos 1) || same b (pos 1))
value kind.Xor imm a b c = truth (not (same a b))
value kind.Sel imm a b c = cond (same a (pos 0)) b c

-- the type of operand j of an operation on values of type `from`
abbrev pub operand_type : Kind → ℕ → Ty → Ty
operand_type kind.Not j from = ty.Bool
operand_type kind.And j from = ty.Bool
operand_type kind.Or j from = ty.Bool
operand_type kind.Xor j from = ty.Bool
operand_type kind.Sel j from = cond (j == 0) ty.Bool from
operand_type _ j from = from

-- v may be the value of operand j; where the kind has no operand j, anything may
abbrev pub takes : Kind → ℕ → Ty → ℤ → Bool
takes k j from v = cond (nat_lt j (operands k)) (fits (operand_type k j from) v) true

-- each operand has a value of its type
abbrev pub operands_fit : Kind → Ty → ℤ → ℤ → ℤ → Bool
operands_fit k from a b c = takes k 0 from a && takes k 1 from b && takes k 2 from c

-- the kind divides, and by zero
abbrev pub divides_by_zero : Kind → ℤ → Bool
divides_by_zero kind.Div b = same b (pos 0)
divides_by_zero kind.Mod b = same b (pos 0)
divides_by_zero _ b = false

-- what an operation gives: a value, or why it stops
abbrev pub Outcome : Type 0
Outcome = Result ℤ StopKind

-- two operations stop for one cause
abbrev pub same_stop : StopKind → StopKind → Bool
same_stop stop.Range stop.Range = true
same_stop stop.DivZero stop.DivZero = true
same_stop stop.Operand stop.Operand = true
same_stop _ _ = false

-- the outcome with a result of type `to` where the operands fit or not, and the value is v where they do and none is a zero divisor
abbrev pub outcome_at : Ty → Bool → ℤ → Outcome
outcome_at to fit v = cond fit (cond (fits to v) (Ok v) (Err stop.Range)) (Err stop.Operand)

-- the outcome of an operation on values of type `from` with a result of type `to`
abbrev pub outcome : Kind → Ty → Ty → ℤ → ℤ → ℤ → ℤ → Outcome
outcome k from to imm a b c =
    cond (operands_fit k from a b c)
    (cond (divides_by_zero k b) (Err stop.DivZero)
    (cond (fits to (value k imm a b c)) (Ok (value k imm a b c)) (Err stop.Range)))
    (Err stop.Operand)
