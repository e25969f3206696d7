-- Folding: what `fold` replaces. An operation that reads CONSTs alone gives one value in every cycle.
use Rattle.std.specs.Prelude.{◌≡◌, ℕ, Bool, true, false, cond, nat_lt, ℤ, pos, List, [], ◌∷◌, ◌++◌, slice_get, take, Option, Some, None, Ok, Err}
use Rattle.vcp_base.specs.declared.kind.Kind.{Kind}
use Rattle.vcp_base.specs.declared.kind.Kind.TheVariants as kind
use Rattle.vcp_base.specs.Kinds.{operands, Outcome, outcome}
use Rattle.op_graph.specs.declared.op.Op.{Op}
use Rattle.op_graph.specs.Lists.{Lists}

-- the kind has operands, and reads and writes no cell and no output
abbrev pub computes : Kind → Bool
computes kind.Input = false
computes kind.Const = false
computes kind.Load = false
computes kind.Store = false
computes kind.Out = false
computes _ = true

-- the number of a CONST
abbrev pub number_of : Kind → ℤ → Option ℤ
number_of kind.Const imm = Some imm
number_of _ imm = None

-- the value of a CONST among the operations
abbrev pub constant : Option Op → Option ℤ
constant None = None
constant (Some op) = number_of op.kind op.imm

-- the value of operand j, which reads operation n, where that is a CONST; 0 where there is no such operand
abbrev pub fixed_operand : List Op → Kind → ℕ → ℕ → Option ℤ
fixed_operand before k j n = cond (nat_lt j (operands k)) (constant (slice_get before n)) (Some (pos 0))

abbrev pub value_unless_stop : Outcome → Option ℤ
value_unless_stop (Ok v) = Some v
value_unless_stop (Err why) = None

-- what a function gives of three values, where all are there
abbrev pub applied : (ℤ → ℤ → ℤ → Outcome) → Option ℤ → Option ℤ → Option ℤ → Option ℤ
applied f (Some a) (Some b) (Some c) = value_unless_stop (f a b c)
applied f (Some a) (Some b) None = None
applied f (Some a) None c = None
applied f None b c = None

-- the value of an operation that reads CONSTs alone among those before it, where it does not stop
abbrev pub fixed_value : List Op → Op → Option ℤ
fixed_value before op = cond (computes op.kind)
    (applied (outcome op.kind op.from op.ty op.imm)
    (fixed_operand before op.kind 0 op.a) (fixed_operand before op.kind 1 op.b) (fixed_operand before op.kind 2 op.c))
    None

-- the CONST of a value, in the place of an operation
abbrev pub const_for : Op → ℤ → Op
const_for op v = record { kind = kind.Const; from = op.ty; ty = op.ty; a = 0; b = 0; c = 0; imm = v; spot = op.spot; turn = op.turn }

abbrev pub replaced : Op → Option ℤ → Op
replaced op None = op
replaced op (Some v) = const_for op v

-- an operation after those before it, or the CONST of its value
abbrev pub folded_op : List Op → Op → Op
folded_op before op = replaced op (fixed_value before op)

-- operations that come after those in `done`, which are folded: each is folded over what those before it have become
abbrev pub folded_after : List Op → List Op → List Op
folded_after done [] = []
folded_after done (op ∷ ops) = folded_op done op ∷ folded_after (done ++ folded_op done op ∷ []) ops

-- the folded graph
abbrev pub folded : Lists → Lists
folded g = record g { operations = folded_after [] g.operations }

-- no operation is left that `fold` replaces
abbrev pub NoneFolds : Lists → Type 0
NoneFolds g = (i : ℕ) (op : Op) → slice_get g.operations i ≡ Some op → fixed_value (take i g.operations) op ≡ None
