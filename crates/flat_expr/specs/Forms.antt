-- Forms: what operation an operator between operands becomes.
use Rattle.std.specs.Prelude.{ℕ, true, false}
use Rattle.vcp_base.specs.declared.kind.Kind.{Kind}
use Rattle.vcp_base.specs.declared.kind.Kind.TheVariants as kind
use Rattle.st_tree.specs.declared.expr.BinOp.{BinOp}
use Rattle.st_tree.specs.declared.expr.BinOp.TheVariants as bin
use Rattle.flat_expr.specs.declared.op_form.Manner.{Manner}
use Rattle.flat_expr.specs.declared.op_form.Manner.TheVariants as manner

-- arithmetic can stop, so that its operands are masked; three comparisons are NOT of another
abbrev pub manner_of : BinOp → Manner
manner_of bin.Mul = manner.Masked false
manner_of bin.Div = manner.Masked true
manner_of bin.Mod = manner.Masked true
manner_of bin.Add = manner.Masked false
manner_of bin.Sub = manner.Masked false
manner_of bin.Le = manner.Denied
manner_of bin.Ge = manner.Denied
manner_of bin.Ne = manner.Denied
manner_of _ = manner.Alone

abbrev pub kind_of : BinOp → Kind
kind_of bin.Mul = kind.Mul
kind_of bin.Div = kind.Div
kind_of bin.Mod = kind.Mod
kind_of bin.Add = kind.Add
kind_of bin.Sub = kind.Sub
kind_of bin.Lt = kind.Lt
kind_of bin.Gt = kind.Lt
kind_of bin.Le = kind.Lt
kind_of bin.Ge = kind.Lt
kind_of bin.Eq = kind.Eq
kind_of bin.Ne = kind.Eq
kind_of bin.And = kind.And
kind_of bin.Or = kind.Or
kind_of bin.Xor = kind.Xor

-- the operands in the order in which the operation reads them
abbrev pub left : BinOp → ℕ → ℕ → ℕ
left bin.Gt a b = b
left bin.Le a b = b
left _ a b = a

abbrev pub right : BinOp → ℕ → ℕ → ℕ
right bin.Gt a b = a
right bin.Le a b = a
right _ a b = b
