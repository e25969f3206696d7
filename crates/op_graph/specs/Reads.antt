-- Reads: what an operation reads.
use Rattle.std.specs.Option.{is_some}
use Rattle.std.specs.Prelude.{◌≡◌, ℕ, zero, suc, ◌<◌, true, nat_lt, ℤ, unsigned_abs, List, length, slice_get, Some}
use Rattle.vcp_base.specs.declared.kind.Kind.{Kind}
use Rattle.vcp_base.specs.declared.kind.Kind.TheVariants as kind
use Rattle.vcp_base.specs.Kinds.{operands}
use Rattle.op_graph.specs.declared.op.Op.{Op}
use Rattle.op_graph.specs.Rules.{reads_as}

-- the operation that operand j, counted from 0, names
abbrev pub named : Op → ℕ → ℕ
named op zero = op.a
named op (suc zero) = op.b
named op (suc (suc j)) = op.c

-- operation q reads operation k as its operand j; a LOAD reads its cell, and no operation
pub record Reads (ops : List Op) (q k j : ℕ) : Type 0 where
  pub op : Op
  pub there : slice_get ops q ≡ Some op
  pub operand : is_some (reads_as op.kind op.from j) ≡ true
  pub names : named op j ≡ k

-- what an operand reads is there: the cell of a LOAD, and else an operation before this one
abbrev pub OperandThere : List Op → List ℕ → Kind → ℤ → ℕ → Type 0
OperandThere before stores kind.Load imm n = (m : ℕ) × (slice_get stores (unsigned_abs imm) ≡ Some m)
OperandThere before stores _ imm n = n < length before

-- the operands that an operation has are there
pub record Linked (stores : List ℕ) (before : List Op) (op : Op) : Type 0 where
  pub first : nat_lt 0 (operands op.kind) ≡ true → OperandThere before stores op.kind op.imm op.a
  pub second : nat_lt 1 (operands op.kind) ≡ true → OperandThere before stores op.kind op.imm op.b
  pub third : nat_lt 2 (operands op.kind) ≡ true → OperandThere before stores op.kind op.imm op.c
