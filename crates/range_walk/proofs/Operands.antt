-- Operands: what an operation reads is in its range.
use Rattle.std.proofs.Common.{◌≡◌, ℕ, ◌<◌, ℤ, pos, Bool, true, false, cond, List, refl, sym, ap, subst, ◌∙◌, nat_lt, arith}
use borrow.Author.Tests.{ltb-true, lt-true}
use Rattle.std.specs.Prelude.{unsigned_abs}
use Rattle.std.proofs.lemmas.Bool.{cond-true}
use Rattle.vcp_base.specs.declared.kind.Kind.{Kind}
use Rattle.vcp_base.specs.declared.kind.Kind.TheVariants as kind
use Rattle.vcp_base.specs.Values.{at}
use Rattle.vcp_base.specs.Kinds.{operands, value, same}
use Rattle.op_graph.specs.declared.op.Op.{Op}
use Rattle.op_graph.specs.GraphRun.{operand, read}
use Rattle.range_walk.specs.declared.range.Range.{Range}
use Rattle.range_walk.specs.declared.range.Bounds.{Bounds}
use Rattle.range_walk.specs.Intervals.{IsIn, IsWithin}
use Rattle.range_walk.specs.Walking.{OperandIs, reads_earlier}

pub other_there : (cells count : ℕ) (k : Kind) (imm : ℤ) (n : ℕ) → (k ≡ kind.Load → ⊥) → OperandIs cells count k imm n → n < count
other_there cells count kind.Load imm n other h = absurd (other refl)
other_there cells count _ imm n other h = h

pub load_read : (r : Range) (held vs : List ℤ) (k : Kind) (imm : ℤ) (n : ℕ) → k ≡ kind.Load → IsIn r (at held (unsigned_abs imm))
    → IsIn r (read held vs k imm n)
load_read r held vs k imm n is h = subst (λ j. IsIn r (read held vs j imm n)) (sym is) h

pub read_other : (held vs : List ℤ) (k : Kind) (imm : ℤ) (n : ℕ) → (k ≡ kind.Load → ⊥) → read held vs k imm n ≡ at vs n
read_other held vs kind.Load imm n other = absurd (other refl)
read_other held vs _ imm n other = refl

-- an operand that is there, and one that isn't
pub operand_read : (r : Range) (b : Bool) (v : ℤ) → b ≡ true → IsIn r v → IsIn r (cond b v (pos 0))
operand_read r b v is h = subst (λ t. IsIn r (cond t v (pos 0))) (sym is) h

pub operand_none : (r : Range) (b : Bool) (v : ℤ) → b ≡ false → IsIn r (pos 0) → IsIn r (cond b v (pos 0))
operand_none r b v is h = subst (λ t. IsIn r (cond t v (pos 0))) (sym is) h

-- ---- one operation that is read twice

more_than_none : (n : ℕ) → nat_lt 1 n ≡ true → nat_lt 0 n ≡ true
more_than_none n h = let more : 1 < n = ltb-true 1 n h in sym (lt-true 0 n (omega arith))

pub same_operands : (held vs : List ℤ) (op : Op) → nat_lt 1 (operands op.kind) ≡ true → op.a ≡ op.b → operand held vs op 0 op.a ≡ operand held vs op 1 op.b
same_operands held vs op has same =
    cond-true (nat_lt 0 (operands op.kind)) (read held vs op.kind op.imm op.a) (pos 0) (more_than_none (operands op.kind) has)
    ∙ ap (λ n. read held vs op.kind op.imm n) same
    ∙ sym (cond-true (nat_lt 1 (operands op.kind)) (read held vs op.kind op.imm op.b) (pos 0) has)

-- ---- what a SEL reads

pub choice_second : (r : Range) (held vs : List ℤ) (op : Op) → op.kind ≡ kind.Sel → IsIn r (at vs op.b) → IsIn r (operand held vs op 1 op.b)
choice_second r held vs op is h = subst (λ k. IsIn r (cond (nat_lt 1 (operands k)) (read held vs k op.imm op.b) (pos 0))) (sym is) h

pub choice_value : (r : Bounds) (held vs : List ℤ) (op : Op) → op.kind ≡ kind.Sel → IsWithin r (cond (same (at vs op.a) (pos 0)) (at vs op.b) (at vs op.c))
    → IsWithin r (value op.kind op.imm (operand held vs op 0 op.a) (operand held vs op 1 op.b) (operand held vs op 2 op.c))
choice_value r held vs op is h =
    subst (λ k. IsWithin r (value k op.imm (cond (nat_lt 0 (operands k)) (read held vs k op.imm op.a) (pos 0))
    (cond (nat_lt 1 (operands k)) (read held vs k op.imm op.b) (pos 0)) (cond (nat_lt 2 (operands k)) (read held vs k op.imm op.c) (pos 0)))) (sym is) h

-- ---- operations that are read

pub earlier_is : (k : Kind) (j cells i : ℕ) (imm : ℤ) (n : ℕ) → reads_earlier k j ≡ true → (nat_lt j (operands k) ≡ true → OperandIs cells i k imm n) → n < i
earlier_is kind.Load j cells i imm n reads is = absurd cc
earlier_is _ j cells i imm n reads is = is reads
