-- Touched: which operations a group of faults reaches, and in which cycles. It goes by what operations read, never by values.
use Rattle.std.specs.Prelude.{ℕ, ◌≡◌, ◌≤◌, zero, suc, ◌+◌, ◌-◌, Bool, false, cond, ◌&&◌, ◌||◌, nat_lt, List, [], ◌∷◌, ◌++◌, drop, length, map, slice_index_or, Option, None, unsigned_abs}
use Rattle.std.specs.Option.{is_some}
use Rattle.vcp_base.specs.declared.kind.Kind.{Kind}
use Rattle.vcp_base.specs.declared.kind.Kind.TheVariants as kind
use Rattle.vcp_base.specs.Kinds.{operands}
use Rattle.coded_unit.specs.declared.call.Answer.{Answer}
use Rattle.op_graph.specs.declared.op.Op.{Op}
use Rattle.op_graph.specs.Lists.{Lists}
use Rattle.op_graph.specs.Reads.{named}
use Rattle.fault_script.specs.declared.act.Act.{Act}
use Rattle.fault_script.specs.Changes.{Acts}

-- What a group touches in a cycle: the cells whose words it reaches when the cycle begins, and the operations whose answers it reaches.
pub record Marks : Type 0 where
  pub held : List Bool
  pub given : List Bool

-- the mark at place k; none where there is no such place
abbrev pub mark : List Bool → ℕ → Bool
mark marks k = slice_index_or marks k false

-- what an operation of this kind reads as operand j is touched: its cell for LOAD, and else the operation that it names
abbrev pub reads_touched_as : Marks → Op → ℕ → Kind → Bool
reads_touched_as m op j kind.Load = mark m.held (unsigned_abs op.imm)
reads_touched_as m op j _ = mark m.given (named op j)

-- the operation has an operand j, and what it reads there is touched
abbrev pub operand_touched : Marks → Op → ℕ → Bool
operand_touched m op j = nat_lt j (operands op.kind) && reads_touched_as m op j op.kind

-- The run without the faults, which gave the answers `other` in this cycle, stopped before operation k, and the operation at which it stopped is
-- touched. A stop is the last of a cycle's answers.
abbrev pub past_touched_stop : List Answer → List Bool → ℕ → Bool
past_touched_stop other given k = cond (nat_lt k (length other)) false (mark given (length other - 1))

-- Operation k is touched: a fault stands there, it reads what is touched, or it comes after a touched stop of the run without the faults.
abbrev pub touched_at : List Answer → (ℕ → Option Act) → Marks → ℕ → Op → Bool
touched_at other acts m k op =
    is_some (acts k) || operand_touched m op 0 || operand_touched m op 1 || operand_touched m op 2 || past_touched_stop other m.given k

-- the marks of a cycle's operations, after those of `before`, the next of which is operation k
abbrev pub given_marks : List Answer → (ℕ → Option Act) → List Bool → List Bool → ℕ → List Op → List Bool
given_marks other acts held before k [] = before
given_marks other acts held before k (op ∷ ops) =
    given_marks other acts held (before ++ touched_at other acts (record { held = held; given = before }) k op ∷ []) (k + 1) ops

-- these marks are those of the first operations of a cycle that begins with these marks of cells
abbrev pub BeginMarks : Lists → (ℕ → Option Act) → List Bool → List Bool → Type 0
BeginMarks g acts held marks = (other : List Answer) →
    given_marks other acts held [] 0 g.operations ≡ given_marks other acts held marks (length marks) (drop (length marks) g.operations)

-- the marks of a cycle that begins with these marks of cells
abbrev pub cycle_marks : Lists → List Answer → (ℕ → Option Act) → List Bool → Marks
cycle_marks g other acts held = record { held = held; given = given_marks other acts held [] 0 g.operations }

-- in each whole cycle without a fault that begins with these marks of cells, these are the marks of the operations
abbrev pub StaysMarked : Lists → List Bool → List Bool → Type 0
StaysMarked g held marks = (other : List Answer) (acts : ℕ → Option Act) → length g.operations ≤ length other → ((k : ℕ) → acts k ≡ None) →
    (cycle_marks g other acts held).given ≡ marks

-- the marks of the cells after a cycle: those of their STOREs
abbrev pub held_marks : Lists → List Bool → List Bool
held_marks g given = map (λ n. mark given n) g.stores

-- the marks of cycle n, where the run without the faults gave these answers, cycle by cycle; before the first cycle no cell is touched
abbrev pub marks_at : Lists → Acts → List (List Answer) → ℕ → Marks
marks_at g acts others zero = cycle_marks g (slice_index_or others 0 []) (acts 0) []
marks_at g acts others (suc n) =
    cycle_marks g (slice_index_or others (suc n) []) (acts (suc n)) (held_marks g (marks_at g acts others n).given)

-- operation k is touched in cycle n
abbrev pub touched : Lists → Acts → List (List Answer) → ℕ → ℕ → Bool
touched g acts others n k = mark (marks_at g acts others n).given k
