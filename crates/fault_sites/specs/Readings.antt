-- Readings: where the word of an operation is read, in order.
use Rattle.std.specs.Option.{is_some}
use Rattle.std.specs.Prelude.{◌≡◌, ℕ, suc, ◌<◌, ◌≤◌, ◌==◌, ◌&&◌, Bool, true, nat_lt, cond, List, [], ◌∷◌, ◌++◌, length, slice_get, slice_index_or, Some, pos}
use Rattle.vcp_base.specs.Kinds.{multiplier, operands}
use Rattle.op_graph.specs.declared.op.Cell.{Cell}
use Rattle.op_graph.specs.declared.op.Op.{Op}
use Rattle.op_graph.specs.Lists.{Lists, cells}
use Rattle.op_graph.specs.Reads.{named}
use Rattle.op_graph.specs.Rules.{reads_as}
use Rattle.fault_sites.specs.declared.reading.Reading.{Reading}

-- operand j of operation q, where it is the word of operation k
abbrev pub reading_as : ℕ → ℕ → Op → ℕ → List Reading
reading_as k q op j =
    cond (is_some (reads_as op.kind op.from j) && (k == named op j)) (record { op = q; operand = j; borders = 0; multiplier = multiplier op.kind j } ∷ []) []

abbrev pub readings_by : ℕ → ℕ → Op → List Reading
readings_by k q op = reading_as k q op 0 ++ (reading_as k q op 1 ++ reading_as k q op 2)

-- by these operations, which are counted from q
abbrev pub readings_from : ℕ → ℕ → List Op → List Reading
readings_from k q [] = []
readings_from k q (op ∷ ops) = readings_by k q op ++ readings_from k (suc q) ops

-- of a STORE, by the LOAD of its cell, in the next cycle
abbrev pub reading_across : ℕ → Cell → List Reading
reading_across k c = cond (k == c.store) (record { op = c.load; operand = 0; borders = 1; multiplier = pos 1 } ∷ []) []

abbrev pub readings_across : ℕ → List Cell → List Reading
readings_across k [] = []
readings_across k (c ∷ cells) = reading_across k c ++ readings_across k cells

-- the readings of operation k's word of one cycle, in the order of operations and operands, and last of all that in the next cycle
abbrev pub readings : Lists → ℕ → List Reading
readings g k = readings_from k 0 g.operations ++ readings_across k (cells g)

-- the same, where there is a next cycle or there is none
abbrev pub readings_within : Lists → Bool → ℕ → List Reading
readings_within g more k = readings_from k 0 g.operations ++ cond more (readings_across k (cells g)) []

-- ---- of all words

-- what is kept of operation k's word
abbrev pub word : List (List Reading) → ℕ → List Reading
word by_word k = slice_index_or by_word k []

-- these readings of each word are kept behind those that were
pub record Adds (more : ℕ → List Reading) (old new : List (List Reading)) : Type 0 where
  pub many : length new ≡ length old
  pub each : (k : ℕ) → k < length old → word new k ≡ word old k ++ more k

-- the readings of each operation's word
pub record AreReadings (g : Lists) (more : Bool) (by_word : List (List Reading)) : Type 0 where
  pub many : length by_word ≡ length g.operations
  pub each : (k : ℕ) (rs : List Reading) → slice_get by_word k ≡ Some rs → rs ≡ readings_within g more k

-- ---- what reads

-- a reading is by an operation that is there, as one of its operands, whose multiplier it has, at most so many cycle borders later
pub record IsReadBy (g : Lists) (high : ℕ) (r : Reading) : Type 0 where
  pub op : Op
  pub there : slice_get g.operations r.op ≡ Some op
  pub operand : nat_lt r.operand (operands op.kind) ≡ true
  pub multiplier_is : r.multiplier ≡ multiplier op.kind r.operand
  pub borders : r.borders ≤ high
