-- Marking: which operations are marked while those that are needed are looked for, and the order in which they were found.
-- How the code finds what is needed, and no promise: what is promised is in Pruning.
use Rattle.std.specs.Option.{is_some}
use Rattle.std.specs.Prelude.{◌≡◌, ◌⊎◌, ℕ, suc, Bool, true, cond, List, [], ◌∷◌, length, slice_get, Some}
use Rattle.op_graph.specs.declared.op.Op.{Op}
use Rattle.op_graph.specs.declared.op.Loaded.{Loaded}
use Rattle.op_graph.specs.Lists.{Lists}
use Rattle.op_graph.specs.Reads.{Reads, named}
use Rattle.op_graph.specs.Rules.{reads_as}
use Rattle.graph_passes.specs.Pruning.{MayBeKept, Needed}
use Rattle.graph_passes.specs.Tables.{marked}

-- the operation reads operation k
pub record Takes (op : Op) (k : ℕ) : Type 0 where
  pub place : ℕ
  pub operand : is_some (reads_as op.kind op.from place) ≡ true
  pub names : named op place ≡ k

-- operations q and k are the LOAD and the STORE of one cell, in either order
pub record OfOneCell (g : Lists) (q k : ℕ) : Type 0 where
  pub cell : ℕ
  pub load : Loaded
  pub store : ℕ
  pub load_there : slice_get g.loads cell ≡ Some load
  pub store_there : slice_get g.stores cell ≡ Some store
  pub are : ((q ≡ load.load) × (k ≡ store)) ⊎ ((q ≡ store) × (k ≡ load.load))

-- operation k must be kept where q is: q reads it, or the two are of one cell
pub record Follows (g : Lists) (q k : ℕ) : Type 0 where
  pub why : ((j : ℕ) × Reads g.operations q k j) ⊎ OfOneCell g q k

-- how many are marked
abbrev pub marks_in : List Bool → ℕ
marks_in [] = 0
marks_in (m ∷ marks) = cond m (suc (marks_in marks)) (marks_in marks)

-- the queue has each marked operation once
pub record Queues (marks : List Bool) (queue : List ℕ) : Type 0 where
  pub at : (k : ℕ) → marked marks k ≡ true → (p : ℕ) × (slice_get queue p ≡ Some k)
  pub are : (p k : ℕ) → slice_get queue p ≡ Some k → marked marks k ≡ true
  pub count : length queue ≡ marks_in marks

-- operations of the set P are marked too, and put last in the queue
pub record Grows (P : ℕ → Type 0) (marks : List Bool) (queue : List ℕ) (marks_after : List Bool) (queue_after : List ℕ) : Type 0 where
  pub many : length marks_after ≡ length marks
  pub kept : (k : ℕ) → marked marks k ≡ true → marked marks_after k ≡ true
  pub sound : (k : ℕ) → marked marks_after k ≡ true → (marked marks k ≡ true) ⊎ P k
  pub order : (p k : ℕ) → slice_get queue p ≡ Some k → slice_get queue_after p ≡ Some k
  pub lists : Queues marks_after queue_after

-- the marked operations are those that are needed, and may be kept without the others
pub record AreNeeded (g : Lists) (marks : List Bool) : Type 0 where
  pub many : length marks ≡ length g.operations
  pub may : MayBeKept g (marked marks)
  pub needed : (i : ℕ) → marked marks i ≡ true → Needed g i
