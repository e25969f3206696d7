-- Signatures: the numbers of which the residues of words are made.
use Rattle.std.specs.Prelude.{◌≡◌, ℕ, ◌+◌, ◌*◌, ◌%◌, ◌^◌, ◌<◌, ◌≤◌, ℤ, pos, negsuc, ◌-ℤ◌, ◌*ℤ◌, ◌≤ℤ◌, unsigned_abs, List, [], ◌∷◌, length, slice_get, Option, Some, None, All}
use Rattle.vcp_base.specs.declared.code.Profile.{Profile}
use Rattle.vcp_base.specs.declared.code.Profile.TheVariants as profile
use Rattle.vcp_base.specs.Code.{modulus}
use Rattle.vcp_base.specs.Limits.{seeds, most_step, most_operations}
use Rattle.vcp_base.specs.Kinds.{multiplier}
use Rattle.vcp_base.specs.declared.kind.Kind.{Kind}
use Rattle.vcp_base.specs.declared.kind.Kind.TheVariants as kind
use Rattle.coded_unit.specs.Words.{modulo}
use Rattle.op_graph.specs.declared.op.Op.{Op}
use Rattle.op_graph.specs.declared.op.Cell.{Cell}
use Rattle.op_graph.specs.Lists.{Lists, cells}

-- how many signatures a code has: they are the numbers below this one
abbrev pub signatures : Profile → ℕ
signatures profile.Narrow = 2 ^ 30
signatures profile.Wide = 2 ^ 60

-- by how much signatures grow from one operation to the next
abbrev pub growth : Profile → ℕ
growth profile.Narrow = 214748365
growth profile.Wide = 922337203685477581

-- The signature of operation i. Distinct operations have distinct ones, since 5 times the growth is one more than a multiple
-- of the number of signatures: 2 ^ 30 + 1 in the narrow code, and 2 ^ 62 + 1 in the wide one.
unfoldable pub signature : Profile → ℕ → ℕ → ℕ
signature p seed i = (seed + growth p * i) % signatures p

-- the stamp of cycle n, counted from 0
abbrev pub stamp : ℕ → ℕ → ℕ
stamp step n = step * (n + 1)

-- the stamp of the cycle before cycle n, and 0 before cycle 0
abbrev pub stamp_before : ℕ → ℕ → ℕ
stamp_before step n = step * n

-- the residue that the word of operation i has in cycle n where nothing is amiss
abbrev pub expected : Profile → ℕ → ℕ → ℕ → ℕ → ℕ
expected p seed step i n = signature p seed i + stamp step n

-- what a LOAD reads: the word that its cell's STORE, this operation, answered in the cycle before, whose stamp is less by
-- the step
abbrev pub stored_signature : Profile → ℕ → ℕ → Option ℕ → ℤ
stored_signature p seed step None = pos 0
stored_signature p seed step (Some store) = pos (signature p seed store) -ℤ pos step

-- the signature of an operand of an operation of this kind that reads operation n, or for a LOAD, of what it reads
abbrev pub read_signature : Profile → ℕ → ℕ → Option ℕ → Kind → ℕ → ℤ
read_signature p seed step store kind.Load n = stored_signature p seed step store
read_signature p seed step store _ n = pos (signature p seed n)

-- in the range of what an operand reads: a signature, or one less the step
abbrev pub IsReadSignature : ℤ → Type 0
IsReadSignature s = (negsuc most_step ≤ℤ s) × (s ≤ℤ pos (2 ^ 60))

-- The correction of operation k takes the signatures of its operands out of the answer's residue and puts its own in.
-- An operand that isn't there has the multiplier 0. For a LOAD the STORE of its cell is given.
abbrev pub correction : Profile → ℕ → ℕ → ℕ → Op → Option ℕ → ℕ
correction p seed step k op store =
    modulo p
    (pos (signature p seed k)
    -ℤ multiplier op.kind 0 *ℤ read_signature p seed step store op.kind op.a
    -ℤ multiplier op.kind 1 *ℤ read_signature p seed step store op.kind op.b
    -ℤ multiplier op.kind 2 *ℤ read_signature p seed step store op.kind op.c)

-- the STORE of a cell that is there
abbrev pub store_in : Option Cell → Option ℕ
store_in None = None
store_in (Some cell) = Some cell.store

-- the STORE of cell i of these
abbrev pub store_of : List Cell → ℕ → Option ℕ
store_of held i = store_in (slice_get held i)

-- the corrections of operations that are counted from k, where these are the cells
abbrev pub corrections_from : Profile → ℕ → ℕ → List Cell → ℕ → List Op → List ℕ
corrections_from p seed step held k [] = []
corrections_from p seed step held k (op ∷ ops) =
    correction p seed step k op (store_of held (unsigned_abs op.imm)) ∷ corrections_from p seed step held (k + 1) ops

-- the corrections of a graph's operations
abbrev pub corrections : ℕ → ℕ → Lists → List ℕ
corrections seed step g = corrections_from g.profile seed step (cells g) 0 g.operations

-- the numbers of a table, in a code
pub record Numbers : Type 0 where
  pub profile : Profile
  pub seed : ℕ
  pub step : ℕ
  pub corrections : List ℕ

-- a seed and a step in their ranges, no more operations than a graph may have, and corrections that are residues
pub record IsTable (t : Numbers) : Type 0 where
  pub seed : t.seed < seeds
  pub step_from : 1 ≤ t.step
  pub step_to : t.step ≤ most_step
  pub few : length t.corrections ≤ most_operations
  pub residues : All (λ c. c < modulus t.profile) t.corrections

-- the table of a graph
abbrev pub table_of : ℕ → ℕ → Lists → Numbers
table_of seed step g = record { profile = g.profile; seed = seed; step = step; corrections = corrections seed step g }

-- the table is the graph's, and in its code
abbrev pub IsTableOf : Numbers → Lists → Type 0
IsTableOf t g = (t.profile ≡ g.profile) × (t.corrections ≡ corrections t.seed t.step g)
