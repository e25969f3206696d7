-- Differences: by how much the residues of a run under faults differ from the expected ones. They hold no value of the program and no word.
-- Definitions, over the act at each operation in each cycle: what an act does to a call and to its answer,
-- and by how much residues then differ from the expected ones, as sums of multipliers times differences
-- that hold no value of the program and no word.
use Rattle.std.specs.Prelude.{◌≡◌, ℕ, zero, suc, ◌+◌, ◌<◌, List, [], ◌∷◌, ◌++◌, map, Option, Some, None, ℤ, pos, neg_ℤ, ◌+ℤ◌, ◌-ℤ◌, ◌*ℤ◌, unsigned_abs}
use Rattle.vcp_base.specs.declared.kind.Kind.{Kind}
use Rattle.vcp_base.specs.declared.kind.Kind.TheVariants as kind
use Rattle.vcp_base.specs.Kinds.{multiplier}
use Rattle.vcp_base.specs.Values.{at}
use Rattle.coded_unit.specs.Step.{weighed}
use Rattle.op_graph.specs.declared.op.Op.{Op}
use Rattle.op_graph.specs.Lists.{Lists, cells}
use Rattle.op_graph.specs.Reads.{named}
use Rattle.signature_table.specs.Signatures.{Numbers, signature, read_signature, store_of}
use Rattle.fault_script.specs.declared.act.Act.{Act}
use Rattle.fault_script.specs.declared.act.Act.TheVariants as act
use Rattle.fault_script.specs.declared.act.Fault.{Fault}
use Rattle.fault_script.specs.Changes.{Acts, acts_of}

-- the signature that operand j of an operation has
abbrev pub origin : Numbers → Lists → Op → ℕ → ℤ
origin t g op j = read_signature t.profile t.seed t.step (store_of (cells g) (unsigned_abs op.imm)) op.kind (named op j)

-- The differences of a cycle: of the words that the cells have when it begins, and of the answers of its operations so far.
pub record Frame : Type 0 where
  pub held : List ℤ
  pub given : List ℤ

-- the difference of what an operation of this kind reads as operand j
abbrev pub read_as : Frame → Op → ℕ → Kind → ℤ
read_as f op j kind.Load = at f.held (unsigned_abs op.imm)
read_as f op j _ = at f.given (named op j)

abbrev pub read : Frame → Op → ℕ → ℤ
read f op j = read_as f op j op.kind

-- the difference that operands bring, each times its multiplier
abbrev pub brought : Frame → Op → Kind → ℤ
brought f op k = weighed k (read f op 0) (read f op 1) (read f op 2)

-- what another kind makes of operand j's signature, with the correction of the operation's own
abbrev pub exchanged : Numbers → Lists → Op → Kind → ℕ → ℤ
exchanged t g op other j = (multiplier other j -ℤ multiplier op.kind j) *ℤ origin t g op j

-- The difference of operation k, where `past` has the differences of the whole cycle before and `now` those of the operations before this one.
abbrev pub difference : Numbers → Lists → Frame → Frame → ℕ → Op → Option Act → ℤ
difference t g past now k op None = brought now op op.kind
difference t g past now k op (Some (act.OperandAdd j e)) = brought now op op.kind +ℤ multiplier op.kind j *ℤ e
difference t g past now k op (Some (act.OperandFrom j r)) =
    brought now op op.kind
    +ℤ multiplier op.kind j *ℤ (at now.given r +ℤ pos (signature t.profile t.seed r) -ℤ origin t g op j -ℤ read now op j)
difference t g past now k op (Some (act.OperandStale j)) =
    brought now op op.kind +ℤ multiplier op.kind j *ℤ (read past op j -ℤ pos t.step -ℤ read now op j)
difference t g past now k op (Some (act.ResultAdd e)) = brought now op op.kind +ℤ e
difference t g past now k op (Some (act.Operator other)) =
    brought now op other +ℤ (exchanged t g op other 0 +ℤ exchanged t g op other 1 +ℤ exchanged t g op other 2)
difference t g past now k op (Some act.Skip) = at past.given k -ℤ pos t.step

-- the differences of a cycle's operations, after those of `before`, the next of which is operation k
abbrev pub given_from : Numbers → Lists → (ℕ → Option Act) → Frame → List ℤ → List ℤ → ℕ → List Op → List ℤ
given_from t g acts past held before k [] = before
given_from t g acts past held before k (op ∷ ops) =
    given_from t g acts past held (before ++ difference t g past (record { held = held; given = before }) k op (acts k) ∷ []) (k + 1) ops

-- the differences of the words that cells have after a cycle: those of their STOREs
abbrev pub held_after : Lists → List ℤ → List ℤ
held_after g given = map (λ n. at given n) g.stores

-- the differences of a cycle, after the cycle before
abbrev pub cycle_after : Numbers → Lists → (ℕ → Option Act) → Frame → Frame
cycle_after t g acts past =
    record { held = held_after g past.given; given = given_from t g acts past (held_after g past.given) [] 0 g.operations }

-- before the first cycle there is none
abbrev pub no_frame : Frame
no_frame = record { held = []; given = [] }

-- the differences of cycle n of a run under these acts
abbrev pub frame : Numbers → Lists → Acts → ℕ → Frame
frame t g acts zero = cycle_after t g (acts zero) no_frame
frame t g acts (suc n) = cycle_after t g (acts (suc n)) (frame t g acts n)

-- d_n[k]: the difference of operation k in cycle n
abbrev pub difference_at : Numbers → Lists → Acts → ℕ → ℕ → ℤ
difference_at t g acts n k = at (frame t g acts n).given k

-- The difference that one act makes at operation k where nothing before it is amiss: it is made of multipliers, signatures, the step and
-- the script's e alone.
abbrev pub made : Numbers → Lists → Op → Act → ℤ
made t g op (act.OperandAdd j e) = multiplier op.kind j *ℤ e
made t g op (act.OperandFrom j r) = multiplier op.kind j *ℤ (pos (signature t.profile t.seed r) -ℤ origin t g op j)
made t g op (act.OperandStale j) = multiplier op.kind j *ℤ neg_ℤ (pos t.step)
made t g op (act.ResultAdd e) = e
made t g op (act.Operator other) = exchanged t g op other 0 +ℤ exchanged t g op other 1 +ℤ exchanged t g op other 2
made t g op act.Skip = neg_ℤ (pos t.step)

-- one fault alone: no difference stands before it, and at its operation the one that its act makes
pub record OneFault (t : Numbers) (g : Lists) (f : Fault) (op : Op) : Type 0 where
  pub before : (n k : ℕ) → n < f.cycle → difference_at t g (acts_of (f ∷ [])) n k ≡ pos 0
  pub earlier : (k : ℕ) → k < f.op → difference_at t g (acts_of (f ∷ [])) f.cycle k ≡ pos 0
  pub there : difference_at t g (acts_of (f ∷ [])) f.cycle f.op ≡ made t g op f.act
