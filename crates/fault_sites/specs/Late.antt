-- Late: the faults in which an operand is the word that an operation answered in the cycle before, with what has to be added for it taken from a run
-- without faults.
use Rattle.std.specs.Prelude.{ℕ, ◌+◌, ◌-◌, ◌==◌, Bool, false, not, cond, ◌&&◌, nat_lt, List, [], ◌∷◌, length, slice_get, unsigned_abs, Option, Some, None, ℤ, pos, ◌-ℤ◌}
use Rattle.vcp_base.specs.declared.kind.Kind.{Kind}
use Rattle.vcp_base.specs.declared.kind.Kind.TheVariants as kind
use Rattle.vcp_base.specs.Kinds.{operands, operand_type}
use Rattle.vcp_base.specs.Types.{within}
use Rattle.vcp_base.specs.Values.{at}
use Rattle.op_graph.specs.declared.op.Op.{Op}
use Rattle.op_graph.specs.GraphRun.{operand}
use Rattle.op_graph.specs.Lists.{Lists, cells}
use Rattle.op_graph.specs.Reads.{named}
use Rattle.op_graph.specs.Rules.{is_load}
use Rattle.signature_table.specs.Signatures.{store_of}
use Rattle.vcp_base.specs.Integers.{is_addend}
use Rattle.fault_script.specs.declared.act.Act.{Act}
use Rattle.fault_script.specs.declared.act.Act.TheVariants as act
use Rattle.fault_sites.specs.declared.site.Site.{Site}
use Rattle.fault_sites.specs.RunCycle.{RunCycle, expected_word}
use Rattle.fault_sites.specs.Sites.{each_below, sited}

-- ---- which words

-- operation r is the STORE of the cell of a LOAD, whose word of the cycle before is what a LOAD reads
abbrev pub is_it : ℕ → Option ℕ → Bool
is_it r None = false
is_it r (Some n) = n == r

abbrev pub loads_from : Lists → Op → ℕ → Bool
loads_from g op r = is_load op.kind && is_it r (store_of (cells g) (unsigned_abs op.imm))

-- operation r, which is `source`, has a type that goes there
abbrev pub may_be_late : Lists → Op → ℕ → ℕ → Op → Bool
may_be_late g op j r source = within source.ty (operand_type op.kind j op.from) && not (loads_from g op r)

-- ---- what is added

-- the word that operation r answered in the cycle before
abbrev pub past_word : RunCycle → ℕ → ℤ
past_word c r = expected_word c.table (c.cycle - 1) r (at c.past r)

-- what a LOAD reads, where the value is v: the word that the STORE of its cell answered in the cycle before
abbrev pub stored_word : RunCycle → ℤ → Option ℕ → ℤ
stored_word c v None = pos 0
stored_word c v (Some store) = expected_word c.table (c.cycle - 1) store v

-- what operand j of an operation of this kind is, where its value is v
abbrev pub word_by : RunCycle → Op → ℕ → ℤ → Kind → ℤ
word_by c op j v kind.Load = stored_word c v (store_of (cells c.graph) (unsigned_abs op.imm))
word_by c op j v _ = expected_word c.table c.cycle (named op j) v

abbrev pub read_word : RunCycle → Op → ℕ → ℤ
read_word c op j = word_by c op j (operand c.cells c.values op j (named op j)) op.kind

-- by how much the one is more than the other
abbrev pub late_addend : RunCycle → Op → ℕ → ℕ → ℤ
late_addend c op j r = past_word c r -ℤ read_word c op j

-- a number is added to operand j, where it isn't 0, which would be no fault, and a line may have it: at most 2^62 in size
abbrev pub late_add : ℕ → ℤ → List Act
late_add j e = cond (nat_lt 0 (unsigned_abs e) && is_addend e) (act.OperandAdd j e ∷ []) []

-- ---- the faults

abbrev pub late_one : RunCycle → Op → ℕ → ℕ → Option Op → List Act
late_one c op j r None = []
late_one c op j r (Some source) = cond (may_be_late c.graph op j r source) (late_add j (late_addend c op j r)) []

-- operand j is the word of operation k itself, or of one behind it
abbrev pub lates_at : RunCycle → ℕ → Op → ℕ → List Act
lates_at c k op j = each_below (λ i. late_one c op j (k + i) (slice_get c.graph.operations (k + i))) (length c.graph.operations - k)

-- of operation k, where it is there
abbrev pub lates_of : RunCycle → ℕ → Option Op → List Act
lates_of c k None = []
lates_of c k (Some op) = each_below (λ j. lates_at c k op j) (operands op.kind)

-- in the cycle; none in the first
abbrev pub lates_in : RunCycle → List Site
lates_in c = cond (nat_lt 0 c.cycle) (each_below (λ k. sited c.cycle k (lates_of c k (slice_get c.graph.operations k))) (length c.graph.operations)) []
