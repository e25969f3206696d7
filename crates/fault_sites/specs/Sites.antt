-- Sites: the single faults of a class that a graph can have in so many cycles, in order: by cycle, operation, operand and value.
use Rattle.std.specs.Prelude.{ℕ, zero, suc, ◌-◌, ◌^◌, ◌==◌, Bool, true, false, not, cond, ◌&&◌, ◌||◌, nat_lt, List, [], ◌∷◌, ◌++◌, length, slice_get, Option, Some, None, ℤ, pos, neg_ℤ}
use Rattle.vcp_base.specs.declared.kind.Kind.{Kind}
use Rattle.vcp_base.specs.Kinds.{operands, operand_type}
use Rattle.vcp_base.specs.Spellings.{kinds, kind_code}
use Rattle.vcp_base.specs.Types.{within}
use Rattle.op_graph.specs.declared.op.Op.{Op}
use Rattle.op_graph.specs.Lists.{Lists}
use Rattle.op_graph.specs.Reads.{named}
use Rattle.op_graph.specs.Rules.{is_load}
use Rattle.fault_script.specs.declared.act.Act.{Act}
use Rattle.fault_script.specs.declared.act.Act.TheVariants as act
use Rattle.fault_script.specs.declared.act.Fault.{Fault}
use Rattle.fault_sites.specs.declared.class.Class.{Class}
use Rattle.fault_sites.specs.declared.class.Class.TheVariants as class
use Rattle.fault_sites.specs.declared.class.Classes.{Classes}
use Rattle.fault_sites.specs.declared.class.Classes.TheVariants as classes
use Rattle.fault_sites.specs.declared.site.Site.{Site}

-- what f gives for each number below n, in order
abbrev pub each_below : {X : Type 0} → (ℕ → List X) → ℕ → List X
each_below f zero = []
each_below f (suc i) = each_below f i ++ f i

-- ---- bits: what is added to a result or an operand is plus or minus a power of two

-- how many numbers are added: minus and plus each power of two from 2^0 to 2^61
abbrev pub addend_count : ℕ
addend_count = 124

-- number v of them, the least first: -2^61, .., -2, -1, 1, 2, .., 2^61
abbrev pub addend : ℕ → ℤ
addend v = cond (nat_lt v 62) (neg_ℤ (pos (2 ^ (61 - v)))) (pos (2 ^ (v - 62)))

-- a number is added to the result, or to an operand
abbrev pub adding : Option ℕ → ℤ → Act
adding None e = act.ResultAdd e
adding (Some j) e = act.OperandAdd j e

abbrev pub bits_at : Option ℕ → List Act
bits_at place = each_below (λ v. adding place (addend v) ∷ []) addend_count

-- the result, and then each operand
abbrev pub bits : Op → List Act
bits op = bits_at None ++ each_below (λ j. bits_at (Some j)) (operands op.kind)

-- ---- stale and skip: an operand, or the answer, of the cycle before

abbrev pub stale : Op → List Act
stale op = each_below (λ j. act.OperandStale j ∷ []) (operands op.kind)

-- ---- from: an operand is the word of another earlier operation

-- operand j is the word of operation r; a LOAD reads its cell, and no operation
abbrev pub reads : Op → ℕ → ℕ → Bool
reads op j r = not (is_load op.kind) && named op j == r

-- the word of operation r, which is `source`, may stand for operand j, by its type, and isn't operand j already
abbrev pub may_replace : Op → ℕ → ℕ → Op → Bool
may_replace op j r source = within source.ty (operand_type op.kind j op.from) && not (reads op j r)

abbrev pub from_one : Op → ℕ → ℕ → Option Op → List Act
from_one op j r None = []
from_one op j r (Some source) = cond (may_replace op j r source) (act.OperandFrom j r ∷ []) []

-- of operation k
abbrev pub from : Lists → ℕ → Op → List Act
from g k op = each_below (λ j. each_below (λ r. from_one op j r (slice_get g.operations r)) k) (operands op.kind)

-- ---- operator: another kind of as many operands

abbrev pub may_stand : Kind → Kind → Bool
may_stand kind other = operands other == operands kind && not (kind_code other == kind_code kind)

abbrev pub operator_one : Kind → Option Kind → List Act
operator_one kind None = []
operator_one kind (Some other) = cond (may_stand kind other) (act.Operator other ∷ []) []

abbrev pub operator : Op → List Act
operator op = each_below (λ code. operator_one op.kind (slice_get kinds code)) 19

-- ---- classes

-- the acts of a class at operation k, in any cycle but the first
abbrev pub acts_of : Class → Lists → ℕ → Op → List Act
acts_of class.Bits g k op = bits op
acts_of class.Stale g k op = stale op
acts_of class.Skip g k op = act.Skip ∷ []
acts_of class.From g k op = from g k op
acts_of class.Operator g k op = operator op

-- the acts of the class take a word of the cycle before, and so have none in the first
abbrev pub looks_back : Class → Bool
looks_back class.Stale = true
looks_back class.Skip = true
looks_back _ = false

-- the class has acts in cycle n
abbrev pub has_acts : Class → ℕ → Bool
has_acts c n = nat_lt 0 n || not (looks_back c)

-- an act at operation k in cycle n
abbrev pub site : ℕ → ℕ → Act → Site
site n k a = record { cycle = n; op = k; act = a }

-- each of these acts at operation k in cycle n
abbrev pub sited : ℕ → ℕ → List Act → List Site
sited n k [] = []
sited n k (a ∷ acts) = site n k a ∷ sited n k acts

-- the sites of a class at operation k, where it is there, in cycle n
abbrev pub sites_at : Class → Lists → ℕ → ℕ → Option Op → List Site
sites_at c g n k None = []
sites_at c g n k (Some op) = cond (has_acts c n) (sited n k (acts_of c g k op)) []

-- in cycle n
abbrev pub sites_in : Class → Lists → ℕ → List Site
sites_in c g n = each_below (λ k. sites_at c g n k (slice_get g.operations k)) (length g.operations)

-- in the first cycles
abbrev pub sites_of : Class → Lists → ℕ → List Site
sites_of c g cycles = each_below (λ n. sites_in c g n) cycles

-- the sites of one class, or of all, class by class
abbrev pub sites : Classes → Lists → ℕ → List Site
sites (classes.One c) g cycles = sites_of c g cycles
sites classes.All g cycles =
    sites_of class.Bits g cycles ++ (sites_of class.Stale g cycles ++ (sites_of class.Skip g cycles
    ++ (sites_of class.From g cycles ++ sites_of class.Operator g cycles)))

-- the fault of a site, in the line of this number
abbrev pub as_fault : ℕ → Site → Fault
as_fault line s = record { line = line; cycle = s.cycle; op = s.op; act = s.act }
