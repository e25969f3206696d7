-- Few: a graph of at most 65,536 operations has so few sites that they can be counted.
use Rattle.std.proofs.Common.{◌≡◌, ℕ, ℤ, zero, suc, ◌+◌, ◌-◌, ◌*◌, ◌<◌, ◌≤◌, ◌&&◌, Bool, true, false, cond, nat_lt, unsigned_abs, List, [], ◌∷◌, ◌++◌, length, slice_get, Option, Some, None, refl, ◌∙◌, arith, length-append}
use Rattle.vcp_base.specs.declared.kind.Kind.{Kind}
use Rattle.vcp_base.specs.declared.kind.StopKind.{StopKind}
use Rattle.vcp_base.specs.Kinds.{operands}
use Rattle.vcp_base.specs.Limits.{most_cycles}
use Rattle.vcp_base.specs.Spellings.{kinds}
use Rattle.vcp_base.specs.Values.{at}
use Rattle.op_graph.specs.declared.op.Op.{Op}
use Rattle.op_graph.specs.GraphRun.{Cycle, cycle}
use Rattle.op_graph.specs.Lists.{Lists}
use Rattle.signature_table.specs.Signatures.{Numbers}
use Rattle.vcp_base.specs.Integers.{is_addend}
use Rattle.fault_script.specs.declared.act.Act.TheVariants as act
use Rattle.fault_sites.specs.declared.class.Class.{Class}
use Rattle.fault_sites.specs.declared.class.Class.TheVariants as class
use Rattle.fault_sites.specs.declared.class.Classes.{Classes}
use Rattle.fault_sites.specs.declared.class.Classes.TheVariants as classes
use Rattle.fault_sites.specs.declared.run_class.RunClass.{RunClass}
use Rattle.fault_sites.specs.declared.run_class.RunClass.TheVariants as run
use Rattle.fault_sites.specs.declared.site.Site.{Site}
use Rattle.fault_sites.specs.Flips.{flip, flips_in, flips_of, flipped_bits}
use Rattle.fault_sites.specs.Late.{late_add, late_addend, late_one, lates_at, lates_of, may_be_late}
use Rattle.fault_sites.specs.Run.{Moment, after, begun}
use Rattle.fault_sites.specs.RunCycle.{RunCycle, expected_word}
use Rattle.fault_sites.specs.RunSites.{cycle_of, in_cycle, run_sites, run_sites_from, unless_stopped}
use Rattle.fault_sites.specs.Sites.{acts_of, each_below, from_one, has_acts, may_replace, may_stand, operator_one, sited, sites, sites_at, sites_in, sites_of}
use Rattle.fault_sites.proofs.Counting.{bits_many, each_many, few_operands, sited_many, stale_many}

-- what is left of a part behind all of these
pub counted : (xs : List Site) (skip : ℕ) → length xs ≤ 64424509440000000 → skip ≡ 18446744073709551615 - length xs
    → 18446744073709551615 - skip ≡ length xs
counted xs skip few is = omega (arith, few, is)

few_if : {X : Type 0} (b : Bool) (xs : List X) (m : ℕ) → length xs ≤ m → length (cond b xs []) ≤ m
few_if true xs m few = few
few_if false xs m few = omega arith

each_few : {X : Type 0} (f : ℕ → List X) (n m : ℕ) → ((i : ℕ) → i < n → length (f i) ≤ m) → length (each_below f n) ≤ n * m
each_few f zero m h = omega arith
each_few f (suc i) m h =
    omega (arith, each_few f i m (λ j lt. h j (omega (arith, lt))), h i (omega arith), length-append (each_below f i) (f i))

-- ---- of a class

from_one_few : (op : Op) (j r : ℕ) (o : Option Op) → length (from_one op j r o) ≤ 1
from_one_few op j r None = omega arith
from_one_few op j r (Some source) = few_if (may_replace op j r source) (act.OperandFrom j r ∷ []) 1 (omega arith)

operator_one_few : (kind : Kind) (o : Option Kind) → length (operator_one kind o) ≤ 1
operator_one_few kind None = omega arith
operator_one_few kind (Some other) = few_if (may_stand kind other) (act.Operator other ∷ []) 1 (omega arith)

acts_few : (c : Class) (g : Lists) (k : ℕ) (op : Op) → k ≤ 65536 → length (acts_of c g k op) ≤ 196608
acts_few class.Bits g k op few = omega (arith, bits_many op, few_operands op.kind)
acts_few class.Stale g k op few = omega (arith, stale_many op, few_operands op.kind)
acts_few class.Skip g k op few = omega arith
acts_few class.From g k op few =
    let at : (j : ℕ) → length (each_below (λ r. from_one op j r (slice_get g.operations r)) k) ≤ k * 1 =
    λ j. each_few (λ r. from_one op j r (slice_get g.operations r)) k 1 (λ r lt. from_one_few op j r (slice_get g.operations r)) in
    let all : length (acts_of class.From g k op) ≤ operands op.kind * 65536 =
    each_few (λ j. each_below (λ r. from_one op j r (slice_get g.operations r)) k) (operands op.kind) 65536 (λ j lt. omega (arith, at j, few)) in
    omega (arith, all, few_operands op.kind)
acts_few class.Operator g k op few =
    let all : length (acts_of class.Operator g k op) ≤ 19 * 1 =
    each_few (λ code. operator_one op.kind (slice_get kinds code)) 19 1 (λ code lt. operator_one_few op.kind (slice_get kinds code)) in
    omega (arith, all)

at_few : (c : Class) (g : Lists) (n k : ℕ) (o : Option Op) → k ≤ 65536 → length (sites_at c g n k o) ≤ 196608
at_few c g n k None few = omega arith
at_few c g n k (Some op) few =
    few_if (has_acts c n) (sited n k (acts_of c g k op)) 196608 (omega (arith, sited_many n k (acts_of c g k op), acts_few c g k op few))

in_few : (c : Class) (g : Lists) (n : ℕ) → length g.operations ≤ 65536 → length (sites_in c g n) ≤ 12884901888
in_few c g n few =
    let all : length (sites_in c g n) ≤ length g.operations * 196608 =
    each_few (λ k. sites_at c g n k (slice_get g.operations k)) (length g.operations) 196608
    (λ k lt. at_few c g n k (slice_get g.operations k) (omega (arith, lt, few))) in
    omega (arith, all, few)

of_few : (c : Class) (g : Lists) (cycles : ℕ) → length g.operations ≤ 65536 → cycles ≤ most_cycles → length (sites_of c g cycles) ≤ 12884901888000000
of_few c g cycles few early =
    let all : length (sites_of c g cycles) ≤ cycles * 12884901888 =
    each_few (λ n. sites_in c g n) cycles 12884901888 (λ n lt. in_few c g n few) in
    omega (arith, all, early)

pub cycle_few : (c : Class) (g : Lists) (n : ℕ) → length g.operations ≤ 65536 → length (sites_in c g n) ≤ 64424509440000000
cycle_few c g n few = omega (arith, in_few c g n few)

pub sites_few : (c : Classes) (g : Lists) (cycles : ℕ) → length g.operations ≤ 65536 → cycles ≤ most_cycles
    → length (sites c g cycles) ≤ 64424509440000000
sites_few (classes.One c) g cycles few early = omega (arith, of_few c g cycles few early)
sites_few classes.All g cycles few early =
    let bits = sites_of class.Bits g cycles in
    let stale = sites_of class.Stale g cycles in
    let skip = sites_of class.Skip g cycles in
    let from = sites_of class.From g cycles in
    let operator = sites_of class.Operator g cycles in
    omega (
      arith,
      of_few class.Bits g cycles few early,
      of_few class.Stale g cycles few early,
      of_few class.Skip g cycles few early,
      of_few class.From g cycles few early,
      of_few class.Operator g cycles few early,
      length-append bits (stale ++ (skip ++ (from ++ operator))),
      length-append stale (skip ++ (from ++ operator)),
      length-append skip (from ++ operator),
      length-append from operator,
    )

-- ---- of a run

flip_many : (v : ℤ) → length (flips_of v) ≡ 32
flip_many v = each_many (λ b. act.ResultAdd (flip v b) ∷ []) flipped_bits 1 (λ b. refl) ∙ omega arith

pub flips_many : (c : RunCycle) → length (flips_in c) ≡ length c.graph.operations * 32
flips_many c =
    each_many (λ k. sited c.cycle k (flips_of (expected_word c.table c.cycle k (at c.values k)))) (length c.graph.operations) 32
    (λ k. sited_many c.cycle k (flips_of (expected_word c.table c.cycle k (at c.values k))) ∙ flip_many (expected_word c.table c.cycle k (at c.values k)))

late_one_few : (c : RunCycle) (op : Op) (j r : ℕ) (o : Option Op) → length (late_one c op j r o) ≤ 1
late_one_few c op j r None = omega arith
late_one_few c op j r (Some source) =
    let e : ℤ = late_addend c op j r in
    few_if (may_be_late c.graph op j r source) (late_add j e) 1 (few_if (nat_lt 0 (unsigned_abs e) && is_addend e) (act.OperandAdd j e ∷ []) 1 (omega arith))

lates_at_few : (c : RunCycle) (k : ℕ) (op : Op) (j : ℕ) → length c.graph.operations ≤ 65536 → length (lates_at c k op j) ≤ 65536
lates_at_few c k op j few =
    let each : length (lates_at c k op j) ≤ (length c.graph.operations - k) * 1 =
    each_few (λ i. late_one c op j (k + i) (slice_get c.graph.operations (k + i))) (length c.graph.operations - k) 1
    (λ i lt. late_one_few c op j (k + i) (slice_get c.graph.operations (k + i))) in
    omega (arith, each, few)

lates_of_few : (c : RunCycle) (k : ℕ) (o : Option Op) → length c.graph.operations ≤ 65536 → length (lates_of c k o) ≤ 196608
lates_of_few c k None few = omega arith
lates_of_few c k (Some op) few =
    let each : length (lates_of c k (Some op)) ≤ operands op.kind * 65536 =
    each_few (λ j. lates_at c k op j) (operands op.kind) 65536 (λ j lt. lates_at_few c k op j few) in
    omega (arith, each, few_operands op.kind)

in_cycle_few : (which : RunClass) (c : RunCycle) → length c.graph.operations ≤ 65536 → length (in_cycle which c) ≤ 12884901888
in_cycle_few run.Flips c few = omega (arith, flips_many c, few)
in_cycle_few run.Late c few =
    let sites : ℕ → List Site = λ k. sited c.cycle k (lates_of c k (slice_get c.graph.operations k)) in
    let here : (k : ℕ) → length (sites k) ≤ 196608 =
    λ k. let o = slice_get c.graph.operations k in omega (arith, sited_many c.cycle k (lates_of c k o), lates_of_few c k o few) in
    let each : length (each_below sites (length c.graph.operations)) ≤ length c.graph.operations * 196608 =
    each_few sites (length c.graph.operations) 196608 (λ k lt. here k) in
    few_if (nat_lt 0 c.cycle) (each_below sites (length c.graph.operations)) 12884901888 (omega (arith, each, few))

unless_few : (these : List Site) (next : Moment → List Site) (now : Moment) (c : Cycle) (s : Option StopKind) (m : ℕ) → length these ≤ 12884901888
    → length (next (after now c)) ≤ m → length (unless_stopped these next now c s) ≤ m + 12884901888
unless_few these next now c None m few rest = omega (arith, few, rest, length-append these (next (after now c)))
unless_few these next now c (Some why) m few rest = omega arith

few_from : (which : RunClass) (t : Numbers) (now : Moment) (n : ℕ) (rows : List (List ℤ)) → length now.graph.operations ≤ 65536
    → length (run_sites_from which t now n rows) ≤ length rows * 12884901888
few_from which t now n [] few = omega arith
few_from which t now n (row ∷ rows) few =
    let c : Cycle = cycle now.graph now.cells row in
    let all : length (run_sites_from which t now n (row ∷ rows)) ≤ length rows * 12884901888 + 12884901888 =
    unless_few (in_cycle which (cycle_of t n now c.values)) (λ next. run_sites_from which t next (n + 1) rows) now c c.stop (length rows * 12884901888)
    (in_cycle_few which (cycle_of t n now c.values) few) (few_from which t (after now c) (n + 1) rows few) in
    omega (arith, all)

pub run_few : (which : RunClass) (t : Numbers) (g : Lists) (rows : List (List ℤ)) → length g.operations ≤ 65536 → length rows ≤ most_cycles
    → length (run_sites which t g rows) ≤ 64424509440000000
run_few which t g rows few early = omega (arith, few_from which t (begun g) 0 rows few, early)
