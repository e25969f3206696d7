-- SitesOnce: each site stands once.
use Rattle.std.proofs.Common.{◌≡◌, ◌≢◌, ℕ, zero, suc, ◌+◌, ◌<◌, ◌==◌, Bool, true, cond, List, [], ◌∷◌, ◌++◌, length, slice_get, int_lt, All, Option, Some, None, ℤ, refl, ap, arith}
use Rattle.std.proofs.lemmas.Bool.Decides.{nat_tests}
use Rattle.std.proofs.lemmas.List.Elements.{All-nil, All-cons, All-append, All-head, All-tail, All-weaker}
use Rattle.vcp_base.specs.declared.kind.Kind.{Kind}
use Rattle.vcp_base.specs.Kinds.{operands}
use Rattle.vcp_base.specs.Spellings.{kinds, kind_code}
use Rattle.op_graph.specs.declared.op.Op.{Op}
use Rattle.op_graph.specs.Lists.{Lists}
use Rattle.fault_script.specs.declared.act.Act.{Act}
use Rattle.fault_script.specs.declared.act.Act.TheVariants as act
use Rattle.fault_sites.specs.declared.class.Class.{Class}
use Rattle.fault_sites.specs.declared.class.Class.TheVariants as class
use Rattle.fault_sites.specs.declared.class.Classes.{Classes}
use Rattle.fault_sites.specs.declared.class.Classes.TheVariants as classes
use Rattle.fault_sites.specs.declared.site.Site.{Site}
use Rattle.fault_sites.specs.Laws.{Distinct}
use Rattle.fault_sites.specs.Sites.{addend, addend_count, adding, bits_at, bits, stale, from_one, from, may_replace, may_stand, operator_one, operator, acts_of, has_acts, site, sited, sites_at, sites_in, sites_of, sites, each_below}
use Rattle.fault_sites.proofs.Below.{all_below, all_one, all_if, tested_below, passed, distinct_append, distinct_one, distinct_if, apart_by, distinct_below}

-- ---- what tells acts of a class apart

-- how many of the numbers that are added are less
abbrev less_than : ℤ → ℕ → ℕ
less_than e zero = 0
less_than e (suc v) = less_than e v + cond (int_lt (addend v) e) 1 0

-- the value
abbrev value_key : Act → ℕ
value_key (act.OperandAdd j e) = less_than e addend_count
value_key (act.OperandFrom j r) = r
value_key (act.OperandStale j) = 0
value_key (act.ResultAdd e) = less_than e addend_count
value_key (act.Operator other) = kind_code other
value_key act.Skip = 0

-- the operand
abbrev operand_key : Act → ℕ
operand_key (act.OperandAdd j e) = j
operand_key (act.OperandFrom j r) = j
operand_key (act.OperandStale j) = j
operand_key (act.ResultAdd e) = 0
operand_key (act.Operator other) = 0
operand_key act.Skip = 0

-- the result or an operand
abbrev place_key : Act → ℕ
place_key (act.OperandAdd j e) = 1
place_key _ = 0

-- the class
abbrev class_key : Act → ℕ
class_key (act.OperandAdd j e) = 0
class_key (act.OperandFrom j r) = 3
class_key (act.OperandStale j) = 1
class_key (act.ResultAdd e) = 0
class_key (act.Operator other) = 4
class_key act.Skip = 2

abbrev number_of : Class → ℕ
number_of class.Bits = 0
number_of class.Stale = 1
number_of class.Skip = 2
number_of class.From = 3
number_of class.Operator = 4

pub same : (m n : ℕ) → (m == n) ≡ true → m ≡ n
same m n h = grind (arith, nat_tests)

-- ---- bits

values_are : tested_below (λ v. less_than (addend v) addend_count == v) addend_count ≡ true
values_are = refl

value_is : (v : ℕ) → v < addend_count → less_than (addend v) addend_count ≡ v
value_is v l = same _ v (passed (λ v. less_than (addend v) addend_count == v) addend_count v values_are l)

bits_once : (place : Option ℕ) → Distinct (bits_at place)
bits_once place =
    distinct_below value_key (λ v. adding place (addend v) ∷ []) addend_count (λ v l. distinct_one (adding place (addend v)))
    (λ v l. all_one (λ a. value_key a ≡ v) (adding place (addend v)) (key place v l))
  where
    key : (place : Option ℕ) (v : ℕ) → v < addend_count → value_key (adding place (addend v)) ≡ v
    key None v l = value_is v l
    key (Some j) v l = value_is v l

each_bit : (P : Act → Type 0) (place : Option ℕ) → ((e : ℤ) → P (adding place e)) → All P (bits_at place)
each_bit P place h = all_below P (λ v. adding place (addend v) ∷ []) addend_count (λ v l. all_one P (adding place (addend v)) (h (addend v)))

operand_bits : (P : Act → Type 0) (n : ℕ) → ((j : ℕ) (e : ℤ) → P (act.OperandAdd j e)) → All P (each_below (λ j. bits_at (Some j)) n)
operand_bits P n h = all_below P (λ j. bits_at (Some j)) n (λ j l. each_bit P (Some j) (h j))

all_bits_once : (op : Op) → Distinct (bits op)
all_bits_once op =
    distinct_append (bits_at None) (each_below (λ j. bits_at (Some j)) (operands op.kind)) (bits_once None)
    (distinct_below operand_key (λ j. bits_at (Some j)) (operands op.kind) (λ j l. bits_once (Some j))
    (λ j l. each_bit (λ a. operand_key a ≡ j) (Some j) (λ e. refl)))
    (apart_by place_key (λ m. m ≡ 0) (λ m. m ≡ 1) (bits_at None) (each_below (λ j. bits_at (Some j)) (operands op.kind))
    (λ m n h k e. omega arith)
    (each_bit (λ a. place_key a ≡ 0) None (λ e. refl))
    (operand_bits (λ a. place_key a ≡ 1) (operands op.kind) (λ j e. refl)))

-- ---- the other classes

stale_once : (op : Op) → Distinct (stale op)
stale_once op =
    distinct_below operand_key (λ j. act.OperandStale j ∷ []) (operands op.kind) (λ j l. distinct_one (act.OperandStale j))
    (λ j l. all_one (λ a. operand_key a ≡ j) (act.OperandStale j) refl)

each_source : (P : Act → Type 0) (op : Op) (j r : ℕ) (o : Option Op) → P (act.OperandFrom j r) → All P (from_one op j r o)
each_source P op j r None h = All-nil P
each_source P op j r (Some source) h = all_if P (may_replace op j r source) (act.OperandFrom j r ∷ []) (λ may. all_one P (act.OperandFrom j r) h)

source_once : (op : Op) (j r : ℕ) (o : Option Op) → Distinct (from_one op j r o)
source_once op j r None = tt
source_once op j r (Some source) = distinct_if (may_replace op j r source) (act.OperandFrom j r ∷ []) (distinct_one (act.OperandFrom j r))

from_once : (g : Lists) (k : ℕ) (op : Op) → Distinct (from g k op)
from_once g k op =
    distinct_below operand_key (λ j. each_below (λ r. from_one op j r (slice_get g.operations r)) k) (operands op.kind)
    (λ j l. distinct_below value_key (λ r. from_one op j r (slice_get g.operations r)) k (λ r m. source_once op j r (slice_get g.operations r))
    (λ r m. each_source (λ a. value_key a ≡ r) op j r (slice_get g.operations r) refl))
    (λ j l. all_below (λ a. operand_key a ≡ j) (λ r. from_one op j r (slice_get g.operations r)) k
    (λ r m. each_source (λ a. operand_key a ≡ j) op j r (slice_get g.operations r) refl))

abbrev code_is : ℕ → Option Kind → Bool
code_is code None = true
code_is code (Some k) = kind_code k == code

codes_are : tested_below (λ code. code_is code (slice_get kinds code)) 19 ≡ true
codes_are = refl

other_is : (kind : Kind) (code : ℕ) (o : Option Kind) → code_is code o ≡ true → All (λ a. value_key a ≡ code) (operator_one kind o)
other_is kind code None is = All-nil (λ a. value_key a ≡ code)
other_is kind code (Some other) is =
    all_if (λ a. value_key a ≡ code) (may_stand kind other) (act.Operator other ∷ [])
    (λ may. all_one (λ a. value_key a ≡ code) (act.Operator other) (same (kind_code other) code is))

each_other : (P : Act → Type 0) (kind : Kind) (o : Option Kind) → ((other : Kind) → P (act.Operator other)) → All P (operator_one kind o)
each_other P kind None h = All-nil P
each_other P kind (Some other) h = all_if P (may_stand kind other) (act.Operator other ∷ []) (λ may. all_one P (act.Operator other) (h other))

other_once : (kind : Kind) (o : Option Kind) → Distinct (operator_one kind o)
other_once kind None = tt
other_once kind (Some other) = distinct_if (may_stand kind other) (act.Operator other ∷ []) (distinct_one (act.Operator other))

operator_once : (op : Op) → Distinct (operator op)
operator_once op =
    distinct_below value_key (λ code. operator_one op.kind (slice_get kinds code)) 19 (λ code l. other_once op.kind (slice_get kinds code))
    (λ code l. other_is op.kind code (slice_get kinds code) (passed (λ code. code_is code (slice_get kinds code)) 19 code codes_are l))

acts_once : (c : Class) (g : Lists) (k : ℕ) (op : Op) → Distinct (acts_of c g k op)
acts_once class.Bits g k op = all_bits_once op
acts_once class.Stale g k op = stale_once op
acts_once class.Skip g k op = distinct_one act.Skip
acts_once class.From g k op = from_once g k op
acts_once class.Operator g k op = operator_once op

-- each act is of its class
of_class : (c : Class) (g : Lists) (k : ℕ) (op : Op) → All (λ a. class_key a ≡ number_of c) (acts_of c g k op)
of_class class.Bits g k op =
    All-append (λ a. class_key a ≡ 0) (bits_at None) (each_below (λ j. bits_at (Some j)) (operands op.kind))
    (each_bit (λ a. class_key a ≡ 0) None (λ e. refl))
    (operand_bits (λ a. class_key a ≡ 0) (operands op.kind) (λ j e. refl))
of_class class.Stale g k op =
    all_below (λ a. class_key a ≡ 1) (λ j. act.OperandStale j ∷ []) (operands op.kind)
    (λ j l. all_one (λ a. class_key a ≡ 1) (act.OperandStale j) refl)
of_class class.Skip g k op = all_one (λ a. class_key a ≡ 2) act.Skip refl
of_class class.From g k op =
    all_below (λ a. class_key a ≡ 3) (λ j. each_below (λ r. from_one op j r (slice_get g.operations r)) k) (operands op.kind)
    (λ j l. all_below (λ a. class_key a ≡ 3) (λ r. from_one op j r (slice_get g.operations r)) k
    (λ r m. each_source (λ a. class_key a ≡ 3) op j r (slice_get g.operations r) refl))
of_class class.Operator g k op =
    all_below (λ a. class_key a ≡ 4) (λ code. operator_one op.kind (slice_get kinds code)) 19
    (λ code l. each_other (λ a. class_key a ≡ 4) op.kind (slice_get kinds code) (λ other. refl))

-- ---- their sites

pub each_sited : (P : Site → Type 0) (n k : ℕ) (acts : List Act) → All (λ a. P (site n k a)) acts → All P (sited n k acts)
each_sited P n k [] h = All-nil P
each_sited P n k (a ∷ acts) h =
    All-cons P (site n k a) (sited n k acts) (All-head (λ a. P (site n k a)) a acts h) (each_sited P n k acts (All-tail (λ a. P (site n k a)) a acts h))

pub any_act : (P : Act → Type 0) (acts : List Act) → ((a : Act) → P a) → All P acts
any_act P [] h = All-nil P
any_act P (a ∷ acts) h = All-cons P a acts (h a) (any_act P acts h)

pub sited_once : (n k : ℕ) (acts : List Act) → Distinct acts → Distinct (sited n k acts)
sited_once n k [] once = tt
sited_once n k (a ∷ acts) once = (
  each_sited (λ s. site n k a ≢ s) n k acts
      (All-weaker (λ b. a ≢ b) (λ b. site n k a ≢ site n k b) (λ b other e. other (ap (λ (s : Site). s.act) e)) acts once.0),
  sited_once n k acts once.1,
)

at_once : (c : Class) (g : Lists) (n k : ℕ) (o : Option Op) → Distinct (sites_at c g n k o)
at_once c g n k None = tt
at_once c g n k (Some op) = distinct_if (has_acts c n) (sited n k (acts_of c g k op)) (sited_once n k (acts_of c g k op) (acts_once c g k op))

each_at : (P : Site → Type 0) (c : Class) (g : Lists) (n k : ℕ) (o : Option Op) → ((op : Op) → All (λ a. P (site n k a)) (acts_of c g k op))
    → All P (sites_at c g n k o)
each_at P c g n k None h = All-nil P
each_at P c g n k (Some op) h = all_if P (has_acts c n) (sited n k (acts_of c g k op)) (λ has. each_sited P n k (acts_of c g k op) (h op))

in_once : (c : Class) (g : Lists) (n : ℕ) → Distinct (sites_in c g n)
in_once c g n =
    distinct_below (λ s. s.op) (λ k. sites_at c g n k (slice_get g.operations k)) (length g.operations)
    (λ k l. at_once c g n k (slice_get g.operations k))
    (λ k l. each_at (λ s. s.op ≡ k) c g n k (slice_get g.operations k) (λ op. any_act (λ a. k ≡ k) (acts_of c g k op) (λ a. refl)))

each_in : (P : Site → Type 0) (c : Class) (g : Lists) (n : ℕ) → ((k : ℕ) (op : Op) → All (λ a. P (site n k a)) (acts_of c g k op))
    → All P (sites_in c g n)
each_in P c g n h =
    all_below P (λ k. sites_at c g n k (slice_get g.operations k)) (length g.operations) (λ k l. each_at P c g n k (slice_get g.operations k) (h k))

of_once : (c : Class) (g : Lists) (cycles : ℕ) → Distinct (sites_of c g cycles)
of_once c g cycles =
    distinct_below (λ s. s.cycle) (λ n. sites_in c g n) cycles (λ n l. in_once c g n)
    (λ n l. each_in (λ s. s.cycle ≡ n) c g n (λ k op. any_act (λ a. n ≡ n) (acts_of c g k op) (λ a. refl)))

-- ---- classes

abbrev of_number : ℕ → Site → Type 0
of_number i s = class_key s.act ≡ i

abbrev past : ℕ → Site → Type 0
past i s = i < class_key s.act

of_its : (c : Class) (g : Lists) (cycles : ℕ) → All (of_number (number_of c)) (sites_of c g cycles)
of_its c g cycles =
    all_below (of_number (number_of c)) (λ n. sites_in c g n) cycles
    (λ n l. each_in (of_number (number_of c)) c g n (λ k op. of_class c g k op))

its_past : (c : Class) (g : Lists) (cycles i : ℕ) → i < number_of c → All (past i) (sites_of c g cycles)
its_past c g cycles i l = All-weaker (of_number (number_of c)) (past i) (λ s e. omega (arith, l, e)) (sites_of c g cycles) (of_its c g cycles)

before : (c : Class) (g : Lists) (cycles : ℕ) (more : List Site) → Distinct more → All (past (number_of c)) more → Distinct (sites_of c g cycles ++ more)
before c g cycles more once later =
    distinct_append (sites_of c g cycles) more (of_once c g cycles) once
    (apart_by (λ s. class_key s.act) (λ m. m ≡ number_of c) (λ m. number_of c < m) (sites_of c g cycles) more (λ m n h k e. omega arith)
    (of_its c g cycles) later)

both_past : (i : ℕ) (xs ys : List Site) → All (past i) xs → All (past i) ys → All (past i) (xs ++ ys)
both_past i xs ys h k = All-append (past i) xs ys h k

pub each_once : (c : Classes) (g : Lists) (cycles : ℕ) → Distinct (sites c g cycles)
each_once (classes.One c) g cycles = of_once c g cycles
each_once classes.All g cycles =
    before class.Bits g cycles _
    (before class.Stale g cycles _
    (before class.Skip g cycles _
    (before class.From g cycles (sites_of class.Operator g cycles) (of_once class.Operator g cycles) (its_past class.Operator g cycles 3 (omega arith)))
    (both_past 2 _ _ (its_past class.From g cycles 2 (omega arith)) (its_past class.Operator g cycles 2 (omega arith))))
    (both_past 1 _ _ (its_past class.Skip g cycles 1 (omega arith))
    (both_past 1 _ _ (its_past class.From g cycles 1 (omega arith)) (its_past class.Operator g cycles 1 (omega arith)))))
    (both_past 0 _ _ (its_past class.Stale g cycles 0 (omega arith))
    (both_past 0 _ _ (its_past class.Skip g cycles 0 (omega arith))
    (both_past 0 _ _ (its_past class.From g cycles 0 (omega arith)) (its_past class.Operator g cycles 0 (omega arith)))))
