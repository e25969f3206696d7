-- SitesFit: each site fits the graph.
use Rattle.std.proofs.Common.{◌≡◌, ℕ, ◌<◌, ◌≤◌, ◌==◌, Bool, true, false, ◌&&◌, ◌||◌, nat_lt, List, [], ◌∷◌, length, slice_get, All, Option, Some, None, refl, arith}
use Rattle.std.proofs.lemmas.Bool.Decides.{nat_tests}
use Rattle.std.proofs.lemmas.List.Elements.{All-nil, All-cons, All-append, All-head, All-tail}
use Rattle.vcp_base.specs.Limits.{most_cycles}
use Rattle.vcp_base.specs.declared.kind.Kind.{Kind}
use Rattle.vcp_base.specs.Kinds.{operands}
use Rattle.vcp_base.specs.Spellings.{kinds}
use Rattle.op_graph.specs.declared.op.Op.{Op}
use Rattle.op_graph.specs.Lists.{Lists}
use Rattle.fault_script.specs.Forms.{is_addend}
use Rattle.fault_script.specs.declared.act.Act.{Act}
use Rattle.fault_script.specs.declared.act.Act.TheVariants as act
use Rattle.fault_script.specs.Fits.{ActFits, Fits}
use Rattle.fault_sites.specs.declared.class.Class.{Class}
use Rattle.fault_sites.specs.declared.class.Class.TheVariants as class
use Rattle.fault_sites.specs.declared.class.Classes.{Classes}
use Rattle.fault_sites.specs.declared.class.Classes.TheVariants as classes
use Rattle.fault_sites.specs.declared.site.Site.{Site}
use Rattle.fault_sites.specs.Sites.{addend, addend_count, adding, bits_at, stale, from_one, from, may_replace, may_stand, operator_one, acts_of, has_acts, sited, sites_at, sites_in, sites_of, sites, as_fault}
use Rattle.fault_sites.proofs.Below.{all_below, all_one, all_if, tested_below, passed}

less : (m n : ℕ) → m < n → nat_lt m n ≡ true
less m n l = grind (arith, nat_tests)

left_of : (a b : Bool) → (a && b) ≡ true → a ≡ true
left_of true b h = refl
left_of false b h = absurd cc

both_hold : (a b : Bool) → a ≡ true → b ≡ true → (a && b) ≡ true
both_hold a b h k = rw (h, k) refl

or_false : (a : Bool) → (a || false) ≡ true → a ≡ true
or_false true h = refl
or_false false h = absurd cc

-- ---- the acts of each class

addends_are : tested_below (λ v. is_addend (addend v)) addend_count ≡ true
addends_are = refl

pub is_one : (v : ℕ) → v < addend_count → is_addend (addend v) ≡ true
is_one v l = passed (λ v. is_addend (addend v)) addend_count v addends_are l

results_fit : (kind : Kind) (k n : ℕ) → All (ActFits kind k n) (bits_at None)
results_fit kind k n =
    all_below (ActFits kind k n) (λ v. adding None (addend v) ∷ []) addend_count
    (λ v l. all_one (ActFits kind k n) (act.ResultAdd (addend v)) (record { sited = refl; timely = refl; alike = refl; moderate = is_one v l }))

operands_fit : (kind : Kind) (k n j : ℕ) → j < operands kind → All (ActFits kind k n) (bits_at (Some j))
operands_fit kind k n j there =
    all_below (ActFits kind k n) (λ v. adding (Some j) (addend v) ∷ []) addend_count
    (λ v l. all_one (ActFits kind k n) (act.OperandAdd j (addend v))
    (record { sited = less j (operands kind) there; timely = refl; alike = refl; moderate = is_one v l }))

stale_fit : (op : Op) (k n : ℕ) → nat_lt 0 n ≡ true → All (ActFits op.kind k n) (stale op)
stale_fit op k n later =
    all_below (ActFits op.kind k n) (λ j. act.OperandStale j ∷ []) (operands op.kind)
    (λ j there. all_one (ActFits op.kind k n) (act.OperandStale j)
    (record { sited = less j (operands op.kind) there; timely = later; alike = refl; moderate = refl }))

one_fits : (op : Op) (k n j r : ℕ) (o : Option Op) → j < operands op.kind → r < k → All (ActFits op.kind k n) (from_one op j r o)
one_fits op k n j r None there before = All-nil (ActFits op.kind k n)
one_fits op k n j r (Some source) there before =
    all_if (ActFits op.kind k n) (may_replace op j r source) (act.OperandFrom j r ∷ [])
    (λ may. all_one (ActFits op.kind k n) (act.OperandFrom j r)
    (record {
      sited = both_hold (nat_lt j (operands op.kind)) (nat_lt r k) (less j (operands op.kind) there) (less r k before);
      timely = refl;
      alike = refl;
      moderate = refl;
    }))

from_fit : (g : Lists) (op : Op) (k n : ℕ) → All (ActFits op.kind k n) (from g k op)
from_fit g op k n =
    all_below (ActFits op.kind k n) _ (operands op.kind)
    (λ j there. all_below (ActFits op.kind k n) (λ r. from_one op j r (slice_get g.operations r)) k
    (λ r before. one_fits op k n j r (slice_get g.operations r) there before))

other_fits : (kind : Kind) (k n : ℕ) (o : Option Kind) → All (ActFits kind k n) (operator_one kind o)
other_fits kind k n None = All-nil (ActFits kind k n)
other_fits kind k n (Some other) =
    all_if (ActFits kind k n) (may_stand kind other) (act.Operator other ∷ [])
    (λ may. all_one (ActFits kind k n) (act.Operator other)
    (record { sited = refl; timely = refl; alike = left_of (operands other == operands kind) _ may; moderate = refl }))

pub acts_fit : (c : Class) (g : Lists) (op : Op) (k n : ℕ) → has_acts c n ≡ true → All (ActFits op.kind k n) (acts_of c g k op)
acts_fit class.Bits g op k n has =
    All-append (ActFits op.kind k n) (bits_at None) _ (results_fit op.kind k n)
    (all_below (ActFits op.kind k n) (λ j. bits_at (Some j)) (operands op.kind) (λ j there. operands_fit op.kind k n j there))
acts_fit class.Stale g op k n has = stale_fit op k n (or_false (nat_lt 0 n) has)
acts_fit class.Skip g op k n has =
    all_one (ActFits op.kind k n) act.Skip (record { sited = refl; timely = or_false (nat_lt 0 n) has; alike = refl; moderate = refl })
acts_fit class.From g op k n has = from_fit g op k n
acts_fit class.Operator g op k n has =
    all_below (ActFits op.kind k n) (λ code. operator_one op.kind (slice_get kinds code)) 19
    (λ code there. other_fits op.kind k n (slice_get kinds code))

-- ---- their sites

pub sited_fit : (g : Lists) (op : Op) (k n line : ℕ) (acts : List Act) → n < most_cycles → slice_get g.operations k ≡ Some op
    → All (ActFits op.kind k n) acts → All (λ s. Fits g (as_fault line s)) (sited n k acts)
sited_fit g op k n line [] few there fit = All-nil (λ s. Fits g (as_fault line s))
sited_fit g op k n line (a ∷ acts) few there fit =
    All-cons (λ s. Fits g (as_fault line s)) _ (sited n k acts)
    (record { cycle = few; op = op; there = there; act = All-head (ActFits op.kind k n) a acts fit })
    (sited_fit g op k n line acts few there (All-tail (ActFits op.kind k n) a acts fit))

at_fit : (c : Class) (g : Lists) (n k line : ℕ) (o : Option Op) → n < most_cycles → slice_get g.operations k ≡ o
    → All (λ s. Fits g (as_fault line s)) (sites_at c g n k o)
at_fit c g n k line None few there = All-nil (λ s. Fits g (as_fault line s))
at_fit c g n k line (Some op) few there =
    all_if (λ s. Fits g (as_fault line s)) (has_acts c n) (sited n k (acts_of c g k op))
    (λ has. sited_fit g op k n line (acts_of c g k op) few there (acts_fit c g op k n has))

of_fit : (c : Class) (g : Lists) (cycles line : ℕ) → cycles ≤ most_cycles → All (λ s. Fits g (as_fault line s)) (sites_of c g cycles)
of_fit c g cycles line few =
    all_below (λ s. Fits g (as_fault line s)) (λ n. sites_in c g n) cycles
    (λ n l. all_below (λ s. Fits g (as_fault line s)) (λ k. sites_at c g n k (slice_get g.operations k)) (length g.operations)
    (λ k there. at_fit c g n k line (slice_get g.operations k) (omega arith) refl))

pub each_fits : (c : Classes) (g : Lists) (cycles line : ℕ) → cycles ≤ most_cycles → All (λ s. Fits g (as_fault line s)) (sites c g cycles)
each_fits (classes.One c) g cycles line few = of_fit c g cycles line few
each_fits classes.All g cycles line few =
    let P : Site → Type 0 = λ s. Fits g (as_fault line s) in
    All-append P (sites_of class.Bits g cycles) _ (of_fit class.Bits g cycles line few)
    (All-append P (sites_of class.Stale g cycles) _ (of_fit class.Stale g cycles line few)
    (All-append P (sites_of class.Skip g cycles) _ (of_fit class.Skip g cycles line few)
    (All-append P (sites_of class.From g cycles) _ (of_fit class.From g cycles line few) (of_fit class.Operator g cycles line few))))
