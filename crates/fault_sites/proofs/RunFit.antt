-- RunFit: each site that a run decides fits the graph, and the script of a part of these is read back.
use Rattle.std.proofs.Common.{◌≡◌, ℕ, zero, suc, ◌+◌, ◌-◌, ◌^◌, ◌<◌, ◌≤◌, ℤ, pos, neg_ℤ, unsigned_abs, nat_lt, ◌&&◌, Bool, true, false, cond, List, [], ◌∷◌, length, drop, slice_get, Option, Some, None, All, refl, arith, Ok}
use Rattle.std.specs.List.{list_all}
use Rattle.std.proofs.lemmas.Bool.{and_parts}
use Rattle.std.proofs.lemmas.Bool.Decides.{nat_tests}
use Rattle.std.proofs.lemmas.List.Elements.{All-nil, All-append, All-take, All-drop}
use Rattle.vcp_base.specs.Kinds.{operands}
use Rattle.vcp_base.specs.Limits.{most_cycles, most_source_bytes}
use Rattle.vcp_base.specs.declared.kind.Kind.{Kind}
use Rattle.vcp_base.specs.declared.kind.StopKind.{StopKind}
use Rattle.vcp_base.specs.Values.{at}
use Rattle.op_graph.specs.declared.op.Op.{Op}
use Rattle.op_graph.specs.Lists.{Lists}
use Rattle.op_graph.specs.GraphRun.{Cycle, cycle}
use Rattle.signature_table.specs.Signatures.{Numbers}
use Rattle.fault_script.specs.Forms.{is_addend}
use Rattle.fault_script.specs.declared.act.Act.TheVariants as act
use Rattle.fault_script.specs.Fits.{ActFits, Fits}
use Rattle.fault_script.specs.ScriptOf.{most_faults, script_of}
use Rattle.fault_sites.specs.declared.part.Part.{Part}
use Rattle.fault_sites.specs.declared.run_class.RunClass.{RunClass}
use Rattle.fault_sites.specs.declared.run_class.RunClass.TheVariants as class
use Rattle.fault_sites.specs.declared.site.Site.{Site}
use Rattle.fault_sites.specs.Flips.{bit_of, flip, flips_in, flips_of, flipped_bits}
use Rattle.fault_sites.specs.Late.{late_add, late_addend, late_one, lates_at, lates_in, lates_of, may_be_late}
use Rattle.fault_sites.specs.Part.{kept}
use Rattle.fault_sites.specs.Run.{Moment, after, begun}
use Rattle.fault_sites.specs.RunCycle.{RunCycle, expected_word}
use Rattle.fault_sites.specs.RunSites.{cycle_of, in_cycle, run_class_name, run_sites, run_sites_from, run_text, unless_stopped}
use Rattle.fault_sites.specs.Sites.{as_fault, sited}
use Rattle.fault_sites.specs.SiteText.{said_from}
use Rattle.fault_sites.proofs.Below.{all_below, all_one, all_if, tested_below, passed}
use Rattle.fault_sites.proofs.ReadBack.{plain, lines_read_back}
use Rattle.fault_sites.proofs.Short.{text_short}
use Rattle.fault_sites.proofs.SitesFit.{sited_fit}

plus_are : tested_below (λ b. is_addend (pos (2 ^ b))) flipped_bits ≡ true
plus_are = refl

minus_are : tested_below (λ b. is_addend (neg_ℤ (pos (2 ^ b)))) flipped_bits ≡ true
minus_are = refl

either_is : (s : Bool) (b : ℕ) → b < flipped_bits → is_addend (cond s (neg_ℤ (pos (2 ^ b))) (pos (2 ^ b))) ≡ true
either_is true b l = passed (λ b. is_addend (neg_ℤ (pos (2 ^ b)))) flipped_bits b minus_are l
either_is false b l = passed (λ b. is_addend (pos (2 ^ b))) flipped_bits b plus_are l

results_fit : (kind : Kind) (k n : ℕ) (w : ℤ) → All (ActFits kind k n) (flips_of w)
results_fit kind k n w =
    all_below (ActFits kind k n) (λ b. act.ResultAdd (flip w b) ∷ []) flipped_bits
    (λ b l. all_one (ActFits kind k n) (act.ResultAdd (flip w b)) (record { sited = refl; timely = refl; alike = refl; moderate = either_is (bit_of w b) b l }))

pub there_is : {X : Type 0} (xs : List X) (k : ℕ) → k < length xs → (x : X) × (slice_get xs k ≡ Some x)
there_is [] k within = absurd (omega (arith, within))
there_is (x ∷ xs) zero within = (x, refl)
there_is (x ∷ xs) (suc k) within = there_is xs k (omega (arith, within))

flips_fit : (c : RunCycle) (line : ℕ) → c.cycle < most_cycles → All (λ s. Fits c.graph (as_fault line s)) (flips_in c)
flips_fit c line few =
    all_below (λ s. Fits c.graph (as_fault line s)) (λ k. sited c.cycle k (flips_of (expected_word c.table c.cycle k (at c.values k)))) (length c.graph.operations)
    (λ k within. let (op, there) = there_is c.graph.operations k within in
    sited_fit c.graph op k c.cycle line (flips_of (expected_word c.table c.cycle k (at c.values k))) few there
    (results_fit op.kind k c.cycle (expected_word c.table c.cycle k (at c.values k))))

-- ---- late words

added_fits : (op : Op) (k n j : ℕ) (e : ℤ) → nat_lt j (operands op.kind) ≡ true → All (ActFits op.kind k n) (late_add j e)
added_fits op k n j e there =
    all_if (ActFits op.kind k n) (nat_lt 0 (unsigned_abs e) && is_addend e) (act.OperandAdd j e ∷ [])
    (λ may. all_one (ActFits op.kind k n) (act.OperandAdd j e)
    (record { sited = there; timely = refl; alike = refl; moderate = (and_parts (nat_lt 0 (unsigned_abs e)) (is_addend e) may).1 }))

late_fits : (c : RunCycle) (op : Op) (k j r : ℕ) (o : Option Op) → nat_lt j (operands op.kind) ≡ true → All (ActFits op.kind k c.cycle) (late_one c op j r o)
late_fits c op k j r None there = All-nil (ActFits op.kind k c.cycle)
late_fits c op k j r (Some source) there =
    all_if (ActFits op.kind k c.cycle) (may_be_late c.graph op j r source) (late_add j (late_addend c op j r))
    (λ may. added_fits op k c.cycle j (late_addend c op j r) there)

operand_fits : (c : RunCycle) (op : Op) (k : ℕ) → All (ActFits op.kind k c.cycle) (lates_of c k (Some op))
operand_fits c op k =
    all_below (ActFits op.kind k c.cycle) (λ j. lates_at c k op j) (operands op.kind)
    (λ j within. let there : nat_lt j (operands op.kind) ≡ true = grind (arith, nat_tests) in
    all_below (ActFits op.kind k c.cycle) (λ i. late_one c op j (k + i) (slice_get c.graph.operations (k + i))) (length c.graph.operations - k)
    (λ i l. late_fits c op k j (k + i) (slice_get c.graph.operations (k + i)) there))

lates_fit : (c : RunCycle) (line : ℕ) → c.cycle < most_cycles → All (λ s. Fits c.graph (as_fault line s)) (lates_in c)
lates_fit c line few =
    all_if (λ s. Fits c.graph (as_fault line s)) (nat_lt 0 c.cycle) _
    (λ later. all_below (λ s. Fits c.graph (as_fault line s)) (λ k. sited c.cycle k (lates_of c k (slice_get c.graph.operations k))) (length c.graph.operations)
    (λ k within. let (op, there) = there_is c.graph.operations k within in
    rw there (sited_fit c.graph op k c.cycle line (lates_of c k (Some op)) few there (operand_fits c op k))))

-- ---- the run

in_fit : (class : RunClass) (c : RunCycle) (line : ℕ) → c.cycle < most_cycles → All (λ s. Fits c.graph (as_fault line s)) (in_cycle class c)
in_fit class.Flips c line few = flips_fit c line few
in_fit class.Late c line few = lates_fit c line few

from_fit : (class : RunClass) (t : Numbers) (now : Moment) (n line : ℕ) (rows : List (List ℤ)) → n + length rows ≤ most_cycles
    → All (λ s. Fits now.graph (as_fault line s)) (run_sites_from class t now n rows)
from_fit class t now n line [] few = All-nil (λ s. Fits now.graph (as_fault line s))
from_fit class t now n line (row ∷ rows) few =
    then_fit (λ next. run_sites_from class t next (n + 1) rows) (cycle now.graph now.cells row) (cycle now.graph now.cells row).stop
    (λ c. from_fit class t (after now c) (n + 1) line rows (omega (arith, few)))
  where
    then_fit : (next : Moment → List Site) (c : Cycle) (stop : Option StopKind)
        → ((c : Cycle) → All (λ s. Fits now.graph (as_fault line s)) (next (after now c)))
        → All (λ s. Fits now.graph (as_fault line s)) (unless_stopped (in_cycle class (cycle_of t n now c.values)) next now c stop)
    then_fit next c None h =
        All-append (λ s. Fits now.graph (as_fault line s)) (in_cycle class (cycle_of t n now c.values)) (next (after now c))
        (in_fit class (cycle_of t n now c.values) line (omega (arith, few))) (h c)
    then_fit next c (Some why) h = All-nil (λ s. Fits now.graph (as_fault line s))

pub each_run_site_fits : (class : RunClass) (t : Numbers) (g : Lists) (rows : List (List ℤ)) (line : ℕ) → length rows ≤ most_cycles
    → All (λ s. Fits g (as_fault line s)) (run_sites class t g rows)
each_run_site_fits class t g rows line few = from_fit class t (begun g) 0 line rows (omega (arith, few))

part_fits : (class : RunClass) (t : Numbers) (g : Lists) (rows : List (List ℤ)) (p : Part) → length rows ≤ most_cycles
    → All (λ s. Fits g (as_fault 0 s)) (kept p (run_sites class t g rows))
part_fits class t g rows p few =
    let P : Site → Type 0 = λ s. Fits g (as_fault 0 s) in
    All-take P p.left (drop p.skip (run_sites class t g rows)) (All-drop P p.skip (run_sites class t g rows) (each_run_site_fits class t g rows 0 few))

plain_name : (class : RunClass) → list_all plain (run_class_name class) ≡ true
plain_name class.Flips = refl
plain_name class.Late = refl

name_short : (class : RunClass) → length (run_class_name class) ≤ 8
name_short class.Flips = omega arith
name_short class.Late = omega arith

pub run_read_back : (class : RunClass) (digest : List ℕ) (t : Numbers) (g : Lists) (rows : List (List ℤ)) (p : Part) → All (λ b. 32 ≤ b) digest
    → length rows ≤ most_cycles → length g.operations ≤ 2 ^ 32 → length (kept p (run_sites class t g rows)) ≤ most_faults
    → script_of g (run_text class digest t g rows p) ≡ Ok (said_from 2 (kept p (run_sites class t g rows)))
run_read_back class digest t g rows p digits few ops room =
    lines_read_back (run_class_name class) digest g (kept p (run_sites class t g rows)) (plain_name class) digits ops room (part_fits class t g rows p few)

pub run_short : (class : RunClass) (digest : List ℕ) (t : Numbers) (g : Lists) (rows : List (List ℤ)) (p : Part) → length digest ≤ 1000
    → length rows ≤ most_cycles → length g.operations ≤ 2 ^ 32 → length (kept p (run_sites class t g rows)) ≤ most_faults
    → length (run_text class digest t g rows p) ≤ most_source_bytes
run_short class digest t g rows p few_digits few ops room =
    text_short (run_class_name class) digest g (kept p (run_sites class t g rows)) (name_short class) few_digits ops room (part_fits class t g rows p few)
