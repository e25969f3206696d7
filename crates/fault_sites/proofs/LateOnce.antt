-- LateOnce: each word of the cycle before stands once as each operand; and so each site that a run decides stands once.
use Rattle.std.proofs.Common.{◌≡◌, ◌≢◌, ℕ, zero, suc, ◌+◌, ◌-◌, ◌<◌, ◌≤◌, ℤ, pos, ◌-ℤ◌, unsigned_abs, nat_lt, ◌&&◌, List, [], ◌∷◌, length, slice_get, Option, Some, None, All, refl, sym, subst, ap, ◌∙◌, arith}
use Rattle.std.proofs.lemmas.Int.{ints}
use Rattle.std.proofs.lemmas.List.Elements.{All-nil, All-weaker}
use Rattle.vcp_base.specs.Code.{modulus}
use Rattle.vcp_base.specs.Kinds.{operands}
use Rattle.vcp_base.specs.Limits.{most_cycles, most_operations, most_step}
use Rattle.vcp_base.specs.Values.{at}
use Rattle.vcp_base.specs.declared.code.Profile.{Profile}
use Rattle.coded_unit.specs.WordLaws.{WordLaws}
use Rattle.op_graph.specs.declared.op.Op.{Op}
use Rattle.op_graph.specs.Lists.{Lists}
use Rattle.signature_table.specs.Signatures.{IsTable, Numbers, expected, signature, stamp}
use Rattle.vcp_base.specs.Integers.{is_addend}
use Rattle.fault_script.specs.declared.act.Act.{Act}
use Rattle.fault_script.specs.declared.act.Act.TheVariants as act
use Rattle.fault_sites.specs.declared.run_class.RunClass.{RunClass}
use Rattle.fault_sites.specs.declared.run_class.RunClass.TheVariants as run
use Rattle.fault_sites.specs.Late.{late_add, late_addend, late_one, lates_at, lates_in, lates_of, may_be_late, past_word, read_word}
use Rattle.fault_sites.specs.Laws.{Distinct}
use Rattle.fault_sites.specs.Run.{begun}
use Rattle.fault_sites.specs.RunCycle.{RunCycle, expected_word}
use Rattle.fault_sites.specs.RunSites.{cycle_of, run_sites}
use Rattle.fault_sites.specs.Sites.{each_below, sited}
use Rattle.fault_sites.proofs.Below.{all_below, all_one, all_if, distinct_append, distinct_one, distinct_if, distinct_below}
use Rattle.fault_sites.proofs.RunOnce.{each_flip_once, from_once}
use Rattle.fault_sites.proofs.SitesOnce.{each_sited, any_act, sited_once}

-- lists that are apart, each two of them
distinct_apart : {X : Type 0} (f : ℕ → List X) (n : ℕ) → ((i : ℕ) → i < n → Distinct (f i))
    → ((i j : ℕ) → i < j → j < n → All (λ x. All (λ y. x ≢ y) (f j)) (f i)) → Distinct (each_below f n)
distinct_apart f zero each apart = tt
distinct_apart f (suc i) each apart =
    distinct_append (each_below f i) (f i) (distinct_apart f i (λ j l. each j (omega arith)) (λ j k l m. apart j k l (omega arith))) (each i (omega arith))
    (all_below (λ x. All (λ y. x ≢ y) (f i)) f i (λ j l. apart j i l (omega arith)))

-- ---- acts

abbrev added_of : Act → ℤ
added_of (act.OperandAdd j e) = e
added_of _ = pos 0

abbrev place_of : Act → ℕ
place_of (act.OperandAdd j e) = j
place_of _ = 0

late_is : (c : RunCycle) (op : Op) (j r : ℕ) (o : Option Op) → All (λ a. a ≡ act.OperandAdd j (late_addend c op j r)) (late_one c op j r o)
late_is c op j r None = All-nil (λ a. a ≡ act.OperandAdd j (late_addend c op j r))
late_is c op j r (Some source) =
    let e : ℤ = late_addend c op j r in
    all_if (λ a. a ≡ act.OperandAdd j e) (may_be_late c.graph op j r source) (late_add j e)
    (λ may. all_if (λ a. a ≡ act.OperandAdd j e) (nat_lt 0 (unsigned_abs e) && is_addend e) (act.OperandAdd j e ∷ [])
    (λ fits. all_one (λ a. a ≡ act.OperandAdd j e) (act.OperandAdd j e) refl))

one_once : (c : RunCycle) (op : Op) (j r : ℕ) (o : Option Op) → Distinct (late_one c op j r o)
one_once c op j r None = tt
one_once c op j r (Some source) =
    let e : ℤ = late_addend c op j r in
    distinct_if (may_be_late c.graph op j r source) (late_add j e)
    (distinct_if (nat_lt 0 (unsigned_abs e) && is_addend e) (act.OperandAdd j e ∷ []) (distinct_one (act.OperandAdd j e)))

less_same : (a b c : ℤ) → a -ℤ c ≡ b -ℤ c → a ≡ b
less_same a b c e = omega (arith, ints, e)

cancelled : (a b c : ℕ) → a + c ≡ b + c → a ≡ b
cancelled a b c e = omega (arith, e)

module _ (distinct : (p : Profile) (seed i j : ℕ) → i < most_operations → j < most_operations → signature p seed j ≡ signature p seed i → j ≡ i)
    (below : (p : Profile) (seed step i n : ℕ) → step ≤ most_step → n < most_cycles → expected p seed step i n < modulus p)
    (split : (p : Profile) → WordLaws p) (t : Numbers) (table : IsTable t) where
  -- two operations have two words in a cycle
  other_word : (n r s : ℕ) (v w : ℤ) → n < most_cycles → r < most_operations → s < most_operations → r ≢ s → expected_word t n r v ≢ expected_word t n s w
  other_word n r s v w few l m other same =
      let one = (split t.profile).one v w (expected t.profile t.seed t.step r n) (expected t.profile t.seed t.step s n)
      (below t.profile t.seed t.step r n table.step_to few) (below t.profile t.seed t.step s n table.step_to few) same in
      let signs : signature t.profile t.seed r ≡ signature t.profile t.seed s =
      cancelled (signature t.profile t.seed r) (signature t.profile t.seed s) (stamp t.step n) one.1 in
      other (distinct t.profile t.seed s r m l signs)

  module _ (c : RunCycle) (is : c.table ≡ t) (early : c.cycle < most_cycles) (many : length c.graph.operations ≤ most_operations) where
    other_act : (op : Op) (j r s : ℕ) → r < most_operations → s < most_operations → r ≢ s
        → act.OperandAdd j (late_addend c op j r) ≢ act.OperandAdd j (late_addend c op j s)
    other_act op j r s l m other same =
        let words : past_word c r ≡ past_word c s = less_same (past_word c r) (past_word c s) (read_word c op j) (ap added_of same) in
        let so : expected_word t (c.cycle - 1) r (at c.past r) ≡ expected_word t (c.cycle - 1) s (at c.past s) = rw is at words in
        other_word (c.cycle - 1) r s (at c.past r) (at c.past s) (omega (arith, early)) l m other so

    apart : (op : Op) (j r s : ℕ) (o u : Option Op) → r < most_operations → s < most_operations → r ≢ s
        → All (λ x. All (λ y. x ≢ y) (late_one c op j s u)) (late_one c op j r o)
    apart op j r s o u l m other =
        let A : ℕ → Act = λ i. act.OperandAdd j (late_addend c op j i) in
        All-weaker (λ x. x ≡ A r) (λ x. All (λ y. x ≢ y) (late_one c op j s u))
        (λ x ex. All-weaker (λ y. y ≡ A s) (λ y. x ≢ y) (λ y ey e. other_act op j r s l m other (sym ex ∙ e ∙ ey)) (late_one c op j s u) (late_is c op j s u))
        (late_one c op j r o) (late_is c op j r o)

    at_once : (k : ℕ) (op : Op) (j : ℕ) → Distinct (lates_at c k op j)
    at_once k op j =
        distinct_apart (λ i. late_one c op j (k + i) (slice_get c.graph.operations (k + i))) (length c.graph.operations - k)
        (λ i l. one_once c op j (k + i) (slice_get c.graph.operations (k + i)))
        (λ i m l few. apart op j (k + i) (k + m) (slice_get c.graph.operations (k + i)) (slice_get c.graph.operations (k + m)) (omega (arith, many, l, few))
        (omega (arith, many, few)) (λ e. omega (arith, l, e)))

    of_once : (k : ℕ) (o : Option Op) → Distinct (lates_of c k o)
    of_once k None = tt
    of_once k (Some op) =
        distinct_below place_of (λ j. lates_at c k op j) (operands op.kind) (λ j l. at_once k op j)
        (λ j l. all_below (λ a. place_of a ≡ j) (λ i. late_one c op j (k + i) (slice_get c.graph.operations (k + i))) (length c.graph.operations - k)
        (λ i m. All-weaker (λ a. a ≡ act.OperandAdd j (late_addend c op j (k + i))) (λ a. place_of a ≡ j) (λ a e. ap place_of e)
        (late_one c op j (k + i) (slice_get c.graph.operations (k + i))) (late_is c op j (k + i) (slice_get c.graph.operations (k + i)))))

    in_once : Distinct (lates_in c)
    in_once =
        distinct_if (nat_lt 0 c.cycle) _
        (distinct_below (λ s. s.op) (λ k. sited c.cycle k (lates_of c k (slice_get c.graph.operations k))) (length c.graph.operations)
        (λ k l. sited_once c.cycle k (lates_of c k (slice_get c.graph.operations k)) (of_once k (slice_get c.graph.operations k)))
        (λ k l. each_sited (λ s. s.op ≡ k) c.cycle k (lates_of c k (slice_get c.graph.operations k))
        (any_act (λ a. k ≡ k) (lates_of c k (slice_get c.graph.operations k)) (λ a. refl))))

  in_there : (c : RunCycle) → All (λ s. s.cycle ≡ c.cycle) (lates_in c)
  in_there c =
      all_if (λ s. s.cycle ≡ c.cycle) (nat_lt 0 c.cycle) _
      (λ later. all_below (λ s. s.cycle ≡ c.cycle) (λ k. sited c.cycle k (lates_of c k (slice_get c.graph.operations k))) (length c.graph.operations)
      (λ k l. each_sited (λ s. s.cycle ≡ c.cycle) c.cycle k (lates_of c k (slice_get c.graph.operations k))
      (any_act (λ a. c.cycle ≡ c.cycle) (lates_of c k (slice_get c.graph.operations k)) (λ a. refl))))

  each_late_once : (g : Lists) (rows : List (List ℤ)) → length rows ≤ most_cycles → length g.operations ≤ most_operations
      → Distinct (run_sites run.Late t g rows)
  each_late_once g rows few many =
      from_once run.Late t g most_cycles
      (λ n now values is early. in_once (cycle_of t n now values) refl early
      (subst (λ (h : Lists). length h.operations ≤ most_operations) (sym is) many)) (λ n now values. in_there (cycle_of t n now values)) 0 (begun g)
      rows refl (omega (arith, few))

  pub each_run_once : (class : RunClass) (g : Lists) (rows : List (List ℤ)) → length rows ≤ most_cycles → length g.operations ≤ most_operations
      → Distinct (run_sites class t g rows)
  each_run_once run.Flips g rows few many = each_flip_once t g rows
  each_run_once run.Late g rows few many = each_late_once g rows few many
