-- RunOnce: each site that a run decides stands once.
use Rattle.std.proofs.Common.{◌≡◌, ℕ, zero, suc, ◌+◌, ◌^◌, ◌<◌, ◌≤◌, ◌==◌, ℤ, pos, neg_ℤ, unsigned_abs, Bool, true, false, cond, nat_lt, List, [], ◌∷◌, length, Option, Some, None, All, refl, arith}
use Rattle.std.proofs.lemmas.List.Elements.{All-nil, All-append, All-weaker}
use Rattle.vcp_base.specs.declared.kind.StopKind.{StopKind}
use Rattle.vcp_base.specs.Values.{at}
use Rattle.op_graph.specs.Lists.{Lists}
use Rattle.op_graph.specs.GraphRun.{Cycle, cycle}
use Rattle.signature_table.specs.Signatures.{Numbers}
use Rattle.fault_script.specs.declared.act.Act.{Act}
use Rattle.fault_script.specs.declared.act.Act.TheVariants as act
use Rattle.fault_sites.specs.declared.run_class.RunClass.{RunClass}
use Rattle.fault_sites.specs.declared.run_class.RunClass.TheVariants as run
use Rattle.fault_sites.specs.declared.site.Site.{Site}
use Rattle.fault_sites.specs.Flips.{bit_of, flip, flips_in, flips_of, flipped_bits}
use Rattle.fault_sites.specs.Laws.{Distinct}
use Rattle.fault_sites.specs.Run.{Moment, after, begun}
use Rattle.fault_sites.specs.RunCycle.{RunCycle, expected_word}
use Rattle.fault_sites.specs.RunSites.{cycle_of, in_cycle, run_sites, run_sites_from, unless_stopped}
use Rattle.fault_sites.specs.Sites.{sited}
use Rattle.fault_sites.proofs.Below.{all_below, all_one, tested_below, passed, distinct_append, distinct_one, apart_by, distinct_below}
use Rattle.fault_sites.proofs.SitesOnce.{same, each_sited, any_act, sited_once}

-- ---- of a word: the size of what is added tells the bit

-- how many powers of two below 2^b are smaller in size than e
abbrev smaller : ℤ → ℕ → ℕ
smaller e zero = 0
smaller e (suc b) = smaller e b + cond (nat_lt (2 ^ b) (unsigned_abs e)) 1 0

abbrev bit_key : Act → ℕ
bit_key (act.ResultAdd e) = smaller e flipped_bits
bit_key _ = 0

plus_are : tested_below (λ b. smaller (pos (2 ^ b)) flipped_bits == b) flipped_bits ≡ true
plus_are = refl

minus_are : tested_below (λ b. smaller (neg_ℤ (pos (2 ^ b))) flipped_bits == b) flipped_bits ≡ true
minus_are = refl

key_is : (s : Bool) (b : ℕ) → b < flipped_bits → smaller (cond s (neg_ℤ (pos (2 ^ b))) (pos (2 ^ b))) flipped_bits ≡ b
key_is true b l = same _ b (passed (λ b. smaller (neg_ℤ (pos (2 ^ b))) flipped_bits == b) flipped_bits b minus_are l)
key_is false b l = same _ b (passed (λ b. smaller (pos (2 ^ b)) flipped_bits == b) flipped_bits b plus_are l)

bits_once : (w : ℤ) → Distinct (flips_of w)
bits_once w =
    distinct_below bit_key (λ b. act.ResultAdd (flip w b) ∷ []) flipped_bits (λ b l. distinct_one (act.ResultAdd (flip w b)))
    (λ b l. all_one (λ a. bit_key a ≡ b) (act.ResultAdd (flip w b)) (key_is (bit_of w b) b l))

-- ---- flips in a cycle

flips_once : (c : RunCycle) → Distinct (flips_in c)
flips_once c =
    distinct_below (λ s. s.op) (λ k. sited c.cycle k (flips_of (expected_word c.table c.cycle k (at c.values k)))) (length c.graph.operations)
    (λ k l. sited_once c.cycle k (flips_of (expected_word c.table c.cycle k (at c.values k))) (bits_once (expected_word c.table c.cycle k (at c.values k))))
    (λ k l. each_sited (λ s. s.op ≡ k) c.cycle k (flips_of (expected_word c.table c.cycle k (at c.values k)))
    (any_act (λ a. k ≡ k) (flips_of (expected_word c.table c.cycle k (at c.values k))) (λ a. refl)))

flips_there : (c : RunCycle) → All (λ s. s.cycle ≡ c.cycle) (flips_in c)
flips_there c =
    all_below (λ s. s.cycle ≡ c.cycle) (λ k. sited c.cycle k (flips_of (expected_word c.table c.cycle k (at c.values k)))) (length c.graph.operations)
    (λ k l. each_sited (λ s. s.cycle ≡ c.cycle) c.cycle k (flips_of (expected_word c.table c.cycle k (at c.values k)))
    (any_act (λ a. c.cycle ≡ c.cycle) (flips_of (expected_word c.table c.cycle k (at c.values k))) (λ a. refl)))

-- ---- cycle by cycle

module _ (class : RunClass) (t : Numbers) (g : Lists) (most : ℕ)
    (in_once : (n : ℕ) (now : Moment) (values : List ℤ) → now.graph ≡ g → n < most → Distinct (in_cycle class (cycle_of t n now values)))
    (in_there : (n : ℕ) (now : Moment) (values : List ℤ) → All (λ s. s.cycle ≡ n) (in_cycle class (cycle_of t n now values))) where
  -- past a cycle
  later_then : (m n : ℕ) → m < n → (now : Moment) (next : Moment → List Site) (c : Cycle) (stop : Option StopKind)
      → ((later : Moment) → All (λ s. m < s.cycle) (next later))
      → All (λ s. m < s.cycle) (unless_stopped (in_cycle class (cycle_of t n now c.values)) next now c stop)
  later_then m n l now next c None h =
      All-append (λ s. m < s.cycle) (in_cycle class (cycle_of t n now c.values)) (next (after now c))
      (All-weaker (λ s. s.cycle ≡ n) (λ s. m < s.cycle) (λ s e. omega (arith, l, e)) (in_cycle class (cycle_of t n now c.values)) (in_there n now c.values))
      (h (after now c))
  later_then m n l now next c (Some why) h = All-nil (λ s. m < s.cycle)

  later : (m n : ℕ) (now : Moment) (rows : List (List ℤ)) → m < n → All (λ s. m < s.cycle) (run_sites_from class t now n rows)
  later m n now [] l = All-nil (λ s. m < s.cycle)
  later m n now (row ∷ rows) l =
      later_then m n l now (λ next. run_sites_from class t next (n + 1) rows) (cycle now.graph now.cells row) (cycle now.graph now.cells row).stop
      (λ next. later m (n + 1) next rows (omega (arith, l)))

  once_then : (n : ℕ) (now : Moment) (next : Moment → List Site) (c : Cycle) (stop : Option StopKind) → now.graph ≡ g → n < most
      → ((m : Moment) → All (λ s. n < s.cycle) (next m)) → Distinct (next (after now c))
      → Distinct (unless_stopped (in_cycle class (cycle_of t n now c.values)) next now c stop)
  once_then n now next c None is few behind once =
      distinct_append (in_cycle class (cycle_of t n now c.values)) (next (after now c)) (in_once n now c.values is few) once
      (apart_by (λ s. s.cycle) (λ m. m ≡ n) (λ m. n < m) (in_cycle class (cycle_of t n now c.values)) (next (after now c))
      (λ m k here there e. omega (arith, here, there, e)) (in_there n now c.values) (behind (after now c)))
  once_then n now next c (Some why) is few behind once = tt

  pub from_once : (n : ℕ) (now : Moment) (rows : List (List ℤ)) → now.graph ≡ g → n + length rows ≤ most → Distinct (run_sites_from class t now n rows)
  from_once n now [] is few = tt
  from_once n now (row ∷ rows) is few =
      once_then n now (λ next. run_sites_from class t next (n + 1) rows) (cycle now.graph now.cells row) (cycle now.graph now.cells row).stop is
      (omega (arith, few)) (λ next. later n (n + 1) next rows (omega arith))
      (from_once (n + 1) (after now (cycle now.graph now.cells row)) rows is (omega (arith, few)))

pub each_flip_once : (t : Numbers) (g : Lists) (rows : List (List ℤ)) → Distinct (run_sites run.Flips t g rows)
each_flip_once t g rows =
    from_once run.Flips t g (length rows) (λ n now values is few. flips_once (cycle_of t n now values)) (λ n now values. flips_there (cycle_of t n now values)) 0
    (begun g) rows refl (omega arith)
