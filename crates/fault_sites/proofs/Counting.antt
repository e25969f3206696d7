-- Counting: how many sites there are.
use Rattle.std.proofs.Common.{◌≡◌, ℕ, zero, suc, ◌+◌, ◌*◌, ◌<◌, ◌≤◌, Bool, true, false, cond, List, [], ◌∷◌, length, slice_get, Option, Some, None, refl, sym, ap, ◌∙◌, arith, add-one, length-append}
use Rattle.vcp_base.specs.declared.kind.Kind.{Kind}
use Rattle.vcp_base.specs.Kinds.{operands}
use Rattle.op_graph.specs.declared.op.Op.{Op}
use Rattle.op_graph.specs.Lists.{Lists}
use Rattle.fault_script.specs.declared.act.Act.{Act}
use Rattle.fault_script.specs.declared.act.Act.TheVariants as act
use Rattle.fault_sites.specs.declared.class.Class.{Class}
use Rattle.fault_sites.specs.Sites.{each_below, addend, addend_count, adding, bits_at, bits, stale, acts_of, has_acts, sited, sites_at, sites_in}

pub few_operands : (k : Kind) → operands k ≤ 3
few_operands k = grind arith

-- one number more
pub count_more : {X : Type 0} (f : ℕ → List X) (i m n : ℕ) → m ≡ length (each_below f i) → n ≡ length (f i) → m + n ≡ length (each_below f (i + 1))
count_more f i m n e g = rw (add-one i) (omega (arith, e, g, length-append (each_below f i) (f i)))

-- as many for each number
pub each_many : {X : Type 0} (f : ℕ → List X) (n m : ℕ) → ((i : ℕ) → length (f i) ≡ m) → length (each_below f n) ≡ n * m
each_many f zero m h = omega arith
each_many f (suc i) m h = omega (arith, each_many f i m h, h i, length-append (each_below f i) (f i))

bits_at_many : (place : Option ℕ) → length (bits_at place) ≡ 124
bits_at_many place = each_many (λ v. adding place (addend v) ∷ []) addend_count 1 (λ v. refl) ∙ omega arith

pub bits_many : (op : Op) → length (bits op) ≡ 124 * (operands op.kind + 1)
bits_many op =
    let front : length (bits_at None) ≡ 124 = bits_at_many None in
    let behind : length (each_below (λ j. bits_at (Some j)) (operands op.kind)) ≡ operands op.kind * 124 =
    each_many (λ j. bits_at (Some j)) (operands op.kind) 124 (λ j. bits_at_many (Some j)) in
    omega (arith, front, behind, length-append (bits_at None) (each_below (λ j. bits_at (Some j)) (operands op.kind)))

pub stale_many : (op : Op) → length (stale op) ≡ operands op.kind
stale_many op = each_many (λ j. act.OperandStale j ∷ []) (operands op.kind) 1 (λ j. refl) ∙ omega arith

pub sited_many : (n k : ℕ) (acts : List Act) → length (sited n k acts) ≡ length acts
sited_many n k [] = refl
sited_many n k (a ∷ acts) = ap suc (sited_many n k acts)

-- in a cycle in which the class has acts there are as many as in the second one, and else none
at_many : (c : Class) (g : Lists) (n k : ℕ) (b : Bool) (o : Option Op) → has_acts c n ≡ b
    → length (sites_at c g n k o) ≡ cond b (length (sites_at c g 1 k o)) 0
at_many c g n k true None e = refl
at_many c g n k false None e = refl
at_many c g n k true (Some op) e = rw e (sited_many n k (acts_of c g k op) ∙ sym (sited_many 1 k (acts_of c g k op)))
at_many c g n k false (Some op) e = rw e refl

below_many : (c : Class) (g : Lists) (n m : ℕ) (b : Bool) → has_acts c n ≡ b
    → length (each_below (λ k. sites_at c g n k (slice_get g.operations k)) m)
    ≡ cond b (length (each_below (λ k. sites_at c g 1 k (slice_get g.operations k)) m)) 0
below_many c g n zero true e = refl
below_many c g n zero false e = refl
below_many c g n (suc k) true e =
    omega (
      arith,
      below_many c g n k true e,
      at_many c g n k true (slice_get g.operations k) e,
      length-append (each_below (λ k. sites_at c g n k (slice_get g.operations k)) k) (sites_at c g n k (slice_get g.operations k)),
      length-append (each_below (λ k. sites_at c g 1 k (slice_get g.operations k)) k) (sites_at c g 1 k (slice_get g.operations k)),
    )
below_many c g n (suc k) false e =
    omega (
      arith,
      below_many c g n k false e,
      at_many c g n k false (slice_get g.operations k) e,
      length-append (each_below (λ k. sites_at c g n k (slice_get g.operations k)) k) (sites_at c g n k (slice_get g.operations k)),
    )

pub in_many : (c : Class) (g : Lists) (n size : ℕ) → size ≡ length (sites_in c g 1) → cond (has_acts c n) size 0 ≡ length (sites_in c g n)
in_many c g n size e = ap (λ (m : ℕ). cond (has_acts c n) m 0) e ∙ sym (below_many c g n (length g.operations) (has_acts c n) refl)

-- a class with sites in a cycle has acts there
pub has_some : (b : Bool) (size : ℕ) → 0 < cond b size 0 → b ≡ true
has_some true size some = refl
has_some false size some = absurd (omega (arith, some))
