-- Sweeping: from the last operation to the first, what is reached from each is handed on to what it reads.
use Rattle.std.proofs.Common.{◌≡◌, ◌≢◌, ⊎_elim, ℕ, zero, suc, ◌<◌, ◌≤◌, ◌==◌, Bool, true, false, List, [], length, slice_get, Option, Some, None, ◌∷◌, sym}
use Rattle.std.proofs.Common.{subst, ◌∙◌, refl, arith}
use Rattle.std.proofs.lemmas.Bool.Decides.{eqb_tells}
use Rattle.op_graph.specs.declared.op.Op.{Op}
use Rattle.op_graph.specs.Lists.{Lists}
use Rattle.op_graph.specs.Reads.{Reads}
use Rattle.weight_audit.specs.Paths.{Step}
use Rattle.weight_audit.specs.Sweeping.{Takes}
use Rattle.fault_cover.specs.declared.nearest.Nearest.{Nearest}
use Rattle.fault_cover.specs.Walks.{NotFurther, kept, Got, HandsOn, AreFound, AreWithin, ReadsBelow, Swept}
use Rattle.fault_cover.proofs.Nearing.{as_near_same, both_ways, no_further_through}

pub there_is : {X : Type 0} (xs : List X) (i : ℕ) → i < length xs → (x : X) × (slice_get xs i ≡ Some x)
there_is [] i lt = absurd (omega (arith, lt))
there_is (x ∷ xs) zero lt = (x, refl)
there_is (x ∷ xs) (suc i) lt = there_is xs i (omega (arith, lt))

-- ---- one operation hands on

pub same_there : (x : Option Nearest) (n m : Nearest) → x ≡ Some n → x ≡ Some m → n ≡ m
same_there x n m e h = cc

module _ (g : Lists) (q : ℕ) (op : Op) (there : slice_get g.operations q ≡ Some op) (earlier : (r k j : ℕ) → Reads g.operations r k j → k < r)
    (old new : List (Option Nearest)) (hands : HandsOn op (kept old q) old new) where
  reads : (k : ℕ) → (takes : Takes op k) → Reads g.operations q k takes.place
  reads k takes = record { op = op; there = there; operand = takes.operand; names = takes.names }

  -- the operation itself, and those behind it, keep what they have
  pub not_taken : (k : ℕ) → q ≤ k → kept new k ≡ kept old k
  not_taken k le = ⊎_elim
      (λ (e : kept new k ≡ kept old k). e)
      (λ (got : Got op (kept old q) new k). absurd (let before = earlier q k got.takes.place (reads k got.takes) in omega (arith, before, le)))
      (hands.each k)

  pub found_more : (wanted : List Bool) → AreFound g wanted old → AreFound g wanted new
  found_more wanted are k n e = ⊎_elim
      (λ (h : kept new k ≡ kept old k). are k n (sym h ∙ e))
      (λ (got : Got op (kept old q) new k).
      let from = are q n (sym got.is ∙ e) in
      (from.0, (Step.Read q got.takes.place ∷ from.1.0, (reads k got.takes, from.1.1))))
      (hands.each k)

  pub within_more : (borders : ℕ) → AreWithin borders old → AreWithin borders new
  within_more borders are k n e = ⊎_elim
      (λ (h : kept new k ≡ kept old k). are k n (sym h ∙ e))
      (λ (got : Got op (kept old q) new k). are q n (sym got.is ∙ e))
      (hands.each k)

  pub closed_more : (m : ℕ) → m ≡ suc q → ((k j : ℕ) → Reads g.operations q k j → NotFurther (kept new k) (kept old q))
      → ((r k j : ℕ) → m ≤ r → Reads g.operations r k j → NotFurther (kept old k) (kept old r))
      → (r k j : ℕ) → q ≤ r → Reads g.operations r k j → NotFurther (kept new k) (kept new r)
  closed_more m is handed closed r k j le read = ⊎_elim
      (λ (h : ((r == q) ≡ true) × (r ≡ q)).
      subst (λ x. NotFurther (kept new k) (kept new x)) (sym h.1)
      (subst (NotFurther (kept new k)) (sym (not_taken q (omega arith))) (handed k j (subst (λ x. Reads g.operations x k j) h.1 read))))
      (λ (h : ((r == q) ≡ false) × (r ≢ q)).
      subst (NotFurther (kept new k)) (sym (not_taken r le))
      (no_further_through (kept new k) (kept old k) (kept old r) (hands.no_further k) (closed r k j (let ne = h.1 in omega (arith, le, is, ne)) read)))
      (eqb_tells r q)

  pub swept_more : (borders : ℕ) (at_first : List (Option Nearest)) → ReadsBelow g borders at_first → Swept borders at_first old → Swept borders at_first new
  swept_more borders at_first closed swept = record {
    stays = λ k n e lt. ⊎_elim
        (λ (h : kept new k ≡ kept old k). swept.stays k n (sym h ∙ e) lt)
        (λ (got : Got op (kept old q) new k).
        let was : kept at_first q ≡ Some n = swept.stays q n (sym got.is ∙ e) lt in
        let near = closed q k got.takes.place n (reads k got.takes) was lt in
        let back = no_further_through (kept new k) (kept old k) (kept at_first k) (hands.no_further k) (swept.no_further k) in
        both_ways (kept at_first k) n near (subst (λ x. NotFurther x (kept at_first k)) e back))
        (hands.each k);
    no_further = λ k. no_further_through (kept new k) (kept old k) (kept at_first k) (hands.no_further k) (swept.no_further k);
  }

pub swept_none : (borders : ℕ) (found : List (Option Nearest)) → Swept borders found found
swept_none borders found = record { stays = λ k n e lt. e; no_further = λ k. same (kept found k) }
  where
    same : (x : Option Nearest) → NotFurther x x
    same None = tt
    same (Some n) = as_near_same n

-- all that is read is as near as what reads it
pub reads_below : (g : Lists) (found : List (Option Nearest)) → ((q k j : ℕ) → Reads g.operations q k j → NotFurther (kept found k) (kept found q))
    → (borders : ℕ) → ReadsBelow g borders found
reads_below g found closed borders q k j n read e lt = subst (NotFurther (kept found k)) e (closed q k j read)
