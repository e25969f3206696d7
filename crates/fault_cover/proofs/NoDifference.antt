-- NoDifference: what comes to an output by superposition: nothing where it isn't touched, and one term where a fault stands at one operation.
use Rattle.std.proofs.Common.{◌≡◌, ◌≢◌, ⊎_elim, inl, inr, ℕ, zero, suc, ◌+◌, ◌-◌, ◌<◌, ◌≤◌, ◌==◌, true, false, length, ℤ, pos, ◌+ℤ◌, ◌*ℤ◌, Option, Some, None}
use Rattle.std.proofs.Common.{ap, sym, subst, ◌∙◌, refl, arith}
use Rattle.std.proofs.Math.IntN.{*ℤ_comm, *ℤ-zero}
use Rattle.std.proofs.lemmas.Bool.{cases_lt}
use Rattle.std.proofs.lemmas.Bool.Decides.{eqb_tells}
use Rattle.std.proofs.lemmas.Int.{ints}
use Rattle.vcp_base.specs.Values.{at}
use Rattle.op_graph.specs.Lists.{Lists}
use Rattle.signature_table.specs.Signatures.{Numbers}
use Rattle.fault_script.specs.declared.act.Act.{Act}
use Rattle.fault_script.specs.Changes.{Acts}
use Rattle.fault_script.specs.Differences.{difference_at}
use Rattle.weight_audit.specs.Paths.{Reached}
use Rattle.weight_audit.specs.Superposition.{OwnIsOfActs, Superposition, WeightsAreOfPaths, added, sum_below}
use Rattle.weight_audit.specs.Weights.{sums}
use Rattle.fault_cover.specs.Touched.{IsTouched}

two_zeros : (x y : ℤ) → x ≡ pos 0 → y ≡ pos 0 → x +ℤ y ≡ pos 0
two_zeros x y e h = omega (arith, ints)

pub no_terms : (f : ℕ → ℤ) (n : ℕ) → ((i : ℕ) → i < n → f i ≡ pos 0) → sum_below f n ≡ pos 0
no_terms f zero none = refl
no_terms f (suc n) none =
    two_zeros (f 0) (sum_below (λ k. f (suc k)) n) (none 0 (omega arith)) (no_terms (λ k. f (suc k)) n (λ i lt. none (suc i) (omega (arith, lt))))

first_alone : (x y : ℤ) → y ≡ pos 0 → x +ℤ y ≡ x
first_alone x y e = omega (arith, ints)

second_alone : (x y : ℤ) → x ≡ pos 0 → x +ℤ y ≡ y
second_alone x y e = omega (arith, ints)

-- where all terms but one are 0
pub one_term : (f : ℕ → ℤ) (n i : ℕ) → i < n → ((j : ℕ) → j < n → j ≢ i → f j ≡ pos 0) → sum_below f n ≡ f i
one_term f zero i lt others = absurd (omega (arith, lt))
one_term f (suc n) zero lt others =
    first_alone (f 0) (sum_below (λ k. f (suc k)) n)
    (no_terms (λ k. f (suc k)) n (λ j less. others (suc j) (omega (arith, less)) (λ e. omega (arith, e))))
one_term f (suc n) (suc i) lt others =
    second_alone (f 0) (sum_below (λ k. f (suc k)) n) (others 0 (omega arith) (λ e. omega (arith, e)))
    ∙ one_term (λ k. f (suc k)) n i (omega (arith, lt)) (λ j less differs. others (suc j) (omega (arith, less)) (λ e. differs (omega (arith, e))))

module _ (t : Numbers) (g : Lists) (acts : Acts) (superposed : Superposition t g) (own : OwnIsOfActs t g) (unreached : WeightsAreOfPaths g) where
  -- what an operation adds comes as nothing where no act stands, or where nothing is reached
  pub no_part : (m out borders k : ℕ) → ((acts (m - borders) k ≡ None → ⊥) → Reached g out borders k → ⊥)
      → at (sums g out borders) k *ℤ added t g acts (m - borders) k ≡ pos 0
  no_part m out borders k none = by_act (acts (m - borders) k) refl
    where
      by_act : (x : Option Act) → acts (m - borders) k ≡ x → at (sums g out borders) k *ℤ added t g acts (m - borders) k ≡ pos 0
      by_act None e = ap (λ z. at (sums g out borders) k *ℤ z) (own acts (m - borders) k e) ∙ *ℤ-zero (at (sums g out borders) k)
      by_act (Some a) e =
          ap (λ z. z *ℤ added t g acts (m - borders) k)
          (unreached out borders k (none (λ h. let no : Some a ≡ None = sym e ∙ h in cc)))
          ∙ *ℤ_comm (pos 0) (added t g acts (m - borders) k) ∙ *ℤ-zero (added t g acts (m - borders) k)

  -- an operation that isn't touched has no difference
  pub no_difference : (m out : ℕ) → (IsTouched g acts m out → ⊥) → difference_at t g acts m out ≡ pos 0
  no_difference m out untouched =
      (superposed acts m out).sum
      ∙ no_terms (λ borders. sum_below (λ k. at (sums g out borders) k *ℤ added t g acts (m - borders) k) (length g.operations)) (m + 1)
      (λ borders lt. no_terms (λ k. at (sums g out borders) k *ℤ added t g acts (m - borders) k) (length g.operations)
      (λ k less. no_part m out borders k (λ stands path. untouched (record {
        cycle = m - borders;
        op = k;
        stands = stands;
        more = borders;
        borders = omega (arith, lt);
        path = path;
      }))))

  -- Where acts stand at one operation alone and from cycle n on, and an output isn't reached across fewer borders, what the first act adds comes alone.
  pub one_difference : (n k h out : ℕ) → k < length g.operations → ((m : ℕ) → m < n → acts m k ≡ None) → ((m q : ℕ) → q ≢ k → acts m q ≡ None)
      → ((borders : ℕ) → borders < h → Reached g out borders k → ⊥)
      → difference_at t g acts (n + h) out ≡ at (sums g out h) k *ℤ added t g acts n k
  one_difference n k h out inside before alone nearer =
      let cycle_is : (n + h) - h ≡ n = omega arith in
      (superposed acts (n + h) out).sum
      ∙ one_term (λ borders. sum_below (λ q. at (sums g out borders) q *ℤ added t g acts ((n + h) - borders) q) (length g.operations)) ((n + h) + 1) h
      (omega arith)
      (λ borders lt differs. no_terms (λ q. at (sums g out borders) q *ℤ added t g acts ((n + h) - borders) q) (length g.operations)
      (λ q less. no_part (n + h) out borders q (other borders lt differs q)))
      ∙ one_term (λ q. at (sums g out h) q *ℤ added t g acts ((n + h) - h) q) (length g.operations) k inside
      (λ q less differs. no_part (n + h) out h q (λ stands path. stands (alone ((n + h) - h) q differs)))
      ∙ ap (λ m. at (sums g out h) k *ℤ added t g acts m k) cycle_is
    where
      earlier : (b : ℕ) → b < (n + h) + 1 → h ≤ b → b ≢ h → acts ((n + h) - b) k ≡ None
      earlier b lt past ne = before ((n + h) - b) (omega (arith, lt, past, ne))

      other : (borders : ℕ) → borders < (n + h) + 1 → borders ≢ h → (q : ℕ) → (acts ((n + h) - borders) q ≡ None → ⊥) → Reached g out borders q → ⊥
      other borders lt differs q stands path = ⊎_elim
          (λ (e : ((q == k) ≡ true) × (q ≡ k)). elim (cases_lt borders h) [
            | inl less ↦ nearer borders less (subst (Reached g out borders) e.1 path)
            | inr past ↦ stands (subst (λ x. acts ((n + h) - borders) x ≡ None) (sym e.1) (earlier borders lt past differs))
          ])
          (λ (e : ((q == k) ≡ false) × (q ≢ k)). stands (alone ((n + h) - borders) q e.1))
          (eqb_tells q k)
