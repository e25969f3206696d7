-- Unreached: an operation from which no path leads has the weight 0.
use Rattle.std.proofs.Common.{◌≡◌, ◌≢◌, ⊎_elim, ℕ, zero, suc, ◌+◌, ◌<◌, ◌≤◌, ◌==◌, nat_le, true, false, cond, ℤ, pos, ◌+ℤ◌, ◌*ℤ◌, List, [], ◌∷◌, length, slice_get, Some, ap, sym, ◌∙◌, refl, arith}
use Rattle.std.proofs.Math.IntN.{*ℤ-zero, zero-*ℤ}
use Rattle.std.proofs.lemmas.Int.{ints}
use Rattle.std.proofs.lemmas.Bool.Decides.{eqb_tells, leb_tells}
use Rattle.vcp_base.specs.Values.{at}
use Rattle.op_graph.specs.declared.op.Cell.{Cell}
use Rattle.op_graph.specs.declared.op.Op.{Op}
use Rattle.op_graph.specs.Lists.{Lists, cells}
use Rattle.weight_audit.specs.Paths.{Step, Reached}
use Rattle.weight_audit.specs.Weights.{factor, by_readers, weights_from, at_out, across, sums}
use Rattle.weight_audit.proofs.Along.{cond_no}
use Rattle.weight_audit.proofs.Deciding.{ReadsSo, reads}
use Rattle.weight_audit.proofs.FirstSteps.{factor-none, first_steps, length-weights_from}
use Rattle.weight_audit.proofs.Places.{Earlier, reads_before}

none_more : (a b : ℤ) → a ≡ pos 0 → b ≡ pos 0 → a +ℤ b ≡ pos 0
none_more a b e h = omega (arith, ints)

by_readers_none : (k : ℕ) (ops : List Op) (ws : List ℤ) → ((q : ℕ) (op : Op) → slice_get ops q ≡ Some op → factor op k *ℤ at ws q ≡ pos 0)
    → by_readers k ops ws ≡ pos 0
by_readers_none k [] ws none = refl
by_readers_none k (op ∷ ops) [] none = refl
by_readers_none k (op ∷ ops) (w ∷ ws) none =
    none_more (factor op k *ℤ w) (by_readers k ops ws) (none 0 op refl) (by_readers_none k ops ws (λ q o there. none (suc q) o there))

across_none : (cs : List Cell) (ws : List ℤ) (k : ℕ) → ((i : ℕ) (c : Cell) → slice_get cs i ≡ Some c → c.store ≡ k → at ws c.load ≡ pos 0)
    → across cs ws k ≡ pos 0
across_none [] ws k none = refl
across_none (c ∷ cs) ws k none =
    none_more (cond (k == c.store) (at ws c.load) (pos 0)) (across cs ws k)
    (⊎_elim
    (λ (h : ((k == c.store) ≡ true) × (k ≡ c.store)). ap (λ b. cond b (at ws c.load) (pos 0)) h.0 ∙ none 0 c refl (sym h.1))
    (λ (h : ((k == c.store) ≡ false) × (k ≢ c.store)). ap (λ b. cond b (at ws c.load) (pos 0)) h.0)
    (eqb_tells k c.store))
    (across_none cs ws k (λ i d there. none (suc i) d there))

-- behind the end of a list
at_end : (xs : List ℤ) (k : ℕ) → length xs ≤ k → at xs k ≡ pos 0
at_end [] zero le = refl
at_end [] (suc k) le = refl
at_end (x ∷ xs) zero le = absurd (omega (arith, le))
at_end (x ∷ xs) (suc k) le = at_end xs k (omega (arith, le))

module _ (g : Lists) (out : ℕ) (earlier : Earlier g) where
  -- none leaves from an operation that isn't reached
  abbrev LeavesNone : (ℕ → ℤ) → ℕ → Type 0
  LeavesNone leaving b = (k : ℕ) → (Reached g out b k → ⊥) → leaving k ≡ pos 0

  inside : (leaving : ℕ → ℤ) (b : ℕ) → LeavesNone leaving b → (k : ℕ) → k < length g.operations
      → ((q : ℕ) → k < q → (Reached g out b q → ⊥) → at (weights_from leaving 0 g.operations) q ≡ pos 0)
      → (Reached g out b k → ⊥) → at (weights_from leaving 0 g.operations) k ≡ pos 0
  inside leaving b leaves k lt later isnt =
      let ws = weights_from leaving 0 g.operations in
      first_steps leaving 0 g.operations k k (reads_before g earlier) lt (omega arith)
      ∙ none_more (leaving k) (by_readers k g.operations ws) (leaves k isnt)
      (by_readers_none k g.operations ws (λ q op there. ⊎_elim
      (λ (r : ReadsSo g.operations q k). ap (λ z. factor op k *ℤ z)
      (later q (earlier q k r.0 r.1) (λ path. isnt (Step.Read q r.0 ∷ path.0, (r.1, path.1)))) ∙ *ℤ-zero (factor op k))
      (λ (none : ReadsSo g.operations q k → ⊥). ap (λ z. z *ℤ at ws q)
      (factor-none op k (λ j takes names. none (j, record { op = op; there = there; operand = takes; names = names }))) ∙ zero-*ℤ (at ws q))
      (reads g.operations q k (slice_get g.operations q) refl)))

  -- from the last operation to the first
  weightless : (leaving : ℕ → ℤ) (b : ℕ) → LeavesNone leaving b → (m k : ℕ) → length g.operations ≤ m + k
      → (Reached g out b k → ⊥) → at (weights_from leaving 0 g.operations) k ≡ pos 0
  weightless leaving b leaves zero k le isnt =
      at_end (weights_from leaving 0 g.operations) k (let many = length-weights_from leaving 0 g.operations in omega (arith, many, le))
  weightless leaving b leaves (suc m) k le isnt = ⊎_elim
      (λ (h : (nat_le (suc k) (length g.operations) ≡ true) × (suc k ≤ length g.operations)).
      inside leaving b leaves k (let lt = h.1 in omega (arith, lt))
      (λ q behind none. weightless leaving b leaves m q (omega (arith, le, behind)) none) isnt)
      (λ (h : (nat_le (suc k) (length g.operations) ≡ false) × (length g.operations < suc k)).
      at_end (weights_from leaving 0 g.operations) k
      (let many = length-weights_from leaving 0 g.operations in let past = h.1 in omega (arith, many, past)))
      (leb_tells (suc k) (length g.operations))

  out_leaves : LeavesNone (at_out out) 0
  out_leaves k isnt = cond_no k out (pos 1) (λ e. isnt ([], (e, refl)))

  pub unreached : (borders k : ℕ) → (Reached g out borders k → ⊥) → at (sums g out borders) k ≡ pos 0
  unreached zero k isnt = weightless (at_out out) 0 out_leaves (length g.operations) k (omega arith) isnt
  unreached (suc b) k isnt =
      weightless (across (cells g) (sums g out b)) (suc b)
      (λ n none. across_none (cells g) (sums g out b) n (λ i c there store. unreached b c.load (λ path.
      none (Step.Cross c.load ∷ path.0, (record { number = i; cell = c; there = there; store = store; load = refl }, path.1)))))
      (length g.operations) k (omega arith) isnt
