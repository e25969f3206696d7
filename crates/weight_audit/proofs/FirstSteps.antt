-- FirstSteps: the weights of operations by the paths' first steps.
use Rattle.std.proofs.Common.{◌≡◌, ◌≢◌, ◌⊎◌, ⊎_elim, ℕ, zero, suc, ◌+◌, ◌<◌, ◌≤◌, Bool, true, false, cond, ◌==◌, ◌&&◌, ℤ, pos, ◌+ℤ◌, ◌*ℤ◌, List, [], ◌∷◌, length, slice_get, Some, ap, ap₂, sym, ◌∙◌, refl, arith}
use Rattle.std.specs.Option.{is_some}
use Rattle.std.proofs.Math.IntN.{zero-*ℤ}
use Rattle.std.proofs.lemmas.Int.{ints}
use Rattle.std.proofs.lemmas.Bool.Decides.{eqb_tells}
use Rattle.vcp_base.specs.Kinds.{multiplier}
use Rattle.vcp_base.specs.Values.{at}
use Rattle.op_graph.specs.declared.op.Op.{Op}
use Rattle.op_graph.specs.Reads.{named}
use Rattle.op_graph.specs.Rules.{reads_as}
use Rattle.weight_audit.specs.Weights.{share, factor, by_readers, weights_from}
use Rattle.weight_audit.proofs.Residues.{plus_times}

-- operation k isn't an operand
share-none : (op : Op) (k j : ℕ) → (is_some (reads_as op.kind op.from j) ≡ true → named op j ≡ k → ⊥) → share op k j ≡ pos 0
share-none op k j isnt = by_test (is_some (reads_as op.kind op.from j)) refl (eqb_tells k (named op j))
  where
    by_test : (b : Bool) → is_some (reads_as op.kind op.from j) ≡ b
        → ((k == named op j) ≡ true) × (k ≡ named op j) ⊎ ((k == named op j) ≡ false) × (k ≢ named op j) → share op k j ≡ pos 0
    by_test false e h = ap (λ b. cond (b && (k == named op j)) (multiplier op.kind j) (pos 0)) e
    by_test true e h = ⊎_elim
        (λ (w : ((k == named op j) ≡ true) × (k ≡ named op j)). absurd (isnt e (sym w.1)))
        (λ (w : ((k == named op j) ≡ false) × (k ≢ named op j)). ap₂ (λ b c. cond (b && c) (multiplier op.kind j) (pos 0)) e w.0)
        h

-- each operation reads those before it alone; they are counted from i
abbrev pub ReadsBefore : ℕ → List Op → Type 0
ReadsBefore i ops = (q k : ℕ) (op : Op) → slice_get ops q ≡ Some op → i + q ≤ k → factor op k ≡ pos 0

pub factor-none : (op : Op) (k : ℕ) → ((j : ℕ) → is_some (reads_as op.kind op.from j) ≡ true → named op j ≡ k → ⊥) → factor op k ≡ pos 0
factor-none op k isnt = ap₂ (λ x y. x +ℤ y) (ap₂ (λ x y. x +ℤ y) (share-none op k 0 (isnt 0)) (share-none op k 1 (isnt 1))) (share-none op k 2 (isnt 2))

later : (i : ℕ) (op : Op) (ops : List Op) → ReadsBefore i (op ∷ ops) → ReadsBefore (suc i) ops
later i op ops h q k o there le = h (suc q) k o there (omega (arith, le))

none_times : (f w b : ℤ) → f ≡ pos 0 → b ≡ f *ℤ w +ℤ b
none_times f w b e =
    let z : f *ℤ w ≡ pos 0 = ap (λ g. g *ℤ w) e ∙ zero-*ℤ w in
    omega (arith, ints)

-- the weight of each operation is what the paths bring that end at it or leave it, and the weights of its readers
pub first_steps : (leaving : ℕ → ℤ) (i : ℕ) (ops : List Op) (m k : ℕ) → ReadsBefore i ops → m < length ops → k ≡ i + m
    → at (weights_from leaving i ops) m ≡ leaving k +ℤ by_readers k ops (weights_from leaving i ops)
first_steps leaving i [] m k before lt is = absurd (omega (arith, lt))
first_steps leaving i (op ∷ ops) zero k before lt is =
    let same : i ≡ k = omega (arith, is) in
    let rest = weights_from leaving (suc i) ops in
    ap (λ n. leaving n +ℤ by_readers n ops rest) same
    ∙ ap (λ b. leaving k +ℤ b) (none_times (factor op k) (leaving i +ℤ by_readers i ops rest) (by_readers k ops rest) (before 0 k op refl (omega (arith, is))))
first_steps leaving i (op ∷ ops) (suc m) k before lt is =
    let rest = weights_from leaving (suc i) ops in
    first_steps leaving (suc i) ops m k (later i op ops before) (omega (arith, lt)) (omega (arith, is))
    ∙ ap (λ b. leaving k +ℤ b) (none_times (factor op k) (leaving i +ℤ by_readers i ops rest) (by_readers k ops rest) (before 0 k op refl (omega (arith, is))))

pub length-weights_from : (leaving : ℕ → ℤ) (i : ℕ) (ops : List Op) → length (weights_from leaving i ops) ≡ length ops
length-weights_from leaving i [] = refl
length-weights_from leaving i (op ∷ ops) = ap suc (length-weights_from leaving (suc i) ops)

three : (f a b c w : ℤ) → f +ℤ a *ℤ w +ℤ b *ℤ w +ℤ c *ℤ w ≡ f +ℤ (a +ℤ b +ℤ c) *ℤ w
three f a b c w =
    let e : (a +ℤ b +ℤ c) *ℤ w ≡ (a +ℤ b) *ℤ w +ℤ c *ℤ w = plus_times (a +ℤ b) c w in
    let h : (a +ℤ b) *ℤ w ≡ a *ℤ w +ℤ b *ℤ w = plus_times a b w in
    omega (arith, ints)

-- by operands, and at once
pub by_operands : (f : ℤ) (op : Op) (k : ℕ) (w : ℤ) → f +ℤ share op k 0 *ℤ w +ℤ share op k 1 *ℤ w +ℤ share op k 2 *ℤ w ≡ f +ℤ factor op k *ℤ w
by_operands f op k w = three f (share op k 0) (share op k 1) (share op k 2) w

-- what an operand takes, where it reads an operation, and where it reads none
pub share-read : (op : Op) (j n k : ℕ) (m w : ℤ) → is_some (reads_as op.kind op.from j) ≡ true → named op j ≡ n → m ≡ multiplier op.kind j
    → cond (k == n) (m *ℤ w) (pos 0) ≡ share op k j *ℤ w
share-read op j n k m w reads names is =
    by_test (k == n) ∙ ap (λ b. cond (b && (k == n)) (multiplier op.kind j) (pos 0) *ℤ w) (sym reads)
    ∙ ap (λ i. cond (is_some (reads_as op.kind op.from j) && (k == i)) (multiplier op.kind j) (pos 0) *ℤ w) (sym names)
  where
    by_test : (b : Bool) → cond b (m *ℤ w) (pos 0) ≡ cond (true && b) (multiplier op.kind j) (pos 0) *ℤ w
    by_test true = ap (λ f. f *ℤ w) is
    by_test false = sym (zero-*ℤ w)
