-- Deciding: whether a path leads from an operation to an OUT is decided, border by border, and from the last operation to the first.
use Rattle.std.proofs.Common.{◌≡◌, ◌≢◌, ◌⊎◌, ⊎_elim, inl, inr, ℕ, zero, suc, ◌+◌, ◌<◌, ◌≤◌, ◌==◌, nat_lt, nat_le, Bool, true, false, cond, List, [], ◌∷◌, length, slice_get, Option, Some, None, ltb-true, sym, subst, refl, arith}
use Rattle.std.specs.Option.{is_some}
use Rattle.std.proofs.lemmas.Bool.Decides.{eqb_tells, leb_tells}
use Rattle.std.proofs.lemmas.Option.{slice_get_within}
use Rattle.vcp_base.specs.declared.kind.Kind.{Kind}
use Rattle.vcp_base.specs.declared.kind.Kind.TheVariants as kind
use Rattle.vcp_base.specs.declared.ty.Ty.{Ty}
use Rattle.vcp_base.specs.Kinds.{operands, operand_type}
use Rattle.op_graph.specs.declared.op.Cell.{Cell}
use Rattle.op_graph.specs.declared.op.Op.{Op}
use Rattle.op_graph.specs.Lists.{Lists, cells}
use Rattle.op_graph.specs.Reads.{named, Reads}
use Rattle.op_graph.specs.Rules.{reads_as}
use Rattle.weight_audit.specs.Paths.{Step, Leads, Reached}
use Rattle.weight_audit.specs.Sweeping.{Takes}
use Rattle.weight_audit.proofs.Places.{Earlier}

-- ---- what is decided

-- it holds, or it doesn't
abbrev pub Decided : Type 0 → Type 0
Decided P = P ⊎ (P → ⊥)

as_well : {P Q : Type 0} → (P → Q) → (Q → P) → Decided P → Decided Q
as_well to from (inl p) = inl (to p)
as_well to from (inr isnt) = inr (λ q. isnt (from q))

both : {P Q : Type 0} → Decided P → Decided Q → Decided (P × Q)
both (inl p) (inl q) = inl (p, q)
both (inl p) (inr isnt) = inr (λ h. isnt h.1)
both (inr isnt) q = inr (λ h. isnt h.0)

either : {P Q : Type 0} → Decided P → Decided Q → Decided (P ⊎ Q)
either (inl p) q = inl (inl p)
either (inr isnt) (inl q) = inl (inr q)
either (inr isnt) (inr none) = inr (λ h. ⊎_elim isnt none h)

is_true : (b : Bool) → Decided (b ≡ true)
is_true true = inl refl
is_true false = inr (λ e. absurd cc)

equal : (a b : ℕ) → Decided (a ≡ b)
equal a b = ⊎_elim (λ (h : ((a == b) ≡ true) × (a ≡ b)). inl h.1) (λ (h : ((a == b) ≡ false) × (a ≢ b)). inr h.1) (eqb_tells a b)

-- whether one of the first n numbers is such a one
some_below : (P : ℕ → Type 0) (n : ℕ) → ((i : ℕ) → i < n → Decided (P i)) → Decided ((i : ℕ) × (i < n) × P i)
some_below P zero each = inr (λ h. let lt = h.1 in absurd (omega (arith, lt)))
some_below P (suc n) each = by_last (each n (omega arith)) (some_below P n (λ i lt. each i (omega (arith, lt))))
  where
    by_last : Decided (P n) → Decided ((i : ℕ) × (i < n) × P i) → Decided ((i : ℕ) × (i < suc n) × P i)
    by_last (inl h) rest = inl (n, omega arith, h)
    by_last (inr isnt) (inl h) = inl (h.0, (let lt = h.1 in omega (arith, lt)), h.2)
    by_last (inr isnt) (inr none) = inr (λ h. ⊎_elim
        (λ (e : ((h.0 == n) ≡ true) × (h.0 ≡ n)). isnt (subst P e.1 h.2))
        (λ (e : ((h.0 == n) ≡ false) × (h.0 ≢ n)). none (h.0, (let lt = h.1 in let other = e.1 in omega (arith, lt, other)), h.2))
        (eqb_tells h.0 n))

-- ---- what an operation reads

some_then : (b : Bool) (t : Ty) → is_some (cond b (Some t) None) ≡ true → b ≡ true
some_then true t e = refl
some_then false t e = absurd cc

operand_below : (k : Kind) (from : Ty) (j : ℕ) → is_some (reads_as k from j) ≡ true → j < operands k
operand_below kind.Load from j e = absurd cc
operand_below k from j e = ltb-true j (operands k) (some_then (nat_lt j (operands k)) (operand_type k j from) e)

-- operand j of an operation reads operation k
abbrev pub TakesAs : Op → ℕ → ℕ → Type 0
TakesAs op k j = (is_some (reads_as op.kind op.from j) ≡ true) × (named op j ≡ k)

takes : (op : Op) (k : ℕ) → Decided (Takes op k)
takes op k = as_well
    (λ (h : (j : ℕ) × (j < operands op.kind) × TakesAs op k j). record { place = h.0; operand = h.2.0; names = h.2.1 })
    (λ (t : Takes op k). (t.place, operand_below op.kind op.from t.place t.operand, (t.operand, t.names)))
    (some_below (TakesAs op k) (operands op.kind) (λ j lt. both (is_true (is_some (reads_as op.kind op.from j))) (equal (named op j) k)))

-- operation q reads operation k
abbrev pub ReadsSo : List Op → ℕ → ℕ → Type 0
ReadsSo ops q k = (j : ℕ) × Reads ops q k j

pub reads : (ops : List Op) (q k : ℕ) (o : Option Op) → slice_get ops q ≡ o → Decided (ReadsSo ops q k)
reads ops q k None e = inr (λ h. let there = h.1.there in absurd cc)
reads ops q k (Some op) e = as_well
    (λ (t : Takes op k). (t.place, record { op = op; there = e; operand = t.operand; names = t.names }))
    (λ (h : ReadsSo ops q k).
    let there = h.1.there in
    let same : h.1.op ≡ op = cc in
    subst (λ (x : Op). Takes x k) same (record { place = h.0; operand = h.1.operand; names = h.1.names }))
    (takes op k)

-- ---- paths by their first steps

module _ (g : Lists) (out : ℕ) (earlier : Earlier g) where
  -- the path goes on to operation q, which reads operation k
  abbrev ReadBy : ℕ → ℕ → ℕ → Type 0
  ReadBy b k q = ReadsSo g.operations q k × Reached g out b q

  -- it goes on across a border, from the STORE of cell i
  abbrev CrossedAt : ℕ → ℕ → ℕ → Type 0
  CrossedAt b k i = (c : Cell) × (slice_get (cells g) i ≡ Some c) × (c.store ≡ k) × Reached g out b c.load

  abbrev Crossed : ℕ → ℕ → Type 0
  Crossed zero k = ⊥
  Crossed (suc b) k = (i : ℕ) × (i < length (cells g)) × CrossedAt b k i

  abbrev Begins : ℕ → ℕ → Type 0
  Begins b k = ((k ≡ out) × (b ≡ 0)) ⊎ (((q : ℕ) × (q < length g.operations) × ReadBy b k q) ⊎ Crossed b k)

  across : (b k : ℕ) → Crossed b k → Reached g out b k
  across zero k h = absurd h
  across (suc b) k (i, lt, (c, there, store, path)) =
      (Step.Cross c.load ∷ path.0, (record { number = i; cell = c; there = there; store = store; load = refl }, path.1))

  begun : (b k : ℕ) → Begins b k → Reached g out b k
  begun b k (inl here) = ([], here)
  begun b k (inr (inl (q, lt, ((j, read), path)))) = (Step.Read q j ∷ path.0, (read, path.1))
  begun b k (inr (inr crossed)) = across b k crossed

  begins : (b k : ℕ) (steps : List Step) → Leads g out b k steps → Begins b k
  begins b k [] leads = inl leads
  begins b k (Step.Read q j ∷ steps) leads =
      inr (inl (q, slice_get_within g.operations q leads.0.op leads.0.there, ((j, leads.0), (steps, leads.1))))
  begins zero k (Step.Cross l ∷ steps) leads = absurd leads
  begins (suc b) k (Step.Cross l ∷ steps) leads =
      let c = leads.0 in
      inr (inr (
        c.number,
        slice_get_within (cells g) c.number c.cell c.there,
        (c.cell, c.there, c.store, subst (λ n. Reached g out b n) (sym c.load) (steps, leads.1)),
      ))

  read_by : (b k q : ℕ) → (k < q → Decided (Reached g out b q)) → Decided (ReadBy b k q)
  read_by b k q later = ⊎_elim
      (λ (h : (nat_le (suc k) q ≡ true) × (suc k ≤ q)).
      both (reads g.operations q k (slice_get g.operations q) refl) (later (let lt = h.1 in omega (arith, lt))))
      (λ (h : (nat_le (suc k) q ≡ false) × (q < suc k)). inr (λ (r : ReadBy b k q).
      let before = earlier q k r.0.0 r.0.1 in
      let behind = h.1 in
      absurd (omega (arith, before, behind))))
      (leb_tells (suc k) q)

  first_step : (b k : ℕ) → Decided (Crossed b k) → ((q : ℕ) → k < q → q < length g.operations → Decided (Reached g out b q)) → Decided (Reached g out b k)
  first_step b k crossed later =
      as_well (begun b k) (λ (r : Reached g out b k). begins b k r.0 r.1)
      (either (both (equal k out) (equal b 0))
      (either (some_below (ReadBy b k) (length g.operations) (λ q lt. read_by b k q (λ behind. later q behind lt))) crossed))

  -- from the last operation to the first
  to_first : (b : ℕ) → ((k : ℕ) → Decided (Crossed b k)) → (m k : ℕ) → length g.operations ≤ m + k → Decided (Reached g out b k)
  to_first b crossed zero k le = first_step b k (crossed k) (λ q behind lt. absurd (omega (arith, le, behind, lt)))
  to_first b crossed (suc m) k le = first_step b k (crossed k) (λ q behind lt. to_first b crossed m q (omega (arith, le, behind)))

  crossed_at : (b k i : ℕ) (o : Option Cell) → slice_get (cells g) i ≡ o → ((l : ℕ) → Decided (Reached g out b l)) → Decided (CrossedAt b k i)
  crossed_at b k i None e later = inr (λ h. let there = h.1 in absurd cc)
  crossed_at b k i (Some c) e later = as_well
      (λ (h : (c.store ≡ k) × Reached g out b c.load). (c, e, h.0, h.1))
      (λ (h : CrossedAt b k i).
      let there = h.1 in
      let same : h.0 ≡ c = cc in
      subst (λ (x : Cell). (x.store ≡ k) × Reached g out b x.load) same (h.2, h.3))
      (both (equal c.store k) (later c.load))

  pub reached : (b k : ℕ) → Decided (Reached g out b k)
  reached zero k = to_first zero (λ n. inr (λ h. h)) (length g.operations) k (omega arith)
  reached (suc b) k = to_first (suc b)
      (λ n. some_below (CrossedAt b n) (length (cells g)) (λ i lt. crossed_at b n i (slice_get (cells g) i) refl (λ l. reached b l)))
      (length g.operations) k (omega arith)
