-- Existing: each graph has an audit up to each horizon.
use Rattle.std.proofs.Common.{◌≡◌, ⊎_elim, inl, inr, ℕ, zero, suc, ◌+◌, ◌<◌, ◌≤◌, nat_le, Bool, true, false, List, [], ◌∷◌, length, map, slice_get, slice_index_or, Some, ap, sym, ◌∙◌, subst, refl, arith}
use Rattle.std.proofs.lemmas.Bool.Decides.{leb_tells}
use Rattle.std.proofs.lemmas.List.{length-map}
use Rattle.std.proofs.lemmas.Option.{slice_get_within}
use Rattle.op_graph.specs.declared.op.Cell.{Cell}
use Rattle.op_graph.specs.declared.op.Outlet.{Outlet}
use Rattle.op_graph.specs.Lists.{Lists, cells}
use Rattle.weight_audit.specs.Audit.{Distance, Audit, IsAudit}
use Rattle.weight_audit.specs.Paths.{Step, Leads}
use Rattle.weight_audit.specs.Sweeping.{AreWeights, AreMarks, IsDistance, AreDistances}
use Rattle.weight_audit.specs.Weights.{weight}
use Rattle.weight_audit.proofs.Auditing.{AreAll, kept, is_audit}
use Rattle.weight_audit.proofs.Deciding.{Decided, reached}
use Rattle.weight_audit.proofs.Places.{Earlier}

-- ---- lists

-- the first n of these
abbrev pub listed : {X : Type 0} → ℕ → (ℕ → X) → List X
listed zero f = []
listed (suc n) f = f 0 ∷ listed n (λ k. f (suc k))

length-listed : {X : Type 0} (n : ℕ) (f : ℕ → X) → length (listed n f) ≡ n
length-listed zero f = refl
length-listed (suc n) f = ap suc (length-listed n (λ k. f (suc k)))

at-listed : {X : Type 0} (n : ℕ) (f : ℕ → X) (d : X) (k : ℕ) → k < n → slice_index_or (listed n f) k d ≡ f k
at-listed zero f d k lt = absurd (omega (arith, lt))
at-listed (suc n) f d zero lt = refl
at-listed (suc n) f d (suc k) lt = at-listed n (λ i. f (suc i)) d k (omega (arith, lt))

past-listed : {X : Type 0} (n : ℕ) (f : ℕ → X) (d : X) (k : ℕ) → n ≤ k → slice_index_or (listed n f) k d ≡ d
past-listed zero f d k le = refl
past-listed (suc n) f d zero le = absurd (omega (arith, le))
past-listed (suc n) f d (suc k) le = past-listed n (λ i. f (suc i)) d k (omega (arith, le))

got-listed : {X : Type 0} (n : ℕ) (f : ℕ → X) (k : ℕ) (x : X) → slice_get (listed n f) k ≡ Some x → f k ≡ x
got-listed zero f k x e = absurd cc
got-listed (suc n) f zero x e = cc
got-listed (suc n) f (suc k) x e = got-listed n (λ i. f (suc i)) k x e

got-map : {X Y : Type 0} (f : X → Y) (xs : List X) (i : ℕ) (x : X) (y : Y) → slice_get (map f xs) i ≡ Some y → slice_get xs i ≡ Some x → f x ≡ y
got-map f [] i x y e here = absurd cc
got-map f (z ∷ xs) zero x y e here = let same : z ≡ x = cc in ap f (sym same) ∙ (let got : f z ≡ y = cc in got)
got-map f (z ∷ xs) (suc i) x y e here = got-map f xs i x y e here

-- ---- marks

abbrev pub marked : {P : Type 0} → Decided P → Bool
marked (inl p) = true
marked (inr isnt) = false

holds : {P : Type 0} (d : Decided P) → marked d ≡ true → P
holds (inl p) e = p
holds (inr isnt) e = absurd cc

is_marked : {P : Type 0} (d : Decided P) → P → marked d ≡ true
is_marked (inl p) q = refl
is_marked (inr isnt) q = absurd (isnt q)

module _ (g : Lists) (earlier : Earlier g) (stores : (i : ℕ) (c : Cell) → slice_get (cells g) i ≡ Some c → c.store < length g.operations) where
  -- what leads to an operation is one
  inside : (out b k : ℕ) (steps : List Step) → out < length g.operations → Leads g out b k steps → k < length g.operations
  inside out b k [] lt leads = subst (λ n. n < length g.operations) (sym leads.0) lt
  inside out b k (Step.Read q j ∷ steps) lt leads =
      let before = earlier q k j leads.0 in
      let there = slice_get_within g.operations q leads.0.op leads.0.there in
      omega (arith, before, there)
  inside out zero k (Step.Cross l ∷ steps) lt leads = absurd leads
  inside out (suc b) k (Step.Cross l ∷ steps) lt leads =
      subst (λ n. n < length g.operations) leads.0.store (stores leads.0.number leads.0.cell leads.0.there)

  abbrev test : ℕ → ℕ → ℕ → Bool
  test out b k = marked (reached g out earlier b k)

  module _ (out : ℕ) (lt : out < length g.operations) where
    marks : (b : ℕ) → AreMarks g out b (listed (length g.operations) (test out b))
    marks b = record {
      many = length-listed (length g.operations) (test out b);
      sound = λ k e. ⊎_elim
          (λ (h : (nat_le (length g.operations) k ≡ true) × (length g.operations ≤ k)).
          let none = past-listed (length g.operations) (test out b) false k h.1 in absurd (let apart : false ≡ true = sym none ∙ e in cc))
          (λ (h : (nat_le (length g.operations) k ≡ false) × (k < length g.operations)).
          holds (reached g out earlier b k) (sym (at-listed (length g.operations) (test out b) false k h.1) ∙ e))
          (leb_tells (length g.operations) k);
      complete = λ k path.
          at-listed (length g.operations) (test out b) false k (inside out b k path.0 lt path.1) ∙ is_marked (reached g out earlier b k) path;
    }

    weights : (b : ℕ) → AreWeights g out b (listed (length g.operations) (weight g out b))
    weights b = record {
      many = length-listed (length g.operations) (weight g out b);
      each = λ k le. at-listed (length g.operations) (weight g out b) 0 k le;
    }

  abbrev distance_of : ℕ → ℕ → Distance
  distance_of out b = record {
    weights = listed (length g.operations) (weight g out b);
    reached = listed (length g.operations) (test out b);
  }

  distances : (horizon out : ℕ) → out < length g.operations → AreDistances g out horizon (listed (horizon + 1) (distance_of out))
  distances horizon out lt = record {
    many = length-listed (horizon + 1) (distance_of out);
    each = λ b d e. subst (λ x. IsDistance g out b x) (got-listed (horizon + 1) (distance_of out) b d e)
        (record { weights = weights out lt b; reached = marks out lt b });
  }

  abbrev outputs_of : ℕ → List (List Distance)
  outputs_of horizon = map (λ (o : Outlet). listed (horizon + 1) (distance_of o.op)) g.outputs

  pub existing : (horizon : ℕ) → ((i : ℕ) (o : Outlet) → slice_get g.outputs i ≡ Some o → o.op < length g.operations) → (a : Audit) × IsAudit g horizon a
  existing horizon outlets =
      let all : AreAll g horizon (outputs_of horizon) = λ i ds o e here.
      subst (λ x. AreDistances g o.op horizon x)
      (got-map (λ (p : Outlet). listed (horizon + 1) (distance_of p.op)) g.outputs i o ds e here) (distances horizon o.op (outlets i o here)) in
      let many : length (outputs_of horizon) ≡ length g.outputs = length-map g.outputs (λ (o : Outlet). listed (horizon + 1) (distance_of o.op)) in
      (kept g horizon (outputs_of horizon), is_audit g horizon (outputs_of horizon) many all)
