-- Closer: ranges of operations that are made of two lists of them, place by place.
use Rattle.std.proofs.Common.{◌≡◌, ℕ, ◌<◌, ◌≤◌, ℤ, pos, ◌≤ℤ◌, Bool, true, false, inl, inr, List, length, take, slice_get, Some, Ok, sym, subst, length-take-le, get_or-take, take-take, arith}
use Rattle.vcp_base.specs.Values.{at}
use Rattle.std.proofs.lemmas.Int.{ints}
use Rattle.vcp_base.specs.declared.ty.Ty.{Ty}
use Rattle.op_graph.specs.declared.op.Op.{Op}
use Rattle.range_walk.specs.declared.range.Range.{Range}
use Rattle.range_walk.specs.Intervals.{IsIn, LiesIn, Fit}
use Rattle.range_walk.specs.Known.{LieInTypes}
use Rattle.op_graph.specs.GraphRun.{outcome_of}
use Rattle.range_walk.specs.Walking.{Given, Parts}
use Rattle.range_audit.specs.Searching.{IsCloser}
use Rattle.range_audit.proofs.Steps.{AllAt}

-- what r is made of, that stands at place k
abbrev pub CloserAt : Bool → List Range → List Range → ℕ → Range → Type 0
CloserAt both a b k r = (x : Range) × (y : Range) × (slice_get a k ≡ Some x) × (slice_get b k ≡ Some y) × IsCloser both x y r

parts_map : {P Q R S : Type 0} (b : Bool) → (P → R) → (Q → S) → Parts b P Q → Parts b R S
parts_map true f g (p, q) = (f p, g q)
parts_map false f g (inl p) = inl (f p)
parts_map false f g (inr q) = inr (g q)

between : (t : Ty) (x r : Range) → LiesIn t x → x.low ≤ℤ r.low → r.high ≤ℤ x.high → LiesIn t r
between t x r lies low high = record { low = grind (arith, ints, lies.low, low); high = grind (arith, ints, lies.high, high) }

module _ (both : Bool) (a b known : List Range) (count : ℕ) (all : AllAt (CloserAt both a b) known count) where
  pub closer_fits : (vs : List ℤ) → Parts both (Fit a vs) (Fit b vs) → Fit known vs
  closer_fits vs p k r lt there =
      let of = all.each k r there in
      of.4.holds _ (parts_map both (λ fit. fit k of.0 lt of.2) (λ fit. fit k of.1 lt of.3) p)

  pub closer_lies : both ≡ true → (ops : List Op) → LieInTypes ops a → LieInTypes ops known
  closer_lies is_both ops lie i op r here there =
      let of = all.each i r there in
      between op.ty of.0 r (lie i op of.0 here of.2) (of.4.low is_both) (of.4.high is_both)

-- ---- the first values of a cycle

pub fit_first : (known : List Range) (vs : List ℤ) (i : ℕ) → i ≤ length vs → Fit known vs → Fit known (take i vs)
fit_first known vs i le fit = λ k r below there.
    let count : length (take i vs) ≡ i = length-take-le i vs le in
    let first : k < i = omega arith in
    subst (λ v. IsIn r v) (sym (get_or-take i vs k (pos 0) first)) (fit k r (omega arith) there)

pub given_first : (ops : List Op) (held row vs : List ℤ) (i : ℕ) → i ≤ length vs → Given ops held row vs → Given ops held row (take i vs)
given_first ops held row vs i le given =
    let few = given.few in
    let count : length (take i vs) ≡ i = length-take-le i vs le in
    record {
      few = omega arith;
      each = λ j op below there.
          let first : j < i = omega arith in
          subst (λ ws. outcome_of held row ws op ≡ Ok (at (take i vs) j)) (sym (take-take j i vs (omega arith)))
          (subst (λ w. outcome_of held row (take j vs) op ≡ Ok w) (sym (get_or-take i vs j (pos 0) first)) (given.each j op (omega arith) there));
    }
