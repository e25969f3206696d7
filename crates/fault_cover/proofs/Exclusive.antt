-- Exclusive: one thing is told of a fault.
use Rattle.std.proofs.Common.{◌≡◌, ⊎_elim, inl, inr, ℕ, ◌<◌, Bool, true, false, List, slice_get, Option, Some, None, ap, ap₂, sym, subst, ◌∙◌, refl, arith}
use Rattle.std.proofs.lemmas.Bool.{cases_lt}
use Rattle.op_graph.specs.declared.op.Op.{Op}
use Rattle.fault_cover.specs.declared.disturbance.Disturbance.{Disturbance}
use Rattle.fault_cover.specs.declared.effect.Effect.{Effect}
use Rattle.fault_cover.specs.declared.effect.Effect.TheVariants as told
use Rattle.fault_cover.specs.Sources.{Source, is_any, sources}
use Rattle.fault_cover.specs.Telling.{Beyond, FirstReached, RefusedWhenReached, Nowhere, ReachesOutput, ReachesStop, RefusedAt, RunsOn, Shows, Subject}
use Rattle.fault_cover.specs.Telling.{Tells, TellsAt}
use Rattle.fault_cover.specs.Telling.{TellsOf, UnlessSame, does_the_same}

-- two numbers neither of which is less are one
neither_less : (a b : ℕ) → (a < b → ⊥) → (b < a → ⊥) → a ≡ b
neither_less a b first second = elim (cases_lt a b) [
  | inl lt ↦ absurd (first lt)
  | inr le ↦ elim (cases_lt b a) [
    | inl lt ↦ absurd (second lt)
    | inr back ↦ omega (arith, le, back)
  ]
]

module _ (s : Subject) (any : Bool) (from : List Source) where
  of_refused : (b : ℕ) → RefusedWhenReached s any from b → FirstReached s from b × ((i : ℕ) × ReachesOutput s.graph from b i)
  of_refused b is = (is.first, (is.output, record { output = is.refused.output; there = is.refused.there; reaches = is.refused.reaches }))

  of_shows : (b i : ℕ) → Shows s any from b i → FirstReached s from b × ((j : ℕ) × ReachesOutput s.graph from b j)
  of_shows b i is = (is.first, (i, is.reached))

  one_first : (a b : ℕ) → FirstReached s from a × ((i : ℕ) × ReachesOutput s.graph from a i)
      → FirstReached s from b × ((i : ℕ) × ReachesOutput s.graph from b i) → a ≡ b
  one_first a b one other =
      neither_less a b (λ lt. other.0.outputs a one.1.0 lt one.1.1) (λ lt. one.0.outputs b other.1.0 lt other.1.1)

  first_not_nowhere : (a : ℕ) → FirstReached s from a × ((i : ℕ) × ReachesOutput s.graph from a i) → Nowhere s from → ⊥
  first_not_nowhere a one nowhere = nowhere.outputs a one.1.0 one.1.1

  first_not_run : (a b q : ℕ) → FirstReached s from a × ((i : ℕ) × ReachesOutput s.graph from a i) → RunsOn s from b q → ⊥
  first_not_run a b q one run = elim (cases_lt b a) [
    | inl lt ↦ one.0.stops b q lt run.reached
    | inr le ↦ run.outputs a one.1.0 (let low = le in omega (arith, low)) one.1.1
  ]

  first_not_beyond : (a : ℕ) → FirstReached s from a × ((i : ℕ) × ReachesOutput s.graph from a i) → Beyond s from → ⊥
  first_not_beyond a one beyond = beyond.outputs a one.1.0 one.0.within one.1.1

  refused_not_shown : (a b i : ℕ) → RefusedWhenReached s any from a → Shows s any from b i → ⊥
  refused_not_shown a b i is shows =
      let same = one_first a b (of_refused a is) (of_shows b i shows) in
      shows.none is.output (subst (λ m. RefusedAt s any from m is.output) same is.refused)

  shown_once : (a b i j : ℕ) → Shows s any from a i → Shows s any from b j → (a ≡ b) × (i ≡ j)
  shown_once a b i j one other =
      let same = one_first a b (of_shows a i one) (of_shows b j other) in (
        same,
        neither_less i j (λ lt. other.lowest i lt (subst (λ m. ReachesOutput s.graph from m i) same one.reached))
            (λ lt. one.lowest j lt (subst (λ m. ReachesOutput s.graph from m j) (sym same) other.reached)),
      )

  run_once : (a b p q : ℕ) → RunsOn s from a p → RunsOn s from b q → (a ≡ b) × (p ≡ q)
  run_once a b p q one other =
      let same = neither_less a b (λ lt. other.stops a p lt one.reached) (λ lt. one.stops b q lt other.reached) in (
        same,
        neither_less p q (λ lt. other.lowest p lt (subst (λ m. ReachesStop s from m p) same one.reached))
            (λ lt. one.lowest q lt (subst (λ m. ReachesStop s from m q) (sym same) other.reached)),
      )

  nowhere_not_beyond : Nowhere s from → Beyond s from → ⊥
  nowhere_not_beyond nowhere beyond = ⊎_elim
      (λ (o : (m : ℕ) × (i : ℕ) × ReachesOutput s.graph from m i). nowhere.outputs o.0 o.1 o.2)
      (λ (q : (m : ℕ) × (q : ℕ) × ReachesStop s from m q). nowhere.stops q.0 q.1 q.2)
      beyond.somewhere

  run_not_beyond : (b q : ℕ) → RunsOn s from b q → Beyond s from → ⊥
  run_not_beyond b q run beyond = beyond.stops b q run.within run.reached

  pub one_told : (a b : Effect) → TellsOf s any from a → TellsOf s any from b → a ≡ b
  one_told (told.Refused a) (told.Refused b) one other = ap told.Refused (one_first a b (of_refused a one) (of_refused b other))
  one_told (told.Refused a) told.Nothing one other = absurd (first_not_nowhere a (of_refused a one) other)
  one_told (told.Refused a) (told.Shows b i) one other = absurd (refused_not_shown a b i one other)
  one_told (told.Refused a) (told.RunsOn b q) one other = absurd (first_not_run a b q (of_refused a one) other)
  one_told (told.Refused a) told.Beyond one other = absurd (first_not_beyond a (of_refused a one) other)
  one_told told.Nothing (told.Refused b) one other = absurd (first_not_nowhere b (of_refused b other) one)
  one_told told.Nothing told.Nothing one other = refl
  one_told told.Nothing (told.Shows b i) one other = absurd (first_not_nowhere b (of_shows b i other) one)
  one_told told.Nothing (told.RunsOn b q) one other = absurd (one.stops b q other.reached)
  one_told told.Nothing told.Beyond one other = absurd (nowhere_not_beyond one other)
  one_told (told.Shows a i) (told.Refused b) one other = absurd (refused_not_shown b a i other one)
  one_told (told.Shows a i) told.Nothing one other = absurd (first_not_nowhere a (of_shows a i one) other)
  one_told (told.Shows a i) (told.Shows b j) one other = let same = shown_once a b i j one other in ap₂ told.Shows same.0 same.1
  one_told (told.Shows a i) (told.RunsOn b q) one other = absurd (first_not_run a b q (of_shows a i one) other)
  one_told (told.Shows a i) told.Beyond one other = absurd (first_not_beyond a (of_shows a i one) other)
  one_told (told.RunsOn a p) (told.Refused b) one other = absurd (first_not_run b a p (of_refused b other) one)
  one_told (told.RunsOn a p) told.Nothing one other = absurd (other.stops a p one.reached)
  one_told (told.RunsOn a p) (told.Shows b i) one other = absurd (first_not_run b a p (of_shows b i other) one)
  one_told (told.RunsOn a p) (told.RunsOn b q) one other = let same = run_once a b p q one other in ap₂ told.RunsOn same.0 same.1
  one_told (told.RunsOn a p) told.Beyond one other = absurd (run_not_beyond a p one other)
  one_told told.Beyond (told.Refused b) one other = absurd (first_not_beyond b (of_refused b other) one)
  one_told told.Beyond told.Nothing one other = absurd (nowhere_not_beyond other one)
  one_told told.Beyond (told.Shows b i) one other = absurd (first_not_beyond b (of_shows b i other) one)
  one_told told.Beyond (told.RunsOn b q) one other = absurd (run_not_beyond b q other one)
  one_told told.Beyond told.Beyond one other = refl

one_unless : (b : Bool) (s : Subject) (any : Bool) (from : List Source) (x y : Effect) → UnlessSame b x (TellsOf s any from x) → UnlessSame b y
    (TellsOf s any from y)
    → x ≡ y
one_unless true s any from x y one other = one ∙ sym other
one_unless false s any from x y one other = one_told s any from x y one other

one_at : (s : Subject) (k : ℕ) (d : Disturbance) (x y : Effect) (o : Option Op) → TellsAt s k d x o → TellsAt s k d y o → x ≡ y
one_at s k d x y None one other = absurd one
one_at s k d x y (Some op) one other = one_unless (does_the_same op.kind d) s (is_any d) (sources s.table s.graph k op d) x y one other

-- what is told of what is amiss at an operation is one thing
pub tells_one : (s : Subject) (k : ℕ) (d : Disturbance) (x y : Effect) → Tells s k d x → Tells s k d y → x ≡ y
tells_one s k d x y one other = one_at s k d x y (slice_get s.graph.operations k) one other
