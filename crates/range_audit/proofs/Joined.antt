-- Joined: operations that are named by two lists, or by one of them.
use Rattle.std.proofs.Common.{◌≡◌, ℕ, ◌≤◌, inl, inr, Bool, true, false, cond, ◌&&◌, ◌||◌, List, length, slice_get, Some, refl, sym, ◌∙◌, arith}
use Rattle.std.proofs.lemmas.Bool.{false≢true, and_parts, and_from}
use Rattle.std.proofs.lemmas.Option.{slice_get_past, slice_get_cases}
use Rattle.vcp_base.specs.declared.kind.StopKind.{StopKind}
use Rattle.vcp_base.specs.declared.kind.StopKind.TheVariants as stop
use Rattle.range_walk.specs.declared.range.Stops.{Stops}
use Rattle.range_walk.specs.Known.{may_stop, is_named}
use Rattle.range_walk.specs.Walking.{Parts}
use Rattle.range_audit.specs.Searching.{IsJoined}
use Rattle.range_audit.proofs.Steps.{AllAt}

neither : (both : Bool) → Parts both (false ≡ true) (false ≡ true) → ⊥
neither true p = false≢true p.0
neither false (inl e) = false≢true e
neither false (inr e) = false≢true e

joined_holds : (both x y : Bool) → Parts both (x ≡ true) (y ≡ true) → cond both (x && y) (x || y) ≡ true
joined_holds true x y p = and_from x y p.0 p.1
joined_holds false true y p = refl
joined_holds false false y (inl e) = absurd (false≢true e)
joined_holds false false y (inr e) = e

joined_first : (both x y : Bool) → both ≡ true → cond both (x && y) (x || y) ≡ true → x ≡ true
joined_first true x y is e = (and_parts x y e).0
joined_first false x y is e = absurd cc

pub joined_stops_is : (both : Bool) (a b r : Stops) → r.range ≡ cond both (a.range && b.range) (a.range || b.range)
    → r.div_zero ≡ cond both (a.div_zero && b.div_zero) (a.div_zero || b.div_zero) → IsJoined both a b r
joined_stops_is both a b r range zero = record { holds = holds; first = first }
  where
    holds : (why : StopKind) → Parts both (may_stop why a ≡ true) (may_stop why b ≡ true) → may_stop why r ≡ true
    holds stop.Range p = range ∙ joined_holds both a.range b.range p
    holds stop.DivZero p = zero ∙ joined_holds both a.div_zero b.div_zero p
    holds stop.Operand p = absurd (neither both p)

    first : both ≡ true → (why : StopKind) → may_stop why r ≡ true → may_stop why a ≡ true
    first is stop.Range may = joined_first both a.range b.range is (sym range ∙ may)
    first is stop.DivZero may = joined_first both a.div_zero b.div_zero is (sym zero ∙ may)
    first is stop.Operand may = absurd cc

-- what s is made of, that stands at place k
abbrev pub JoinedAt : Bool → List Stops → List Stops → ℕ → Stops → Type 0
JoinedAt both a b k s = (x : Stops) × (y : Stops) × (slice_get a k ≡ Some x) × (slice_get b k ≡ Some y) × IsJoined both x y s

module _ (both : Bool) (a b rs : List Stops) (count : ℕ) (all : AllAt (JoinedAt both a b) rs count) where
  -- where both are asked for, what is named is named by the first
  pub all_first : both ≡ true → (why : StopKind) (i : ℕ) → is_named why (slice_get rs i) ≡ true → is_named why (slice_get a i) ≡ true
  all_first is why i named = elim (slice_get_cases rs i).1 [
    | inl there ↦ let of = all.each i there.0 there.2 in rw of.2 (of.4.first is why (rw there.2 at named))
    | inr past ↦ absurd (false≢true (rw past.1 at named))
  ]

  pub all_named : count ≡ length a → length b ≡ length a → (why : StopKind) (i : ℕ)
      → Parts both (is_named why (slice_get a i) ≡ true) (is_named why (slice_get b i) ≡ true) → is_named why (slice_get rs i) ≡ true
  all_named many same why i p = elim (slice_get_cases rs i).1 [
    | inl there ↦ let of = all.each i there.0 there.2 in rw there.2 (of.4.holds why (rw of.3 at (rw of.2 at p)))
    | inr past ↦
        let le : length a ≤ i = omega (arith, past.0, all.many, many) in
        absurd (neither both (rw (slice_get_past b i (omega (arith, le, same))) at (rw (slice_get_past a i le) at p)))
  ]
