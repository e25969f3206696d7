-- NoneNamed: where no operation is named, none stops.
use Rattle.std.proofs.Common.{◌≡◌, ℕ, zero, suc, ◌+◌, ◌<◌, inl, inr, Bool, true, false, ◌||◌, cond, ℤ, List, [], ◌∷◌, length, slice_get, Option, Some, None, IfSome, refl, sym, ◌∙◌, arith, below_more}
use Rattle.std.proofs.lemmas.Bool.{false≢true}
use Rattle.std.proofs.lemmas.Option.{slice_get_cases}
use Rattle.vcp_base.specs.declared.kind.StopKind.{StopKind}
use Rattle.vcp_base.specs.declared.kind.StopKind.TheVariants as stop
use Rattle.op_graph.specs.Lists.{Lists}
use Rattle.op_graph.specs.GraphRun.{Stop, graph_run}
use Rattle.range_walk.specs.declared.range.Range.{Range}
use Rattle.range_walk.specs.declared.range.Stops.{Stops}
use Rattle.range_walk.specs.Intervals.{RowIn}
use Rattle.range_audit.specs.Audit.{IsRangeAudit, named_below, NeverStops, RowsIn, IsAuditWithin, NeverStopsWithin}
use Rattle.range_walk.specs.Known.{KnownRanges, is_named, is_any_named}

-- one more where it holds is none only where it doesn't hold
not_counted : (b : Bool) (n : ℕ) → n + cond b 1 0 ≡ 0 → (n ≡ 0) × (b ≡ false)
not_counted true n e = absurd (omega (arith, e))
not_counted false n e = (omega (arith, e), refl)

-- where none is counted, none is named
none_counted : (stops : List Stops) (n k : ℕ) → named_below stops n ≡ 0 → k < n → is_any_named (slice_get stops k) ≡ false
none_counted stops zero k e lt = absurd (omega (arith, lt))
none_counted stops (suc n) k e lt =
    let parts = not_counted (is_any_named (slice_get stops n)) (named_below stops n) e in
    below_more (λ j. is_any_named (slice_get stops j) ≡ false) n (λ j before. none_counted stops n j parts.0 before) parts.1 k (omega (arith, lt))

right_holds : (x y : Bool) → y ≡ true → (x || y) ≡ true
right_holds true y e = refl
right_holds false y e = e

-- what is named so is named
any_named : (why : StopKind) (s : Stops) → is_named why (Some s) ≡ true → is_any_named (Some s) ≡ true
any_named stop.Range s e = rw e refl
any_named stop.DivZero s e = right_holds s.range s.div_zero e
any_named stop.Operand s e = absurd cc

-- where none is counted, an end that is named is none
no_end : (g : Lists) (stops : List Stops) → length stops ≡ length g.operations → named_below stops (length g.operations) ≡ 0 → (end : Option Stop)
    → IfSome end (λ e. is_named e.kind (slice_get stops e.op) ≡ true) → end ≡ None
no_end g stops many none None named = refl
no_end g stops many none (Some e) named = elim (slice_get_cases stops e.op).1 [
  | inl there ↦
      let not = none_counted stops (length g.operations) e.op none (omega (arith, there.1, many)) in
      absurd (false≢true (sym (rw there.2 at not) ∙ any_named e.kind there.0 (rw there.2 at named)))
  | inr past ↦ absurd (false≢true (rw past.1 at named))
]

pub never : (g : Lists) (a : KnownRanges) → IsRangeAudit g a → named_below a.stops (length g.operations) ≡ 0 → NeverStops g
never g a is none rows fit = no_end g a.stops is.stops none (graph_run g rows).end (is.ends rows fit)

pub never_within : (g : Lists) (inputs : List Range) (a : KnownRanges) → IsAuditWithin g inputs a → named_below a.stops (length g.operations) ≡ 0
    → NeverStopsWithin g inputs
never_within g inputs a is none rows rows_in fit = no_end g a.stops is.stops none (graph_run g rows).end (is.ends rows rows_in fit)

-- ---- no ranges

pub row_in_none : (row : List ℤ) → RowIn [] row
row_in_none row k r there = absurd cc

pub rows_in_none : (rows : List (List ℤ)) → RowsIn [] rows
rows_in_none rows n row there = row_in_none row

-- what is told where no range is assumed holds of all rows
pub of_all_rows : (g : Lists) (inputs : List Range) (a : KnownRanges) → inputs ≡ [] → IsAuditWithin g inputs a → IsRangeAudit g a
of_all_rows g [] a none is = record {
  known = is.known;
  stops = is.stops;
  holds = λ rows row. is.holds rows row (rows_in_none rows) (row_in_none row);
  names = λ rows row why fits ends. is.names rows row why (rows_in_none rows) (row_in_none row) fits ends;
  ends = λ rows fits. is.ends rows (rows_in_none rows) fits;
  able = is.able;
  types = is.types;
}
of_all_rows g (r ∷ inputs) a none is = absurd cc
