-- Ranged: what is told of the ranges of operations.
use Rattle.std.proofs.Common.{◌≡◌, ◌==◌, not, ℕ, zero, suc, refl, sym, subst, ap, arith, Bool, ℤ, List, [], length, false}
use Rattle.std.proofs.lemmas.Bool.Decides.{nat_tests}
use Rattle.op_graph.specs.Lists.{Lists}
use Rattle.range_walk.specs.declared.range.Range.{Range}
use Rattle.range_audit.specs.Audit.{RowsIn, IsAuditWithin, named_below, NeverStops, NeverStopsWithin}
use Rattle.range_walk.specs.Known.{KnownRanges}
use Rattle.range_audit.specs.RangeText.{ranges_text}
use Rattle.vcp_study_core.specs.Texts.{IsRanged, are_named}

-- one is named where their number isn't 0
isn't_zero : (n : ℕ) → (suc n == 0) ≡ false
isn't_zero n = grind (arith, nat_tests)

pub some_named : (n : ℕ) → not (n == 0) ≡ are_named n
some_named zero = refl
some_named (suc n) = ap not (isn't_zero n)

-- where none is found, no operation is named
none_named : (n : ℕ) (found : Bool) → found ≡ are_named n → found ≡ false → n ≡ 0
none_named zero found is none = refl
none_named (suc n) found is none = absurd cc

of_all : (g : Lists) (inputs : List Range) → ((rows : List (List ℤ)) → RowsIn [] rows) → NeverStopsWithin g inputs → inputs ≡ [] → NeverStops g
of_all g inputs within never none rows fit = never rows (subst (λ is. RowsIn is rows) (sym none) (within rows)) fit

-- the text, and whether one is named, by how many are
pub ranged : (g : Lists) (inputs : List Range) (all : Bool) (a : KnownRanges) → IsAuditWithin g inputs a → (named : ℕ) (found : Bool)
    → named ≡ named_below a.stops (length g.operations) → found ≡ are_named named → (named_below a.stops (length g.operations) ≡ 0 → NeverStopsWithin g inputs) → ((rows : List (List ℤ)) → RowsIn [] rows)
    → IsRanged g inputs all (ranges_text all g a) found
ranged g inputs all a is named found counted told none_stops within =
    let never : found ≡ false → NeverStopsWithin g inputs = λ none. none_stops (rw (← counted) (none_named named found told none)) in
    record {
      audit = a;
      is = is;
      told = refl;
      answers = rw (← counted) told;
      never = never;
      never_at_all = λ none no_inputs. of_all g inputs within (never none) no_inputs;
    }
