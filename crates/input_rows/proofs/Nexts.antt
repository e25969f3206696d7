-- What a call for the next row gives, by its ends.
use Rattle.std.proofs.Common.{◌≡◌, ◌≢◌, ◌∙◌, refl, sym, ap, ℕ, ◌-◌, zero, suc, Bool, true}
use Rattle.std.proofs.Common.{false, List, [], ◌∷◌, length, get_or, drop, ℤ, sub-one, nat_le, tests, rules}
use Rattle.std.proofs.Common.{Option, Some, None, Result, Ok, IfOk, IfErr, OnErr}
use Rattle.std.proofs.lemmas.Bool.{true≢false, false≢true}
use Rattle.vcp_base.specs.declared.ty.Ty.{Ty}
use Rattle.input_rows.specs.declared.fault.RowFault.{RowFault}
use Rattle.input_rows.specs.declared.fault.RowFault.TheVariants.{Memory}
use Rattle.input_rows.specs.declared.wanted.Wanted.{Wanted}
use Rattle.input_rows.specs.declared.wanted.Wanted.TheVariants.{All, First, Ended}
use Rattle.input_rows.specs.WantedRows.{wanted_rows}
use Rattle.input_rows.specs.RowsOf.{RowsLeft, ended_with, end_answer, first_rows, behind_wanted}

-- rows that are wanted have the types of all
pub wanted_types : (w : Wanted) (left : RowsLeft) → (wanted_rows w left).types ≡ left.types
wanted_types All left = refl
wanted_types (First n behind) left = refl
wanted_types (Ended behind) left = refl

-- they are the same types after a call
pub types_kept : (w : Wanted) (left more old : RowsLeft) → wanted_rows w left ≡ old → more.types ≡ left.types → (wanted_rows w more).types ≡ old.types
types_kept w left more old seen kept = wanted_types w more ∙ kept ∙ sym (wanted_types w left) ∙ ap (λ (l : RowsLeft). l.types) seen

-- what a call promises of what was left, what is left, the row before it and after it, and its answer
abbrev pub Given : RowsLeft → RowsLeft → List ℤ → List ℤ → Result Bool RowFault → Type 0
Given old new before after result = record {
  row : IfOk result (λ found. found ≡ true → old ≡ record new { rows = after ∷ new.rows });
  end : IfOk result (λ found. found ≡ false → (old.rows ≡ []) × (old.refusal ≡ None));
  stays : IfOk result (λ found. found ≡ false → (new ≡ ended_with old.types None) × (after ≡ before));
  refusal : IfErr result (λ f. f ≢ Memory → (old.rows ≡ []) × (old.refusal ≡ Some f));
  refused : IfErr result (λ f. new ≡ ended_with old.types (Some f));
  again : old.ended ≡ true → (result ≡ end_answer old.refusal) × (new ≡ old) × (after ≡ before);
  out : OnErr result (after ≡ before);
  width : length after ≡ length before;
}

-- a row
pub row_given : (old seen new : RowsLeft) (before after : List ℤ) → seen ≡ new → old.ended ≡ false → old ≡ record new { rows = after ∷ new.rows }
    → length after ≡ length before
    → Given old seen before after (Ok true)
row_given old seen new before after is going row width = record {
  row = λ e. rw is row;
  end = λ e. absurd (true≢false e);
  stays = λ e. absurd (true≢false e);
  refusal = tt;
  refused = tt;
  again = λ e. absurd (true≢false (sym e ∙ going));
  out = tt;
  width = width;
}

-- the end, with this behind the rows
pub end_given : (old new : RowsLeft) (types : List Ty) (before after : List ℤ) (behind : Option RowFault) (result : Result Bool RowFault)
    → result ≡ end_answer behind → new ≡ ended_with types behind → types ≡ old.types → old.ended ≡ false
    → (behind ≢ Some Memory → (old.rows ≡ []) × (old.refusal ≡ behind)) → after ≡ before
    → Given old new before after result
end_given old new types before after None result answer ended kept going is same = rw answer (record {
  row = λ e. absurd (false≢true e);
  end = λ e. is (λ k. absurd cc);
  stays = λ e. (rw kept at ended, same);
  refusal = tt;
  refused = tt;
  again = λ e. absurd (true≢false (sym e ∙ going));
  out = tt;
  width = ap length same;
})
end_given old new types before after (Some why) result answer ended kept going is same = rw answer (record {
  row = tt;
  end = tt;
  stays = tt;
  refusal = λ other. is (λ k. other cc);
  refused = rw kept at ended;
  again = λ e. absurd (true≢false (sym e ∙ going));
  out = same;
  width = ap length same;
})

-- the end, once more
pub again_given : (old : RowsLeft) (left : RowsLeft) (before : List ℤ) (behind : Option RowFault) (result : Result Bool RowFault)
    → result ≡ end_answer behind → old ≡ ended_with left.types behind
    → Given old old before before result
again_given old left before None result answer is = rw (answer, is) (record {
  row = λ e. absurd (false≢true e);
  end = λ e. (refl, refl);
  stays = λ e. (refl, refl);
  refusal = tt;
  refused = tt;
  again = λ e. (refl, refl, refl);
  out = tt;
  width = refl;
})
again_given old left before (Some why) result answer is = rw (answer, is) (record {
  row = tt;
  end = tt;
  stays = tt;
  refusal = λ other. (refl, refl);
  refused = refl;
  again = λ e. (refl, refl, refl);
  out = refl;
  width = refl;
})

le_suc : (a b : ℕ) → nat_le (suc a) (suc b) ≡ nat_le a b
le_suc a b = search (tests, rules)

le_none : (n : ℕ) → nat_le (suc n) 0 ≡ false
le_none n = search (tests, rules)

none_le : (n : ℕ) → nat_le 0 n ≡ true
none_le n = search (tests, rules)

-- no more rows are wanted
pub first_none : (this : Option RowFault) (left : RowsLeft) → ((first_rows 0 this left).rows ≡ []) × ((first_rows 0 this left).refusal ≡ this)
first_none this left = rw (none_le (length left.rows)) (refl, refl)

-- the first of so many rows
pub first_row : (n : ℕ) (this : Option RowFault) (left more : RowsLeft) (row : List ℤ) → ¬ (n ≡ 0) → left ≡ record more { rows = row ∷ more.rows }
    → first_rows n this left ≡ record (first_rows (n - 1) this more) { rows = row ∷ (first_rows (n - 1) this more).rows }
first_row zero this left more row some is = absurd (some refl)
first_row (suc n) this left more row some is = rw (is, sub-one, le_suc n (length more.rows)) refl

-- there are fewer rows than are wanted
pub first_end : (n : ℕ) (this behind : Option RowFault) (left : RowsLeft) → ¬ (n ≡ 0) → left.rows ≡ [] → behind_wanted false this left.refusal ≡ behind
    → ((first_rows n this left).rows ≡ []) × ((first_rows n this left).refusal ≡ behind)
first_end zero this behind left some none is = absurd (some refl)
first_end (suc n) this behind left some none is = rw (none, le_none n) (refl, is)

-- two readers of the same rows answer the same, and have the same left
pub alike : (first second more other : RowsLeft) (row again : List ℤ) (found too : Bool) → second ≡ first
    → (found ≡ true → first ≡ record more { rows = row ∷ more.rows }) → (found ≡ false → (first.rows ≡ []) × (first.refusal ≡ None))
    → (too ≡ true → second ≡ record other { rows = again ∷ other.rows }) → (too ≡ false → (second.rows ≡ []) × (second.refusal ≡ None))
    → (too ≡ found) × (found ≡ true → (again ≡ row) × (other ≡ more))
alike first second more other row again true true same row_is end_is again_is end_too =
    let both : record other { rows = again ∷ other.rows } ≡ record more { rows = row ∷ more.rows } = sym (again_is refl) ∙ same ∙ row_is refl in
    (refl, λ e. (ap (λ (l : RowsLeft). get_or l.rows 0 []) both, ap (λ (l : RowsLeft). record l { rows = drop 1 l.rows }) both))
alike first second more other row again true false same row_is end_is again_is end_too =
    let none : row ∷ more.rows ≡ [] = sym (ap (λ (l : RowsLeft). l.rows) (same ∙ row_is refl)) ∙ (end_too refl).0 in
    absurd cc
alike first second more other row again false true same row_is end_is again_is end_too =
    let none : again ∷ other.rows ≡ [] = sym (ap (λ (l : RowsLeft). l.rows) (sym same ∙ again_is refl)) ∙ (end_is refl).0 in
    absurd cc
alike first second more other row again false false same row_is end_is again_is end_too = (refl, λ e. absurd (false≢true e))
