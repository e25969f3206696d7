-- Rows: the first place where two rows have different values.
use Rattle.std.proofs.Common.{◌≡◌, ◌≢◌, ℕ, zero, suc, ◌+◌, ◌<◌, ◌≤◌, ◌⊎◌, inl, inr, Bool, true, false, cond, List, [], ◌∷◌, length, drop, take, slice_get, Option, Some, None, ℤ, pos, negsuc, ◌≤ℤ◌, refl, sym, ap, ◌∙◌, arith, add-one, drop-cons}
use Rattle.std.proofs.lemmas.Bool.{false≢true}
use Rattle.std.proofs.lemmas.Bool.Decides.{nat_tests}
use Rattle.std.proofs.lemmas.Int.{ints}
use Rattle.std.proofs.lemmas.Option.{get_or_from_slice_get, slice_get_within}
use Rattle.vcp_base.specs.Kinds.{same}
use Rattle.vcp_base.specs.Differences.{Difference, first_difference}
use Rattle.pair_channel.specs.PairEnds.{FirstDifference}

pub same_self : (x : ℤ) → same x x ≡ true
same_self (pos n) = grind (arith, nat_tests)
same_self (negsuc n) = grind (arith, nat_tests)

same_equal : (x y : ℤ) → same x y ≡ true → x ≡ y
same_equal x y h =
    let low : x ≤ℤ y = grind (arith, ints) in
    let high : y ≤ℤ x = grind (arith, ints) in
    omega (arith, ints, low, high)

not_true : (b : Bool) → (b ≢ true) → b ≡ false
not_true true h = absurd (h refl)
not_true false h = refl

same_other : (x y : ℤ) → x ≢ y → same x y ≡ false
same_other x y h = not_true (same x y) (λ e. h (same_equal x y e))

-- ---- at a place

drop_at : {X : Type 0} (xs : List X) (k : ℕ) (x : X) → slice_get xs k ≡ Some x → drop k xs ≡ x ∷ drop (k + 1) xs
drop_at xs k x there =
    let within : k < length xs = slice_get_within xs k x there in
    rw add-one (drop-cons xs k x within ∙ ap (λ y. y ∷ drop (suc k) xs) (get_or_from_slice_get xs k x x there))

pub row_passed : (xs ys : List ℤ) (k : ℕ) (x y : ℤ) → slice_get xs k ≡ Some x → slice_get ys k ≡ Some y → x ≡ y →
    first_difference (drop k xs) (drop k ys) k ≡ first_difference (drop (k + 1) xs) (drop (k + 1) ys) (k + 1)
row_passed xs ys k x y there here e =
    let told : Difference = record { place = k; first = x; second = y } in
    let whole : same x y ≡ true = ap (same x) (sym e) ∙ same_self x in
    ap (λ us. first_difference us (drop k ys) k) (drop_at xs k x there)
    ∙ (ap (λ us. first_difference (x ∷ drop (k + 1) xs) us k) (drop_at ys k y here)
    ∙ (ap (λ b. cond b (first_difference (drop (k + 1) xs) (drop (k + 1) ys) (suc k)) (Some told)) whole
    ∙ ap (λ j. first_difference (drop (k + 1) xs) (drop (k + 1) ys) j) (sym (add-one k))))

pub row_here : (xs ys : List ℤ) (k : ℕ) (x y : ℤ) → slice_get xs k ≡ Some x → slice_get ys k ≡ Some y → x ≢ y →
    first_difference (drop k xs) (drop k ys) k ≡ Some (record { place = k; first = x; second = y })
row_here xs ys k x y there here ne =
    let told : Difference = record { place = k; first = x; second = y } in
    ap (λ us. first_difference us (drop k ys) k) (drop_at xs k x there)
    ∙ (ap (λ us. first_difference (x ∷ drop (k + 1) xs) us k) (drop_at ys k y here)
    ∙ ap (λ b. cond b (first_difference (drop (k + 1) xs) (drop (k + 1) ys) (suc k)) (Some told)) (same_other x y ne))

drop_all : {X : Type 0} (xs : List X) (k : ℕ) → length xs ≤ k → drop k xs ≡ []
drop_all [] zero h = refl
drop_all [] (suc k) h = refl
drop_all (x ∷ xs) zero h = absurd (omega (arith, h))
drop_all (x ∷ xs) (suc k) h = drop_all xs k (omega (arith, h))

pub row_ended : (xs ys : List ℤ) (k : ℕ) → length xs ≤ k → first_difference (drop k xs) (drop k ys) k ≡ None
row_ended xs ys k h = ap (λ us. first_difference us (drop k ys) k) (drop_all xs k h)

-- ---- of whole rows

pub same_row : (row : List ℤ) (k : ℕ) → first_difference row row k ≡ None
same_row [] k = refl
same_row (x ∷ row) k =
    let told : Difference = record { place = k; first = x; second = x } in
    ap (λ b. cond b (first_difference row row (suc k)) (Some told)) (same_self x) ∙ same_row row (suc k)

none_here : (b : Bool) (later : Option Difference) (d : Difference) → cond b later (Some d) ≡ None → (b ≡ true) × (later ≡ None)
none_here true later d h = (refl, h)
none_here false later d h = absurd cc

some_here : (b : Bool) (later : Option Difference) (d e : Difference) → cond b later (Some d) ≡ Some e →
    ((b ≡ true) × (later ≡ Some e)) ⊎ ((b ≡ false) × (Some d ≡ Some e))
some_here true later d e h = inl (refl, h)
some_here false later d e h = inr (refl, h)

pub none_differs : (row other : List ℤ) (k : ℕ) → length row ≡ length other → first_difference row other k ≡ None → row ≡ other
none_differs [] [] k e h = refl
none_differs [] (y ∷ other) k e h = absurd (omega (arith, e))
none_differs (x ∷ row) [] k e h = absurd (omega (arith, e))
none_differs (x ∷ row) (y ∷ other) k e h =
    let told : Difference = record { place = k; first = x; second = y } in
    let p = none_here (same x y) (first_difference row other (suc k)) told h in
    ap (λ z. z ∷ row) (same_equal x y p.0) ∙ ap (λ r. y ∷ r) (none_differs row other (suc k) (omega (arith, e)) p.1)

-- the difference that is told, or another one
abbrev pub or_else : Option Difference → Difference → Difference
or_else (Some d) other = d
or_else None other = other

-- a difference that is told is the first one of the rows, and its number is counted from `k`
pub record Placed (row other : List ℤ) (k : ℕ) (d : Difference) : Type 0 where
  pub i : ℕ
  pub number : d.place ≡ k + i
  pub first : FirstDifference row other i d.first d.second

placed_later : (row other : List ℤ) (k : ℕ) (x y : ℤ) (d : Difference) → x ≡ y → Placed row other (suc k) d → Placed (x ∷ row) (y ∷ other) k d
placed_later row other k x y d e p = record {
  i = suc p.i;
  number = omega (arith, p.number);
  first = record {
    before = ap (λ z. z ∷ take p.i row) e ∙ ap (λ r. y ∷ r) p.first.before;
    here = p.first.here;
    there = p.first.there;
    differ = p.first.differ;
  };
}

placed_here : (row other : List ℤ) (k : ℕ) (x y : ℤ) (d : Difference) → same x y ≡ false → Some (record { place = k; first = x; second = y }) ≡ Some d →
    Placed (x ∷ row) (y ∷ other) k d
placed_here row other k x y d apart is =
    let told : Difference = record { place = k; first = x; second = y } in
    let same_d : told ≡ d = ap (λ o. or_else o told) is in
    record {
      i = zero;
      number = ap (λ (z : Difference). z.place) (sym same_d) ∙ omega arith;
      first = record {
        before = refl;
        here = ap (λ (z : Difference). Some z.first) same_d;
        there = ap (λ (z : Difference). Some z.second) same_d;
        differ = λ e.
            let equal : x ≡ y = ap (λ (z : Difference). z.first) same_d ∙ (e ∙ ap (λ (z : Difference). z.second) (sym same_d)) in
            false≢true (sym apart ∙ (ap (same x) (sym equal) ∙ same_self x));
      };
    }

pub some_differs : (row other : List ℤ) (k : ℕ) (d : Difference) → first_difference row other k ≡ Some d → Placed row other k d
some_differs [] other k d h = absurd cc
some_differs (x ∷ row) [] k d h = absurd cc
some_differs (x ∷ row) (y ∷ other) k d h =
    let told : Difference = record { place = k; first = x; second = y } in
    elim (some_here (same x y) (first_difference row other (suc k)) told d h) [
      | inl p ↦ placed_later row other k x y d (same_equal x y p.0) (some_differs row other (suc k) d p.1)
      | inr p ↦ placed_here row other k x y d p.0 p.1
    ]
