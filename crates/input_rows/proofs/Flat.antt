-- Flat: rows one behind another.
use Rattle.std.proofs.Common.{◌≡◌, ℕ, zero, suc, ◌+◌, ◌*◌, ◌<◌, ◌≤◌, All, List, [], ◌∷◌, ◌++◌, length, take, drop, ℤ, Some, slice_get, refl, sym}
use Rattle.std.proofs.Common.{ap, ◌∙◌, arith}
use Rattle.std.proofs.Math.Nat.{mul-le-mul_right, suc-mul}
use Rattle.std.proofs.lemmas.List.Elements.{All-cons}
use Rattle.std.proofs.lemmas.Option.{get_or_from_slice_get}
use Rattle.std.proofs.lemmas.List.{append_assoc, drop-append-le, drop-drop, length-append, length-drop}
use Rattle.std.proofs.lemmas.List.{length-take-le, take-append-le, take_all}
use Rattle.input_rows.specs.RowLists.{rows_in}
use Rattle.input_rows.specs.RowsOf.{RowsLeft}

-- ---- one row more

no_values : (values : List ℤ) → length values ≡ 0 → values ≡ []
no_values [] e = refl
no_values (v ∷ values) e = absurd (omega (arith, e))

pub one_more : (count width : ℕ) (values row : List ℤ) → length values ≡ count * width → length row ≡ width →
    rows_in (suc count) width (values ++ row) ≡ rows_in count width values ++ row ∷ []
one_more zero width values row many same =
    let none : values ≡ [] = no_values values (omega (arith, many)) in
    ap (λ (vs : List ℤ). take width (vs ++ row) ∷ []) none ∙ ap (λ (r : List ℤ). r ∷ []) (take_all width row (omega (arith, same)))
one_more (suc count) width values row many same =
    let product = suc-mul count width in
    let enough : width ≤ length values = omega (arith, many, product) in
    let rest : length (drop width values) ≡ count * width = omega (arith, length-drop width values, many, product) in
    ap (λ (r : List ℤ). r ∷ rows_in (suc count) width (drop width (values ++ row))) (take-append-le width values row enough)
    ∙ ap (λ (rs : List (List ℤ)). take width values ∷ rs)
    (ap (rows_in (suc count) width) (drop-append-le width values row enough) ∙ one_more count width (drop width values) row rest same)

plus_one : (n : ℕ) → n + 1 ≡ suc n
plus_one n = omega arith

-- ---- one row

none_before : (width : ℕ) → 0 ≡ zero * width
none_before width = omega arith

later : (i width : ℕ) → width + i * width ≡ suc i * width
later i width = omega (arith, suc-mul i width)

pub row_there : (count width : ℕ) (values : List ℤ) (i : ℕ) → i < count → slice_get (rows_in count width values) i ≡ Some (take width (drop (i * width) values))
row_there zero width values i below = absurd (omega (arith, below))
row_there (suc count) width values zero below = ap (λ (n : ℕ). Some (take width (drop n values))) (none_before width)
row_there (suc count) width values (suc i) below =
    row_there count width (drop width values) i (omega (arith, below))
    ∙ ap (λ (vs : List ℤ). Some (take width vs)) (drop-drop (i * width) width values ∙ ap (λ (n : ℕ). drop n values) (later i width))

pub rows_count : (count width : ℕ) (values : List ℤ) → length (rows_in count width values) ≡ count
rows_count zero width values = refl
rows_count (suc count) width values = ap suc (rows_count count width (drop width values))

pub rows_width : (count width : ℕ) (values : List ℤ) → length values ≡ count * width → All (λ row. length row ≡ width) (rows_in count width values)
rows_width zero width values many = λ k d below. absurd (omega (arith, below))
rows_width (suc count) width values many =
    let product = suc-mul count width in
    All-cons (λ (row : List ℤ). length row ≡ width) (take width values) (rows_in count width (drop width values))
    (length-take-le width values (omega (arith, many, product)))
    (rows_width count width (drop width values) (omega (arith, length-drop width values, many, product)))

-- a row ends before the values do
pub row_within : (count width i : ℕ) → i < count → i * width + width ≤ count * width
row_within count width i below =
    let most : suc i * width ≤ count * width = mul-le-mul_right width (omega (arith, below)) in
    omega (arith, most, suc-mul i width)

-- ---- what was gathered

-- the rows that were left at the start are these and those that are left now, with the same refusal behind them
pub record Gathered (start left : RowsLeft) (count width : ℕ) (values : List ℤ) : Type 0 where
  pub rows : start.rows ≡ rows_in count width values ++ left.rows
  pub refusal : left.refusal ≡ start.refusal
  pub types : left.types ≡ start.types
  pub many : length values ≡ count * width
  pub number : count + length left.rows ≡ length start.rows

pub begun : (start : RowsLeft) (width : ℕ) → Gathered start start 0 width []
begun start width = record { rows = refl; refusal = refl; types = refl; many = none_before width; number = omega arith }

pub gathered_more : (start old new : RowsLeft) (count width : ℕ) (values row : List ℤ) → Gathered start old count width values
    → old ≡ record new { rows = row ∷ new.rows } → length row ≡ width
    → Gathered start new (count + 1) width (values ++ row)
gathered_more start old new count width values row h is same =
    let rows : old.rows ≡ row ∷ new.rows = ap (λ (l : RowsLeft). l.rows) is in
    let cut : rows_in (count + 1) width (values ++ row) ≡ rows_in count width values ++ row ∷ [] =
    ap (λ (n : ℕ). rows_in n width (values ++ row)) (plus_one count) ∙ one_more count width values row h.many same in
    record {
      rows =
          h.rows
          ∙ (ap (λ (rs : List (List ℤ)). rows_in count width values ++ rs) rows
          ∙ (sym (append_assoc (rows_in count width values) (row ∷ []) new.rows) ∙ ap (λ (rs : List (List ℤ)). rs ++ new.rows) (sym cut)));
      refusal = sym (ap (λ (l : RowsLeft). l.refusal) is) ∙ h.refusal;
      types = sym (ap (λ (l : RowsLeft). l.types) is) ∙ h.types;
      many = omega (arith, length-append values row, h.many, same, suc-mul count width, ap (λ (n : ℕ). n * width) (plus_one count));
      number = omega (arith, h.number, ap length rows);
    }

-- ---- one row of a list

pub record IsRowOf (rows : List (List ℤ)) (count width : ℕ) (values : List ℤ) (i : ℕ) : Type 0 where
  pub within : i * width + width ≤ length values
  pub long : length (take width (drop (i * width) values)) ≡ width
  pub there : slice_get rows i ≡ Some (take width (drop (i * width) values))

pub row_of_list : (rows : List (List ℤ)) (count width : ℕ) (values : List ℤ) (i : ℕ) → rows_in count width values ≡ rows → length values ≡ count * width →
    i < length rows → IsRowOf rows count width values i
row_of_list rows count width values i view many below =
    let number : i < count = omega (arith, below, sym (ap length view) ∙ rows_count count width values) in
    let within : i * width + width ≤ length values = omega (arith, many, row_within count width i number) in
    record {
      within = within;
      long = length-take-le width (drop (i * width) values) (omega (arith, within, length-drop (i * width) values));
      there = sym (ap (λ (rs : List (List ℤ)). slice_get rs i) view) ∙ row_there count width values i number;
    }

-- the width of a list that has a row is that of its rows
pub width_is : (rows : List (List ℤ)) (count width : ℕ) (values : List ℤ) (i n : ℕ) → rows_in count width values ≡ rows → length values ≡ count * width →
    i < length rows → All (λ row. length row ≡ n) rows → width ≡ n
width_is rows count width values i n view many below wide =
    let row = row_of_list rows count width values i view many below in
    sym row.long ∙ (ap length (sym (get_or_from_slice_get rows i (take width (drop (i * width) values)) [] row.there)) ∙ wide i [] below)
