-- Records: what a loop over the columns and over the records of a table keeps.
use Rattle.std.specs.Prelude.{IfSome}
use Rattle.std.proofs.Common.{◌≡◌, ◌≢◌, ℕ, zero, suc, ◌+◌, ◌-◌, ◌<◌, ◌≤◌, true, false, List, [], ◌∷◌, ◌++◌, length, map, drop, slice_get}
use Rattle.std.proofs.Common.{Option, Some, None, Ok, Result, Err, slice_set, length-set, refl, sym, ap, subst, ◌∙◌, append_assoc, arith}
use Rattle.vcp_base.specs.declared.columns.Column.{Column}
use Rattle.input_rows.specs.declared.fault.RowFault.{RowFault}
use Rattle.input_rows.specs.declared.fault.RowFault.TheVariants as fault
use Rattle.range_walk.specs.declared.range.Range.{Range}
use Rattle.input_rows.specs.RecordsLeft.{Takes}
use Rattle.range_walk.specs.RangeTable.{cells_of, RangeCells, RangesSoFar, place_of, end_of, range_between, range_in, with_range, with_place, with_cells}
use Rattle.range_walk.specs.RangeTable.{after_record, ranges_from}

-- ---- lists

add_one : (j : ℕ) → suc j ≡ j + 1
add_one j = omega arith

dropped : {X : Type 0} (xs : List X) (j : ℕ) (x : X) → slice_get xs j ≡ Some x → drop j xs ≡ x ∷ drop (suc j) xs
dropped [] j x e = absurd cc
dropped (y ∷ xs) zero x e = let same : y ≡ x = cc in ap (λ z. z ∷ xs) same
dropped (y ∷ xs) (suc j) x e = dropped xs j x e

at_drop : {X : Type 0} (xs : List X) (j : ℕ) (x : X) → slice_get xs j ≡ Some x → drop j xs ≡ x ∷ drop (j + 1) xs
at_drop xs j x e = subst (λ n. drop j xs ≡ x ∷ drop n xs) (add_one j) (dropped xs j x e)

-- one more of what is made of each
pub one_more : {X Y : Type 0} (f : X → Y) (xs : List X) (made : List Y) (j : ℕ) (x : X) → slice_get xs j ≡ Some x → map f xs ≡ made ++ map f (drop j xs)
    → map f xs ≡ (made ++ f x ∷ []) ++ map f (drop (j + 1) xs)
one_more f xs made j x there e =
    e ∙ (ap (λ rest. made ++ map f rest) (at_drop xs j x there) ∙ sym (append_assoc made (f x ∷ []) (map f (drop (j + 1) xs))))

-- ---- cells

-- a record of three cells, and one of more or fewer
pub three : (fields : List (List ℕ)) (a b c : List ℕ) → length fields ≡ 3 → slice_get fields 0 ≡ Some a → slice_get fields 1 ≡ Some b
    → slice_get fields 2 ≡ Some c → cells_of fields ≡ Some (record { name = a; least = b; greatest = c })
three [] a b c many first second third = absurd cc
three (x ∷ []) a b c many first second third = absurd cc
three (x ∷ y ∷ []) a b c many first second third = absurd cc
three (x ∷ y ∷ z ∷ []) a b c many first second third = cc
three (x ∷ y ∷ z ∷ w ∷ more) a b c many first second third = absurd (omega (arith, many))

pub not_three : (fields : List (List ℕ)) → length fields ≢ 3 → cells_of fields ≡ None
not_three [] many = refl
not_three (x ∷ []) many = refl
not_three (x ∷ y ∷ []) many = refl
not_three (x ∷ y ∷ z ∷ []) many = absurd (many refl)
not_three (x ∷ y ∷ z ∷ w ∷ more) many = refl

-- what is told with a record, by the place that its name has
pub told_by : (columns : List Column) (now : RangesSoFar) (number : ℕ) (fields : List (List ℕ)) (cells : RangeCells) (place : Option ℕ)
    → cells_of fields ≡ Some cells → place ≡ place_of columns now.free cells.name
    → with_place columns now number cells place ≡ with_cells columns now number (cells_of fields)
told_by columns now number fields cells place are is =
    ap (with_place columns now number cells) is ∙ sym (ap (with_cells columns now number) are)

-- the same where its name has none
pub not_named : (columns : List Column) (now : RangesSoFar) (number : ℕ) (fields : List (List ℕ)) (a : List ℕ) → length fields ≡ 3
    → slice_get fields 0 ≡ Some a → None ≡ place_of columns now.free a → Err (fault.Cell number 1) ≡ with_cells columns now number (cells_of fields)
not_named columns now number [] a many first none = absurd cc
not_named columns now number (x ∷ []) a many first none = absurd (omega (arith, many))
not_named columns now number (x ∷ y ∷ []) a many first none = absurd (omega (arith, many))
not_named columns now number (x ∷ y ∷ z ∷ []) a many first none =
    let same : a ≡ x = cc in
    told_by columns now number (x ∷ y ∷ z ∷ []) (record { name = x; least = y; greatest = z }) None refl (none ∙ ap (place_of columns now.free) same)
not_named columns now number (x ∷ y ∷ z ∷ w ∷ more) a many first none = absurd (omega (arith, many))

-- the same at a place, by the range that its ends give
pub ranged_by : (columns : List Column) (now : RangesSoFar) (number : ℕ) (cells : RangeCells) (i : ℕ) (column : Column) (r : Result Range RowFault)
    → slice_get columns i ≡ Some column → r ≡ range_between number (end_of column.ty cells.least) (end_of column.ty cells.greatest)
    → with_range now i r ≡ with_place columns now number cells (Some i)
ranged_by columns now number cells i column r there is = ap (with_range now i) (is ∙ sym (ap (λ o. range_in number o cells) there))

-- ---- records

-- what the records that were left at first come to is what those come to that are left now, where rest inputs are left
abbrev pub IsLeft : List Column → RangesSoFar → Option (List (List (List ℕ))) → RangesSoFar → ℕ → Option (List (List (List ℕ))) → Type 0
IsLeft columns first None now k left = Unit {0}
IsLeft columns first (Some records) now k None = ⊥
IsLeft columns first (Some records) now k (Some more) =
    (rest : ℕ) → rest + k ≡ length columns → ranges_from columns first (length columns) 2 records ≡ ranges_from columns now rest (k + 2) more

one_more_left : (columns : List Column) (now next : RangesSoFar) (k rest : ℕ) (left more : List (List (List ℕ))) (cells : List (List ℕ)) → left ≡ cells ∷ more
    → with_cells columns now (k + 2) (cells_of cells) ≡ Ok next
    → ranges_from columns now (suc rest) (k + 2) left ≡ ranges_from columns next rest (k + 1 + 2) more
one_more_left columns now next k rest left more cells same is =
    let number : k + 2 + 1 ≡ k + 1 + 2 = omega arith in
    ap (ranges_from columns now (suc rest) (k + 2)) same
    ∙ (ap (λ r. after_record r (λ s. ranges_from columns s rest (k + 2 + 1) more)) is ∙ ap (λ n. ranges_from columns next rest n more) number)

pub left_next : (columns : List Column) (first now next : RangesSoFar) (k : ℕ) (old mid new : Option (List (List (List ℕ)))) (cells : List (List ℕ))
    → IsLeft columns first old now k mid → Takes mid new cells true → with_cells columns now (k + 2) (cells_of cells) ≡ Ok next
    → IsLeft columns first old next (k + 1) new
left_next columns first now next k None mid new cells before takes is = tt
left_next columns first now next k (Some records) None new cells before takes is = absurd before
left_next columns first now next k (Some records) (Some left) new cells before (more, here, after) is =
    let same : left ≡ cells ∷ more = cc in
    subst (λ o. IsLeft columns first (Some records) next (k + 1) o) (sym after)
    (λ rest many. before (suc rest) (omega (arith, many)) ∙ one_more_left columns now next k rest left more cells same is)

none_behind : (columns : List Column) (now : RangesSoFar) (rest number : ℕ) (left : List (List (List ℕ))) → left ≡ []
    → ranges_from columns now rest number left ≡ Ok now.ranges
none_behind columns now zero number [] e = refl
none_behind columns now (suc rest) number [] e = refl
none_behind columns now rest number (cells ∷ left) e = absurd cc

pub ends : (columns : List Column) (first now : RangesSoFar) (k : ℕ) (old mid new : Option (List (List (List ℕ)))) (cells : List (List ℕ)) (made : List Range)
    → made ≡ now.ranges → k ≤ length columns → IsLeft columns first old now k mid → Takes mid new cells false
    → IfSome old (λ left. ranges_from columns first (length columns) 2 left ≡ Ok made)
ends columns first now k None mid new cells made is few before takes = tt
ends columns first now k (Some records) None new cells made is few before takes = absurd before
ends columns first now k (Some records) (Some left) new cells made is few before (here, after) =
    let none : left ≡ [] = cc in
    before (length columns - k) (omega (arith, few)) ∙ (none_behind columns now (length columns - k) (k + 2) left none ∙ ap Ok (sym is))

pub refused : (columns : List Column) (first now : RangesSoFar) (k : ℕ) (old mid new : Option (List (List (List ℕ)))) (cells : List (List ℕ)) (why : RowFault)
    → k < length columns → IsLeft columns first old now k mid → Takes mid new cells true → with_cells columns now (k + 2) (cells_of cells) ≡ Err why
    → IfSome old (λ left. ranges_from columns first (length columns) 2 left ≡ Err why)
refused columns first now k None mid new cells why few before takes is = tt
refused columns first now k (Some records) None new cells why few before takes is = absurd before
refused columns first now k (Some records) (Some left) new cells why few before (more, here, after) is =
    let same : left ≡ cells ∷ more = cc in
    let rest = length columns - k - 1 in
    before (suc rest) (omega (arith, few)) ∙ (ap (ranges_from columns now (suc rest) (k + 2)) same
    ∙ ap (λ r. after_record r (λ s. ranges_from columns s rest (k + 2 + 1) more)) is)

no_input_left : (columns : List Column) (now : RangesSoFar) (number : ℕ) (left more : List (List (List ℕ))) (cells : List (List ℕ)) → left ≡ cells ∷ more
    → ranges_from columns now 0 number left ≡ Err (fault.Cell number 1)
no_input_left columns now number left more cells same = ap (ranges_from columns now 0 number) same

pub too_many : (columns : List Column) (first now : RangesSoFar) (k number : ℕ) (old mid new : Option (List (List (List ℕ)))) (cells : List (List ℕ))
    → k ≡ length columns → number ≡ k + 2 → IsLeft columns first old now k mid → Takes mid new cells true
    → IfSome old (λ left. ranges_from columns first (length columns) 2 left ≡ Err (fault.Cell number 1))
too_many columns first now k number None mid new cells all is before takes = tt
too_many columns first now k number (Some records) None new cells all is before takes = absurd before
too_many columns first now k number (Some records) (Some left) new cells all is before (more, here, after) =
    let same : left ≡ cells ∷ more = cc in
    before 0 (omega (arith, all)) ∙ (no_input_left columns now (k + 2) left more cells same ∙ ap (λ n. Err (fault.Cell n 1)) (sym is))

-- ---- lengths

abbrev AsLong : RangesSoFar → RangesSoFar → Type 0
AsLong now next = (length next.ranges ≡ length now.ranges) × (length next.free ≡ length now.free)

with_range_as_long : (now next : RangesSoFar) (i : ℕ) (r : Result Range RowFault) → with_range now i r ≡ Ok next → AsLong now next
with_range_as_long now next i (Ok r) e =
    let is : next ≡ record { ranges = slice_set now.ranges i r; free = slice_set now.free i false } = cc in
    subst (AsLong now) (sym is) (length-set now.ranges i r, length-set now.free i false)
with_range_as_long now next i (Err why) e = absurd cc

with_place_as_long : (columns : List Column) (now next : RangesSoFar) (number : ℕ) (c : RangeCells) (place : Option ℕ)
    → with_place columns now number c place ≡ Ok next → AsLong now next
with_place_as_long columns now next number c None e = absurd cc
with_place_as_long columns now next number c (Some i) e = with_range_as_long now next i (range_in number (slice_get columns i) c) e

pub with_cells_as_long : (columns : List Column) (now next : RangesSoFar) (number : ℕ) (cells : Option RangeCells)
    → with_cells columns now number cells ≡ Ok next → AsLong now next
with_cells_as_long columns now next number None e = absurd cc
with_cells_as_long columns now next number (Some c) e = with_place_as_long columns now next number c (place_of columns now.free c.name) e
