-- RangeTable: the ranges of inputs that a table tells: a head, and a record for each input of which it tells one.
use Rattle.std.specs.Prelude.{ℕ, zero, suc, ◌+◌, ◌&&◌, Bool, true, false, cond, int_le, ℤ, List, [], ◌∷◌, length, map, replicate, slice_get, slice_set, codes}
use Rattle.std.specs.Prelude.{Option, Some, None, Result, Ok, Err}
use Rattle.std.specs.Option.{option_and_then}
use Rattle.csv.specs.Reading.{records, default_config, strip_bom}
use Rattle.vcp_base.specs.declared.columns.Column.{Column}
use Rattle.vcp_base.specs.declared.ty.Ty.{Ty}
use Rattle.vcp_base.specs.Names.{is_same_name}
use Rattle.vcp_base.specs.Numerals.{integer_of, in_type}
use Rattle.vcp_base.specs.Types.{least, greatest}
use Rattle.input_rows.specs.declared.fault.RowFault.{RowFault}
use Rattle.input_rows.specs.declared.fault.RowFault.TheVariants as fault
use Rattle.vcp_base.specs.Words.{words, only}
use Rattle.range_walk.specs.declared.range.Range.{Range}

-- the three cells of a record
pub record RangeCells : Type 0 where
  pub name : List ℕ
  pub least : List ℕ
  pub greatest : List ℕ

-- a record's cells, where it has three
abbrev pub cells_of : List (List ℕ) → Option RangeCells
cells_of (a ∷ b ∷ c ∷ []) = Some (record { name = a; least = b; greatest = c })
cells_of _ = None

-- the cell has the one word, without regard to the case of ASCII letters
abbrev pub is_same_word : List ℕ → Option (List ℕ) → Bool
is_same_word word None = false
is_same_word word (Some w) = is_same_name w word

-- the cells are the words of the head
abbrev pub is_head : Option RangeCells → Bool
is_head None = false
is_head (Some c) =
    is_same_word (codes "input") (only (words c.name))
    && (is_same_word (codes "least") (only (words c.least)) && is_same_word (codes "greatest") (only (words c.greatest)))

-- what is told so far: a range for each input, and which of them no record has named
pub record RangesSoFar : Type 0 where
  pub ranges : List Range
  pub free : List Bool

-- all values of a type
abbrev pub range_of_type : Ty → Range
range_of_type t = record { low = least t; high = greatest t; nonzero = false }

-- before the first record: each input has all values of its type
abbrev pub at_first : List Column → RangesSoFar
at_first columns = record { ranges = map (λ c. range_of_type c.ty) columns; free = replicate (length columns) true }

-- an input that no record has named has this name
abbrev pub is_free_named : List ℕ → Option Column → Option Bool → Bool
is_free_named name None f = false
is_free_named name (Some c) None = false
is_free_named name (Some c) (Some f) = f && is_same_name c.name name

-- the place of such an input among the first n, of the last one
abbrev pub place_below : List Column → List Bool → List ℕ → ℕ → Option ℕ
place_below columns free name zero = None
place_below columns free name (suc n) =
    cond (is_free_named name (slice_get columns n) (slice_get free n)) (Some n) (place_below columns free name n)

-- the place of the input that a cell names by its one word
abbrev pub place_of : List Column → List Bool → List ℕ → Option ℕ
place_of columns free cell = option_and_then (λ name. place_below columns free name (length columns)) (only (words cell))

-- the value of the type that a cell spells by its one word: decimal digits, with a sign or without; BOOL is 0 or 1
abbrev pub end_of : Ty → List ℕ → Option ℤ
end_of t cell = option_and_then (λ word. option_and_then (in_type t) (integer_of word)) (only (words cell))

-- the range between two ends, of which the second is no less than the first
abbrev pub range_between : ℕ → Option ℤ → Option ℤ → Result Range RowFault
range_between number None b = Err (fault.Cell number 2)
range_between number (Some a) None = Err (fault.Cell number 3)
range_between number (Some a) (Some b) = cond (int_le a b) (Ok (record { low = a; high = b; nonzero = false })) (Err (fault.Cell number 3))

-- the range of an input
abbrev pub range_in : ℕ → Option Column → RangeCells → Result Range RowFault
range_in number None c = Err (fault.Cell number 1)
range_in number (Some column) c = range_between number (end_of column.ty c.least) (end_of column.ty c.greatest)

-- what is told with a range of the input at place i, which is named then
abbrev pub with_range : RangesSoFar → ℕ → Result Range RowFault → Result RangesSoFar RowFault
with_range a i (Ok r) = Ok (record { ranges = slice_set a.ranges i r; free = slice_set a.free i false })
with_range a i (Err why) = Err why

-- the same where a record names the input, and not where it names none that is free
abbrev pub with_place : List Column → RangesSoFar → ℕ → RangeCells → Option ℕ → Result RangesSoFar RowFault
with_place columns a number c None = Err (fault.Cell number 1)
with_place columns a number c (Some i) = with_range a i (range_in number (slice_get columns i) c)

-- what is told with the record of this number; records count from 1, the head's
abbrev pub with_cells : List Column → RangesSoFar → ℕ → Option RangeCells → Result RangesSoFar RowFault
with_cells columns a number None = Err (fault.Width number)
with_cells columns a number (Some c) = with_place columns a number c (place_of columns a.free c.name)

-- what is told by a call that was refused or not
abbrev pub after : Result (Unit {0}) RowFault → RangesSoFar → Result RangesSoFar RowFault
after (Ok done) told = Ok told
after (Err why) told = Err why

-- what comes after a record, where it isn't refused
abbrev pub after_record : Result RangesSoFar RowFault → (RangesSoFar → Result (List Range) RowFault) → Result (List Range) RowFault
after_record (Ok a) more = more a
after_record (Err why) more = Err why

-- the ranges with those of further records, of which there are no more than inputs are left: one behind them names none
abbrev pub ranges_from : List Column → RangesSoFar → ℕ → ℕ → List (List (List ℕ)) → Result (List Range) RowFault
ranges_from columns a left number [] = Ok a.ranges
ranges_from columns a zero number (cells ∷ records) = Err (fault.Cell number 1)
ranges_from columns a (suc left) number (cells ∷ records) =
    after_record (with_cells columns a number (cells_of cells)) (λ next. ranges_from columns next left (number + 1) records)

-- the ranges of records of which the first is the head
abbrev pub ranges_of_records : List Column → List (List (List ℕ)) → Result (List Range) RowFault
ranges_of_records columns [] = Err fault.Header
ranges_of_records columns (head ∷ records) =
    cond (is_head (cells_of head)) (ranges_from columns (at_first columns) (length columns) 2 records) (Err fault.Header)

-- The ranges that a table's bytes tell, one for each input, in their order, or why it is refused. Its records are those of RFC 4180 as `csv` gives
-- them, a byte order mark at the front skipped. An input that isn't named has all values of its type.
abbrev pub ranges_of_table : List Column → List ℕ → Result (List Range) RowFault
ranges_of_table columns text = ranges_of_records columns (records default_config (strip_bom text))
