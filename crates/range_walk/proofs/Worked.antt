-- Worked tables of ranges.
use Rattle.std.specs.Prelude.{◌≡◌, refl, false, List, [], ◌∷◌, ℕ, Result, Ok, Err, pos, negsuc, codes}
use Rattle.vcp_base.specs.declared.ty.Ty.TheVariants as ty
use Rattle.vcp_base.specs.declared.columns.Column.{Column}
use Rattle.input_rows.specs.declared.fault.RowFault.{RowFault}
use Rattle.input_rows.specs.declared.fault.RowFault.TheVariants as fault
use Rattle.range_walk.specs.declared.range.Range.{Range}
use Rattle.range_walk.specs.RangeTable.{ranges_of_records}

-- an INT and a BOOL
abbrev inputs : List Column
inputs = record { name = codes "speed"; ty = ty.Int } ∷ record { name = codes "go"; ty = ty.Bool } ∷ []

abbrev head : List (List ℕ)
head = codes "input" ∷ codes " Least" ∷ codes "greatest " ∷ []

abbrev told : List (List (List ℕ)) → Result (List Range) RowFault
told records = ranges_of_records inputs (head ∷ records)

abbrev line : List ℕ → List ℕ → List ℕ → List (List ℕ)
line name least greatest = name ∷ least ∷ greatest ∷ []

-- an input that isn't named has all values of its type
nothing_told : told [] ≡ Ok (record { low = negsuc 32767; high = pos 32767; nonzero = false } ∷ record { low = pos 0; high = pos 1; nonzero = false } ∷ [])
nothing_told = refl

one_told : told (line (codes " Speed ") (codes "+0") (codes "200") ∷ [])
    ≡ Ok (record { low = pos 0; high = pos 200; nonzero = false } ∷ record { low = pos 0; high = pos 1; nonzero = false } ∷ [])
one_told = refl

both_told : told (line (codes "go") (codes "1") (codes "1") ∷ line (codes "speed") (codes "-5") (codes "-5") ∷ [])
    ≡ Ok (record { low = negsuc 4; high = negsuc 4; nonzero = false } ∷ record { low = pos 1; high = pos 1; nonzero = false } ∷ [])
both_told = refl

-- a name of none, one that was named, an end that is none, one outside the type, ends the wrong way round
unknown : told (line (codes "way") (codes "0") (codes "1") ∷ []) ≡ Err (fault.Cell 2 1)
unknown = refl

twice : told (line (codes "go") (codes "0") (codes "1") ∷ line (codes "GO") (codes "0") (codes "1") ∷ []) ≡ Err (fault.Cell 3 1)
twice = refl

no_number : told (line (codes "speed") (codes "low") (codes "1") ∷ []) ≡ Err (fault.Cell 2 2)
no_number = refl

beyond : told (line (codes "speed") (codes "0") (codes "32768") ∷ []) ≡ Err (fault.Cell 2 3)
beyond = refl

wrong_way : told (line (codes "speed") (codes "5") (codes "4") ∷ []) ≡ Err (fault.Cell 2 3)
wrong_way = refl

-- other than three fields; no head
narrow : told ((codes "speed" ∷ codes "5" ∷ []) ∷ []) ≡ Err (fault.Width 2)
narrow = refl

no_head : ranges_of_records inputs (line (codes "speed") (codes "0") (codes "1") ∷ []) ≡ Err fault.Header
no_head = refl

empty : ranges_of_records inputs [] ≡ Err fault.Header
empty = refl
