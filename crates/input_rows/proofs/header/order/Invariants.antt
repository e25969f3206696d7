use Rattle.std.proofs.Common.{◌≡◌, drop, length, replicate, true}
use Rattle.csv.specs.Records.{fields_of}
use Rattle.input_rows.specs.Header.{places_of}
use Rattle.input_rows.proofs.Headers.{before_places}
use Rattle.input_rows.proofs.header.order.Given as goal

abbrev pub invariant-fields : goal.invariant-fields
invariant-fields l =
    (length l.free.items ≡ length l.columns)
    × (places_of l.columns (replicate (length l.columns) true) (fields_of l.header) ≡ before_places l.places.items
    (places_of l.columns l.free.items (drop l.j (fields_of l.header))))
