use Rattle.std.proofs.Common.{◌≡◌, drop}
use Rattle.input_rows.specs.Header.{place_of}
use Rattle.input_rows.proofs.Headers.{from_place}
use Rattle.input_rows.proofs.header.free_place.Given as goal

abbrev pub invariant-columns : goal.invariant-columns
invariant-columns l = place_of l.columns l.free l.name ≡ from_place l.i (place_of (drop l.i l.columns) (drop l.i l.free) l.name)
