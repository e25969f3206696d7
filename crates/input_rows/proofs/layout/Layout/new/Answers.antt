use Rattle.std.proofs.Common.{sym, arith}
use Rattle.csv.specs.Records.{fields_of}
use Rattle.input_rows.proofs.Orders.{order-each}
use Rattle.input_rows.proofs.layout.Layout.new.Goals as goal

pub invariant_of-result : goal.invariant_of-result
invariant_of-result c =
    let places = rw c.in-Some.is at c.in_ok-places.ensures in
    (order-each c.args.columns.now (fields_of c.args.header.now) c.in-Some.places.items (sym places), omega arith)
