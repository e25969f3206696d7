use Rattle.input_rows.proofs.Orders.{order-each}
use Rattle.input_rows.proofs.laws.order_has_each_place.Goals as goal

pub returns : goal.returns
returns c = order-each
