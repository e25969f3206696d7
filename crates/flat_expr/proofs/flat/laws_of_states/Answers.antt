use Rattle.flat_expr.proofs.Runs.{run-length, typed}
use Rattle.flat_expr.proofs.Closing.{whole_room}
use Rattle.flat_expr.proofs.Codes.{value_admitted}
use Rattle.flat_expr.proofs.Ops.{isa_below}
use Rattle.flat_expr.proofs.Steps.{follows-trans, knows-kept}
use Rattle.flat_expr.proofs.flat.laws_of_states.Goals as goal

pub returns : goal.returns
returns c = record {
  long = run-length;
  typed = λ s cells row start vs t k i r loaded h. typed s.graph cells row start vs i.part loaded r t k h;
  knows = knows-kept;
  follows = follows-trans;
  room = λ s i. whole_room s i;
  value = value_admitted;
  below = isa_below;
}
