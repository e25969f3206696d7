use Rattle.coded_machine.proofs.ByHand.{begins, goes_on, ends, outputs_are, one_more_carried, turn}
use Rattle.coded_machine.proofs.Growth.{nothing_carried}
use Rattle.coded_machine.proofs.laws.cycles_by_hand_are_whole.Goals as goal

pub returns : goal.returns
returns c = record {
  begins = begins;
  goes_on = goes_on;
  ends = ends;
  outputs = outputs_are;
  nothing_carried = nothing_carried;
  one_carried =
      one_more_carried;
  turn = turn;
}
