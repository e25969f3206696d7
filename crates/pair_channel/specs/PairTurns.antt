-- PairTurns: one cycle of a pair.
use Rattle.std.specs.Prelude.{◌≡◌, List, None, ℤ}
use Rattle.coded_unit.specs.Seen.{UnitSeen}
use Rattle.coded_machine.specs.declared.cycle_end.CycleEnd.{CycleEnd}
use Rattle.coded_machine.specs.CycleEnds.{Cause, end_of, outputs_of}
use Rattle.coded_machine.specs.Runs.{Turn}
use Rattle.coded_machine.specs.State.{given, after_end}
use Rattle.pair_channel.specs.declared.pair_end.PairEnd.{PairEnd}
use Rattle.pair_channel.specs.PairEnds.{both, PairCause}
use Rattle.pair_channel.specs.PairStates.{PairState, after_pair, pair_row_after}

-- A cycle of a pair with no end before, from one state to another: each channel's machine carried one cycle through its unit, and the
-- pair's end is read off the two ends and the two rows; the caller's row and the pair are as that end leaves them.
pub record PairTurn (old new : PairState) (row : List ℤ) (e : PairEnd) (out_before out_now : List ℤ)
    (first_before first_now second_before second_now : UnitSeen) : Type 0 where
  pub going : old.ended ≡ None
  pub first_end : CycleEnd
  pub second_end : CycleEnd
  pub first : Turn old.first new.first row first_end first_before.log first_now.log first_before.wrong first_now.wrong
  pub second : Turn old.second new.second row second_end second_before.log second_now.log second_before.wrong second_now.wrong
  pub first_cause : Cause old.first.graph old.first.table old.first.cycles new.first.answers first_end
  pub second_cause : Cause old.second.graph old.second.table old.second.cycles new.second.answers second_end
  pub end_is : e ≡ both first_end second_end (outputs_of old.first.graph new.first.answers) (outputs_of old.second.graph new.second.answers)
  pub cause : PairCause first_end second_end (outputs_of old.first.graph new.first.answers) (outputs_of old.second.graph new.second.answers) e
  pub out_is : out_now ≡ pair_row_after e (outputs_of old.first.graph new.first.answers) out_before
  pub pair_is : new ≡ after_pair old new.first new.second e

-- The end of a pair's cycle whose calls of the first channel a caller made: the first machine ended its cycle with the answers put in
-- it, the second carried its cycle through its unit, and the rest is as above.
pub record PairConcluded (old new : PairState) (row : List ℤ) (e : PairEnd) (out_before out_now : List ℤ) (second_before second_now : UnitSeen) : Type 0 where
  pub going : old.ended ≡ None
  pub first_going : old.first.ended ≡ None
  pub first_end : CycleEnd
  pub second_end : CycleEnd
  pub first_end_is : first_end ≡ end_of old.first.graph old.first.table old.first.cycles (given old.first)
  pub first_machine : new.first ≡ after_end old.first first_end
  pub first_answers : new.first.answers ≡ given old.first
  pub second : Turn old.second new.second row second_end second_before.log second_now.log second_before.wrong second_now.wrong
  pub first_cause : Cause old.first.graph old.first.table old.first.cycles new.first.answers first_end
  pub second_cause : Cause old.second.graph old.second.table old.second.cycles new.second.answers second_end
  pub end_is : e ≡ both first_end second_end (outputs_of old.first.graph new.first.answers) (outputs_of old.second.graph new.second.answers)
  pub cause : PairCause first_end second_end (outputs_of old.first.graph new.first.answers) (outputs_of old.second.graph new.second.answers) e
  pub out_is : out_now ≡ pair_row_after e (outputs_of old.first.graph new.first.answers) out_before
  pub pair_is : new ≡ after_pair old new.first new.second e
