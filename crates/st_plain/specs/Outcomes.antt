-- Outcomes: what the evaluator's functions answer, as results of the meaning.
use Rattle.std.specs.Prelude.{ℤ, List, [], Result, Ok, Err}
use Rattle.vcp_base.specs.declared.turns.Turn.{Turn}
use Rattle.vcp_typed.specs.Meaning.{Stop}
use Rattle.st_plain.specs.declared.stop.Stop.{Stop as Cause}
use Rattle.st_plain.specs.Evaluator.{within_turns}

-- what statements make of the values of the slots
abbrev pub Doing : Type 0
Doing = List ℤ → Result (List ℤ) Stop

-- a value, or a stop outside every FOR
abbrev pub outside : {A : Type 0} → Result A Cause → Result A Stop
outside (Ok v) = Ok v
outside (Err s) = Err (within_turns [] s)

-- the values that statements leave, or a stop inside the turns that they leave
abbrev pub left : {A : Type 0} → List ℤ → List Turn → Result A Cause → Result (List ℤ) Stop
left m turns (Ok _) = Ok m
left m turns (Err s) = Err (within_turns turns s)
