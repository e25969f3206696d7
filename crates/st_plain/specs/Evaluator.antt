-- Evaluator: a program with the values of its slots, and the stop that ended its run.
use Rattle.std.specs.Prelude.{ℤ, List, [], ◌∷◌, Option, Some, None, Result, Err}
use Rattle.vcp_base.specs.declared.turns.Turn.{Turn}
use Rattle.vcp_typed.specs.Meaning.{Stop}
use Rattle.vcp_typed.specs.SourceRun.{Program, Run, initial, after_cycle, cycle}
use Rattle.st_plain.specs.declared.stop.Stop.{Stop as Cause}

-- A program between two cycles: the values that its slots have, and the stop that was met, if one was.
pub record Evaluator : Type 0 where
  pub program : Program
  pub values : List ℤ
  pub stop : Option Stop

-- before the first cycle
abbrev pub started : Program → Evaluator
started p = record { program = p; values = initial p.slots; stop = None }

-- a stop that was met comes again, whatever the inputs
abbrev pub or_again : Option Stop → Result (List ℤ) Stop → Result (List ℤ) Stop
or_again None r = r
or_again (Some s) r = Err s

-- the outcome of the next cycle on a row of inputs: the values that it leaves, or a stop
abbrev pub comes_to : Evaluator → List ℤ → Result (List ℤ) Stop
comes_to e row = or_again e.stop (cycle e.program e.values row)

-- the turns of a stop, outermost first; none where there is no stop
abbrev pub turns_of : Option Stop → List Turn
turns_of None = []
turns_of (Some s) = s.turns

-- a stop with this cause and place, inside these turns
abbrev pub within_turns : List Turn → Cause → Stop
within_turns turns s = record { kind = s.kind; spot = s.spot; turns = turns }

-- an evaluator after a cycle that left these values
abbrev pub went_on : Evaluator → List ℤ → Evaluator
went_on e m = record { program = e.program; values = m; stop = None }

-- the run over rows of inputs: the outputs of each cycle up to the first that stops, and its stop, or none
abbrev pub answers : Evaluator → List (List ℤ) → Run
answers e [] = record { rows = []; end = None }
answers e (row ∷ rows) = after_cycle e.program.slots (λ m. answers (went_on e m) rows) (comes_to e row)
