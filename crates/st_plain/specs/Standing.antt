-- Standing: what holds of an evaluator's fields between two cycles.
use Rattle.std.specs.Prelude.{◌≡◌, ◌≤◌, ℕ, ℤ, List, [], Option, Some, None, IfSome, length}
use Rattle.vcp_base.specs.declared.kind.StopKind.TheVariants as why
use Rattle.vcp_base.specs.declared.turns.Turn.{Turn}
use Rattle.vcp_typed.specs.Meaning.{Stop}
use Rattle.vcp_typed.specs.SourceRun.{Program}
use Rattle.vcp_typed.specs.Fitting.{AreFit}
use Rattle.vcp_typed.specs.Size.{stmts_size}
use Rattle.st_plain.specs.declared.stop.Stop.{Stop as Cause}
use Rattle.st_plain.specs.Evaluator.{within_turns}

-- the stop that was met, with the turns round it
abbrev pub stop_in : Option Cause → List Turn → Option Stop
stop_in None turns = None
stop_in (Some s) turns = Some (within_turns turns s)

-- the turns are those of a stop: there are none without one
abbrev pub turns_fit : Option Cause → List Turn → Type 0
turns_fit None turns = turns ≡ []
turns_fit (Some s) turns = Unit {0}

-- While no stop is met no turn is open, there is room for as many turns as the Size, which no nest of FORs exceeds, and a place for the next value of each slot.
abbrev pub RoomFor : Option Cause → ℕ → List Turn → ℕ → List ℤ → List ℤ → Type 0
RoomFor None size rest capacity next values = (rest ≡ []) × (size ≤ capacity) × (length next ≡ length values)
RoomFor (Some s) size rest capacity next values = Unit {0}

-- between two cycles: the values fit, the stop has one of the two causes and the turns are its own, and there is room for the next cycle
pub record Standing (p : Program) (values next : List ℤ) (stop : Option Cause) (turns rest : List Turn) (capacity : ℕ) : Type 0 where
  pub fit : AreFit p.slots values
  pub told : turns_fit stop turns
  pub cause : IfSome stop (λ s. s.kind ≡ why.Operand → ⊥)
  pub room : RoomFor stop (stmts_size p.body) rest capacity next values
