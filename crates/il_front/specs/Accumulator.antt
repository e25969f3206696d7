-- Accumulator: the run of an instruction list, after IEC 61131-3, Instruction List. Nothing here speaks of a typed program.
use Rattle.std.specs.Prelude.{ℤ, pos, ◌-ℤ◌, Bool, cond, List, [], ◌∷◌, slice_set, Option, Some, None, Result, Ok}
use Rattle.vcp_base.specs.declared.spot.Spot.{Spot}
use Rattle.vcp_base.specs.declared.ty.Ty.{Ty}
use Rattle.vcp_base.specs.declared.ty.Ty.TheVariants as ty
use Rattle.vcp_base.specs.Kinds.{same, truth}
use Rattle.vcp_base.specs.Values.{at}
use Rattle.st_tree.specs.declared.expr.BinOp.{BinOp}
use Rattle.vcp_typed.specs.declared.slot.Slot.{Slot}
use Rattle.vcp_typed.specs.Rules.{common, result}
use Rattle.vcp_typed.specs.Meaning.{Stop, and_then, operate}
use Rattle.vcp_typed.specs.SourceRun.{Run, initial, with_inputs, after_cycle}
pub use Rattle.il_front.specs.declared.instruction.Operand.{Operand}
use Rattle.il_front.specs.declared.instruction.Operand.TheVariants as operand
pub use Rattle.il_front.specs.declared.instruction.Action.{Action}
use Rattle.il_front.specs.declared.instruction.Action.TheVariants as action
pub use Rattle.il_front.specs.declared.instruction.Instruction.{Instruction}

-- an instruction list: its variables in order of declaration, and its instructions in order
pub record Il : Type 0 where
  pub slots : List Slot
  pub code : List Instruction

-- what there is between two instructions: the values of the variables, and the current result with its type
pub record Now : Type 0 where
  pub vars : List ℤ
  pub ty : Ty
  pub value : ℤ

abbrev pub operand_type : Operand → Ty
operand_type (operand.Variable slot t) = t
operand_type (operand.Number t v) = t

-- the value of an operand, where the variables have these values
abbrev pub worth : List ℤ → Operand → ℤ
worth vars (operand.Variable slot t) = at vars slot
worth vars (operand.Number t v) = v

-- a value as it is, or of TRUE and FALSE the other one
abbrev pub flipped : Bool → ℤ → ℤ
flipped negated v = cond negated (pos 1 -ℤ v) v

-- An operator with the result on the left and the value y on the right, both of the type to which they widen. Instructions
-- whose types fit have one.
abbrev pub combined : BinOp → Spot → ℤ → Option Ty → Now → Result Now Stop
combined op spot y None now = Ok now
combined op spot y (Some t) now =
    and_then (operate op t spot [] now.value y) (λ v. Ok (record { vars = now.vars; ty = result op t; value = v }))

-- what an instruction at this place does
abbrev pub acted : Spot → Action → Now → Result Now Stop
acted spot (action.Load negated o) now =
    Ok (record { vars = now.vars; ty = operand_type o; value = flipped negated (worth now.vars o) })
acted spot (action.Store negated slot t) now = Ok (record now { vars = slice_set now.vars slot (flipped negated now.value) })
acted spot (action.Put to slot t) now = Ok (record now { vars = cond (same now.value (pos 0)) now.vars (slice_set now.vars slot (truth to)) })
acted spot action.Complement now = Ok (record now { value = pos 1 -ℤ now.value })
acted spot (action.Combine op negated o) now =
    combined op spot (flipped negated (worth now.vars o)) (common op now.ty (operand_type o)) now

abbrev pub does : Instruction → Now → Result Now Stop
does i now = acted i.spot i.action now

-- one instruction after the other, up to the first that stops
abbrev pub does_all : List Instruction → Now → Result Now Stop
does_all [] now = Ok now
does_all (i ∷ is) now = and_then (does i now) (λ next. does_all is next)

-- where a cycle begins: what the result is then is never looked at, since the first instruction loads one
abbrev pub begun : List ℤ → Now
begun vars = record { vars = vars; ty = ty.Bool; value = pos 0 }

-- a cycle: the inputs are set, and the instructions done; it leaves the variables' values
abbrev pub acc_cycle : Il → List ℤ → List ℤ → Result (List ℤ) Stop
acc_cycle i vars row = and_then (does_all i.code (begun (with_inputs i.slots row vars))) (λ now. Ok now.vars)

-- the run over rows of inputs, from these values of the variables on
abbrev pub acc_from : Il → List ℤ → List (List ℤ) → Run
acc_from i vars [] = record { rows = []; end = None }
acc_from i vars (row ∷ rows) = after_cycle i.slots (λ next. acc_from i next rows) (acc_cycle i vars row)

-- the run of an instruction list over rows of inputs
abbrev pub acc_run : Il → List (List ℤ) → Run
acc_run i rows = acc_from i (initial i.slots) rows
