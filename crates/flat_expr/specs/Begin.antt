-- Begin: the lists and the places of slots before the body, where the INPUTs are there.
use Rattle.std.specs.Prelude.{◌≡◌, ℕ, suc, ◌+◌, ◌≤◌, ℤ, cond, List, [], ◌∷◌, length, sum_by, Option, Some, None, Ok}
use Rattle.vcp_base.specs.declared.code.Profile.{Profile}
use Rattle.vcp_base.specs.declared.kind.Kind.TheVariants as kind
use Rattle.op_graph.specs.declared.op.Op.{Op}
use Rattle.op_graph.specs.declared.op.Var.{Var}
use Rattle.op_graph.specs.Lists.{Lists, nothing}
use Rattle.op_graph.specs.Building.{entry_op}
use Rattle.vcp_typed.specs.declared.slot.Slot.{Slot}
use Rattle.vcp_base.specs.Code.{is_wide}
use Rattle.vcp_base.specs.Types.{AreIn}
use Rattle.vcp_typed.specs.SourceRun.{Program, is_input, with_inputs}
use Rattle.vcp_typed.specs.Fitting.{input_types}
use Rattle.vcp_typed.specs.Size.{section_size}
use Rattle.vcp_typed.specs.Wide.{wide}
use Rattle.flat_expr.specs.Told.{names_of}
use Rattle.flat_expr.specs.State.{State, IsState, Knows, reserved, last_size, run}

-- the inputs among slots that are numbered from n
abbrev pub inputs_from : ℕ → List Slot → List Var
inputs_from n [] = []
inputs_from n (s ∷ slots) = cond (is_input s.section) (record { name = n; ty = s.ty } ∷ inputs_from (suc n) slots) (inputs_from (suc n) slots)

-- their INPUTs, which are numbered from j
abbrev pub input_ops : ℕ → List Slot → List Op
input_ops j [] = []
input_ops j (s ∷ slots) = cond (is_input s.section) (entry_op kind.Input s.ty 0 j s.spot ∷ input_ops (suc j) slots) (input_ops j slots)

-- the operation of each slot: that of an input, and else none
abbrev pub held_from : ℕ → List Slot → List (Option ℕ)
held_from j [] = []
held_from j (s ∷ slots) = cond (is_input s.section) (Some j ∷ held_from (suc j) slots) (None ∷ held_from j slots)

-- the lists in the code, with the names and the inputs of these slots
abbrev pub entered : Profile → List (List ℕ) → List Slot → Lists
entered p names slots = record (nothing p) { names = names; inputs = inputs_from 0 slots; operations = input_ops 0 slots }

-- the state before the body
abbrev pub begun : Profile → List Slot → State
begun p slots = record { slots = slots; graph = entered p (names_of slots) slots; known = held_from 0 slots; path = None; turn = 0; nought = None; unit = None }

-- the state before the body, in the program's code: the inputs are known
pub record Begins (s : State) (p : Program) : Type 0 where
  pub state : IsState s
  pub code : is_wide s.graph.profile ≡ wide p
  pub is : s ≡ begun s.graph.profile p.slots
  pub slots : s.slots ≡ p.slots
  pub path : s.path ≡ None
  pub turn : s.turn ≡ 0
  pub nodes : s.graph.turn_nodes ≡ []
  pub loads : s.graph.loads ≡ []
  pub count : reserved s + last_size p.slots ≤ 2 + sum_by (λ x. section_size x.section) p.slots
  pub gives : (cells row m : List ℤ) → AreIn (input_types p.slots) row → length m ≡ length p.slots →
      (ws : List ℤ) × (run s.graph cells row ≡ Ok ws) × Knows s (with_inputs p.slots row m) (with_inputs p.slots row m) ws
