-- SourceRun: the run of a program over rows of inputs.
use Rattle.std.specs.Prelude.{ℤ, Bool, true, false, cond, List, [], ◌∷◌, Option, Some, None, Result, Ok, Err, map}
use Rattle.st_tree.specs.declared.program.Section.{Section}
use Rattle.st_tree.specs.declared.program.Section.TheVariants as section
use Rattle.vcp_typed.specs.declared.slot.Slot.{Slot}
use Rattle.vcp_typed.specs.TStmtTree.{TStmtTrees}
use Rattle.vcp_typed.specs.Meaning.{Stop, do_stmts}

-- a checked program: its slots in order of declaration, and its body
pub record Program : Type 0 where
  pub slots : List Slot
  pub body : TStmtTrees

abbrev pub is_input : Section → Bool
is_input section.Input = true
is_input section.Output = false
is_input section.Local = false
is_input section.Retain = false
is_input section.Constant = false

abbrev pub is_output : Section → Bool
is_output section.Input = false
is_output section.Output = true
is_output section.Local = false
is_output section.Retain = false
is_output section.Constant = false

-- the values before the first cycle
abbrev pub initial : List Slot → List ℤ
initial slots = map (λ s. s.init) slots

-- the row's next value for an input; every other slot keeps its own
abbrev pub with_inputs : List Slot → List ℤ → List ℤ → List ℤ
with_inputs [] row m = []
with_inputs (s ∷ slots) row [] = []
with_inputs (s ∷ slots) [] (v ∷ m) = v ∷ m
with_inputs (s ∷ slots) (x ∷ row) (v ∷ m) = cond (is_input s.section) (x ∷ with_inputs slots row m) (v ∷ with_inputs slots (x ∷ row) m)

-- the values of the outputs, in order of declaration
abbrev pub outputs : List Slot → List ℤ → List ℤ
outputs [] m = []
outputs (s ∷ slots) [] = []
outputs (s ∷ slots) (v ∷ m) = cond (is_output s.section) (v ∷ outputs slots m) (outputs slots m)

-- a cycle: the inputs are set, and the body is done
abbrev pub cycle : Program → List ℤ → List ℤ → Result (List ℤ) Stop
cycle p m row = do_stmts [] p.body (with_inputs p.slots row m)

-- A run: the rows of outputs, and the stop that ended it, or none where the rows of inputs ended.
pub record Run : Type 0 where
  pub rows : List (List ℤ)
  pub end : Option Stop

-- the run after a cycle: its outputs and what comes with the values that it left, or its stop
abbrev pub after_cycle : List Slot → (List ℤ → Run) → Result (List ℤ) Stop → Run
after_cycle slots next (Ok m) = record { rows = outputs slots m ∷ (next m).rows; end = (next m).end }
after_cycle slots next (Err s) = record { rows = []; end = Some s }

-- the run over rows of inputs, from these values on
abbrev pub run_from : Program → List ℤ → List (List ℤ) → Run
run_from p m [] = record { rows = []; end = None }
run_from p m (row ∷ rows) = after_cycle p.slots (λ next. run_from p next rows) (cycle p m row)

-- the run of a program over rows of inputs
abbrev pub source_run : Program → List (List ℤ) → Run
source_run p rows = run_from p (initial p.slots) rows
